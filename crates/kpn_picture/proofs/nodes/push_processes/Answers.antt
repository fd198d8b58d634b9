-- One more process is drawn.
use Rattle.std.proofs.Common.{◌≡◌, ◌++◌, [], string_bytes, rules}
use Rattle.std.specs.Option.{option_map_or}
use Rattle.kpn_picture.specs.Picture.{box_opening, box_title, place_label, closing, node_line}
use Rattle.kpn_picture.proofs.Parts.{pushed_four, pushed_line}
use Rattle.kpn_picture.proofs.nodes.push_processes.Goals as goal

pub loop-p-preserved-then-is_point : goal.loop-p-preserved-then-is_point
loop-p-preserved-then-is_point g c =
    let line : string_bytes c.push_point.new.out ≡ string_bytes c.loop-p.out ++ node_line c.args.net.now g.K.Titled.title c.args.titles.now c.args.places.now c.loop-p.p = search rules in
    pushed_line (node_line c.args.net.now g.K.Titled.title c.args.titles.now c.args.places.now) c.loop-p.p (string_bytes c.args.out.now) (string_bytes c.loop-p.out) (string_bytes c.push_point.new.out) c.loop-p.invariant
    line

pub loop-p-preserved : goal.loop-p-preserved
loop-p-preserved g c =
    let pushed = pushed_four (string_bytes c.loop-p.out) (string_bytes c.push_opening.new.out) (string_bytes c.push_box_title.new.out) (string_bytes c.push_place.new.out) (string_bytes c.push_closing.new.out)
    (box_opening c.process_name-name.result.now) (box_title g.K.Titled.title c.card.result c.title_at.result.now) (option_map_or (place_label c.args.net.now) c.place_at-place.result []) (closing c.process_look-look.result.now)
    c.in_ok-push_opening.ensures c.in_ok-push_box_title.ensures c.in_ok-push_place.ensures c.in_ok-push_closing.ensures in
    let boxed = rw (c.process_name-name.ensures, c.card.ensures.is, c.title_at.ensures, c.process_look-look.ensures, c.is_on_cycle.ensures, c.place_at-place.ensures) at pushed in
    let line : string_bytes c.push_closing.new.out ≡ string_bytes c.loop-p.out ++ node_line c.args.net.now g.K.Titled.title c.args.titles.now c.args.places.now c.loop-p.p = search rules in
    pushed_line (node_line c.args.net.now g.K.Titled.title c.args.titles.now c.args.places.now) c.loop-p.p (string_bytes c.args.out.now) (string_bytes c.loop-p.out) (string_bytes c.push_closing.new.out) c.loop-p.invariant
    line
