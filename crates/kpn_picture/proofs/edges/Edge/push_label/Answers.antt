use Rattle.std.proofs.Common.{string_bytes, rules}
use Rattle.kpn_picture.specs.Picture.{capacity_part, held_part}
use Rattle.kpn_picture.proofs.Parts.{pushed_four}
use Rattle.kpn_picture.proofs.edges.Edge.push_label.Goals as goal

pub returns : goal.returns
returns g c =
    let pushed = pushed_four (string_bytes c.args.out.now) (string_bytes c.push_str.new.self) (string_bytes c.push_str-2.new.self) (string_bytes c.push_capacity.new.out) (string_bytes c.push_held.new.out)
    c.channel_name.result.now c.sort_part.result.now (capacity_part c.capacity-capacity.result c.last_capacity.result) (held_part c.held_tokens.result)
    c.in_ok-push_str.ensures.bytes c.in_ok-push_str-2.ensures.bytes c.in_ok-push_capacity.ensures c.in_ok-push_held.ensures in
    let labelled = rw (c.channel_name.ensures, c.sort_part.ensures, c.sort.ensures, c.last_capacity.ensures, c.capacity-capacity.ensures, c.held_tokens.ensures, c.tokens.ensures) at pushed in
    search rules
