-- One more process is described.
use Rattle.std.proofs.Common.{codes, string_bytes}
use Rattle.kpn_picture.specs.Titles.{name_of}
use Rattle.hox_expanded.specs.Description.{name_part, kind_part, arguments_part, process_line}
use Rattle.kpn_picture.proofs.Parts.{pushed_four, pushed_line}
use Rattle.hox_expanded.proofs.processes.push_processes.Goals as goal

pub loop-p-preserved : goal.loop-p-preserved
loop-p-preserved g c =
    let pushed = pushed_four (string_bytes c.loop-p.out) (string_bytes c.push_name.new.out) (string_bytes c.push_kind.new.out) (string_bytes c.push_arguments.new.out) (string_bytes c.push_str.new.self)
    (name_part c.process_name-name.result.now) (kind_part (name_of c.title-title.result.word.now c.title-title.result.number)) (arguments_part c.title-title.result.arguments c.card-card.result) (codes " },\n")
    c.in_ok-push_name.ensures c.in_ok-push_kind.ensures c.in_ok-push_arguments.ensures c.in_ok-push_str.ensures.bytes in
    pushed_line (process_line c.args.net.now g.K.Titled.title) c.loop-p.p (string_bytes c.args.out.now) (string_bytes c.loop-p.out) (string_bytes c.push_str.new.self) c.loop-p.invariant
    (rw (c.process_name-name.ensures, c.title-title.ensures.name, c.title-title.ensures.arity, c.card-card.ensures.is) at pushed)
