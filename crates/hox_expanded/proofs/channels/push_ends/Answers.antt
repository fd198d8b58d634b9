use Rattle.std.proofs.Common.{codes, string_bytes}
use Rattle.hox_expanded.specs.Description.{end_part}
use Rattle.kpn_picture.proofs.Parts.{pushed_two}
use Rattle.hox_expanded.proofs.channels.push_ends.Goals as goal

pub returns : goal.returns
returns g c =
    let channel = c.args.channel.now in
    let pushed = pushed_two (string_bytes c.args.out.now) (string_bytes c.push_end.new.out) (string_bytes c.push_end-2.new.out)
    (end_part (codes "\", from = \"") c.process_name-writer.result.now (codes "out") channel.out) (end_part (codes ", to = \"") c.process_name-reader.result.now (codes "in") channel.input)
    c.in_ok-push_end.ensures c.in_ok-push_end-2.ensures in
    rw (c.process_name-writer.ensures, c.process_name-reader.ensures) at pushed
