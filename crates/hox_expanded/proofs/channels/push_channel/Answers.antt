use Rattle.std.proofs.Common.{codes, string_bytes}
use Rattle.hox_expanded.specs.Description.{name_part, ends_part, state_part}
use Rattle.kpn_picture.proofs.Parts.{pushed_four}
use Rattle.hox_expanded.proofs.channels.push_channel.Goals as goal

pub returns : goal.returns
returns g c =
    let net = c.args.net.now in
    let channel = c.args.channel.now in
    let pushed = pushed_four (string_bytes c.args.out.now) (string_bytes c.push_name.new.out) (string_bytes c.push_ends.new.out) (string_bytes c.push_state.new.out) (string_bytes c.push_str.new.self)
    (name_part c.as_str.result.now) (ends_part net channel) (state_part channel) (codes " },\n")
    c.in_ok-push_name.ensures c.in_ok-push_ends.ensures c.in_ok-push_state.ensures c.in_ok-push_str.ensures.bytes in
    rw c.as_str.ensures at pushed
