-- The line of one channel more.
use Rattle.std.proofs.Common.{◌≡◌, get_or, string_bytes, rules}
use Rattle.hox_expanded.specs.Description.{channel_line}
use Rattle.hox_expanded.proofs.Parts.{flat_more}
use Rattle.hox_expanded.proofs.channels.push_channels.Goals as goal

pub loop-channel-preserved : goal.loop-channel-preserved
loop-channel-preserved g c =
    let channels = c.channel_list-channels.result.now in
    let item = c.channel-item.result in
    let at : get_or channels c.loop-channel.channel-index item ≡ item = search rules in
    flat_more (channel_line c.args.net.now) channels c.loop-channel.channel-index item (string_bytes c.args.out.now) (string_bytes c.loop-channel.out) (string_bytes c.push_channel.new.out)
    c.loop-channel-test.true c.loop-channel.invariant (rw at c.in_ok-push_channel.ensures)
