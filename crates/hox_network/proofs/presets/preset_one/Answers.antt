-- A file that says more tokens than may be has too many.
use Rattle.std.proofs.Common.{◌≡◌, ◌<◌, Some, length, rules}
use Rattle.kpn_model.specs.Network.{channel_of, number_of_channel}
use Rattle.kpn_network.specs.Parts.{network_of}
use Rattle.kpn_tokens.specs.Records.{Say}
use Rattle.hox_network.specs.declared.presets.FileFault.TheVariants.{TooMany}
use Rattle.hox_network.specs.Presets.{IsBytesFault, most_in}
use Rattle.hox_network.proofs.FilesSaid.{of_bytes}
use Rattle.hox_network.proofs.Said.{begins}
use Rattle.hox_network.proofs.presets.preset_one.Goals as goal

pub returns-then-len-most-clause-fault : goal.returns-then-len-most-clause-fault
returns-then-len-most-clause-fault c =
    let net = network_of c.args.parts.now in
    let file = c.args.file.now in
    let ch = c.in-Some.channel in
    let tokens = c.in-Ok.tokens.items in
    let named : number_of_channel net file.channel ≡ Some ch = search rules in
    let says : Say file.layout (channel_of net ch).sort file.bytes tokens = rw (c.sort_of-sort.ensures, c.as_slice.ensures) at c.in-Ok.ensures.says in
    let most : c.min-most.result ≡ most_in net = c.min-most.ensures in
    let more : c.min-most.result < length tokens = search rules in
    let fault : IsBytesFault file.layout (channel_of net ch).sort file.bytes (most_in net) (TooMany c.min-most.result) = (most, (tokens, begins says, rw most at more)) in
    of_bytes net file ch (TooMany c.min-most.result) named fault
