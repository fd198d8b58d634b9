use Rattle.std.proofs.Common.{Err, rules}
use Rattle.kpn_tokens.specs.Heads.{IsWavHead}
use Rattle.hox_format.specs.Records.{IsChannelResult}
use Rattle.hox_format.proofs.Widths.{refused_channel}
use Rattle.hox_format.proofs.records.wav_records.Goals as goal

pub returns-in-Err-channel_records : goal.returns-in-Err-channel_records
returns-in-Err-channel_records c =
    let head = c.in-Ok-Some.head in
    let fault = c.in-Err-channel_records.fault in
    let told : IsWavHead c.args.bytes.now head = search rules in
    let why : IsChannelResult c.args.wav.now c.args.place c.args.count head (Err fault) = search rules in
    refused_channel c.args.bytes.now (λ i. (c.type_inv.bytes i).fits) c.args.wav.now c.args.place c.args.count c.args.is_last head fault told why
