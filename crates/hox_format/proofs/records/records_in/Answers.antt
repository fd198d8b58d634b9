use Rattle.hox_format.proofs.Starts.{starts_within}
use Rattle.hox_format.proofs.records.records_in.Goals as goal

pub returns-in-Wav-clause-within : goal.returns-in-Wav-clause-within
returns-in-Wav-clause-within c = starts_within c.in-Wav.wav c.args.place c.args.count c.args.first.now.bytes.now c.args.first.now.is_last c.wav_records.result c.wav_records.ensures
