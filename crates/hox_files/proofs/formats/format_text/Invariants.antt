use Rattle.std.proofs.Common.{◌≡◌, drop}
use Rattle.hox_files.specs.Formats.{format_text}
use Rattle.hox_files.proofs.Firsts.{texts_of}
use Rattle.hox_files.proofs.formats.format_text.Given as goal

abbrev pub invariant-loop-text : goal.invariant-loop-text
invariant-loop-text l = format_text l.channel (texts_of l.texts) ≡ format_text l.channel (texts_of (drop l.text-index l.texts))
