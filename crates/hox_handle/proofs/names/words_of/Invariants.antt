use Rattle.std.proofs.Common.{length}
use Rattle.core.specs.Str.Iter.{split_whitespace_rest}
use Rattle.hox_handle.specs.Names.{TakesWords}
use Rattle.hox_handle.proofs.names.words_of.Given as goal

abbrev pub invariant-loop-word : goal.invariant-loop-word
invariant-loop-word l = TakesWords l.text l.names.items (split_whitespace_rest l.words)

abbrev pub decreases-loop-word : goal.decreases-loop-word
decreases-loop-word l = length (split_whitespace_rest l.words)
