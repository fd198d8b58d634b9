-- The word that comes off is the next name.
use Rattle.core.specs.Str.Iter.{split_whitespace_rest}
use Rattle.hox_handle.specs.Names.{TakesWord}
use Rattle.hox_handle.proofs.Named.{takes_more}
use Rattle.hox_handle.proofs.names.words_of.Goals as goal

pub loop-word-preserved : goal.loop-word-preserved
loop-word-preserved c =
    let step = c.in-Some.ensures.steps in
    let one : TakesWord (split_whitespace_rest c.loop-word.words) c.in-Some.word.now (split_whitespace_rest c.next.new.self) = record { gap = step.0; text_is = step.1; some = step.2; white = step.3; black = step.4; more = step.5.0; ends = step.5.1 } in
    rw (c.in_ok-push.ensures.items, c.new.ensures, c.in_ok-from_str.ensures.ok)
    (takes_more c.args.text.now c.loop-word.names.items (split_whitespace_rest c.loop-word.words) c.in-Some.word.now (split_whitespace_rest c.next.new.self) c.loop-word.invariant one)
