use Rattle.hox_draw.specs.Titles.{AreTitles}
use Rattle.hox_draw.proofs.titles.titles_of.Given as goal

abbrev pub invariant-loop-process : goal.invariant-loop-process
invariant-loop-process g l = AreTitles g.K.Kinds.named l.net l.titles.items
