-- One more process has a title.
use Rattle.std.proofs.Common.{rules, ◌≡◌, ◌++◌, ◌∷◌, [], length, arith}
use Rattle.hox_draw.specs.Titles.{IsTitleOf}
use Rattle.hox_draw.proofs.Titled.{each_more}
use Rattle.hox_draw.proofs.titles.titles_of.Goals as goal

pub loop-process-preserved : goal.loop-process-preserved
loop-process-preserved g c =
    let titles = c.loop-process.titles in
    let pushed : c.push.new.self.items ≡ titles.items ++ c.in_ok-title.title ∷ [] = search rules in
    let place : length titles.items ≡ c.len.result = omega (arith, titles.ok.0, c.len.ensures) in
    each_more (IsTitleOf g.K.Kinds.named c.args.net.now) [] titles.items c.push.new.self.items c.in_ok-title.title c.len.result place c.loop-process.invariant c.in_ok-title.ensures pushed
