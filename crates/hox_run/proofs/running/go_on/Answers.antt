-- Some answer is taken, and there are no more of them than entries and processes.
use Rattle.std.proofs.Common.{arith}
use Rattle.hox_run.proofs.Progressing.{some_answer}
use Rattle.hox_run.proofs.running.go_on.Goals as goal

pub returns-clause-more : goal.returns-clause-more
returns-clause-more g c =
    some_answer c.args.machine.now c.ask_in_place.new.self c.ask_in_place.result c.requires.on
    (c.assure_faithful.ensures.faithful.some_busy c.requires.on) c.requires.none_out c.ask_in_place.ensures.none c.ask_in_place.ensures.fewer c.ask_in_place.ensures.commits

pub returns-clause-few : goal.returns-clause-few
returns-clause-few g c = let f = c.ask_in_place.ensures.faithful in omega (arith, f.few_commits, f.few_entries)

pub returns-clause-none_out : goal.returns-clause-none_out
returns-clause-none_out g c = λ p out. c.requires.none_out p ((c.ask_in_place.ensures.out p).0 out)
