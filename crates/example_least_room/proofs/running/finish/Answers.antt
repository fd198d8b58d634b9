-- What the law says of the run that ended.
use Rattle.std.proofs.Common.{◌∙◌, ap, arith, length}
use Rattle.kpn_model.specs.History.{growths}
use Rattle.example_least_room.proofs.LongerParksCase.{counted, never_three, few_growths, few_entries, no_ceiling, no_budget}
use Rattle.example_least_room.proofs.running.finish.Goals as goal

pub returns-clause-growths : goal.returns-clause-growths
returns-clause-growths g c = c.count_growths.ensures ∙ counted c.history.result.now ∙ ap (λ E. length (growths E)) c.history.ensures

pub returns-clause-few_growths : goal.returns-clause-few_growths
returns-clause-few_growths g c =
    let e = c.finish_alone.ensures in
    let few = few_growths _ _ c.finish_alone.new.self c.requires.standard (e.goes.network ∙ c.requires.network) c.worked_room.ensures.parks_case e.faithful e.room in
    let is = c.count_growths.ensures ∙ counted c.history.result.now ∙ ap (λ E. length (growths E)) c.history.ensures in
    omega arith

pub returns-clause-never_three : goal.returns-clause-never_three
returns-clause-never_three g c =
    let e = c.finish_alone.ensures in
    never_three _ _ c.finish_alone.new.self c.requires.standard (e.goes.network ∙ c.requires.network) c.worked_room.ensures.parks_case e.faithful e.room

pub returns-clause-few_entries : goal.returns-clause-few_entries
returns-clause-few_entries g c =
    let e = c.finish_alone.ensures in
    few_entries _ _ c.finish_alone.new.self c.requires.standard (e.goes.network ∙ c.requires.network) c.worked_room.ensures.parks_case e.faithful e.room

pub returns-clause-no_ceiling : goal.returns-clause-no_ceiling
returns-clause-no_ceiling g c =
    let e = c.finish_alone.ensures in
    no_ceiling _ _ c.finish_alone.new.self c.requires.standard (e.goes.network ∙ c.requires.network) c.worked_room.ensures.parks_case e.faithful e.room

pub returns-clause-no_budget : goal.returns-clause-no_budget
returns-clause-no_budget g c =
    let e = c.finish_alone.ensures in
    no_budget _ _ c.finish_alone.new.self c.requires.standard (e.goes.network ∙ c.requires.network) c.worked_room.ensures.parks_case e.faithful e.room
