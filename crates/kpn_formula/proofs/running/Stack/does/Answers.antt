use Rattle.std.proofs.Common.{◌∙◌, ◌-◌, set, ap, subst, sym, refl, arith}
use Rattle.kpn_formula.specs.declared.instruction.Instruction.{Instruction}
use Rattle.kpn_formula.specs.Operations.{applied}
use Rattle.kpn_formula.specs.Programs.{chosen, executed}
use Rattle.kpn_formula.specs.Reading.{IsReadable}
use Rattle.kpn_formula.specs.Running.{IsSame, working}
use Rattle.kpn_formula.proofs.Stacks.{chosen_same, applied_same, stored_same, pushed_same, loaded}
use Rattle.kpn_formula.proofs.running.Stack.does.Goals as goal

pub returns-in-Choose-clause-is : goal.returns-in-Choose-clause-is
returns-in-Choose-clause-is g c =
    let word = c.chosen-self.ensures ∙ ap (λ x. chosen c.pop-condition.result c.pop-first.result x) (c.pop-condition.ensures.last ∙ c.pop-first.ensures.last) in
    subst (λ (i : Instruction). IsSame (executed i (working c.args.words.now c.args.self.now.top c.args.values.now c.args.self.now.last)) (working c.args.words.now c.pop-condition.new.self.top c.args.values.now c.chosen-self.result)) (sym c.in-Choose.is)
    (chosen_same (g.row.N - 1) c.args.words.now c.args.values.now c.args.self.now.top c.args.self.now.last c.pop-first.result c.pop-first.new.self.top c.requires.stack.zeros c.pop-first.ensures.is c.pop-first.ensures.top c.pop-condition.result c.pop-condition.new.self.top c.chosen-self.result c.pop-condition.ensures.is c.pop-condition.ensures.top word)

pub returns-in-Apply-clause-is : goal.returns-in-Apply-clause-is
returns-in-Apply-clause-is g c =
    let word = c.applied-self.ensures ∙ ap (λ x. applied c.in-Apply.op c.pop-first-in-Apply.result x) c.pop-first-in-Apply.ensures.last in
    subst (λ (i : Instruction). IsSame (executed i (working c.args.words.now c.args.self.now.top c.args.values.now c.args.self.now.last)) (working c.args.words.now c.pop-first-in-Apply.new.self.top c.args.values.now c.applied-self.result)) (sym c.in-Apply.is)
    (applied_same (g.row.N - 1) c.args.words.now c.args.values.now c.args.self.now.top c.args.self.now.last c.pop-first-in-Apply.result c.pop-first-in-Apply.new.self.top c.requires.stack.zeros c.pop-first-in-Apply.ensures.is c.pop-first-in-Apply.ensures.top c.in-Apply.op c.applied-self.result word)

pub returns-in-Store-clause-is : goal.returns-in-Store-clause-is
returns-in-Store-clause-is g c =
    subst (λ (i : Instruction). IsSame (executed i (working c.args.words.now c.args.self.now.top c.args.values.now c.args.self.now.last)) (working c.args.words.now c.pop-self.new.self.top (set c.args.values.now c.from-in-Store.result c.args.self.now.last) c.pop-self.result)) (sym c.in-Store.is)
    (stored_same (g.row.N - 1) c.args.words.now c.args.values.now c.args.self.now.top c.args.self.now.last c.pop-self.result c.pop-self.new.self.top c.requires.stack.zeros c.pop-self.ensures.is c.pop-self.ensures.top c.from-in-Store.result c.in-Store.place (set c.args.values.now c.from-in-Store.result c.args.self.now.last) c.from-in-Store.ensures refl)

pub returns-in-Load-clause-is : goal.returns-in-Load-clause-is
returns-in-Load-clause-is g c =
    let word = loaded c.args.values.now c.from.result c.in-Load.place c.push-in-Load.new.self.last c.from.ensures (subst IsReadable c.in-Load.is c.requires.readable) c.push-in-Load.ensures.last in
    subst (λ (i : Instruction). IsSame (executed i (working c.args.words.now c.args.self.now.top c.args.values.now c.args.self.now.last)) (working c.push-in-Load.new.words c.push-in-Load.new.self.top c.args.values.now c.push-in-Load.new.self.last)) (sym c.in-Load.is)
    (pushed_same c.args.words.now c.args.values.now c.push-in-Load.new.words c.args.self.now.top c.args.self.now.last c.push-in-Load.new.self.top _ c.push-in-Load.new.self.last (omega arith) c.requires.stack.room c.push-in-Load.ensures.top c.push-in-Load.ensures.words word)

pub returns-in-Push-clause-is : goal.returns-in-Push-clause-is
returns-in-Push-clause-is g c =
    subst (λ (i : Instruction). IsSame (executed i (working c.args.words.now c.args.self.now.top c.args.values.now c.args.self.now.last)) (working c.push.new.words c.push.new.self.top c.args.values.now c.push.new.self.last)) (sym c.in-Push.is)
    (pushed_same c.args.words.now c.args.values.now c.push.new.words c.args.self.now.top c.args.self.now.last c.push.new.self.top c.in-Push.word c.push.new.self.last (omega arith) c.requires.stack.room c.push.ensures.top c.push.ensures.words c.push.ensures.last)
