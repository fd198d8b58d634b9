use Rattle.std.proofs.Common.{◌≡◌, ◌/◌, subst, sym, arith}
use Rattle.kpn_formula.specs.declared.instruction.Instruction.{Instruction}
use Rattle.kpn_formula.specs.Cards.{instruction}
use Rattle.kpn_formula.specs.Programs.{executed}
use Rattle.kpn_formula.specs.Reading.{first_three}
use Rattle.kpn_formula.specs.Running.{IsSame, working}
use Rattle.kpn_formula.proofs.running.Stack.perform.Goals as goal

pub returns-in_default-clause-is : goal.returns-in_default-clause-is
returns-in_default-clause-is g c =
    let last : c.args.code ≡ 31 = omega arith in
    let after = working c.does-in_default.new.words c.does-in_default.new.self.top c.does-in_default.new.values c.does-in_default.new.self.last in
    let before = working c.args.words.now c.args.self.now.top c.args.values.now c.args.self.now.last in
    subst (λ n. IsSame (executed (instruction n (first_three (c.args.cursor.now / 32))) before) after) (sym last)
    (subst (λ (i : Instruction). IsSame (executed i before) after) c.alone-in_default.ensures.is c.does-in_default.ensures.is)
