use Rattle.std.proofs.Common.{◌≡◌, ◌-◌, Ok, Err, drop, take, length, length-drop, false, true, slice_index, rules, arith, sym}
use Rattle.std.proofs.lemmas.Grind.{common_steps}
use Rattle.std.proofs.lemmas.List.{take_all}
use Rattle.kpn_tokens.specs.Numbers.{number_said, word_of}
use Rattle.kpn_tokens.proofs.Words.{fault_is, number_is}
use Rattle.kpn_tokens.proofs.numbers.word_in.Goals as goal

pub returns-in-Ok : goal.returns-in-Ok
returns-in-Ok c =
    let text = c.args.text.now in
    let minus : slice_index text 0 ≡ 45 = search rules in
    let tail : take (length text - 1) (drop 1 text) ≡ drop 1 text = take_all (length text - 1) (drop 1 text) (omega (arith, length-drop 1 text)) in
    let said : word_of (number_said c.args.places (drop 1 text)) false ≡ Ok c.in-Ok.number = rw tail at (sym c.in-Ok.ensures) in
    let number = number_is (number_said c.args.places (drop 1 text)) c.in-Ok.number said in
    let below : c.word_below_zero.result ≡ word_of (number_said c.args.places (drop 1 text)) true = rw number c.word_below_zero.ensures in
    rw minus below

pub returns-in-Err : goal.returns-in-Err
returns-in-Err c =
    let text = c.args.text.now in
    let minus : slice_index text 0 ≡ 45 = search rules in
    let tail : take (length text - 1) (drop 1 text) ≡ drop 1 text = take_all (length text - 1) (drop 1 text) (omega (arith, length-drop 1 text)) in
    let said : word_of (number_said c.args.places (drop 1 text)) false ≡ Err c.in-Err.fault = rw tail at (sym c.in-Err.ensures) in
    let fault = fault_is (number_said c.args.places (drop 1 text)) c.in-Err.fault said in
    rw minus (sym fault)

pub returns-in-Some-eq43 : goal.returns-in-Some-eq43
returns-in-Some-eq43 c = grind (arith, common_steps)
