-- For each changed law of solving a small network for which it fails: a copy that waits for its own output.
use Rattle.std.proofs.Common.{◌≡◌, ◌<◌, ℕ, zero, suc, List, [], ◌∷◌, length, refl, arith, get_or, Some, None}
use Rattle.std.proofs.lemmas.List.{get_or_past}
use Rattle.kpn_model.specs.declared.token.Token.{Token}
use Rattle.kpn_model.specs.declared.token.Token.TheVariants.{Word}
use Rattle.kpn_model.specs.declared.history.End.TheVariants.{Deadlock}
use Rattle.kpn_model.specs.Network.{resized}
use Rattle.kpn_model.specs.Semantics.{start}
use Rattle.kpn_standard.specs.Standard.{standard}
use Rattle.kpn_laws.specs.Equations.{streams_of}
use Rattle.kpn_laws.proofs.Solutions.{end_is_least}
use Rattle.test_laws.proofs.Replay.{over_sound}
use Rattle.kpn_streams.specs.Solving.{as_streams, HasEquation, Solves}
use Rattle.kpn_streams.proofs.Copies.{copy_writes}
use Rattle.kpn_streams.proofs.SolvingPorts.{equation_by_test}
use Rattle.test_laws.specs.Building.{numbers}
use Rattle.test_laws.specs.WorkedEnds.{dead_from_the_start}
use Rattle.test_laws.specs.ChangedSolving.{AllSolvedAreComputed, LimitFromAnyIsLeast}

-- a token on each channel, which nothing has brought there
abbrev lists : List (List Token)
lists = numbers (7 ∷ []) ∷ numbers (7 ∷ []) ∷ []

abbrev sevens : ℕ → List Token
sevens c = get_or lists c []

-- it solves the equations
equations : (c : ℕ) → c < length dead_from_the_start.channels → HasEquation standard dead_from_the_start sevens c (sevens c)
equations zero h = equation_by_test standard dead_from_the_start sevens 0 (sevens 0) 1 lists refl (copy_writes (0 ∷ 0 ∷ 0 ∷ []) (7 ∷ [])) refl
equations (suc zero) h = equation_by_test standard dead_from_the_start sevens 1 (sevens 1) 1 lists refl (copy_writes (0 ∷ 0 ∷ 0 ∷ []) (7 ∷ [])) refl
equations (suc (suc c)) h = absurd (omega arith)

sevens_solve : Solves standard dead_from_the_start sevens
sevens_solve = record { equations = equations; beyond = λ c past. get_or_past lists c [] past }

-- but no run has it
pub all_solved_fails : AllSolvedAreComputed → ⊥
all_solved_fails h =
    let s = h dead_from_the_start sevens sevens_solve in
    let net = resized dead_from_the_start (λ c. 1) in
    let S = start standard net in
    let e = s.at_end (λ c. 1) [] S Deadlock (record { run = refl; over = over_sound standard net S Deadlock refl }) tt 0 in
    cc

-- nor has the least solution
pub limit_from_any_fails : LimitFromAnyIsLeast → ⊥
limit_from_any_fails h =
    let S = start standard dead_from_the_start in
    let least = h dead_from_the_start (λ n c. sevens c) (as_streams sevens) (λ n c within. equations c within) (λ n c past. get_or_past lists c [] past) (λ c k t. (λ e. (0, e), λ x. x.1)) in
    let run = end_is_least standard dead_from_the_start [] S Deadlock (record { run = refl; over = over_sound standard dead_from_the_start S Deadlock refl }) tt in
    let none : None ≡ Some (Word 7) = least.least (streams_of dead_from_the_start []) run.solution.obeys 0 0 (Word 7) refl in
    cc
