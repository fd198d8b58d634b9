-- For each changed function a few tokens for which a process of its kind writes something else; and two streams for each law without
-- its premise.
use Rattle.std.proofs.Common.{◌≡◌, ℕ, true, false, List, [], ◌∷◌, Some, Contains, inr, refl, arith}
use Rattle.kpn_model.specs.declared.token.Sort.TheVariants.{Words, Flags}
use Rattle.kpn_model.specs.declared.kinds.Card.{Card}
use Rattle.kpn_model.specs.declared.kinds.Signature.{Signature}
use Rattle.kpn_standard.specs.Table.{word_and_flag}
use Rattle.kpn_streams.specs.Functions.{words, flags}
use Rattle.kpn_streams.proofs.Families.{each_is_a_function}
use Rattle.kpn_streams.proofs.Ends.{count_writes}
use Rattle.kpn_streams.proofs.Copies.{take_writes, copy_writes, prefix_writes}
use Rattle.kpn_streams.proofs.Arithmetic.{add_writes}
use Rattle.kpn_streams.proofs.Weaving.{weave_writes}
use Rattle.kpn_streams.proofs.Merging.{merge_writes}
use Rattle.kpn_streams.proofs.Flags.{divides_writes, switch_writes, select_writes}
use Rattle.kpn_streams.proofs.Filters.{filters_scan}
use Rattle.kpn_streams.proofs.Rounds.{rounds_scan}
use Rattle.test_laws.specs.WorkedFunctions.{at_none, total, tally_ports, tally}
use Rattle.test_laws.specs.ChangedFunctions.{CountsUpTo, TakesOneMore, CopiesInTurn, ForgetsItsWord, SumsDoNotWrap, StopsTakingTurns, MergeKeepsBoth, MergeDrains, DividesOtherWay, SwitchesOtherWay, SelectReadsBoth, FiltersKeepNothing, RoundsKeepNothing, TurnsOfNone, MergeHasAll}

pub count_fails : CountsUpTo → ⊥
count_fails h =
    let e : words (3 ∷ 4 ∷ []) ∷ [] ≡ words (3 ∷ 4 ∷ 5 ∷ 6 ∷ []) ∷ [] = each_is_a_function _ _ _ _ _ refl (h 3 4 []) (count_writes 3 4 []) in
    cc

pub take_fails : TakesOneMore → ⊥
take_fails h = let e : words (7 ∷ []) ∷ [] ≡ [] ∷ [] = each_is_a_function _ _ _ _ _ refl (h 0 [] (7 ∷ [])) (take_writes 0 [] (7 ∷ [])) in cc

pub copy_fails : CopiesInTurn → ⊥
copy_fails h =
    let e : words (7 ∷ []) ∷ [] ∷ [] ≡ words (7 ∷ []) ∷ words (7 ∷ []) ∷ [] = each_is_a_function _ _ _ _ _ refl (h [] (7 ∷ [])) (copy_writes [] (7 ∷ [])) in
    cc

pub prefix_fails : ForgetsItsWord → ⊥
prefix_fails h = let e : [] ∷ [] ≡ words (9 ∷ []) ∷ [] = each_is_a_function _ _ _ _ _ refl (h 9 [] []) (prefix_writes 9 [] []) in cc

pub add_fails : SumsDoNotWrap → ⊥
add_fails h =
    let e : words (18446744073709551616 ∷ []) ∷ [] ≡ words (0 ∷ []) ∷ [] =
    each_is_a_function _ _ _ _ _ refl (h [] (18446744073709551615 ∷ []) (1 ∷ [])) (add_writes [] (18446744073709551615 ∷ []) (1 ∷ [])) in
    let n : ◌≡◌ {A = ℕ} 18446744073709551616 0 = cc in
    absurd (omega arith)

pub weave_fails : StopsTakingTurns → ⊥
weave_fails h =
    let e : words (1 ∷ 3 ∷ []) ∷ [] ≡ words (1 ∷ 3 ∷ 2 ∷ []) ∷ [] =
    each_is_a_function _ _ _ _ _ refl (h 1 1 [] (1 ∷ 2 ∷ []) (3 ∷ [])) (weave_writes 1 1 [] (1 ∷ 2 ∷ []) (3 ∷ [])) in
    cc

pub keeps_both_fails : MergeKeepsBoth → ⊥
keeps_both_fails h =
    let e : words (1 ∷ 1 ∷ []) ∷ [] ≡ words (1 ∷ []) ∷ [] = each_is_a_function _ _ _ _ _ refl (h [] (1 ∷ 2 ∷ []) (1 ∷ [])) (merge_writes [] (1 ∷ 2 ∷ []) (1 ∷ [])) in
    cc

pub drains_fails : MergeDrains → ⊥
drains_fails h = let e : words (1 ∷ []) ∷ [] ≡ [] ∷ [] = each_is_a_function _ _ _ _ _ refl (h [] [] (1 ∷ [])) (merge_writes [] [] (1 ∷ [])) in cc

pub divides_fails : DividesOtherWay → ⊥
divides_fails h =
    let e : flags (false ∷ []) ∷ [] ≡ flags (true ∷ []) ∷ [] = each_is_a_function _ _ _ _ _ refl (h 2 [] (4 ∷ [])) (divides_writes 2 [] (4 ∷ [])) in
    cc

pub switch_fails : SwitchesOtherWay → ⊥
switch_fails h =
    let e : words (1 ∷ []) ∷ [] ∷ [] ≡ [] ∷ words (1 ∷ []) ∷ [] = each_is_a_function _ _ _ _ _ refl (h [] (1 ∷ []) (true ∷ [])) (switch_writes [] (1 ∷ []) (true ∷ [])) in
    cc

pub select_fails : SelectReadsBoth → ⊥
select_fails h = let e : [] ∷ [] ≡ words (5 ∷ []) ∷ [] = each_is_a_function _ _ _ _ _ refl (h [] [] (5 ∷ []) (true ∷ [])) (select_writes [] [] (5 ∷ []) (true ∷ [])) in cc

pub filter_fails : FiltersKeepNothing → ⊥
filter_fails h =
    let card : Card = record { kind = 0; args = [] } in
    let e : words (1 ∷ 2 ∷ []) ∷ [] ≡ words (1 ∷ 3 ∷ []) ∷ [] =
    each_is_a_function _ _ _ _ _ refl (h at_none total card (1 ∷ 2 ∷ [])) (filters_scan at_none total card (1 ∷ 2 ∷ [])) in
    let n : ◌≡◌ {A = ℕ} 2 3 = cc in
    absurd (omega arith)

pub round_fails : RoundsKeepNothing → ⊥
round_fails h =
    let card : Card = record { kind = 0; args = [] } in
    let s : Signature = record { ins = Some Words ∷ Some Flags ∷ Some Words ∷ []; outs = word_and_flag } in
    let ins = words (1 ∷ 2 ∷ []) ∷ flags (true ∷ true ∷ []) ∷ words (0 ∷ 0 ∷ []) ∷ [] in
    let e : words (2 ∷ 3 ∷ []) ∷ flags (true ∷ true ∷ []) ∷ [] ≡ words (2 ∷ 5 ∷ []) ∷ flags (true ∷ true ∷ []) ∷ [] =
    each_is_a_function _ _ _ _ _ refl (h tally_ports at_none tally card s ins refl (omega arith) refl) (rounds_scan tally_ports at_none tally card s ins refl (omega arith) refl) in
    let n : ◌≡◌ {A = ℕ} 3 5 = cc in
    absurd (omega arith)

pub no_turn_fails : TurnsOfNone → ⊥
no_turn_fails h =
    let e : ◌≡◌ {A = List ℕ} (1 ∷ 5 ∷ []) (5 ∷ 1 ∷ []) = (h 0 1).round [] (5 ∷ []) (1 ∷ []) [] refl refl in
    let n : ◌≡◌ {A = ℕ} 1 5 = cc in
    absurd (omega arith)

pub has_all_fails : MergeHasAll → ⊥
has_all_fails h =
    let c : Contains [] 1 = h [] (1 ∷ []) (λ k few. absurd (omega arith)) (λ k few. absurd (omega arith)) 1 (inr (0, omega arith, refl)) in
    absurd (omega (arith, c.1))
