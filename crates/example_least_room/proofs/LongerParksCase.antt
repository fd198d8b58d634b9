-- What the law of the least room says of Parks's case with a counter of five.
use Rattle.std.proofs.Common.{◌≡◌, ◌≢◌, ℕ, ◌<◌, ◌≤◌, ⊎_elim, inl, List, ◌∷◌, refl, sym, cond, ◌+◌, Some, length, ap, arith, subst}
use Rattle.std.specs.List.{count_by}
use Rattle.std.proofs.lemmas.List.Recursion.{is_count_by}
use Rattle.kpn_model.specs.declared.history.Entry.{Entry}
use Rattle.kpn_model.specs.declared.history.Entry.TheVariants.{Did, Grew}
use Rattle.kpn_model.specs.declared.history.End.{End}
use Rattle.kpn_model.specs.declared.history.End.TheVariants.{Budget, Ceiling}
use Rattle.kpn_model.specs.Network.{Family, Network, channel_of, Admits}
use Rattle.kpn_model.specs.Semantics.{State, capacity}
use Rattle.kpn_model.specs.Endings.{IsOver, MayEnd, MayStand}
use Rattle.kpn_model.specs.History.{growths}
use Rattle.kpn_standard.specs.Standard.{standard}
use Rattle.kpn_laws.specs.RoomOfRun.{TakesAtMost, TakesLeastRoom}
use Rattle.test_laws.specs.WorkedRoom.{longer_parks_case, TwoPlacesSuffice}
use Rattle.test_laws.proofs.WorkedRoom.{begins_with_one}
use Rattle.example_least_room.specs.Growth.{entry_grows}
use Rattle.kpn_machine.specs.MachineView.{MachineView, IsFaithful}

-- one more growth, or one more deed
counted_more : (e : Entry) (E : List Entry) → length (growths (e ∷ E)) ≡ cond (entry_grows e) (1 + length (growths E)) (length (growths E))
counted_more (Did p d) E = refl
counted_more (Grew c to) E = omega arith

-- the growths are counted
pub counted : (E : List Entry) → count_by entry_grows E ≡ length (growths E)
counted E = sym (is_count_by (λ E. length (growths E)) entry_grows refl counted_more E)

-- the law for this network
at_the_case :
    (kinds : Family) (net : Network) (E : List Entry) (M : State) → kinds ≡ standard → net ≡ longer_parks_case → TakesLeastRoom kinds net E M
    → TakesLeastRoom standard longer_parks_case E M
at_the_case kinds net E M family is room = subst (λ n. TakesLeastRoom standard n E M) is (subst (λ k. TakesLeastRoom k net E M) family room)

module _ (s : MachineView) (two : TwoPlacesSuffice) (room : TakesLeastRoom standard longer_parks_case s.history s.state) where
  within_two : TakesAtMost standard longer_parks_case s.history s.state 2
  within_two = room.within 2 (inl two.0)

  -- no channel has capacity three
  three_nowhere : (c : ℕ) → capacity s.state c < 3
  three_nowhere c =
      ⊎_elim
      (λ (same : capacity s.state c ≡ (channel_of longer_parks_case c).capacity). let one = begins_with_one c in omega arith)
      (λ few. few)
      (within_two.capacities_below c)

  -- at most two growths for each channel
  eight_growths : length (growths s.history) ≤ 8
  eight_growths = within_two.few_growths (omega arith)

  -- at most the entries of the run that ends with capacities of two, and those growths
  all_entries : length s.history ≤ 54
  all_entries = let few = room.few_entries 2 two.0 (omega arith) in let is = two.1 in omega arith

module _ (kinds : Family) (admits : Admits) (s : MachineView) (family : kinds ≡ standard) (is : s.network ≡ longer_parks_case) (two : TwoPlacesSuffice) (faithful : IsFaithful kinds admits s) (room : TakesLeastRoom kinds s.network s.history s.state) where
  abbrev here : TakesLeastRoom standard longer_parks_case s.history s.state
  here = at_the_case kinds s.network s.history s.state family is room

  pub never_three : (c : ℕ) → capacity s.state c < 3
  never_three = three_nowhere s two here

  pub few_growths : length (growths s.history) ≤ 8
  few_growths = eight_growths s two here

  pub few_entries : length s.history ≤ 54
  few_entries = all_entries s two here

  -- the cause of an end justifies it
  bound_by : (cause : End) → s.end ≡ Some cause → MayEnd kinds s.network s.history s.state cause
  bound_by cause ended = subst (MayStand kinds s.network s.history s.state) ended faithful.justified

  -- no channel gets near the ceiling
  pub no_ceiling : s.end ≢ Some Ceiling
  no_ceiling ended =
      let over : IsOver standard longer_parks_case s.state Ceiling = subst (λ n. IsOver standard n s.state Ceiling) is (subst (λ k. IsOver k s.network s.state Ceiling) family (bound_by Ceiling ended)) in
      (within_two s two here).below_ceiling (omega arith) over

  -- nor does the history get near the budget
  pub no_budget : s.end ≢ Some Budget
  no_budget ended =
      let few = few_entries in
      let budget : s.network.budget ≡ 10000 = ap (λ (n : Network). n.budget) is in
      let spent = (bound_by Budget ended).0 in
      omega arith
