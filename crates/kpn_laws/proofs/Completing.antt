-- If a network can come to its end with capacities of at most b, each run does; if it can go on for ever, each can.
use Rattle.std.proofs.Common.{◌≤◌, ◌<◌, ◌⊎◌, inl, inr, ⊎_elim, List, [], ◌∷◌, ◌++◌, length, refl, arith, ℕ, ◌+◌, ◌*◌, zero, suc, length-append}
use Rattle.kpn_model.specs.Semantics.{IsRun, State, start, Run}
use Rattle.kpn_model.specs.declared.history.Entry.{Entry}
use Rattle.kpn_model.specs.declared.history.End.{End}
use Rattle.kpn_model.specs.declared.history.End.TheVariants.{Terminated, Deadlock, Ceiling, Budget, Memory}
use Rattle.kpn_model.specs.Network.{Network, Family, resized}
use Rattle.kpn_model.specs.Endings.{IsOver}
use Rattle.kpn_laws.specs.Sufficient.{EndsWithin, LastsWithin, Suffices}
use Rattle.kpn_laws.specs.Completion.{CanGoOn, IsAtOwnEnd, IsAbove, FewEntries, Completes, HasEnd, NeverEnds}
use Rattle.kpn_laws.proofs.Runs.{run_push}
use Rattle.kpn_laws.proofs.Kept.{fresh_start}
use Rattle.kpn_laws.proofs.Causes.{over_quiet, none_blocked}
use Rattle.kpn_laws.proofs.Resized.{fresh_resized, run_resized}
use Rattle.kpn_laws.proofs.LeastRoom.{dominated_by_room, is_dominated, end_dominates, chosen_has_fewer, ceiling_suffices}
use Rattle.kpn_laws.proofs.FewGrowths.{few_growths}
use Rattle.kpn_laws.proofs.GoingOn.{goes_on}

module _ (kinds : Family) (net : Network) where
  -- a state that is over, and not because of the ceiling, has ended
  natural_end : (M : State) (a : End) → IsOver kinds net M a → (IsOver kinds net M Ceiling → ⊥) → IsAtOwnEnd kinds net M
  natural_end M Terminated o h = (Terminated, tt, o)
  natural_end M Deadlock o h = (Deadlock, tt, o)
  natural_end M Ceiling o h = absurd (h o)
  natural_end M Budget o h = absurd o
  natural_end M Memory o h = absurd o

  -- if capacity b suffices and is within the ceiling, a run can go on or has ended
  goes_or_ended : (b : ℕ) → Suffices kinds net b → b ≤ net.ceiling → (E : List Entry) (M : State) → IsRun kinds net E M → CanGoOn kinds net M ⊎ IsAtOwnEnd kinds net M
  goes_or_ended b s enough E M run =
      ⊎_elim inl
      (λ rest. inr (⊎_elim
      (λ (x : (a : End) × IsOver kinds net M a). natural_end M x.0 x.1 (λ o. ceiling_suffices kinds net b s enough E M (record { run = run; over = o })))
      (λ (x : IsAbove kinds net M). absurd (let small = chosen_has_fewer kinds net b s E M x.channel run x.artificial x.chosen in let high = x.above in omega (arith, enough)))
      rest))
      (goes_on kinds net M)

  -- a run that has ended dominates every other, so none has more deeds
  no_more_deeds : (n : ℕ) (b : ℕ) (E : List Entry) (M : State) → IsRun kinds net E M → IsAtOwnEnd kinds net M → LastsWithin kinds net b n → n ≤ length E
  no_more_deeds n b E M run ended l =
      let S = start kinds net in
      let S' = start kinds (resized net l.sizes) in
      let f = fresh_start kinds net in
      let f' = fresh_resized kinds net l.sizes in
      let r = run_resized kinds net l.sizes l.history l.state l.run in
      let a = ended.0 in
      let front = dominated_by_room kinds net S S' f f' E l.history M l.state run r (over_quiet kinds net M a ended.2) (λ q d x. absurd (none_blocked kinds net M a ended.1 ended.2 q d x)) in
      let few = (is_dominated kinds net S S' f f' E l.history M l.state run r front).entries in
      let many = l.many in
      omega arith

-- each run has at most the entries of one that comes to its end, and b for each channel
pub few_entries : (kinds : Family) → FewEntries kinds
few_entries kinds net b s some E M run =
    let d = (end_dominates kinds net b s E M run).entries in
    let g = few_growths kinds net b (inl s) some E M run in
    omega arith

-- each run can go on or has ended
pub completes : (kinds : Family) → Completes kinds
completes kinds net b s enough E M run = goes_or_ended kinds net b (inl s) enough E M run

-- a run of which another has more deeds has not ended, so it can go on
pub never_ends : (kinds : Family) → NeverEnds kinds
never_ends kinds net b more enough E M run =
    ⊎_elim (λ x. x)
    (λ ended. absurd (let few = no_more_deeds kinds net (length E + 1) b E M run ended (more (length E + 1)) in omega arith))
    (goes_or_ended kinds net b (inr more) enough E M run)

module _ (kinds : Family) (net : Network) (b : ℕ) (s : EndsWithin kinds net b) (enough : b ≤ net.ceiling) (some : 0 < net.step) where
  -- a run from here to an end
  abbrev EndFrom : State → Type 0
  EndFrom M = (F : List Entry) × ((N : State) × Run kinds net M F N × IsAtOwnEnd kinds net N)

  -- one more entry leads to a state from which such a run begins
  end_after : (M : State) (x : CanGoOn kinds net M) → EndFrom x.1.0 → EndFrom M
  end_after M x r = (x.0 ∷ r.0, (r.1.0, (x.1.0, x.1.1, r.1.1), r.1.2))

  -- a run that can have fewer than n more entries goes on to its end
  end_within : (n : ℕ) (E : List Entry) (M : State) → IsRun kinds net E M → length s.history + length net.channels * b < length E + n → EndFrom M
  end_within zero E M run far = let short = few_entries kinds net b s some E M run in absurd (omega arith)
  end_within (suc n) E M run far =
      ⊎_elim
      (λ (x : CanGoOn kinds net M).
      let l = length-append E (x.0 ∷ []) in
      end_after M x (end_within n (E ++ x.0 ∷ []) x.1.0 (run_push kinds net (start kinds net) M x.1.0 E x.0 run x.1.1) (omega arith)))
      (λ (x : IsAtOwnEnd kinds net M). ([], (M, refl, x)))
      (completes kinds net b s enough E M run)

-- so each run goes on to its end
pub has_end : (kinds : Family) → HasEnd kinds
has_end kinds net b s enough some E M run = end_within kinds net b s enough some (length s.history + length net.channels * b + 1) E M run (omega arith)
