-- Growth of the smallest full channel takes, but for the step, no more room than any capacities that suffice.
use Rattle.std.proofs.Common.{◌≡◌, ◌≤◌, ◌<◌, ◌⊎◌, inl, inr, ⊎_elim, List, [], ◌∷◌, length, sym, ap, ◌∙◌, arith, append-nil, ℕ, ◌+◌, Some, subst}
use Rattle.std.proofs.lemmas.Bool.{cases_lt, cases_eq}
use Rattle.kpn_model.specs.History.{IsPrefixOf, deeds, growths}
use Rattle.kpn_model.specs.Semantics.{IsRun, State, tokens, capacity, answered, wants, with_channel, start, Transition, Run, Grows, IsPossible, IsBlocked, IsQuiet, IsArtificial, IsChosen}
use Rattle.kpn_model.specs.declared.history.Entry.{Entry}
use Rattle.kpn_model.specs.declared.history.Entry.TheVariants.{Did, Grew}
use Rattle.kpn_model.specs.Network.{Network, channel_of, Family, resized}
use Rattle.kpn_laws.specs.Sufficient.{IsBoundedBy, EndsWithin, LastsWithin, Suffices}
use Rattle.kpn_laws.specs.LeastRoom.{IsDominated, Dominates, ChosenHasFewer, GrowsBelow, StaysBelow, CeilingSuffices, LeastPossible}
use Rattle.kpn_laws.proofs.Lists.{same_from_prefixes, prefix-length}
use Rattle.kpn_laws.proofs.States.{capacity_set_same, capacity_set_other}
use Rattle.kpn_laws.proofs.Transitions.{capacity_after}
use Rattle.kpn_laws.proofs.Follows.{status_by}
use Rattle.kpn_laws.proofs.Runs.{run_induction, run_split}
use Rattle.kpn_laws.proofs.Kept.{IsFresh, fresh_start}
use Rattle.kpn_laws.proofs.KeptByGrowths.{blocked_within}
use Rattle.kpn_laws.proofs.KeptByRuns.{kept_run}
use Rattle.kpn_laws.proofs.Domination.{dominated, growths_down}
use Rattle.kpn_laws.proofs.Causes.{over_quiet, none_blocked}
use Rattle.kpn_laws.proofs.Totals.{total_le, entries_total}
use Rattle.kpn_laws.proofs.Wiring.{over_alike}
use Rattle.kpn_laws.proofs.Resized.{wired_resized, fresh_resized, run_resized}
use Rattle.kpn_laws.proofs.EachMoment.{starts_with, history_tells_state}

module _ (kinds : Family) (net : Network) where
  module _ (S S' : State) (fresh : IsFresh kinds net S) (fresh' : IsFresh kinds net S') (E F : List Entry) (M N : State) (run : Run kinds net S E M) (run' : Run kinds net S' F N) where
    -- a run to a quiet state dominates one that never has more room where this one's writers are blocked
    pub dominated_by_room : IsQuiet kinds net M → ((p c : ℕ) → IsBlocked kinds net M p c → capacity N c ≤ capacity M c) → (p : ℕ) → IsPrefixOf (deeds F p) (deeds E p)
    dominated_by_room quiet room =
        let j = kept_run kinds net S' fresh' F N run' in
        dominated kinds net (λ H. IsPrefixOf (growths H) (growths F)) (growths_down kinds net F) S S' fresh fresh' E M run quiet
        (λ H K p c before f b.
        let now = (kept_run kinds net S' fresh' H K before).capacities c in
        let later = j.rising (growths H) f c in
        let most = room p c b in
        omega arith) F N run' ([], append-nil _)

    -- and then it has no fewer entries, growths apart
    pub is_dominated : ((p : ℕ) → IsPrefixOf (deeds F p) (deeds E p)) → IsDominated F E
    is_dominated front =
        let d = total_le kinds net (length net.processes) (λ p. length (deeds F p)) (λ p. length (deeds E p)) (λ p. prefix-length _ _ (front p)) in
        let e = entries_total kinds net S fresh E M run in
        let f = entries_total kinds net S' fresh' F N run' in
        record { deeds = front; entries = omega arith }

  -- if each process has done the same in two runs to quiet states, the same writers are blocked in both
  blocked_too :
      (S S' : State) (E F : List Entry) (M N : State) → IsFresh kinds net S → IsFresh kinds net S' → Run kinds net S E M → Run kinds net S' F N
      → ((p : ℕ) → deeds E p ≡ deeds F p) → IsQuiet kinds net N → (p c : ℕ) → IsBlocked kinds net M p c → IsBlocked kinds net N p c
  blocked_too S S' E F M N fresh fresh' run run' same quiet p c b =
      let k = kept_run kinds net S fresh E M run in
      let j = kept_run kinds net S' fresh' F N run' in
      let w : wants kinds net N p ≡ Some b.answer = ap (λ s. answered kinds net p s) (j.statuses p ∙ ap (λ l. status_by kinds net p l) (sym (same p)) ∙ sym (k.statuses p)) ∙ b.wanted in
      ⊎_elim
      (λ (free : length (tokens N c) < capacity N c).
      absurd (quiet p (record { answer = b.answer; wanted = w; possible = subst (λ x. IsPossible kinds net N p x) (sym b.act) (c, b.at, free) })))
      (λ (full : capacity N c ≤ length (tokens N c)). record { answer = b.answer; wanted = w; port = b.port; token = b.token; act = b.act; at = b.at; full = full })
      (cases_lt (length (tokens N c)) (capacity N c))

  -- a run to an artificial deadlock dominates each run in which no channel has more capacity than the chosen one
  chosen_dominates : (sizes : ℕ → ℕ) (E F : List Entry) (M N : State) (c : ℕ) → IsRun kinds net E M → IsArtificial kinds net M → IsChosen kinds net M c → IsRun kinds (resized net sizes) F N → IsBoundedBy N (capacity M c) → IsDominated F E
  chosen_dominates sizes E F M N c run artificial chosen run' up =
      let S = start kinds net in
      let S' = start kinds (resized net sizes) in
      let f = fresh_start kinds net in
      let f' = fresh_resized kinds net sizes in
      let r = run_resized kinds net sizes F N run' in
      is_dominated S S' f f' E F M N run r
      (dominated_by_room S S' f f' E F M N run r artificial.quiet (λ p d x. let most = up d in let least = chosen.no_smaller p d x in omega arith))

  -- a run that terminates or ends in a deadlock dominates any other
  pub end_dominates : (b : ℕ) (s : EndsWithin kinds net b) (E : List Entry) (M : State) → IsRun kinds net E M → IsDominated E s.history
  end_dominates b s E M run =
      let sizes = s.sizes in
      let S = start kinds net in
      let S' = start kinds (resized net sizes) in
      let f = fresh_start kinds net in
      let f' = fresh_resized kinds net sizes in
      let N = s.state in
      let run' = run_resized kinds net sizes s.history N s.final.run in
      let over = over_alike kinds (resized net sizes) net (wired_resized net sizes) N s.cause s.final.over in
      is_dominated S' S f' f s.history E N M run' run
      (dominated_by_room S' S f' f s.history E N M run' run (over_quiet kinds net N s.cause over) (λ q d x. absurd (none_blocked kinds net N s.cause s.natural over q d x)))

  -- the chosen channel of an artificial deadlock has less capacity than suffices for an end: otherwise the run to it and the run
  -- to the end dominate each other, so the same was done, and a writer is blocked at the end
  below_end : (b : ℕ) → EndsWithin kinds net b → (E : List Entry) (M : State) (c : ℕ) → IsRun kinds net E M → IsArtificial kinds net M → IsChosen kinds net M c → b ≤ capacity M c → ⊥
  below_end b s E M c run artificial chosen far =
      let sizes = s.sizes in
      let F = s.history in
      let N = s.state in
      let over = over_alike kinds (resized net sizes) net (wired_resized net sizes) N s.cause s.final.over in
      let up : IsBoundedBy N (capacity M c) = λ d. (let most = s.bounded d in omega arith) in
      let ahead = chosen_dominates sizes E F M N c run artificial chosen s.final.run up in
      let behind = end_dominates b s E M run in
      let same : (p : ℕ) → deeds E p ≡ deeds F p = λ p. same_from_prefixes _ _ (behind.deeds p) (ahead.deeds p) in
      none_blocked kinds net N s.cause s.natural over chosen.writer c
      (blocked_too (start kinds net) (start kinds (resized net sizes)) E F M N (fresh_start kinds net) (fresh_resized kinds net sizes) run
      (run_resized kinds net sizes F N s.final.run) same (over_quiet kinds net N s.cause over) chosen.writer c chosen.blocked)

  -- and fewer than suffice for ever: otherwise the run to it would dominate a run with more deeds
  below_lasting : (b : ℕ) → ((n : ℕ) → LastsWithin kinds net b n) → (E : List Entry) (M : State) (c : ℕ) → IsRun kinds net E M → IsArtificial kinds net M → IsChosen kinds net M c → b ≤ capacity M c → ⊥
  below_lasting b more E M c run artificial chosen far =
      let l = more (length E + 1) in
      let up : IsBoundedBy l.state (capacity M c) = λ d. (let most = l.bounded d in omega arith) in
      let few = (chosen_dominates l.sizes E l.history M l.state c run artificial chosen l.run up).entries in
      let many = l.many in
      omega arith

  -- if capacity b suffices, the chosen channel of an artificial deadlock has less
  fewer_here : (b : ℕ) → Suffices kinds net b → (E : List Entry) (M : State) (c : ℕ) → IsRun kinds net E M → IsArtificial kinds net M → IsChosen kinds net M c → capacity M c < b
  fewer_here b s E M c run artificial chosen =
      ⊎_elim (λ h. h)
      (λ (far : b ≤ capacity M c).
      absurd (⊎_elim (λ x. below_end b x E M c run artificial chosen far) (λ x. below_lasting b x E M c run artificial chosen far) s))
      (cases_lt (capacity M c) b)

  -- a growth from below b gives its channel a capacity below b plus a step, and leaves the others' capacities
  below_grew :
      (b : ℕ) (H : List Entry) (M : State) (c to : ℕ) (N : State) → IsRun kinds net H M → Grows kinds net M c to N → capacity M c < b
      → ((d : ℕ) → (capacity M d ≡ (channel_of net d).capacity) ⊎ (capacity M d < b + net.step))
      → (d : ℕ) → (capacity N d ≡ (channel_of net d).capacity) ⊎ (capacity N d < b + net.step)
  below_grew b H M c to N before g small ih d =
      let k = kept_run kinds net (start kinds net) (fresh_start kinds net) H M before in
      let within = blocked_within kinds net (start kinds net) H M k g.chosen.writer c g.chosen.blocked in
      let left = ap (λ x. capacity x d) g.leaves in
      ⊎_elim
      (λ (e : d ≡ c).
      let now : capacity N d ≡ to = left ∙ ap (λ x. capacity (with_channel M c (tokens M c) to) x) e ∙ capacity_set_same M c (tokens M c) to within in
      let is = g.to_is in
      inr (omega arith))
      (λ ne. subst (λ n. (n ≡ (channel_of net d).capacity) ⊎ (n < b + net.step)) (sym (left ∙ capacity_set_other M c d (tokens M c) to ne)) (ih d))
      (cases_eq d c)

  -- so each channel has its starting capacity, or one below b plus a step
  stays_below_here : (b : ℕ) → Suffices kinds net b → (E : List Entry) (M : State) → IsRun kinds net E M → (c : ℕ) → (capacity M c ≡ (channel_of net c).capacity) ⊎ (capacity M c < b + net.step)
  stays_below_here b s =
      run_induction kinds net (λ _ M. (c : ℕ) → (capacity M c ≡ (channel_of net c).capacity) ⊎ (capacity M c < b + net.step)) (start kinds net)
      (λ c. inl (sym (starts_with kinds net net.channels c))) step
    where
      step :
          (H : List Entry) (M : State) (e : Entry) (N : State) → IsRun kinds net H M
          → ((c : ℕ) → (capacity M c ≡ (channel_of net c).capacity) ⊎ (capacity M c < b + net.step)) → Transition kinds net M e N
          → (c : ℕ) → (capacity N c ≡ (channel_of net c).capacity) ⊎ (capacity N c < b + net.step)
      step H M (Did p d) N before ih t c =
          subst (λ n. (n ≡ (channel_of net c).capacity) ⊎ (n < b + net.step)) (sym (ap (λ x. capacity x c) t.leaves ∙ capacity_after kinds net M p c t.answer.next d)) (ih c)
      step H M (Grew d to) N before ih t c =
          below_grew b H M d to N before t (fewer_here b s H M d before t.artificial t.chosen) ih c

-- a run to an artificial deadlock dominates each run in which no channel has more capacity than the chosen one
pub dominates : (kinds : Family) → Dominates kinds
dominates kinds net sizes E F M N c run artificial chosen run' up = chosen_dominates kinds net sizes E F M N c run artificial chosen run' up

-- if capacity b suffices, the chosen channel of an artificial deadlock has less
pub chosen_has_fewer : (kinds : Family) → ChosenHasFewer kinds
chosen_has_fewer kinds net b s E M c run artificial chosen = fewer_here kinds net b s E M c run artificial chosen

-- so each growth of a history is from fewer
pub grows_below : (kinds : Family) → GrowsBelow kinds
grows_below kinds net b s E F N c to run =
    let at = run_split kinds net E (Grew c to ∷ F) (start kinds net) N run in
    let M = at.0 in
    let g : Grows kinds net M c to at.2.0 = at.2.1 in
    let small = chosen_has_fewer kinds net b s E M c at.1 g.artificial g.chosen in
    let told = (history_tells_state kinds net E M at.1 c).2 in
    let is = g.to_is in
    (omega arith, omega arith)

-- so each channel has its starting capacity, or one below b plus a step
pub stays_below : (kinds : Family) → StaysBelow kinds
stays_below kinds net b s E M run = stays_below_here kinds net b s E M run

-- and no run is over at a ceiling of b or more
pub ceiling_suffices : (kinds : Family) → CeilingSuffices kinds
ceiling_suffices kinds net b s enough E M final =
    let small = chosen_has_fewer kinds net b s E M final.over.1.0 final.run final.over.0 final.over.1.1 in
    let at = final.over.1.2 in
    omega (arith, enough)

-- so with a step of one no channel has more capacity than b, if none has at the start
pub least_possible : (kinds : Family) → LeastPossible kinds
least_possible kinds net b s one small E M run c =
    ⊎_elim
    (λ (same : capacity M c ≡ (channel_of net c).capacity). let first = starts_with kinds net net.channels c in let few = small c in omega arith)
    (λ (few : capacity M c < b + net.step). omega (arith, one))
    (stays_below kinds net b s E M run c)
