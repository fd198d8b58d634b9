-- If capacity b suffices, there are at most b growths times the number of channels.
use Rattle.std.proofs.Common.{◌≡◌, ◌≤◌, ◌<◌, ⊎_elim, List, [], ◌∷◌, ◌++◌, length, sym, ap, ◌∙◌, arith, ℕ, ◌+◌, ◌*◌, zero, suc, subst, min, length-append}
use Rattle.std.proofs.lemmas.Bool.{cases_eq}
use Rattle.kpn_model.specs.Semantics.{IsRun, State, tokens, capacity, with_channel, start, Transition, Grows}
use Rattle.kpn_model.specs.declared.history.Entry.{Entry}
use Rattle.kpn_model.specs.declared.history.Entry.TheVariants.{Did, Grew}
use Rattle.kpn_model.specs.History.{growths}
use Rattle.kpn_model.specs.Network.{Network, Family}
use Rattle.kpn_laws.specs.Sufficient.{Suffices}
use Rattle.kpn_laws.specs.LeastRoom.{FewGrowths}
use Rattle.kpn_laws.proofs.Views.{growths_push_did, growths_push_grew}
use Rattle.kpn_laws.proofs.States.{capacity_set_same, capacity_set_other}
use Rattle.kpn_laws.proofs.Transitions.{capacity_after}
use Rattle.kpn_laws.proofs.Runs.{run_induction}
use Rattle.kpn_laws.proofs.Kept.{fresh_start}
use Rattle.kpn_laws.proofs.KeptByGrowths.{blocked_within}
use Rattle.kpn_laws.proofs.KeptByRuns.{kept_run}
use Rattle.kpn_laws.proofs.Totals.{total, total_le}
use Rattle.kpn_laws.proofs.LeastRoom.{chosen_has_fewer}

module _ (kinds : Family) (net : Network) where
  -- a sum that has more in one term, and no less in any, is greater
  total_rises : (n p : ℕ) (f g : ℕ → ℕ) → p < n → f p + 1 ≤ g p → ((i : ℕ) → f i ≤ g i) → total kinds net n f + 1 ≤ total kinds net n g
  total_rises zero p f g l at others = absurd (omega arith)
  total_rises (suc n) p f g l at others =
      ⊎_elim
      (λ (e : n ≡ p).
      let a = total_le kinds net n f g others in
      let b : f n + 1 ≤ g n = subst (λ x. f x + 1 ≤ g x) (sym e) at in
      omega arith)
      (λ (ne : n ≡ p → ⊥).
      let a = total_rises n p f g (omega arith) at others in
      let b = others n in
      omega arith)
      (cases_eq n p)

  -- a sum of numbers of at most b
  total_up_to : (n b : ℕ) (f : ℕ → ℕ) → ((i : ℕ) → f i ≤ b) → total kinds net n f ≤ n * b
  total_up_to zero b f h = omega arith
  total_up_to (suc n) b f h = let a = total_up_to n b f h in let c = h n in omega arith

  -- the capacities of all channels together, counted up to b for each
  abbrev places : ℕ → State → ℕ
  places b M = total kinds net (length net.channels) (λ c. min b (capacity M c))

  -- a growth from below b adds to this sum
  places_grew :
      (b : ℕ) (H : List Entry) (M : State) (c to : ℕ) (N : State) → IsRun kinds net H M → Grows kinds net M c to N → capacity M c < b → 0 < net.step
      → places b M + 1 ≤ places b N
  places_grew b H M c to N before g small step =
      let k = kept_run kinds net (start kinds net) (fresh_start kinds net) H M before in
      let within = blocked_within kinds net (start kinds net) H M k g.chosen.writer c g.chosen.blocked in
      let left : (d : ℕ) → capacity N d ≡ capacity (with_channel M c (tokens M c) to) d = λ d. ap (λ x. capacity x d) g.leaves in
      let now : capacity N c ≡ to = left c ∙ capacity_set_same M c (tokens M c) to within in
      let is = g.to_is in
      let low = g.below in
      let others : (d : ℕ) → min b (capacity M d) ≤ min b (capacity N d) = λ d. ⊎_elim
      (λ (e : d ≡ c). let x = ap (λ y. capacity M y) e in let y = ap (λ y. capacity N y) e in omega arith)
      (λ ne. let x = left d ∙ capacity_set_other M c d (tokens M c) to ne in omega arith)
      (cases_eq d c) in
      total_rises (length net.channels) c (λ d. min b (capacity M d)) (λ d. min b (capacity N d)) (omega (arith, within, k.channels)) (omega arith) others

  -- so there are at most b growths times the number of channels
  growths_few : (b : ℕ) → Suffices kinds net b → 0 < net.step → (E : List Entry) (M : State) → IsRun kinds net E M → length (growths E) ≤ length net.channels * b
  growths_few b s some E M run =
      let most = total_up_to (length net.channels) b (λ c. min b (capacity M c)) (λ c. omega arith) in
      let all = run_induction kinds net (λ H M. length (growths H) ≤ places b M) (start kinds net) (omega arith) step E M run in
      omega arith
    where
      step : (H : List Entry) (M : State) (e : Entry) (N : State) → IsRun kinds net H M → length (growths H) ≤ places b M → Transition kinds net M e N → length (growths (H ++ e ∷ [])) ≤ places b N
      step H M (Did p d) N before ih t =
          let g = ap length (growths_push_did H p d) in
          let same = total_le kinds net (length net.channels) (λ c. min b (capacity M c)) (λ c. min b (capacity N c))
          (λ c. let x = ap (λ x. capacity x c) t.leaves ∙ capacity_after kinds net M p c t.answer.next d in omega arith) in
          omega arith
      step H M (Grew c to) N before ih t =
          let g = ap length (growths_push_grew H c to) ∙ length-append (growths H) ((c, to) ∷ []) in
          let more = places_grew b H M c to N before t (chosen_has_fewer kinds net b s H M c before t.artificial t.chosen) some in
          omega arith

-- there are at most b growths times the number of channels
pub few_growths : (kinds : Family) → FewGrowths kinds
few_growths kinds net b s some E M run = growths_few kinds net b s some E M run
