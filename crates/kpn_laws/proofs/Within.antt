-- No channel ever holds more than its capacity.
use Rattle.std.proofs.Common.{◌≡◌, ◌≤◌, ⊎_elim, List, [], ◌∷◌, ◌++◌, length, sym, ap, ◌∙◌, arith, length-append, ℕ, ◌<◌, Some, None, drop, subst, suc}
use Rattle.std.proofs.lemmas.Bool.{cases_eq}
use Rattle.kpn_model.specs.declared.history.Deed.{Deed}
use Rattle.kpn_model.specs.declared.history.Deed.TheVariants.{Took, Put, Stopped}
use Rattle.kpn_model.specs.declared.history.Entry.{Entry}
use Rattle.kpn_model.specs.declared.history.Entry.TheVariants.{Did, Grew}
use Rattle.kpn_model.specs.Network.{Network, Family}
use Rattle.kpn_model.specs.Semantics.{State, tokens, capacity, with_status, with_channel, IsDeed, after_deed, start, Transition, IsRun}
use Rattle.kpn_model.specs.declared.kinds.Answer.{Answer}
use Rattle.kpn_model.specs.declared.history.Status.TheVariants.{Live}
use Rattle.kpn_model.specs.Moments.{IsWithin, AlwaysWithin}
use Rattle.kpn_laws.proofs.States.{out_of-writer, holds_within, tokens_set_same, tokens_set_other, capacity_set_same, capacity_set_other}
use Rattle.kpn_laws.proofs.Transitions.{capacity_after, took_read, put_write}
use Rattle.kpn_laws.proofs.Runs.{run_induction}
use Rattle.kpn_laws.proofs.Kept.{Kept, fresh_start}
use Rattle.kpn_laws.proofs.KeptByGrowths.{blocked_within, tokens_grew}
use Rattle.kpn_laws.proofs.KeptByRuns.{kept_run}

module _ (kinds : Family) (net : Network) where
  -- a deed keeps each channel within its capacity: after a take it holds less, and a put found room
  within_did :
      (S : State) (H : List Entry) (M : State) → Kept kinds net S H M → IsWithin M → (p : ℕ) (d : Deed) (a : Answer) → IsDeed kinds net M p a.act d
      → IsWithin (after_deed kinds net M p a.next d)
  within_did S H M k w p Stopped a is c = w c
  within_did S H M k w p (Took b t) a is c =
      let r = took_read kinds net M p b t a.act is in
      let M1 = with_status M p (Live a.next (Some t)) in
      let N = after_deed kinds net M p a.next (Took b t) in
      let cap = capacity_after kinds net M p c a.next (Took b t) in
      let old = w c in
      ⊎_elim
      (λ (e : c ≡ b).
      let left : tokens N c ≡ r.3.0 = ap (λ x. tokens N x) e ∙ tokens_set_same M1 b _ _ (holds_within M b t r.3.0 r.3.1) ∙ ap (λ l. drop 1 l) r.3.1 in
      let l = ap length left in
      let was : length (tokens M c) ≡ suc (length r.3.0) = ap (λ x. length (tokens M x)) e ∙ ap length r.3.1 in
      le_along _ _ _ _ cap l (omega arith))
      (λ ne. le_along _ _ _ _ cap (ap length (tokens_set_other M1 b c _ _ ne)) old)
      (cases_eq c b)
    where
      le_along : (x y m n : ℕ) → x ≡ y → m ≡ n → n ≤ y → m ≤ x
      le_along x y m n e f h = omega arith
  within_did S H M k w p (Put b t) a is c =
      let r = put_write kinds net M p b t a.act is in
      let at = out_of-writer net p r.0 b r.2 in
      let within : b < length M.channels = omega (arith, at.0, k.channels) in
      let M1 = with_status M p (Live a.next None) in
      let N = after_deed kinds net M p a.next (Put b t) in
      let cap = capacity_after kinds net M p c a.next (Put b t) in
      let old = w c in
      ⊎_elim
      (λ (e : c ≡ b).
      let left : tokens N c ≡ tokens M c ++ t ∷ [] = ap (λ x. tokens N x) e ∙ tokens_set_same M1 b _ _ within ∙ ap (λ x. tokens M x ++ t ∷ []) (sym e) in
      let l = ap length left ∙ length-append (tokens M c) (t ∷ []) in
      let room : length (tokens M c) < capacity M c = subst (λ x. length (tokens M x) < capacity M x) (sym e) r.3 in
      le_along _ _ _ _ cap l (omega arith))
      (λ ne. le_along _ _ _ _ cap (ap length (tokens_set_other M1 b c _ _ ne)) old)
      (cases_eq c b)
    where
      le_along : (x y m n : ℕ) → x ≡ y → m ≡ n → n ≤ y → m ≤ x
      le_along x y m n e f h = omega arith

  -- so does a growth
  within_grew :
      (S : State) (H : List Entry) (M : State) → Kept kinds net S H M → IsWithin M → (c to : ℕ) → c < length M.channels → capacity M c ≤ to
      → IsWithin (with_channel M c (tokens M c) to)
  within_grew S H M k w c to within is b =
      let t = ap length (tokens_grew kinds net S H M k c to within b) in
      let old = w b in
      ⊎_elim
      (λ (e : b ≡ c).
      let n : capacity (with_channel M c (tokens M c) to) b ≡ to = ap (λ x. capacity (with_channel M c (tokens M c) to) x) e ∙ capacity_set_same M c _ _ within in
      let was : capacity M b ≡ capacity M c = ap (λ x. capacity M x) e in
      omega arith)
      (λ ne. let n = capacity_set_other M c b (tokens M c) to ne in omega arith)
      (cases_eq b c)

  -- so does each step
  within_step : (S : State) (H : List Entry) (M : State) (e : Entry) (N : State) → Kept kinds net S H M → IsWithin M → Transition kinds net M e N → IsWithin N
  within_step S H M (Did p d) N k w s = subst (λ x. IsWithin x) (sym s.leaves) (within_did S H M k w p d s.answer s.is_deed)
  within_step S H M (Grew c to) N k w s =
      subst (λ x. IsWithin x) (sym s.leaves) (within_grew S H M k w c to (blocked_within kinds net S H M k s.chosen.writer c s.chosen.blocked) (let is = s.to_is in let low = s.below in omega arith))

  -- so does each run that begins within the capacities
  within_run : IsWithin (start kinds net) → (E : List Entry) (M : State) → IsRun kinds net E M → IsWithin M
  within_run fits =
      let S = start kinds net in
      let f = fresh_start kinds net in
      run_induction kinds net (λ _ M. IsWithin M) S fits
      (λ H M e N before w s. within_step S H M e N (kept_run kinds net S f H M before) w s)

-- no channel ever holds more than its capacity, if none does at the start
pub always_within : (kinds : Family) → AlwaysWithin kinds
always_within kinds net fits E M = within_run kinds net fits E M
