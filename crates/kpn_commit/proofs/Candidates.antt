-- The first candidate is the smallest channel to which a process waits to write.
use Rattle.std.proofs.Common.{◌≡◌, ◌≢◌, ◌↔◌, inl, inr, ⊎_elim, List, [], ◌∷◌, length, refl, arith, ℕ, ◌<◌, Some, None, Option, slice_get, option_map}
use Rattle.std.specs.List.{Contains}
use Rattle.std.proofs.lemmas.Bool.{cases_eq}
use Rattle.kpn_model.specs.Network.{Network}
use Rattle.kpn_model.specs.Semantics.{State, capacity}
use Rattle.kpn_state.specs.declared.standing.Standing.{Standing}
use Rattle.kpn_state.specs.Standings.{standing}
use Rattle.kpn_state.specs.Candidates.{CandidateList, IsInOrder}
use Rattle.kpn_commit.specs.Candidates.{awaited, with_writer, IsNoLater, IsSmallest, IsCandidate, AreCandidates}
use Rattle.kpn_commit.proofs.Waits.{is_writer}

-- the first of a list is one of it
pub head_contained : (xs : List (ℕ × ℕ)) (x : ℕ × ℕ) → slice_get xs 0 ≡ Some x → Contains xs x
head_contained [] x e = cc
head_contained (y ∷ ys) x e = (0, omega arith, cc)

module _ {net : Network} {M : State} {l : List Standing} {candidates : CandidateList} (k : AreCandidates net M l candidates) where
  pub candidate_within : (x : ℕ × ℕ) → Contains candidates.pairs x → x.1 < length net.channels
  candidate_within x h = let y = (k.each x).0 h in (is_writer net y.1.0 x.1 (standing l y.1.0) y.1.1).0

  pub chosen : IsInOrder candidates.pairs → (result : Option (ℕ × ℕ)) → result ≡ option_map (with_writer net) (slice_get candidates.pairs 0) → IsSmallest net M l result
  chosen ordered result e = rw e (first candidates.pairs k.each ordered)
    where
      first : (pairs : List (ℕ × ℕ)) → ((y : ℕ × ℕ) → Contains pairs y ↔ IsCandidate net M l y) → IsInOrder pairs → IsSmallest net M l (option_map (with_writer net) (slice_get pairs 0))
      first [] each ordered = λ q. none q (awaited net l q) refl
        where
          none : (q : ℕ) (c : Option ℕ) → awaited net l q ≡ c → awaited net l q ≡ None
          none q None h = h
          none q (Some c) h = let at = ((each (capacity M c, c)).1 (refl, (q, h))).1 in absurd (omega arith)
      first (x ∷ xs) each ordered = (let writer = (is_writer net here.1.0 x.1 (standing l here.1.0) here.1.1).1 in let waits = here.1.1 in cc, λ q d h. no_later d ((each (capacity M d, d)).1 (refl, (q, h))))
        where
          here : IsCandidate net M l x
          here = (each x).0 (0, omega arith, refl)

          no_later : (d : ℕ) → Contains (x ∷ xs) (capacity M d, d) → IsNoLater M x.1 d
          no_later d h =
              let size = here.0 in
              ⊎_elim
              (λ (z : h.0 ≡ 0). let is = h.2 in let same : x ≡ (capacity M d, d) = cc in let c : x.1 ≡ d = cc in inr (cc, omega arith))
              (λ (n : h.0 ≢ 0). let there = h.1 in ⊎_elim (λ less. inl (omega arith)) (λ (same : (x.0 ≡ capacity M d) × (x.1 < d)). inr (omega arith, omega arith)) (rw h.2 at (ordered 0 h.0 (capacity M d, d) (omega arith) there)))
              (cases_eq h.0 0)
