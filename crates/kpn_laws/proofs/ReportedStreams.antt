-- The streams of a digest are the least solution of the network's equations.
use Rattle.std.proofs.Common.{◌≡◌, ◌≤◌, ◌<◌, ⊎_elim, ℕ, List, [], ◌∷◌, ◌++◌, length, refl, sym, ap, ◌∙◌, subst, arith, get_or, slice_get, ne_eqb}
use Rattle.std.proofs.lemmas.Bool.{cases_lt}
use Rattle.std.proofs.lemmas.List.{get_or_past}
use Rattle.std.proofs.lemmas.List.FromFn.{get_or-map-range_with_len, length-map-range_with_len}
use Rattle.kpn_model.specs.declared.parts.Channel.{Channel}
use Rattle.kpn_model.specs.declared.history.Deed.TheVariants.{Took, Put, Stopped}
use Rattle.kpn_model.specs.declared.history.Entry.{Entry}
use Rattle.kpn_model.specs.declared.history.Entry.TheVariants.{Did, Grew}
use Rattle.kpn_model.specs.Network.{Family, Network, no_channel}
use Rattle.kpn_model.specs.Semantics.{State, start, Transition, Run}
use Rattle.kpn_model.specs.History.{put_on, stream, each_channel}
use Rattle.kpn_laws.specs.Alone.{BeginsWith}
use Rattle.kpn_laws.specs.Equations.{IsLeastSolution, DigestIsLeastSolution, DigestIsBelow}
use Rattle.kpn_laws.proofs.Views.{put_on-append}
use Rattle.kpn_laws.proofs.States.{out_of-writer}
use Rattle.kpn_laws.proofs.Transitions.{put_write}
use Rattle.kpn_laws.proofs.Runs.{run_induction}
use Rattle.kpn_laws.proofs.Kept.{fresh_start}
use Rattle.kpn_laws.proofs.Solutions.{end_is_least, below_here}

module _ (kinds : Family) (net : Network) where
  -- nothing is put on a channel that the network doesn't have
  none_past : (c : ℕ) → length net.channels ≤ c → (S : State) (E : List Entry) (M : State) → Run kinds net S E M → put_on E c ≡ []
  none_past c past S =
      run_induction kinds net (λ H _. put_on H c ≡ []) S refl (λ H M e N before ih s. put_on-append H (e ∷ []) c ∙ ap (λ l. l ++ put_on (e ∷ []) c) ih ∙ step M e N s)
    where
      step : (M : State) (e : Entry) (N : State) → Transition kinds net M e N → put_on (e ∷ []) c ≡ []
      step M (Grew b to) N s = refl
      step M (Did p Stopped) N s = refl
      step M (Did p (Took b t)) N s = refl
      step M (Did p (Put b t)) N s =
          let r = put_write kinds net M p b t s.answer.act s.is_deed in
          let within = (out_of-writer net p r.0 b r.2).0 in
          let other : b ≡ c → ⊥ = λ (e : b ≡ c). absurd (omega arith) in
          simp (ne_eqb b c other)

  -- so its stream is empty
  pub stream_past : (c : ℕ) → length net.channels ≤ c → (S : State) (E : List Entry) (M : State) → Run kinds net S E M → stream net E c ≡ []
  stream_past c past S E M run = ap (λ (l : Channel). l.tokens ++ put_on E c) (get_or_past net.channels c no_channel past) ∙ none_past c past S E M run

  -- the streams of the network's channels are those of all
  pub each_stream : (S : State) (E : List Entry) (M : State) → Run kinds net S E M → (c : ℕ) → stream net E c ≡ get_or (each_channel net (λ b. stream net E b)) c []
  each_stream S E M run c =
      ⊎_elim
      (λ (within : c < length net.channels). sym (get_or-map-range_with_len (λ b. stream net E b) 0 (length net.channels) c c [] within (omega arith)))
      (λ (past : length net.channels ≤ c).
      let few = length-map-range_with_len (λ b. stream net E b) 0 (length net.channels) in
      stream_past c past S E M run ∙ sym (get_or_past (each_channel net (λ b. stream net E b)) c [] (omega arith)))
      (cases_lt c (length net.channels))

-- so the streams of a digest are the least solution
pub digest_is_least : (kinds : Family) → DigestIsLeastSolution kinds
digest_is_least kinds net E M a final natural =
    subst (λ T. IsLeastSolution kinds net T) (λ i c n. slice_get (each_stream kinds net (start kinds net) E M final.run c i) n) (end_is_least kinds net E M a final natural)

-- and below each pre-fixed point, whatever the end
pub digest_is_below : (kinds : Family) → DigestIsBelow kinds
digest_is_below kinds net E M a T final obeys c =
    let S = start kinds net in
    subst (λ l. BeginsWith (T c) l) (each_stream kinds net S E M final.run c) (below_here kinds net T obeys S (fresh_start kinds net) E M final.run c)
