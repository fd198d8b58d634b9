-- What went through a channel is determined by the deeds of its writer and of its reader.
use Rattle.std.proofs.Common.{◌≡◌, ⊎_elim, List, [], ◌∷◌, ◌++◌, refl, sym, ap, ◌∙◌, append-nil, ℕ, ne_eqb}
use Rattle.std.proofs.lemmas.Bool.{cases_eq}
use Rattle.kpn_model.specs.declared.history.Deed.TheVariants.{Took, Put, Stopped}
use Rattle.kpn_model.specs.declared.history.Entry.{Entry}
use Rattle.kpn_model.specs.declared.history.Entry.TheVariants.{Did, Grew}
use Rattle.kpn_model.specs.History.{deeds, put_on, taken}
use Rattle.kpn_model.specs.Network.{Network, channel_of, Family}
use Rattle.kpn_model.specs.Semantics.{State, Transition, Run}
use Rattle.kpn_laws.specs.Alone.{puts, took}
use Rattle.kpn_laws.proofs.Views.{put_on-append, taken-append, deeds_push_grew, puts_push_none, took_push_none, puts_push_same, took_push_same, puts_other, took_other}
use Rattle.kpn_laws.proofs.States.{in_of-reader, out_of-writer}
use Rattle.kpn_laws.proofs.Transitions.{took_read, put_write}
use Rattle.kpn_laws.proofs.Runs.{run_induction}

module _ (kinds : Family) (net : Network) where
  -- the tokens put on c are those that its writer put
  pub put_on_deeds : (S : State) (E : List Entry) (M : State) → Run kinds net S E M → (c : ℕ) → put_on E c ≡ puts (deeds E (channel_of net c).writer) c
  put_on_deeds S = run_induction kinds net (λ H _. (c : ℕ) → put_on H c ≡ puts (deeds H (channel_of net c).writer) c) S (λ c. refl) (λ H M e N before ih s. step H M e N ih s)
    where
      same :
          (H : List Entry) (e : Entry) (c : ℕ) → put_on (e ∷ []) c ≡ []
          → puts (deeds (H ++ e ∷ []) (channel_of net c).writer) c ≡ puts (deeds H (channel_of net c).writer) c
          → put_on H c ≡ puts (deeds H (channel_of net c).writer) c → put_on (H ++ e ∷ []) c ≡ puts (deeds (H ++ e ∷ []) (channel_of net c).writer) c
      same H e c none kept ih = put_on-append H (e ∷ []) c ∙ ap (λ l. put_on H c ++ l) none ∙ append-nil (put_on H c) ∙ ih ∙ sym kept

      step :
          (H : List Entry) (M : State) (e : Entry) (N : State) → ((c : ℕ) → put_on H c ≡ puts (deeds H (channel_of net c).writer) c)
          → Transition kinds net M e N → (c : ℕ) → put_on (H ++ e ∷ []) c ≡ puts (deeds (H ++ e ∷ []) (channel_of net c).writer) c
      step H M (Grew b to) N ih s c = same H (Grew b to) c refl (ap (λ l. puts l c) (deeds_push_grew H b to (channel_of net c).writer)) (ih c)
      step H M (Did p Stopped) N ih s c = same H (Did p Stopped) c refl (puts_push_none H p (channel_of net c).writer Stopped c refl) (ih c)
      step H M (Did p (Took b t)) N ih s c = same H (Did p (Took b t)) c refl (puts_push_none H p (channel_of net c).writer (Took b t) c refl) (ih c)
      step H M (Did p (Put b t)) N ih s c =
          let r = put_write kinds net M p b t s.answer.act s.is_deed in
          ⊎_elim
          (λ (e : b ≡ c).
          let writer : (channel_of net c).writer ≡ p = ap (λ x. (channel_of net x).writer) (sym e) ∙ (out_of-writer net p r.0 b r.2).1 in
          let one : put_on (Did p (Put b t) ∷ []) c ≡ puts (Put b t ∷ []) c = refl in
          put_on-append H (Did p (Put b t) ∷ []) c ∙ ap (λ l. l ++ puts (Put b t ∷ []) c) (ih c) ∙ ap (λ x. puts (deeds H x) c ++ puts (Put b t ∷ []) c) writer
          ∙ sym (puts_push_same H p (Put b t) c) ∙ ap (λ x. puts (deeds (H ++ Did p (Put b t) ∷ []) x) c) (sym writer))
          (λ (ne : b ≡ c → ⊥).
          let none = puts_other b c t (ne_eqb b c ne) in
          same H (Did p (Put b t)) c none (puts_push_none H p (channel_of net c).writer (Put b t) c none) (ih c))
          (cases_eq b c)

  -- the tokens taken from c are those that its reader took
  pub taken_deeds : (S : State) (E : List Entry) (M : State) → Run kinds net S E M → (c : ℕ) → taken E c ≡ took (deeds E (channel_of net c).reader) c
  taken_deeds S = run_induction kinds net (λ H _. (c : ℕ) → taken H c ≡ took (deeds H (channel_of net c).reader) c) S (λ c. refl) (λ H M e N before ih s. step H M e N ih s)
    where
      same :
          (H : List Entry) (e : Entry) (c : ℕ) → taken (e ∷ []) c ≡ []
          → took (deeds (H ++ e ∷ []) (channel_of net c).reader) c ≡ took (deeds H (channel_of net c).reader) c
          → taken H c ≡ took (deeds H (channel_of net c).reader) c → taken (H ++ e ∷ []) c ≡ took (deeds (H ++ e ∷ []) (channel_of net c).reader) c
      same H e c none kept ih = taken-append H (e ∷ []) c ∙ ap (λ l. taken H c ++ l) none ∙ append-nil (taken H c) ∙ ih ∙ sym kept

      step :
          (H : List Entry) (M : State) (e : Entry) (N : State) → ((c : ℕ) → taken H c ≡ took (deeds H (channel_of net c).reader) c)
          → Transition kinds net M e N → (c : ℕ) → taken (H ++ e ∷ []) c ≡ took (deeds (H ++ e ∷ []) (channel_of net c).reader) c
      step H M (Grew b to) N ih s c = same H (Grew b to) c refl (ap (λ l. took l c) (deeds_push_grew H b to (channel_of net c).reader)) (ih c)
      step H M (Did p Stopped) N ih s c = same H (Did p Stopped) c refl (took_push_none H p (channel_of net c).reader Stopped c refl) (ih c)
      step H M (Did p (Put b t)) N ih s c = same H (Did p (Put b t)) c refl (took_push_none H p (channel_of net c).reader (Put b t) c refl) (ih c)
      step H M (Did p (Took b t)) N ih s c =
          let r = took_read kinds net M p b t s.answer.act s.is_deed in
          ⊎_elim
          (λ (e : b ≡ c).
          let reader : (channel_of net c).reader ≡ p = ap (λ x. (channel_of net x).reader) (sym e) ∙ (in_of-reader net p r.0 b r.2).1 in
          taken-append H (Did p (Took b t) ∷ []) c ∙ ap (λ l. l ++ took (Took b t ∷ []) c) (ih c) ∙ ap (λ x. took (deeds H x) c ++ took (Took b t ∷ []) c) reader
          ∙ sym (took_push_same H p (Took b t) c) ∙ ap (λ x. took (deeds (H ++ Did p (Took b t) ∷ []) x) c) (sym reader))
          (λ (ne : b ≡ c → ⊥).
          let none = took_other b c t (ne_eqb b c ne) in
          same H (Did p (Took b t)) c none (took_push_none H p (channel_of net c).reader (Took b t) c none) (ih c))
          (cases_eq b c)
