-- One deed, and the start: tokens keep their channels' sorts, and processes stay admitted.
use Rattle.std.proofs.Common.{◌≡◌, ◌≤◌, ⊎_elim, List, [], ◌∷◌, ◌++◌, length, refl, sym, ap, ◌∙◌, arith, ℕ, ◌<◌, Some, get_or, Option, None, drop, subst, suc, zero, map}
use Rattle.std.proofs.lemmas.Bool.{cases_lt, cases_eq}
use Rattle.std.proofs.lemmas.List.{get_or_past}
use Rattle.std.proofs.lemmas.Option.{same_Some}
use Rattle.std.specs.List.{AllByRecursion}
use Rattle.kpn_model.specs.declared.token.Token.{Token}
use Rattle.kpn_model.specs.declared.kinds.Answer.{Answer}
use Rattle.kpn_model.specs.declared.kinds.Card.{Card}
use Rattle.kpn_model.specs.declared.kinds.Signature.{Signature}
use Rattle.kpn_model.specs.declared.history.Deed.{Deed}
use Rattle.kpn_model.specs.declared.history.Deed.TheVariants.{Took, Put, Stopped}
use Rattle.kpn_model.specs.declared.history.Status.{Status}
use Rattle.kpn_model.specs.declared.history.Status.TheVariants.{Done, Live}
use Rattle.kpn_model.specs.declared.parts.Process.{Process}
use Rattle.kpn_model.specs.declared.parts.Channel.{Channel}
use Rattle.kpn_model.specs.Network.{Network, Family, no_channel, no_process, channel_of, card_of, in_of, out_of, Admits}
use Rattle.kpn_model.specs.Lawful.{sort_of, Fits, read_by, in_sort, out_sort, NamesPort, LeadsOn}
use Rattle.kpn_model.specs.Semantics.{State, status, tokens, with_status, answered, wants, IsDeed, after_deed, start}
use Rattle.kpn_model.specs.Valid.{IsValid, IsOfSort, IsWellTyped}
use Rattle.kpn_laws.proofs.States.{in_of-reader, out_of-writer, in_of-input, out_of-out, holds_within, tokens_set_same, tokens_set_other}
use Rattle.kpn_laws.proofs.Transitions.{after, live_within, status_after_same, status_after_other, took_read, put_write}
use Rattle.kpn_laws.proofs.Kept.{fresh_start}

-- what holds of all of a list and of one more element holds of all of the longer list
all_push : {X : Type 0} (P : X → Type 0) (xs : List X) (x : X) → AllByRecursion P xs → P x → AllByRecursion P (xs ++ x ∷ [])
all_push P [] x h p = (p, tt)
all_push P (y ∷ ys) x h p = (h.0, all_push P ys x h.1 p)

-- a process that wants something is live, and this is what it answers
pub live_of : (kinds : Family) (net : Network) (p : ℕ) (s : Status) (a : Answer) → answered kinds net p s ≡ Some a → (local : List ℕ) × ((last : Option Token) × (s ≡ Live local last) × (kinds.answer (card_of net p) local last ≡ a))
live_of kinds net p (Live local last) a w = (local, (last, refl, same_Some _ _ w))
live_of kinds net p Done a w = cc

module _ (signature : Card → Option Signature) (admits : Admits) (kinds : Family) (net : Network) (valid : IsValid signature net) where
  -- all tokens are such as c may hold
  abbrev AreOf : ℕ → List Token → Type 0
  AreOf c ts = AllByRecursion (IsOfSort (channel_of net c).sort) ts

  -- a reader's port has its channel's sort
  reader_sort : (p k c : ℕ) → in_of net p k ≡ Some c → in_sort signature (card_of net p) k ≡ Some (channel_of net c).sort
  reader_sort p k c e =
      let r = in_of-reader net p k c e in
      subst (λ x. in_sort signature (card_of net x) k ≡ Some (channel_of net c).sort) r.1
      (subst (λ x. in_sort signature (card_of net (channel_of net c).reader) x ≡ Some (channel_of net c).sort) (in_of-input net p k c e) (valid.ends c no_channel r.0).input)

  -- a writer's port has its channel's sort
  writer_sort : (p k c : ℕ) → out_of net p k ≡ Some c → out_sort signature (card_of net p) k ≡ Some (channel_of net c).sort
  writer_sort p k c e =
      let r = out_of-writer net p k c e in
      subst (λ x. out_sort signature (card_of net x) k ≡ Some (channel_of net c).sort) r.1
      (subst (λ x. out_sort signature (card_of net (channel_of net c).writer) x ≡ Some (channel_of net c).sort) (out_of-out net p k c e) (valid.ends c no_channel r.0).out)

  module _ (M : State) (well_typed : IsWellTyped admits net M) (p : ℕ) (a : Answer) (w : wants kinds net M p ≡ Some a) (names : NamesPort signature (card_of net p) a.act) where
    -- after a deed the tokens of each channel still have its sort
    tokens_did : (d : Deed) → IsDeed kinds net M p a.act d → length M.channels ≡ length net.channels → (c : ℕ) → AreOf c (tokens (after_deed kinds net M p a.next d) c)
    tokens_did Stopped is many c = well_typed.tokens c
    tokens_did (Took b t) is many c =
        let r = took_read kinds net M p b t a.act is in
        let M1 = with_status M p (Live a.next (Some t)) in
        let N = after_deed kinds net M p a.next (Took b t) in
        ⊎_elim
        (λ (e : c ≡ b).
        let left : tokens N c ≡ r.3.0 = ap (λ x. tokens N x) e ∙ tokens_set_same M1 b _ _ (holds_within M b t r.3.0 r.3.1) ∙ ap (λ l. drop 1 l) r.3.1 in
        let was : AreOf c (t ∷ r.3.0) = subst (λ l. AreOf c l) (ap (λ x. tokens M x) e ∙ r.3.1) (well_typed.tokens c) in
        subst (λ l. AreOf c l) (sym left) was.1)
        (λ ne. subst (λ l. AreOf c l) (sym (tokens_set_other M1 b c _ _ ne)) (well_typed.tokens c))
        (cases_eq c b)
    tokens_did (Put b t) is many c =
        let r = put_write kinds net M p b t a.act is in
        let at = out_of-writer net p r.0 b r.2 in
        let within : b < length M.channels = omega (arith, at.0) in
        let M1 = with_status M p (Live a.next None) in
        let N = after_deed kinds net M p a.next (Put b t) in
        ⊎_elim
        (λ (e : c ≡ b).
        let port = subst (λ x. NamesPort signature (card_of net p) x) r.1 names in
        let sort : sort_of t ≡ (channel_of net c).sort = same_Some _ _ (sym port.2 ∙ writer_sort p r.0 b r.2) ∙ ap (λ x. (channel_of net x).sort) (sym e) in
        let left : tokens N c ≡ tokens M c ++ t ∷ [] = ap (λ x. tokens N x) e ∙ tokens_set_same M1 b _ _ within ∙ ap (λ x. tokens M x ++ t ∷ []) (sym e) in
        subst (λ l. AreOf c l) (sym left) (all_push (IsOfSort (channel_of net c).sort) (tokens M c) t (well_typed.tokens c) (sort, port.1)))
        (λ ne. subst (λ l. AreOf c l) (sym (tokens_set_other M1 b c _ _ ne)) (well_typed.tokens c))
        (cases_eq c b)

    -- the state after the deed is admitted, if the answer leads on with the token that was read
    local_did : (d : Deed) → IsDeed kinds net M p a.act d → LeadsOn signature admits (card_of net p) a (read_by d) → (local : List ℕ) (last : Option Token) → after (Some a) d ≡ Live local last → admits (card_of net p) local last
    local_did Stopped is leads local last e = cc
    local_did (Took b t) is leads local last e =
        let r = took_read kinds net M p b t a.act is in
        let on : in_sort signature (card_of net p) r.0 ≡ Some (sort_of t) → Fits t → admits (card_of net p) a.next (Some t) = subst (λ x. LeadsOn signature admits (card_of net p) (record { next = a.next; act = x }) t) r.1 leads in
        let was : AreOf b (t ∷ r.3.0) = subst (λ l. AreOf b l) r.3.1 (well_typed.tokens b) in
        let port : in_sort signature (card_of net p) r.0 ≡ Some (sort_of t) = reader_sort p r.0 b r.2 ∙ ap (λ s. Some s) (sym was.0.0) in
        let x : a.next ≡ local = cc in
        let y : Some t ≡ last = cc in
        subst (λ o. admits (card_of net p) local o) y (subst (λ l. admits (card_of net p) l (Some t)) x (on port was.0.1))
    local_did (Put b t) is leads local last e =
        let r = put_write kinds net M p b t a.act is in
        let on : admits (card_of net p) a.next None = subst (λ x. LeadsOn signature admits (card_of net p) (record { next = a.next; act = x }) (read_by (Put b t))) r.1 leads in
        let x : a.next ≡ local = cc in
        let y : None ≡ last = cc in
        subst (λ o. admits (card_of net p) local o) y (subst (λ l. admits (card_of net p) l None) x on)

    -- a deed leaves the state well-typed, if the laws hold of the answer that it comes from
    pub sorted_deed : (d : Deed) → IsDeed kinds net M p a.act d → LeadsOn signature admits (card_of net p) a (read_by d) → length M.channels ≡ length net.channels → IsWellTyped admits net (after_deed kinds net M p a.next d)
    sorted_deed d is leads many =
        record {
          tokens = tokens_did d is many;
          locals = λ q local last e. ⊎_elim
              (λ (x : q ≡ p).
              let here : after (Some a) d ≡ Live local last = sym (status_after_same kinds net M p a d (live_within kinds net M p a w)) ∙ ap (λ y. status (after_deed kinds net M p a.next d) y) (sym x) ∙ e in
              subst (λ y. admits (card_of net y) local last) (sym x) (local_did d is leads local last here))
              (λ ne. well_typed.locals q local last (sym (status_after_other kinds net M p q a.next d ne) ∙ e))
              (cases_eq q p);
        }

  -- a process that is live at the start is there, with its card's start
  start_local : (ps : List Process) (p : ℕ) (local : List ℕ) (last : Option Token) → get_or (map (λ (x : Process). Live (kinds.start x.card) None) ps) p Done ≡ Live local last → (p < length ps) × (kinds.start (get_or ps p no_process).card ≡ local) × (None ≡ last)
  start_local [] p local last e = cc
  start_local (x ∷ ps) zero local last e = (omega arith, cc, cc)
  start_local (x ∷ ps) (suc p) local last e = let r = start_local ps p local last e in (omega arith, r.1, r.2)

  -- the start tokens have their channel's sort; a number that is no channel's has none
  start_tokens : (c : ℕ) → AreOf c (channel_of net c).tokens
  start_tokens c =
      ⊎_elim (λ within. valid.start_tokens c no_channel within)
      (λ (past : length net.channels ≤ c). subst (λ (l : Channel). AllByRecursion (IsOfSort l.sort) l.tokens) (sym (get_or_past net.channels c no_channel past)) tt)
      (cases_lt c (length net.channels))

  -- the start is well-typed, if each card admits its start
  pub sorted_start : ((p : ℕ) → p < length net.processes → admits (card_of net p) (kinds.start (card_of net p)) None) → IsWellTyped admits net (start kinds net)
  sorted_start starts =
      record {
        tokens = λ c. subst (λ l. AreOf c l) (sym ((fresh_start kinds net).tokens_are c)) (start_tokens c);
        locals = λ p local last e.
            let r = start_local net.processes p local last e in
            subst (λ o. admits (card_of net p) local o) r.2 (subst (λ l. admits (card_of net p) l None) r.1 (starts p r.0));
      }
