-- Event by event, what is dry in a flow stays so.
use Rattle.std.proofs.Common.{◌≡◌, ◌≢◌, ◌<◌, ⊎_elim, ℕ, Bool, true, false, List, [], ◌∷◌, ◌++◌, length, get_or, Some, None, refl, sym, ap, ◌∙◌, subst, ne_eqb, cond, drop}
use Rattle.std.proofs.lemmas.Bool.{cases_lt, cases_eq}
use Rattle.std.proofs.lemmas.List.{set_past}
use Rattle.kpn_model.specs.declared.token.Token.{Token}
use Rattle.kpn_model.specs.declared.kinds.Act.TheVariants.{Read}
use Rattle.kpn_model.specs.declared.kinds.Answer.{Answer}
use Rattle.kpn_model.specs.declared.history.Deed.{Deed}
use Rattle.kpn_model.specs.declared.history.Deed.TheVariants.{Took, Put, Stopped}
use Rattle.kpn_model.specs.declared.history.Entry.TheVariants.{Did, Grew}
use Rattle.kpn_model.specs.declared.history.Status.TheVariants.{Done, Live}
use Rattle.kpn_model.specs.Network.{Family, Network, channel_of, in_of}
use Rattle.kpn_model.specs.Semantics.{Held, State, nothing_held, status, tokens, capacity, answered, wants, with_status, with_channel, after_deed, IsDeed, Does}
use Rattle.kpn_model.specs.History.{deeds, put_on}
use Rattle.kpn_laws.proofs.States.{out_of-writer, tokens_set_same, tokens_set_other}
use Rattle.kpn_laws.proofs.Transitions.{done_wants_none, put_write, status_after_other, took_read}
use Rattle.kpn_flow.specs.Events.{Event, Went, Fed, Drained, Flows, Happens, entries_of}
use Rattle.kpn_flow.specs.Flows.{is_among}
use Rattle.kpn_flow.specs.Pauses.{NoneCanHelp}
use Rattle.kpn_flow.specs.Preloaded.{IsAtEnds}
use Rattle.kpn_dry.specs.Dry.{IsDry, stopped, waits}
use Rattle.kpn_flow_verdict.specs.FlowDry.{CompleteStaysInFlow, DryStaysDryInFlow}

-- a channel that holds a token is not empty
not_empty : (ts rest : List Token) (t : Token) → ts ≡ t ∷ rest → ts ≡ [] → ⊥
not_empty ts rest t some none = cc

true_false : (b : Bool) → b ≡ true → b ≡ false → ⊥
true_false b yes_is no_is = cc

same_answer : (x y : Answer) → Some x ≡ Some y → x ≡ y
same_answer x y h = cc

same_channel : (x y : ℕ) → Some x ≡ Some y → x ≡ y
same_channel x y h = cc

module _ (kinds : Family) (net : Network) (ins outs : ℕ → Bool) where
  -- dry, and on the way no process waits for a token from outside
  data IsApart (M : State) : ℕ → Type 0 where
    has_stopped : {p : ℕ} → status M p ≡ Done → IsApart M p
    waits_apart : {p : ℕ} (answer : Answer) (port c : ℕ) → wants kinds net M p ≡ Some answer → answer.act ≡ Read port → in_of net p port ≡ Some c → tokens M c ≡ [] → ins c ≡ false
        → IsApart M (channel_of net c).writer → IsApart M p

  dry_of : (M : State) (p : ℕ) → IsApart M p → IsDry kinds net M p
  dry_of M p (has_stopped done) = stopped done
  dry_of M p (waits_apart answer port c wanted act at empty apart dry) = waits answer port c wanted act at empty (dry_of M (channel_of net c).writer dry)

  -- a read of an empty channel comes to no deed
  no_read : (M : State) (p port c : ℕ) (d : Deed) → in_of net p port ≡ Some c → tokens M c ≡ [] → IsDeed kinds net M p (Read port) d → ⊥
  no_read M p port c (Took b t) at empty h =
      let same : c ≡ b = same_channel c b (sym at ∙ h.0) in
      not_empty (tokens M c) h.1.0 t (ap (λ x. tokens M x) same ∙ h.1.1) empty
  no_read M p port c (Put b t) at empty h = absurd h
  no_read M p port c Stopped at empty h = absurd h

  -- so a dry process does none
  does_none : (M : State) (p : ℕ) → IsApart M p → (d : Deed) (N : State) → Does kinds net M p d N → ⊥
  does_none M p (has_stopped done) d N s = done_wants_none kinds net p (status M p) s.answer done s.wanted
  does_none M p (waits_apart answer port c wanted act at empty apart dry) d N s =
      let same : s.answer ≡ answer = same_answer s.answer answer (sym s.wanted ∙ wanted) in
      no_read M p port c d at empty (subst (λ a. IsDeed kinds net M p a d) (ap (λ (x : Answer). x.act) same ∙ act) s.is_deed)

  not_itself : (M : State) (p q : ℕ) → IsApart M p → (d : Deed) (N : State) → Does kinds net M q d N → p ≢ q
  not_itself M p q dry d N s same = does_none M p dry d N (subst (λ x. Does kinds net M x d N) (sym same) s)

  -- what a deed of another process than its writer leaves in an empty channel
  empty_after : (M : State) (q c : ℕ) (a : Answer) (d : Deed) → IsDeed kinds net M q a.act d → (channel_of net c).writer ≢ q → tokens M c ≡ [] → tokens (after_deed kinds net M q a.next d) c ≡ []
  empty_after M q c a Stopped h other empty = empty
  empty_after M q c a (Took b t) h other empty =
      let r = took_read kinds net M q b t a.act h in
      ⊎_elim
      (λ (e : c ≡ b). absurd (not_empty (tokens M c) r.3.0 t (ap (λ x. tokens M x) e ∙ r.3.1) empty))
      (λ ne. tokens_set_other (with_status M q (Live a.next (Some t))) b c (drop 1 (tokens M b)) (capacity M b) ne ∙ empty)
      (cases_eq c b)
  empty_after M q c a (Put b t) h other empty =
      let r = put_write kinds net M q b t a.act h in
      ⊎_elim
      (λ (e : c ≡ b). absurd (other (ap (λ x. (channel_of net x).writer) e ∙ (out_of-writer net q r.0 b r.2).1)))
      (λ ne. tokens_set_other (with_status M q (Live a.next None)) b c (tokens M b ++ t ∷ []) (capacity M b) ne ∙ empty)
      (cases_eq c b)

  -- a growth leaves an empty channel empty
  empty_grown : (M : State) (b to c : ℕ) → tokens M c ≡ [] → tokens (with_channel M b (tokens M b) to) c ≡ []
  empty_grown M b to c empty =
      ⊎_elim
      (λ (e : c ≡ b). ⊎_elim
      (λ (h : b < length M.channels). ap (λ x. tokens (with_channel M b (tokens M b) to) x) e ∙ tokens_set_same M b (tokens M b) to h ∙ ap (λ x. tokens M x) (sym e) ∙ empty)
      (λ past. ap (λ (l : List Held). (get_or l c nothing_held).tokens) (set_past M.channels b (record { tokens = tokens M b; capacity = to }) past) ∙ empty)
      (cases_lt b (length M.channels)))
      (λ ne. tokens_set_other M b c (tokens M b) to ne ∙ empty)
      (cases_eq c b)

  abbrev IsAtEnd : Event → Type 0
  IsAtEnd (Went e) = Unit {0}
  IsAtEnd (Fed c t) = ins c ≡ true
  IsAtEnd (Drained c t) = outs c ≡ true

  first_at_end : (x : Event) (xs : List Event) → IsAtEnds ins outs (x ∷ xs) → IsAtEnd x × IsAtEnds ins outs xs
  first_at_end (Went e) xs h = (tt, h)
  first_at_end (Fed c t) xs h = h
  first_at_end (Drained c t) xs h = h

  -- an event leaves a dry process as it was
  status_kept : (M : State) (x : Event) (N : State) → Happens kinds net M x N → (p : ℕ) → IsApart M p → status N p ≡ status M p
  status_kept M (Went (Did q d)) N s p dry = ap (λ x. status x p) s.leaves ∙ status_after_other kinds net M q p s.answer.next d (not_itself M p q dry d N s)
  status_kept M (Went (Grew b to)) N s p dry = ap (λ x. status x p) s.leaves
  status_kept M (Fed b t) N h p dry = ap (λ x. status x p) h.2
  status_kept M (Drained b t) N h p dry = ap (λ x. status x p) h.1

  -- and an empty channel that only a dry process writes
  empty_kept : (M : State) (x : Event) (N : State) → Happens kinds net M x N → IsAtEnd x → (c : ℕ) → ins c ≡ false → IsApart M (channel_of net c).writer → tokens M c ≡ [] → tokens N c ≡ []
  empty_kept M (Went (Did q d)) N s end c apart dry empty = ap (λ x. tokens x c) s.leaves ∙ empty_after M q c s.answer d s.is_deed (not_itself M (channel_of net c).writer q dry d N s) empty
  empty_kept M (Went (Grew b to)) N s end c apart dry empty = ap (λ x. tokens x c) s.leaves ∙ empty_grown M b to c empty
  empty_kept M (Fed b t) N h end c apart dry empty =
      ap (λ x. tokens x c) h.2
      ∙ tokens_set_other M b c (tokens M b ++ t ∷ []) (capacity M b) (λ (e : c ≡ b). true_false (ins c) (ap ins e ∙ end) apart) ∙ empty
  empty_kept M (Drained b t) N h end c apart dry empty =
      ap (λ x. tokens x c) h.1
      ∙ tokens_set_other M b c (drop 1 (tokens M b)) (capacity M b) (λ (e : c ≡ b). not_empty (tokens M c) h.0.0 t (ap (λ x. tokens M x) e ∙ h.0.1) empty) ∙ empty

  -- so what is dry stays so
  apart_kept : (M : State) (x : Event) (N : State) → Happens kinds net M x N → IsAtEnd x → (p : ℕ) → IsApart M p → IsApart N p
  apart_kept M x N h end p (has_stopped done) = has_stopped (status_kept M x N h p (has_stopped done) ∙ done)
  apart_kept M x N h end p (waits_apart answer port c wanted act at empty apart dry) =
      let here : IsApart M p = waits_apart answer port c wanted act at empty apart dry in
      waits_apart answer port c (ap (λ s. answered kinds net p s) (status_kept M x N h p here) ∙ wanted) act at (empty_kept M x N h end c apart dry empty) apart
      (apart_kept M x N h end (channel_of net c).writer dry)

  -- an event is none of its deeds
  no_deed : (M : State) (x : Event) (N : State) → Happens kinds net M x N → (xs : List Event) (p : ℕ) → IsApart M p → deeds (entries_of (x ∷ xs)) p ≡ deeds (entries_of xs) p
  no_deed M (Went (Did q d)) N s xs p dry = ap (λ b. cond b (d ∷ []) [] ++ deeds (entries_of xs) p) (ne_eqb q p (λ same. not_itself M p q dry d N s (sym same)))
  no_deed M (Went (Grew b to)) N s xs p dry = refl
  no_deed M (Fed b t) N h xs p dry = refl
  no_deed M (Drained b t) N h xs p dry = refl

  -- and puts nothing on a channel that it writes
  no_put : (M : State) (x : Event) (N : State) → Happens kinds net M x N → (xs : List Event) (c : ℕ) → IsApart M (channel_of net c).writer → put_on (entries_of (x ∷ xs)) c ≡ put_on (entries_of xs) c
  no_put M (Went (Did q (Put b t))) N s xs c dry =
      let r = put_write kinds net M q b t s.answer.act s.is_deed in
      ap (λ x. cond x (t ∷ []) [] ++ put_on (entries_of xs) c)
      (ne_eqb b c (λ (same : b ≡ c). not_itself M (channel_of net c).writer q dry (Put b t) N s (ap (λ x. (channel_of net x).writer) (sym same) ∙ (out_of-writer net q r.0 b r.2).1)))
  no_put M (Went (Did q (Took b t))) N s xs c dry = refl
  no_put M (Went (Did q Stopped)) N s xs c dry = refl
  no_put M (Went (Grew b to)) N s xs c dry = refl
  no_put M (Fed b t) N h xs c dry = refl
  no_put M (Drained b t) N h xs c dry = refl

  all_kept : (xs : List Event) (M N : State) → Flows kinds net M xs N → IsAtEnds ins outs xs → (p : ℕ) → IsApart M p → IsApart N p × (deeds (entries_of xs) p ≡ [])
  all_kept [] M N h ends p dry = (subst (λ x. IsApart x p) (sym h) dry, refl)
  all_kept (x ∷ xs) M N h ends p dry =
      let first = first_at_end x xs ends in
      let rest = all_kept xs h.0 N h.2 first.1 p (apart_kept M x h.0 h.1 first.0 p dry) in
      (rest.0, no_deed M x h.0 h.1 xs p dry ∙ rest.1)

  none_put : (xs : List Event) (M N : State) → Flows kinds net M xs N → IsAtEnds ins outs xs → (c : ℕ) → IsApart M (channel_of net c).writer → put_on (entries_of xs) c ≡ []
  none_put [] M N h ends c dry = refl
  none_put (x ∷ xs) M N h ends c dry =
      let first = first_at_end x xs ends in
      no_put M x h.0 h.1 xs c dry ∙ none_put xs h.0 N h.2 first.1 c (apart_kept M x h.0 h.1 first.0 (channel_of net c).writer dry)

-- what is dry where none waits for a token from outside is apart
apart_of : (kinds : Family) (net : Network) (unended outputs : List ℕ) (M : State) → NoneCanHelp kinds net unended outputs M → (p : ℕ) → IsDry kinds net M p
    → IsApart kinds net (is_among unended) (is_among outputs) M p
apart_of kinds net unended outputs M none p (stopped done) = has_stopped done
apart_of kinds net unended outputs M none p (waits answer port c wanted act at empty dry) =
    waits_apart answer port c wanted act at empty (by_test (is_among unended c) refl) (apart_of kinds net unended outputs M none (channel_of net c).writer dry)
  where
    by_test : (b : Bool) → is_among unended c ≡ b → is_among unended c ≡ false
    by_test false same = same
    by_test true same =
        absurd (none.not_starved c (record { input = same; reader = p; starving = record { answer = answer; wanted = wanted; port = port; act = act; at = at; empty = empty } }))

pub dry_stays_dry : (kinds : Family) → DryStaysDryInFlow kinds
dry_stays_dry kinds net unended outputs M N xs p none on dry =
    let kept = all_kept kinds net (is_among unended) (is_among outputs) xs M N on.flows on.at_ends p (apart_of kinds net unended outputs M none p dry) in
    (dry_of kinds net (is_among unended) (is_among outputs) N p kept.0, kept.1)

pub complete_stays : (kinds : Family) → CompleteStaysInFlow kinds
complete_stays kinds net unended outputs M N xs c none on dry =
    none_put kinds net (is_among unended) (is_among outputs) xs M N on.flows on.at_ends c (apart_of kinds net unended outputs M none (channel_of net c).writer dry)
