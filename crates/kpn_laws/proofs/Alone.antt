-- What a process does alone, deed by deed.
use Rattle.std.proofs.Common.{◌≡◌, ⊎_elim, List, [], ◌∷◌, ◌++◌, length, refl, sym, ap, ◌∙◌, append_assoc, append-nil, ℕ, Some, slice_get, subst}
use Rattle.kpn_model.specs.History.{IsPrefixOf}
use Rattle.kpn_model.specs.declared.token.Token.{Token}
use Rattle.kpn_model.specs.declared.history.Deed.{Deed}
use Rattle.kpn_model.specs.declared.history.Deed.TheVariants.{Took, Put, Stopped}
use Rattle.kpn_model.specs.declared.history.Status.{Status}
use Rattle.kpn_model.specs.declared.kinds.Act.{Act}
use Rattle.kpn_model.specs.declared.kinds.Act.TheVariants.{Read, Write, Stop}
use Rattle.kpn_model.specs.declared.kinds.Answer.{Answer}
use Rattle.kpn_model.specs.Network.{Network, channel_of, in_of, out_of, Family}
use Rattle.kpn_model.specs.Semantics.{status, answered, start}
use Rattle.kpn_laws.specs.Alone.{Streams, BeginsWith, puts, took, after_answer, IsDeedAlone, GoesOnAlone, DoesAlone}
use Rattle.kpn_laws.proofs.Lists.{push_split}
use Rattle.kpn_laws.proofs.Views.{took_prefix}
use Rattle.kpn_laws.proofs.Sequences.{begins_get, get_at, goes_on_with}
use Rattle.kpn_laws.proofs.States.{in_of-reader}
use Rattle.kpn_laws.proofs.Transitions.{after}
use Rattle.kpn_laws.proofs.Follows.{replay_push, status_by, wants_by, Follows}

-- the status after an answer and its deed, in both ways of saying it
same_after : (a : Answer) (d : Deed) → after (Some a) d ≡ after_answer a d
same_after a (Took c t) = refl
same_after a (Put c t) = refl
same_after a Stopped = refl

module _ (kinds : Family) (net : Network) where
  -- given the streams T, d is what p alone does after ds
  pub record FollowsAlone (T : Streams) (p : ℕ) (ds : List Deed) (d : Deed) : Type 0 where
    pub answer : Answer
    pub wanted : wants_by kinds net p ds ≡ Some answer
    pub is_deed : IsDeedAlone kinds net T p ds answer.act d

  -- the status after one deed more
  status_more :
      (p : ℕ) (s : Status) (ds : List Deed) (a : Answer) (d : Deed) → s ≡ status_by kinds net p ds → answered kinds net p s ≡ Some a
      → after_answer a d ≡ status_by kinds net p (ds ++ d ∷ [])
  status_more p s ds a d same w =
      sym (same_after a d) ∙ ap (λ o. after o d) (sym w ∙ ap (λ x. answered kinds net p x) same) ∙ sym (replay_push kinds net p (status (start kinds net) p) ds d)

  -- each deed of those that p does alone follows from those before it
  each_deed :
      (T : Streams) (p : ℕ) (s : Status) (before ds : List Deed) → s ≡ status_by kinds net p before → GoesOnAlone kinds net T p s before ds
      → (es : List Deed) (d : Deed) (rest : List Deed) → ds ≡ es ++ d ∷ rest → FollowsAlone T p (before ++ es) d
  each_deed T p s before [] same g [] d rest e = cc
  each_deed T p s before [] same g (y ∷ es) d rest e = cc
  each_deed T p s before (x ∷ ds) same g [] d rest e =
      let here : FollowsAlone T p before x = record { answer = g.0; wanted = ap (λ y. answered kinds net p y) (sym same) ∙ g.1; is_deed = g.2 } in
      let same_deed : x ≡ d = cc in
      subst (λ l. FollowsAlone T p l d) (sym (append-nil before)) (subst (λ y. FollowsAlone T p before y) same_deed here)
  each_deed T p s before (x ∷ ds) same g (y ∷ es) d rest e =
      let same_deed : x ≡ y = cc in
      let tail : ds ≡ es ++ d ∷ rest = cc in
      let later = each_deed T p (after_answer g.0 x) (before ++ x ∷ []) ds (status_more p s before g.0 x same g.1) g.3 es d rest tail in
      subst (λ l. FollowsAlone T p l d) (append_assoc before (x ∷ []) es ∙ ap (λ z. before ++ z ∷ es) same_deed) later

  -- deeds of which each follows from those before it are done alone
  from_each :
      (T : Streams) (p : ℕ) (s : Status) (before ds : List Deed) → s ≡ status_by kinds net p before
      → ((es : List Deed) (d : Deed) (rest : List Deed) → ds ≡ es ++ d ∷ rest → FollowsAlone T p (before ++ es) d) → GoesOnAlone kinds net T p s before ds
  from_each T p s before [] same h = tt
  from_each T p s before (x ∷ ds) same h =
      let here = subst (λ l. FollowsAlone T p l x) (append-nil before) (h [] x ds refl) in
      let w = ap (λ y. answered kinds net p y) same ∙ here.wanted in (
        here.answer,
        w,
        here.is_deed,
        from_each T p (after_answer here.answer x) (before ++ x ∷ []) ds (status_more p s before here.answer x same w)
            (λ es d rest e. subst (λ l. FollowsAlone T p l d) (sym (append_assoc before (x ∷ []) es)) (h (x ∷ es) d rest (ap (λ l. x ∷ l) e))),
      )

  -- each deed that p does alone from its start follows from those before it
  pub alone_follows : (T : Streams) (p : ℕ) (ds : List Deed) → DoesAlone kinds net T p ds → (es : List Deed) (d : Deed) (rest : List Deed) → ds ≡ es ++ d ∷ rest → FollowsAlone T p es d
  alone_follows T p ds g es d rest e = each_deed T p (status (start kinds net) p) [] ds refl g es d rest e

  pub does_alone : (T : Streams) (p : ℕ) (ds : List Deed) → ((es : List Deed) (d : Deed) (rest : List Deed) → ds ≡ es ++ d ∷ rest → FollowsAlone T p es d) → DoesAlone kinds net T p ds
  does_alone T p ds h = from_each T p (status (start kinds net) p) [] ds refl h

  -- p alone does one deed more, if it follows
  pub alone_push : (T : Streams) (p : ℕ) (ds : List Deed) (d : Deed) → DoesAlone kinds net T p ds → FollowsAlone T p ds d → DoesAlone kinds net T p (ds ++ d ∷ [])
  alone_push T p ds d g f =
      does_alone T p (ds ++ d ∷ [])
      (λ es e rest h.
      ⊎_elim
      (λ (m : (ds ≡ es) × (d ≡ e)). subst (λ x. FollowsAlone T p es x) m.1 (subst (λ l. FollowsAlone T p l d) m.0 f))
      (λ (m : (ws : List Deed) × (ds ≡ es ++ e ∷ ws)). alone_follows T p ds g es e m.0 m.1)
      (push_split ds es rest d e h))

  -- a take alone is what a read comes to
  pub alone_took :
      (T : Streams) (p : ℕ) (ds : List Deed) (c : ℕ) (t : Token) (a : Act) → IsDeedAlone kinds net T p ds a (Took c t)
      → (k : ℕ) × (a ≡ Read k) × (in_of net p k ≡ Some c) × (T c (length (took ds c)) ≡ Some t)
  alone_took T p ds c t (Read k) h = (k, refl, h.0, h.1)
  alone_took T p ds c t (Write k w) h = absurd h
  alone_took T p ds c t Stop h = absurd h

  -- a put alone is what a write comes to
  pub alone_put :
      (T : Streams) (p : ℕ) (ds : List Deed) (c : ℕ) (t : Token) (a : Act) → IsDeedAlone kinds net T p ds a (Put c t)
      → (k : ℕ) × (a ≡ Write k t) × (out_of net p k ≡ Some c)
  alone_put T p ds c t (Write k w) h = (k, ap (λ x. Write k x) (sym h.1), h.0)
  alone_put T p ds c t (Read k) h = absurd h
  alone_put T p ds c t Stop h = absurd h

  -- nothing but a stop comes to having stopped
  pub alone_stopped : (T : Streams) (p : ℕ) (ds : List Deed) (a : Act) → IsDeedAlone kinds net T p ds a Stopped → a ≡ Stop
  alone_stopped T p ds Stop h = refl
  alone_stopped T p ds (Read k) h = absurd h
  alone_stopped T p ds (Write k w) h = absurd h

  -- what p does next in a run it does alone for any streams that begin with what was put in the run
  pub run_to_alone :
      (D : ℕ → List Deed) (T : Streams) (p : ℕ) (ds : List Deed) (d : Deed)
      → ((c : ℕ) → BeginsWith (T c) ((channel_of net c).tokens ++ puts (D (channel_of net c).writer) c)) → Follows kinds net D p ds d → FollowsAlone T p ds d
  run_to_alone D T p ds (Took c t) b f =
      let at : T c (length (took ds c)) ≡ Some t =
      begins_get (T c) _ _ t (b c) (ap (λ l. slice_get l (length (took ds c))) f.next ∙ get_at (took ds c) f.rest t) in
      record { answer = f.answer; wanted = f.wanted; is_deed = subst (λ a. IsDeedAlone kinds net T p ds a (Took c t)) (sym f.act) (f.at, at) }
  run_to_alone D T p ds (Put c t) b f =
      record { answer = f.answer; wanted = f.wanted; is_deed = subst (λ a. IsDeedAlone kinds net T p ds a (Put c t)) (sym f.act) (f.at, refl) }
  run_to_alone D T p ds Stopped b f =
      record { answer = f.answer; wanted = f.wanted; is_deed = subst (λ a. IsDeedAlone kinds net T p ds a Stopped) (sym f.act) tt }

  -- what p does next alone it does in a run in which it has done the deeds before, if the token that it takes was put there
  pub alone_to_run :
      (D : ℕ → List Deed) (left : ℕ → List Token)
      → ((c : ℕ) → (channel_of net c).tokens ++ puts (D (channel_of net c).writer) c ≡ took (D (channel_of net c).reader) c ++ left c)
      → (T : Streams) (p : ℕ) (ds : List Deed) (d : Deed) → IsPrefixOf ds (D p)
      → ((c : ℕ) (t : Token) → d ≡ Took c t → slice_get ((channel_of net c).tokens ++ puts (D (channel_of net c).writer) c) (length (took ds c)) ≡ Some t)
      → FollowsAlone T p ds d → Follows kinds net D p ds d
  alone_to_run D left fifo T p ds (Took c t) front there f =
      let r = alone_took T p ds c t f.answer.act f.is_deed in
      let x = took_prefix ds (D p) c front in
      let all : (channel_of net c).tokens ++ puts (D (channel_of net c).writer) c ≡ took ds c ++ (x.0 ++ left c) =
      fifo c ∙ ap (λ q. took (D q) c ++ left c) (in_of-reader net p r.0 c r.2).1 ∙ ap (λ l. l ++ left c) (sym x.1) ∙ append_assoc (took ds c) x.0 (left c) in
      let n = goes_on_with (took ds c) (x.0 ++ left c) t (sym (ap (λ l. slice_get l (length (took ds c))) all) ∙ there c t refl) in
      record { answer = f.answer; wanted = f.wanted; port = r.0; act = r.1; at = r.2; rest = n.0; next = all ∙ ap (λ l. took ds c ++ l) n.1 }
  alone_to_run D left fifo T p ds (Put c t) front there f =
      let r = alone_put T p ds c t f.answer.act f.is_deed in
      record { answer = f.answer; wanted = f.wanted; port = r.0; act = r.1; at = r.2 }
  alone_to_run D left fifo T p ds Stopped front there f =
      record { answer = f.answer; wanted = f.wanted; act = alone_stopped T p ds f.answer.act f.is_deed }
