-- A process alone is a continuous function of the streams that it reads.
use Rattle.std.proofs.Common.{◌≡◌, inl, ⊎_elim, List, [], ◌∷◌, ◌++◌, length, refl, sym, ap, ◌∙◌, append-nil, ℕ, Some, subst, ne_eqb}
use Rattle.std.proofs.lemmas.Bool.{cases_eq}
use Rattle.kpn_model.specs.History.{ArePrefixComparable}
use Rattle.kpn_model.specs.declared.history.Deed.{Deed}
use Rattle.kpn_model.specs.declared.history.Deed.TheVariants.{Took, Put, Stopped}
use Rattle.kpn_model.specs.declared.kinds.Answer.{Answer}
use Rattle.kpn_model.specs.Network.{Network, Family}
use Rattle.kpn_laws.specs.Alone.{Streams, BeginsWith, took, IsDeedAlone, DoesAlone, IsFunction, IsContinuous}
use Rattle.kpn_laws.proofs.Lists.{comparable_push}
use Rattle.kpn_laws.proofs.Views.{took-append, took_one, took_other}
use Rattle.kpn_laws.proofs.Sequences.{begins_get, begins_push, get_at, by_first_parts}
use Rattle.kpn_laws.proofs.Alone.{FollowsAlone, alone_follows, does_alone, alone_took, alone_put, alone_stopped}

module _ (kinds : Family) (net : Network) where
  -- what p does next alone is determined by what it has done
  next_alone : (T : Streams) (p : ℕ) (ds : List Deed) (d e : Deed) → FollowsAlone kinds net T p ds d → FollowsAlone kinds net T p ds e → d ≡ e
  next_alone T p ds d e f g =
      let a : f.answer ≡ g.answer = cc in
      same d e f.answer f.is_deed (subst (λ x. IsDeedAlone kinds net T p ds x.act e) (sym a) g.is_deed)
    where
      same : (d e : Deed) (a : Answer) → IsDeedAlone kinds net T p ds a.act d → IsDeedAlone kinds net T p ds a.act e → d ≡ e
      same (Took c t) (Took b u) a x y =
          let r = alone_took kinds net T p ds c t a.act x in
          let s = alone_took kinds net T p ds b u a.act y in
          let k : r.0 ≡ s.0 = cc in
          let cb : c ≡ b = cc in
          let tu : Some t ≡ Some u = sym r.3 ∙ ap (λ z. T z (length (took ds z))) cb ∙ s.3 in
          cc
      same (Took c t) (Put b u) a x y = let r = alone_took kinds net T p ds c t a.act x in let s = alone_put kinds net T p ds b u a.act y in cc
      same (Took c t) Stopped a x y = let r = alone_took kinds net T p ds c t a.act x in let s = alone_stopped kinds net T p ds a.act y in cc
      same (Put c t) (Took b u) a x y = let r = alone_put kinds net T p ds c t a.act x in let s = alone_took kinds net T p ds b u a.act y in cc
      same (Put c t) (Put b u) a x y =
          let r = alone_put kinds net T p ds c t a.act x in
          let s = alone_put kinds net T p ds b u a.act y in
          let k : r.0 ≡ s.0 = cc in
          let tu : t ≡ u = cc in
          let cb : c ≡ b = cc in
          cc
      same (Put c t) Stopped a x y = let r = alone_put kinds net T p ds c t a.act x in let s = alone_stopped kinds net T p ds a.act y in cc
      same Stopped (Took b u) a x y = let r = alone_stopped kinds net T p ds a.act x in let s = alone_took kinds net T p ds b u a.act y in cc
      same Stopped (Put b u) a x y = let r = alone_stopped kinds net T p ds a.act x in let s = alone_put kinds net T p ds b u a.act y in cc
      same Stopped Stopped a x y = refl

  -- what p does alone is in one line
  in_one_line : (T : Streams) (p : ℕ) (ds es : List Deed) → DoesAlone kinds net T p ds → DoesAlone kinds net T p es → ArePrefixComparable ds es
  in_one_line T p ds es g h =
      by_first_parts (λ l. ArePrefixComparable l es) ds (inl (es, refl))
      (λ fs d rest e line. comparable_push fs es d line
      (λ x more same. next_alone T p fs d x (alone_follows kinds net T p ds g fs d rest e) (alone_follows kinds net T p es h fs x more same)))

  -- the streams begin with what p took
  begins_taken : (T : Streams) (p : ℕ) (ds : List Deed) → DoesAlone kinds net T p ds → (c : ℕ) → BeginsWith (T c) (took ds c)
  begins_taken T p ds g c =
      by_first_parts (λ l. BeginsWith (T c) (took l c)) ds tt
      (λ es d rest e b. step es d (alone_follows kinds net T p ds g es d rest e) b)
    where
      kept : (es : List Deed) (d : Deed) → took (d ∷ []) c ≡ [] → BeginsWith (T c) (took es c) → BeginsWith (T c) (took (es ++ d ∷ []) c)
      kept es d none b = subst (λ l. BeginsWith (T c) l) (sym (took-append es (d ∷ []) c ∙ ap (λ l. took es c ++ l) none ∙ append-nil (took es c))) b

      step : (es : List Deed) (d : Deed) → FollowsAlone kinds net T p es d → BeginsWith (T c) (took es c) → BeginsWith (T c) (took (es ++ d ∷ []) c)
      step es (Put b t) f h = kept es (Put b t) refl h
      step es Stopped f h = kept es Stopped refl h
      step es (Took b t) f h =
          let r = alone_took kinds net T p es b t f.answer.act f.is_deed in
          ⊎_elim
          (λ (e : b ≡ c).
          let at : T c (length (took es c)) ≡ Some t = ap (λ z. T z (length (took es z))) (sym e) ∙ r.3 in
          let last : took (Took b t ∷ []) c ≡ t ∷ [] = ap (λ z. took (Took z t ∷ []) c) e ∙ took_one c t in
          subst (λ l. BeginsWith (T c) l) (sym (took-append es (Took b t ∷ []) c ∙ ap (λ l. took es c ++ l) last)) (begins_push (T c) (took es c) t h at))
          (λ (ne : b ≡ c → ⊥). kept es (Took b t) (took_other b c t (ne_eqb b c ne)) h)
          (cases_eq b c)

  -- for other streams that begin with what p took it does the same
  same_alone : (T : Streams) (p : ℕ) (ds : List Deed) → DoesAlone kinds net T p ds → (U : Streams) → ((c : ℕ) → BeginsWith (U c) (took ds c)) → DoesAlone kinds net U p ds
  same_alone T p ds g U b = does_alone kinds net U p ds (λ es d rest e. step es d rest e (alone_follows kinds net T p ds g es d rest e))
    where
      step : (es : List Deed) (d : Deed) (rest : List Deed) → ds ≡ es ++ d ∷ rest → FollowsAlone kinds net T p es d → FollowsAlone kinds net U p es d
      step es (Took c t) rest e f =
          let r = alone_took kinds net T p es c t f.answer.act f.is_deed in
          let all : took ds c ≡ took es c ++ t ∷ took rest c =
          ap (λ l. took l c) e ∙ took-append es (Took c t ∷ rest) c ∙ ap (λ l. took es c ++ l) (took-append (Took c t ∷ []) rest c ∙ ap (λ l. l ++ took rest c) (took_one c t)) in
          let at = begins_get (U c) _ (length (took es c)) t (subst (λ l. BeginsWith (U c) l) all (b c)) (get_at (took es c) (took rest c) t) in
          record { answer = f.answer; wanted = f.wanted; is_deed = subst (λ a. IsDeedAlone kinds net U p es a (Took c t)) (sym r.1) (r.2, at) }
      step es (Put c t) rest e f =
          let r = alone_put kinds net T p es c t f.answer.act f.is_deed in
          record { answer = f.answer; wanted = f.wanted; is_deed = subst (λ a. IsDeedAlone kinds net U p es a (Put c t)) (sym r.1) (r.2, refl) }
      step es Stopped rest e f =
          let r = alone_stopped kinds net T p es f.answer.act f.is_deed in
          record { answer = f.answer; wanted = f.wanted; is_deed = subst (λ a. IsDeedAlone kinds net U p es a Stopped) (sym r) tt }

-- a process is a function of the streams that it reads
pub is_function : (kinds : Family) → IsFunction kinds
is_function kinds net T p ds es g h = in_one_line kinds net T p ds es g h

-- and a continuous one
pub is_continuous : (kinds : Family) → IsContinuous kinds
is_continuous kinds net T p ds g = (begins_taken kinds net T p ds g, same_alone kinds net T p ds g)
