-- What a process writes that is fed with certain tokens it writes alone in a network, and no more.
use Rattle.std.proofs.Common.{◌≡◌, ◌≤◌, ◌<◌, ◌⊎◌, ◌+◌, inl, inr, ⊎_elim, ℕ, zero, suc, Bool, true, false, List, [], ◌∷◌, ◌++◌, length, refl, sym, ap, ◌∙◌, subst, arith, append_assoc, append-nil, Option, Some, None, is_some, get_or, set, nat_lt, if◌then◌else◌, slice_get, ne_eqb, eq-eqb, lt-ltb, ltb-true, get_or-set_same, get_or-set_other}
use Rattle.std.proofs.lemmas.Bool.{cases_lt, cases_eq}
use Rattle.std.proofs.lemmas.List.{get_or_past, get_or-map, length-replicate}
use Rattle.std.proofs.lemmas.Option.{same_Some}
use Rattle.kpn_model.specs.declared.token.Token.{Token}
use Rattle.kpn_model.specs.declared.parts.Process.{Process}
use Rattle.kpn_model.specs.declared.kinds.Act.{Act}
use Rattle.kpn_model.specs.declared.kinds.Act.TheVariants.{Read, Write, Stop}
use Rattle.kpn_model.specs.declared.kinds.Answer.{Answer}
use Rattle.kpn_model.specs.declared.history.Deed.{Deed}
use Rattle.kpn_model.specs.declared.history.Deed.TheVariants.{Took, Put, Stopped}
use Rattle.kpn_model.specs.declared.history.Status.{Status}
use Rattle.kpn_model.specs.declared.history.Status.TheVariants.{Live, Done}
use Rattle.kpn_model.specs.Network.{Family, Network, no_process, card_of, channel_of, in_of, out_of}
use Rattle.kpn_model.specs.Semantics.{status, start}
use Rattle.kpn_model.specs.History.{IsPrefixOf}
use Rattle.kpn_laws.specs.Alone.{Streams, BeginsWith, puts, took, after_answer, IsDeedAlone, GoesOnAlone}
use Rattle.kpn_laws.proofs.Views.{took-append, took_one, took_other}
use Rattle.kpn_laws.proofs.States.{in_of-input, out_of-out}
use Rattle.kpn_laws.proofs.Sequences.{begins_get, get_at, goes_on_with}
use Rattle.kpn_laws.proofs.Alone.{alone_took, alone_put}
use Rattle.kpn_streams.specs.Fed.{nothing, put_first, after_read, after_act, written_in}
use Rattle.kpn_streams.specs.Solving.{BeginsAt, EndsAt, FedIsAlone, FedIsAll}
use Rattle.kpn_streams.proofs.Fed.{length-put_first}
use Rattle.kpn_streams.proofs.SolvingPorts.{some_there}

-- nothing is on any output
nothing_get : (n k : ℕ) → get_or (nothing n) k [] ≡ []
nothing_get zero k = refl
nothing_get (suc n) zero = refl
nothing_get (suc n) (suc k) = nothing_get n k

-- a token more comes before the tokens of its output
put_first_same : (t : Token) (k : ℕ) (ls : List (List Token)) → k < length ls → get_or (put_first t k ls) k [] ≡ t ∷ get_or ls k []
put_first_same t k [] h = absurd (omega arith)
put_first_same t zero (l ∷ ls) h = refl
put_first_same t (suc k) (l ∷ ls) h = put_first_same t k ls (omega arith)

-- and the others stay
put_first_other : (t : Token) (k j : ℕ) (ls : List (List Token)) → (j ≡ k → ⊥) → get_or (put_first t k ls) j [] ≡ get_or ls j []
put_first_other t k j [] h = refl
put_first_other t zero zero (l ∷ ls) h = absurd (h refl)
put_first_other t zero (suc j) (l ∷ ls) h = refl
put_first_other t (suc k) zero (l ∷ ls) h = refl
put_first_other t (suc k) (suc j) (l ∷ ls) h = put_first_other t k j ls (λ e. h (ap suc e))

-- what a process writes in an act is a list for each output, if what it writes after it is
after_act-length :
    (go : Status → List (List Token) → List (List Token)) (outputs : ℕ) → ((s : Status) (ins : List (List Token)) → length (go s ins) ≡ outputs)
    → (next : List ℕ) (ins : List (List Token)) (act : Act) → length (after_act go outputs next ins act) ≡ outputs
after_act-length go outputs long next ins Stop = length-replicate outputs []
after_act-length go outputs long next ins (Read j) = of_read (get_or ins j [])
  where
    of_read : (ts : List Token) → length (after_read go outputs next ins j ts) ≡ outputs
    of_read [] = length-replicate outputs []
    of_read (t ∷ ts) = long (Live next (Some t)) (set ins j ts)
after_act-length go outputs long next ins (Write j t) = of_write (nat_lt j outputs)
  where
    of_write : (b : Bool) → length (if b then put_first t j (go (Live next None) ins) else nothing outputs) ≡ outputs
    of_write true = length-put_first t j (go (Live next None) ins) ∙ long (Live next None) ins
    of_write false = length-replicate outputs []

module _ (kinds : Family) (net : Network) (U : Streams) (p : ℕ) where
  -- what p writes in n acts is a list for each output
  written-length : (outputs n : ℕ) (s : Status) (ins : List (List Token)) → length (written_in kinds (card_of net p) outputs n s ins) ≡ outputs
  written-length outputs zero s ins = length-replicate outputs []
  written-length outputs (suc n) Done ins = length-replicate outputs []
  written-length outputs (suc n) (Live local last) ins =
      let a = kinds.answer (card_of net p) local last in
      after_act-length (written_in kinds (card_of net p) outputs n) outputs (λ s l. written-length outputs n s l) a.next ins a.act

  -- after the take of the first token of input j what was taken at an input, and then what is left there, is what it was
  left_after_take :
      (before : List Deed) (ins : List (List Token)) (j c : ℕ) (t : Token) (ts : List Token) → in_of net p j ≡ Some c → get_or ins j [] ≡ t ∷ ts
      → (k b : ℕ) → in_of net p k ≡ Some b → took (before ++ Took c t ∷ []) b ++ get_or (set ins j ts) k [] ≡ took before b ++ get_or ins k []
  left_after_take before ins j c t ts at has k b at' =
      ⊎_elim
      (λ (e : k ≡ j).
      let cb : c ≡ b = same_Some c b (sym at ∙ ap (λ x. in_of net p x) (sym e) ∙ at') in
      let within : j < length ins = ⊎_elim (λ h. h) (λ past. let none = get_or_past ins j [] past in absurd cc) (cases_lt j (length ins)) in
      let taken : took (before ++ Took c t ∷ []) b ≡ took before b ++ t ∷ [] =
      took-append before (Took c t ∷ []) b ∙ ap (λ l. took before b ++ l) (ap (λ x. took (Took x t ∷ []) b) cb ∙ took_one b t) in
      let left : get_or (set ins j ts) k [] ≡ ts = ap (λ x. get_or (set ins j ts) x []) e ∙ get_or-set_same ins j ts [] within in
      let was : t ∷ ts ≡ get_or ins k [] = sym has ∙ ap (λ x. get_or ins x []) (sym e) in
      ap (λ l. l ++ get_or (set ins j ts) k []) taken ∙ ap (λ l. (took before b ++ t ∷ []) ++ l) left ∙ append_assoc (took before b) (t ∷ []) ts
      ∙ ap (λ l. took before b ++ l) was)
      (λ (ne : k ≡ j → ⊥).
      let apart : c ≡ b → ⊥ = λ (e : c ≡ b). ne (sym (in_of-input net p k b at') ∙ ap (λ x. (channel_of net x).input) (sym e) ∙ in_of-input net p j c at) in
      let taken : took (before ++ Took c t ∷ []) b ≡ took before b =
      took-append before (Took c t ∷ []) b ∙ ap (λ l. took before b ++ l) (took_other c b t (ne_eqb c b apart)) ∙ append-nil (took before b) in
      ap (λ l. l ++ get_or (set ins j ts) k []) taken ∙ ap (λ l. took before b ++ l) (get_or-set_other ins j k ts [] ne))
      (cases_eq k j)

  -- a put takes nothing
  took_after_put : (before : List Deed) (c : ℕ) (t : Token) (b : ℕ) → took (before ++ Put c t ∷ []) b ≡ took before b
  took_after_put before c t b = took-append before (Put c t ∷ []) b ∙ append-nil (took before b)

  -- what a put adds on a channel it adds at the output that leads there, and nothing elsewhere
  put_adds :
      (ds : List Deed) (ls : List (List Token)) (j c : ℕ) (t : Token) → out_of net p j ≡ Some c → j < length ls → (k b : ℕ) → out_of net p k ≡ Some b
      → ((puts (Put c t ∷ ds) b ≡ t ∷ puts ds b) × (get_or (put_first t j ls) k [] ≡ t ∷ get_or ls k []))
      ⊎ ((puts (Put c t ∷ ds) b ≡ puts ds b) × (get_or (put_first t j ls) k [] ≡ get_or ls k []))
  put_adds ds ls j c t at within k b at' =
      ⊎_elim
      (λ (e : k ≡ j).
      let cb : c ≡ b = same_Some c b (sym at ∙ ap (λ x. out_of net p x) (sym e) ∙ at') in
      inl (
        ap (λ x. (if x then t ∷ [] else []) ++ puts ds b) (eq-eqb c b cb),
        ap (λ x. get_or (put_first t j ls) x []) e ∙ put_first_same t j ls within ∙ ap (λ x. t ∷ get_or ls x []) (sym e),
      ))
      (λ (ne : k ≡ j → ⊥).
      let apart : c ≡ b → ⊥ = λ (e : c ≡ b). ne (sym (out_of-out net p k b at') ∙ ap (λ x. (channel_of net x).out) (sym e) ∙ out_of-out net p j c at) in
      inr (ap (λ x. (if x then t ∷ [] else []) ++ puts ds b) (ne_eqb c b apart), put_first_other t j k ls ne))
      (cases_eq k j)

  -- the streams begin with what was taken, and then what is left
  abbrev HasLeft : List Deed → List (List Token) → Type 0
  HasLeft before ins = (k c : ℕ) → in_of net p k ≡ Some c → BeginsWith (U c) (took before c ++ get_or ins k [])

  -- nothing is at an input without a channel
  abbrev NoneElse : List (List Token) → Type 0
  NoneElse ins = (k : ℕ) → in_of net p k ≡ None → get_or ins k [] ≡ []

  -- p alone goes on in such a way that it writes these
  abbrev WritesAlone : Status → List Deed → List (List Token) → Type 0
  WritesAlone s before outs =
      (ds : List Deed) × GoesOnAlone kinds net U p s before ds × ((k c : ℕ) → out_of net p k ≡ Some c → puts ds c ≡ get_or outs k [])

  -- it may write nothing
  writes_nothing : (s : Status) (before : List Deed) (outputs : ℕ) → WritesAlone s before (nothing outputs)
  writes_nothing s before outputs = ([], tt, λ k c at. sym (nothing_get outputs k))

  -- what it writes in an act and then, if it does so after that act
  alone_in_act :
      (outputs : ℕ) → ((k : ℕ) → k < outputs → (c : ℕ) × (out_of net p k ≡ Some c)) → (go : Status → List (List Token) → List (List Token))
      → ((s : Status) (ins : List (List Token)) → length (go s ins) ≡ outputs)
      → ((s : Status) (before : List Deed) (ins : List (List Token)) → HasLeft before ins → NoneElse ins → WritesAlone s before (go s ins))
      → (local : List ℕ) (last : Option Token) (before : List Deed) (ins : List (List Token)) → HasLeft before ins → NoneElse ins
      → (act : Act) → (kinds.answer (card_of net p) local last).act ≡ act
      → WritesAlone (Live local last) before (after_act go outputs (kinds.answer (card_of net p) local last).next ins act)
  alone_in_act outputs has go long ih local last before ins b o Stop e = writes_nothing (Live local last) before outputs
  alone_in_act outputs has go long ih local last before ins b o (Read j) e = of_read (get_or ins j []) refl (in_of net p j) refl
    where
      of_read :
          (ts : List Token) → get_or ins j [] ≡ ts → (at : Option ℕ) → in_of net p j ≡ at
          → WritesAlone (Live local last) before (after_read go outputs (kinds.answer (card_of net p) local last).next ins j ts)
      of_read [] h at q = writes_nothing (Live local last) before outputs
      of_read (t ∷ ts) h None q = let none = o j q in absurd cc
      of_read (t ∷ ts) h (Some c) q =
          let a = kinds.answer (card_of net p) local last in
          let token : U c (length (took before c)) ≡ Some t =
          begins_get (U c) (took before c ++ t ∷ ts) (length (took before c)) t (subst (λ l. BeginsWith (U c) (took before c ++ l)) h (b j c q)) (get_at (took before c) ts t) in
          let same = left_after_take before ins j c t ts q h in
          let r = ih (Live a.next (Some t)) (before ++ Took c t ∷ []) (set ins j ts)
          (λ k d at. subst (λ l. BeginsWith (U d) l) (sym (same k d at)) (b k d at))
          (λ k none. get_or-set_other ins j k ts [] (λ (e : k ≡ j). let x : None ≡ Some c = sym none ∙ ap (λ y. in_of net p y) e ∙ q in cc) ∙ o k none) in
          (Took c t ∷ r.0, (a, refl, subst (λ x. IsDeedAlone kinds net U p before x (Took c t)) (sym e) (q, token), r.1), r.2)
  alone_in_act outputs has go long ih local last before ins b o (Write j t) e = of_write (nat_lt j outputs) refl
    where
      of_write :
          (room : Bool) → nat_lt j outputs ≡ room
          → WritesAlone (Live local last) before
          (if room then put_first t j (go (Live (kinds.answer (card_of net p) local last).next None) ins) else nothing outputs)
      of_write false h = writes_nothing (Live local last) before outputs
      of_write true h =
          let a = kinds.answer (card_of net p) local last in
          let w = has j (ltb-true j outputs h) in
          let r = ih (Live a.next None) (before ++ Put w.0 t ∷ []) ins
          (λ k d at. subst (λ l. BeginsWith (U d) (l ++ get_or ins k [])) (sym (took_after_put before w.0 t d)) (b k d at)) o in
          let within : j < length (go (Live a.next None) ins) = subst (λ m. j < m) (sym (long (Live a.next None) ins)) (ltb-true j outputs h) in (
            Put w.0 t ∷ r.0,
            (a, refl, subst (λ x. IsDeedAlone kinds net U p before x (Put w.0 t)) (sym e) (w.1, refl), r.1),
            λ k d at.
                ⊎_elim
                (λ (x : (puts (Put w.0 t ∷ r.0) d ≡ t ∷ puts r.0 d) × (get_or (put_first t j (go (Live a.next None) ins)) k [] ≡ t ∷ get_or (go (Live a.next None) ins) k [])).
                x.0 ∙ ap (λ l. t ∷ l) (r.2 k d at) ∙ sym x.1)
                (λ (x : (puts (Put w.0 t ∷ r.0) d ≡ puts r.0 d) × (get_or (put_first t j (go (Live a.next None) ins)) k [] ≡ get_or (go (Live a.next None) ins) k [])).
                x.0 ∙ r.2 k d at ∙ sym x.1)
                (put_adds r.0 (go (Live a.next None) ins) j w.0 t w.1 within k d at),
          )

  -- what it writes in at most n acts
  alone_in :
      (outputs : ℕ) → ((k : ℕ) → k < outputs → (c : ℕ) × (out_of net p k ≡ Some c)) → (n : ℕ) (s : Status) (before : List Deed) (ins : List (List Token))
      → HasLeft before ins → NoneElse ins → WritesAlone s before (written_in kinds (card_of net p) outputs n s ins)
  alone_in outputs has zero s before ins b o = writes_nothing s before outputs
  alone_in outputs has (suc n) Done before ins b o = writes_nothing Done before outputs
  alone_in outputs has (suc n) (Live local last) before ins b o =
      alone_in_act outputs has (written_in kinds (card_of net p) outputs n) (λ s l. written-length outputs n s l)
      (λ s x l h i. alone_in outputs has n s x l h i) local last before ins b o (kinds.answer (card_of net p) local last).act refl

  -- the streams have no more than what was taken, and then what is left
  abbrev HasNoMore : List Deed → List (List Token) → Type 0
  HasNoMore before ins = (k c n : ℕ) (t : Token) → in_of net p k ≡ Some c → U c n ≡ Some t → slice_get (took before c ++ get_or ins k []) n ≡ Some t

  -- a process that has stopped puts nothing
  stopped_puts : (before ds : List Deed) (c : ℕ) → GoesOnAlone kinds net U p Done before ds → puts ds c ≡ []
  stopped_puts before [] c g = refl
  stopped_puts before (d ∷ ds) c g = let none : None ≡ Some g.0 = g.1 in absurd cc

  -- what it puts by a deed and then is no more than what is written in that act and then
  no_more_in_act :
      (outputs : ℕ) → ((k c : ℕ) → out_of net p k ≡ Some c → k < outputs) → (go : Status → List (List Token) → List (List Token))
      → ((s : Status) (ins : List (List Token)) → length (go s ins) ≡ outputs) → (ds : List Deed)
      → ((s : Status) (before : List Deed) (ins : List (List Token)) → HasNoMore before ins → GoesOnAlone kinds net U p s before ds
      → (k c : ℕ) → out_of net p k ≡ Some c → IsPrefixOf (puts ds c) (get_or (go s ins) k []))
      → (a : Answer) (before : List Deed) (ins : List (List Token)) → HasNoMore before ins → (d : Deed) → IsDeedAlone kinds net U p before a.act d
      → GoesOnAlone kinds net U p (after_answer a d) (before ++ d ∷ []) ds
      → (k c : ℕ) → out_of net p k ≡ Some c → IsPrefixOf (puts (d ∷ ds) c) (get_or (after_act go outputs a.next ins a.act) k [])
  no_more_in_act outputs few go long ds ih a before ins b Stopped h g k c at =
      let none = stopped_puts (before ++ Stopped ∷ []) ds c g in
      (get_or (after_act go outputs a.next ins a.act) k [], ap (λ l. l ++ get_or (after_act go outputs a.next ins a.act) k []) none)
  no_more_in_act outputs few go long ds ih a before ins b (Took x t) h g k c at =
      let r = alone_took kinds net U p before x t a.act h in
      let m = goes_on_with (took before x) (get_or ins r.0 []) t (b r.0 x (length (took before x)) t r.2 r.3) in
      let step : after_act go outputs a.next ins a.act ≡ go (Live a.next (Some t)) (set ins r.0 m.0) =
      ap (λ y. after_act go outputs a.next ins y) r.1 ∙ ap (λ l. after_read go outputs a.next ins r.0 l) m.1 in
      let same = left_after_take before ins r.0 x t m.0 r.2 m.1 in
      let later = ih (Live a.next (Some t)) (before ++ Took x t ∷ []) (set ins r.0 m.0)
      (λ i d n u q e. ap (λ l. slice_get l n) (same i d q) ∙ b i d n u q e) g k c at in
      subst (λ l. IsPrefixOf (puts ds c) (get_or l k [])) (sym step) later
  no_more_in_act outputs few go long ds ih a before ins b (Put x t) h g k c at =
      let r = alone_put kinds net U p before x t a.act h in
      let within = few r.0 x r.2 in
      let G = go (Live a.next None) ins in
      let step : after_act go outputs a.next ins a.act ≡ put_first t r.0 G =
      ap (λ y. after_act go outputs a.next ins y) r.1 ∙ ap (λ room. if room then put_first t r.0 G else nothing outputs) (lt-ltb r.0 outputs within) in
      let later : IsPrefixOf (puts ds c) (get_or G k []) = ih (Live a.next None) (before ++ Put x t ∷ []) ins
      (λ i d n u q e. ap (λ l. slice_get (l ++ get_or ins i []) n) (took_after_put before x t d) ∙ b i d n u q e) g k c at in
      subst (λ l. IsPrefixOf (puts (Put x t ∷ ds) c) (get_or l k [])) (sym step)
      (⊎_elim
      (λ (y : (puts (Put x t ∷ ds) c ≡ t ∷ puts ds c) × (get_or (put_first t r.0 G) k [] ≡ t ∷ get_or G k [])).
      (later.0, ap (λ l. l ++ later.0) y.0 ∙ ap (λ l. t ∷ l) later.1 ∙ sym y.1))
      (λ (y : (puts (Put x t ∷ ds) c ≡ puts ds c) × (get_or (put_first t r.0 G) k [] ≡ get_or G k [])).
      (later.0, ap (λ l. l ++ later.0) y.0 ∙ later.1 ∙ sym y.1))
      (put_adds ds G r.0 x t r.2 (subst (λ m. r.0 < m) (sym (long (Live a.next None) ins)) within) k c at))

  -- what it puts is no more than what is written in as many acts
  no_more_in :
      (outputs : ℕ) → ((k c : ℕ) → out_of net p k ≡ Some c → k < outputs) → (ds : List Deed) (n : ℕ) (s : Status) (before : List Deed) (ins : List (List Token))
      → length ds ≤ n → HasNoMore before ins → GoesOnAlone kinds net U p s before ds
      → (k c : ℕ) → out_of net p k ≡ Some c → IsPrefixOf (puts ds c) (get_or (written_in kinds (card_of net p) outputs n s ins) k [])
  no_more_in outputs few [] n s before ins short b g k c at = (get_or (written_in kinds (card_of net p) outputs n s ins) k [], refl)
  no_more_in outputs few (d ∷ ds) zero s before ins short b g k c at = absurd (omega arith)
  no_more_in outputs few (d ∷ ds) (suc n) Done before ins short b g k c at = let none : None ≡ Some g.0 = g.1 in absurd cc
  no_more_in outputs few (d ∷ ds) (suc n) (Live local last) before ins short b g k c at =
      let a = kinds.answer (card_of net p) local last in
      let same : a ≡ g.0 = same_Some a g.0 g.1 in
      no_more_in_act outputs few (written_in kinds (card_of net p) outputs n) (λ s l. written-length outputs n s l) ds
      (λ s x l h i. no_more_in outputs few ds n s x l (omega arith) h i)
      a before ins b d (subst (λ (x : Answer). IsDeedAlone kinds net U p before x.act d) (sym same) g.2)
      (subst (λ (x : Answer). GoesOnAlone kinds net U p (after_answer x d) (before ++ d ∷ []) ds) (sym same) g.3) k c at

  -- where a process begins
  begins_live : p < length net.processes → status (start kinds net) p ≡ Live (kinds.start (card_of net p)) None
  begins_live within = get_or-map (λ (x : Process). Live (kinds.start x.card) None) net.processes p no_process Done within

-- what a process writes that is fed, it writes alone
pub fed_is_alone : (kinds : Family) → FedIsAlone kinds
fed_is_alone kinds net U p ins outs within ports writes begins =
    let s = Live (kinds.start (card_of net p)) None in
    let has : (k : ℕ) → k < length outs → (c : ℕ) × (out_of net p k ≡ Some c) = λ k h. some_there (out_of net p k) ((ports k).1 h) in
    let left : (k c : ℕ) → in_of net p k ≡ Some c → BeginsWith (U c) (get_or ins k []) = λ k c at. subst (λ o. BeginsAt U o (get_or ins k [])) at (begins k) in
    let none : (k : ℕ) → in_of net p k ≡ None → get_or ins k [] ≡ [] = λ k at. subst (λ o. BeginsAt U o (get_or ins k [])) at (begins k) in
    let r = alone_in kinds net U p (length outs) has writes.enough s [] ins left none in (
      r.0,
      subst (λ x. GoesOnAlone kinds net U p x [] r.0) (sym (begins_live kinds net U p within)) r.1,
      λ k c at. r.2 k c at ∙ ap (λ l. get_or l k []) (writes.written writes.enough (omega arith)),
    )

-- and no more
pub fed_is_all : (kinds : Family) → FedIsAll kinds
fed_is_all kinds net U p ins outs within ports writes ends ds g k c at =
    let s = Live (kinds.start (card_of net p)) None in
    let few : (k c : ℕ) → out_of net p k ≡ Some c → k < length outs = λ k c at. (ports k).0 (ap is_some at) in
    let more : (k c n : ℕ) (t : Token) → in_of net p k ≡ Some c → U c n ≡ Some t → slice_get (get_or ins k []) n ≡ Some t =
    λ k c n t at e. subst (λ o. EndsAt U o (get_or ins k [])) at (ends k) n t e in
    let n = writes.enough + length ds in
    let front = no_more_in kinds net U p (length outs) few ds n s [] ins (omega arith) more
    (subst (λ x. GoesOnAlone kinds net U p x [] ds) (begins_live kinds net U p within) g) k c at in
    subst (λ l. IsPrefixOf (puts ds c) (get_or l k [])) (writes.written n (omega arith)) front
