-- Effects that are tried, one after another.
use Rattle.std.proofs.Common.{◌≡◌, ◌≢◌, ◌||◌, ◌&&◌, not, Bool, true, false, List, [], ◌∷◌, ◌++◌, Option, Result, Ok, Err, OnOk, OnErr, is_ok, if◌then◌else◌, inl, inr, refl, sym, ap, ap₂, subst, ◌∙◌}
use Rattle.std.specs.List.{AllZip}
use Rattle.kpn_front.specs.declared.status.ExitStatus.{ExitStatus}
use Rattle.kpn_front.specs.declared.status.ExitStatus.TheVariants.{WriteFailed}
use Rattle.hox_files.specs.Files.{Effect, GoOn, not_said, not_written, said, wrote}
use Rattle.hox_execute.specs.Reports.{IsTried, Tries, Writes, failure_of, has_failure, is_failure}
use Rattle.hox_execute.proofs.Effects.{nothing, one_after}

pub tries_none : (o : Option (List Effect)) → Tries [] true o o
tries_none o = record { tried = []; each = tt; none_failed = refl; goes_on = nothing o }

fails : (e : Effect) → is_failure (failure_of e) ≡ true
fails (wrote name bytes) = refl
fails (said text) = refl
fails (not_written name) = refl
fails not_said = refl

not_either : (p : Bool) → p ≡ false → true ≡ not (p || false)
not_either false h = refl
not_either true h = cc h

not_both : (p : Bool) → p ≡ true → false ≡ not (p || false)
not_both false h = cc h
not_both true h = refl

-- one effect, by whether it came about
pub tries_one : {X E : Type 0} (e : Effect) (r : Result X E) → is_failure e ≡ false → (a b : Option (List Effect)) → OnOk r (GoOn (e ∷ []) a b) → OnErr r (GoOn (failure_of e ∷ []) a b) → Tries (e ∷ []) (is_ok r) a b
tries_one {X} {E} e (Ok x) real a b done failed = record { tried = e ∷ []; each = (inl refl, tt); none_failed = not_either (is_failure e) real; goes_on = done }
tries_one {X} {E} e (Err y) real a b done failed = record { tried = failure_of e ∷ []; each = (inr refl, tt); none_failed = not_both (is_failure (failure_of e)) (fails e); goes_on = failed }

-- one effect, where it and the answer are known under other names
pub tries_as :
    {X E : Type 0} (e due : Effect) (r : Result X E) (k : Bool) → e ≡ due → k ≡ is_ok r → is_failure e ≡ false → (a b : Option (List Effect)) → OnOk r (GoOn (e ∷ []) a b) → OnErr r (GoOn (failure_of e ∷ []) a b)
    → Tries (due ∷ []) k a b
tries_as {X} {E} e due r k same is real a b done failed = subst (λ d. Tries (d ∷ []) k a b) same (subst (λ j. Tries (e ∷ []) j a b) (sym is) (tries_one e r real a b done failed))

or_after : (p q r : Bool) → (p || (q || r)) ≡ ((p || q) || r)
or_after false q r = refl
or_after true q r = refl

failed_after : (xs ys : List Effect) → has_failure (xs ++ ys) ≡ (has_failure xs || has_failure ys)
failed_after [] ys = refl
failed_after (x ∷ xs) ys = ap (λ b. is_failure x || b) (failed_after xs ys) ∙ or_after (is_failure x) (has_failure xs) (has_failure ys)

not_or : (p q : Bool) → (not p && not q) ≡ not (p || q)
not_or false q = refl
not_or true q = refl

zipped_after : (xs us ys vs : List Effect) → AllZip IsTried xs us → AllZip IsTried ys vs → AllZip IsTried (xs ++ ys) (us ++ vs)
zipped_after [] [] ys vs h i = i
zipped_after [] (u ∷ us) ys vs h i = absurd h
zipped_after (x ∷ xs) [] ys vs h i = absurd h
zipped_after (x ∷ xs) (u ∷ us) ys vs (here, rest) i = (here, zipped_after xs us ys vs rest i)

-- some effects after others
pub tries_after : (xs ys : List Effect) (p q : Bool) (a b c : Option (List Effect)) → Tries xs p a b → Tries ys q b c → Tries (xs ++ ys) (p && q) a c
tries_after xs ys p q a b c first last =
    record {
      tried = first.tried ++ last.tried;
      each = zipped_after xs first.tried ys last.tried first.each last.each;
      none_failed = ap₂ (λ x y. x && y) first.none_failed last.none_failed ∙ not_or (has_failure first.tried) (has_failure last.tried) ∙ ap (λ z. not z) (sym (failed_after first.tried last.tried));
      goes_on = one_after first.tried last.tried a b c first.goes_on last.goes_on;
    }

-- what is tried next is tried whether or not all was done before
pub next_done : (xs ys : List Effect) (p q : Bool) (a b c : Option (List Effect)) → p ≡ true → Tries xs p a b → Tries ys q b c → Tries (xs ++ ys) q a c
next_done xs ys p q a b c done first last = subst (λ k. Tries (xs ++ ys) k a c) (ap (λ k. k && q) done) (tries_after xs ys p q a b c first last)

pub next_failed : (xs ys : List Effect) (p q : Bool) (a b c : Option (List Effect)) → p ≡ false → Tries xs p a b → Tries ys q b c → Tries (xs ++ ys) false a c
next_failed xs ys p q a b c failed first last = subst (λ k. Tries (xs ++ ys) k a c) (ap (λ k. k && q) failed) (tries_after xs ys p q a b c first last)

pub first_done : (e : Effect) (ys : List Effect) (p q : Bool) (a b c : Option (List Effect)) → p ≡ true → Tries (e ∷ []) p a b → Tries ys q b c → Tries (e ∷ ys) q a c
first_done e ys p q a b c done first last = next_done (e ∷ []) ys p q a b c done first last

pub first_failed : (e : Effect) (ys : List Effect) (p q : Bool) (a b c : Option (List Effect)) → p ≡ false → Tries (e ∷ []) p a b → Tries ys q b c → Tries (e ∷ ys) false a c
first_failed e ys p q a b c failed first last = next_failed (e ∷ []) ys p q a b c failed first last

first : (p q : Bool) → (p || q) ≡ false → p ≡ false
first false q h = refl
first true q h = h

later : (p q : Bool) → (p || q) ≡ false → q ≡ false
later false q h = h
later true q h = cc h

-- what is tried without a failure is what is due
due : (effects tried : List Effect) → AllZip IsTried effects tried → has_failure tried ≡ false → tried ≡ effects
due [] [] all none = refl
due [] (t ∷ ts) all none = absurd all
due (e ∷ es) [] all none = absurd all
due (e ∷ es) (t ∷ ts) (inl here, rest) none = ap₂ (λ x xs. x ∷ xs) here (due es ts rest (later (is_failure t) (has_failure ts) none))
due (e ∷ es) (t ∷ ts) (inr here, rest) none = cc (ap is_failure here ∙ fails e, first (is_failure t) (has_failure ts) none)

none_of : (b : Bool) → true ≡ not b → b ≡ false
none_of false h = refl
none_of true h = cc h

module _ (status given : ExitStatus) (effects : List Effect) (before after : Option (List Effect)) where
  done_by : (are_done : Bool) → Tries effects are_done before after → given ≡ (if are_done then status else WriteFailed) → given ≢ WriteFailed → (given ≡ status) × GoOn effects before after
  done_by false tries is unfailed = absurd (unfailed is)
  done_by true tries is unfailed = (is, subst (λ l. GoOn l before after) (due effects tries.tried tries.each (none_of (has_failure tries.tried) tries.none_failed)) tries.goes_on)

  sure_by : (are_done : Bool) → given ≡ (if are_done then status else WriteFailed) → are_done ≡ true → given ≡ status
  sure_by false is done = cc done
  sure_by true is done = is

  -- what is tried is written, with the status that tells whether a write has failed
  pub writes : (steady are_done : Bool) → Tries effects are_done before after → (steady ≡ true → are_done ≡ true) → given ≡ (if are_done then status else WriteFailed) → Writes status effects steady before after given
  writes steady are_done tries sure is = record { are_done = are_done; tries = tries; is = is; done = done_by are_done tries is; sure = λ s. sure_by are_done is (sure s) }
