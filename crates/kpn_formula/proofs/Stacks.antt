-- Stacks that grow downwards in an array that ends with zeros.
use Rattle.std.proofs.Common.{◌≡◌, ◌∙◌, inl, inr, ℕ, zero, suc, ◌+◌, ◌-◌, ◌<◌, min, List, [], ◌∷◌, length, drop, take, set, replicate, refl, sym, ap, unsigned_abs, arith}
use Rattle.std.proofs.lemmas.List.{drop-set, get_or-drop, get_or-take, get_or-set_other}
use Rattle.kpn_standard.specs.Locals.{at}
use Rattle.kpn_formula.specs.declared.instruction.Instruction.{Instruction}
use Rattle.kpn_formula.specs.declared.instruction.Instruction.TheVariants.{End, Push, Times, Shift, Not, Abs, Choose, Apply, Load, Store}
use Rattle.kpn_formula.specs.declared.instruction.Operation.{Operation}
use Rattle.kpn_formula.specs.Operations.{applied}
use Rattle.kpn_signals.specs.Words.{signed}
use Rattle.kpn_signals.specs.Arithmetic.{product, right_shift}
use Rattle.kpn_formula.specs.Programs.{Working, instead, executed, chosen, negated, last, run}
use Rattle.kpn_formula.specs.Running.{AreZeros, IsSame, working}
use Rattle.kpn_formula.proofs.Held.{split}

take_set : (n : ℕ) (xs : List ℕ) (i y : ℕ) → take n (set xs i y) ≡ set (take n xs) i y
take_set zero xs i y = refl
take_set (suc n) [] i y = refl
take_set (suc n) (x ∷ xs) zero y = refl
take_set (suc n) (x ∷ xs) (suc i) y = ap (λ l. x ∷ l) (take_set n xs i y)

pub zeros_at : (n k : ℕ) → at (replicate n 0) k ≡ 0
zeros_at zero k = refl
zeros_at (suc n) zero = refl
zeros_at (suc n) (suc k) = zeros_at n k

-- zeros stay where nothing is set
pub zeros_stay : (n : ℕ) (words : List ℕ) (place word : ℕ) → place < n → AreZeros n words → AreZeros n (set words place word)
zeros_stay n words place word below zeros k past = get_or-set_other words place k word 0 (λ same. absurd (omega (arith, same))) ∙ zeros k past

-- behind one word that was taken
module _ (n : ℕ) (words : List ℕ) (top rest : ℕ) (zeros : AreZeros n words) (is : rest ≡ min (top + 1) n) where
  behind_one : (k : ℕ) → at words (rest + k) ≡ at words (top + (k + 1))
  behind_one k =
      elim (split (top + 1) n) [
        | inl less ↦ ap (λ j. at words j) (omega (arith, is))
        | inr past ↦ zeros (rest + k) (omega (arith, is)) ∙ sym (zeros (top + (k + 1)) (omega arith))
      ]

  pub popped : (k : ℕ) → at (drop rest words) k ≡ at (drop top words) (k + 1)
  popped k = get_or-drop rest words k 0 ∙ behind_one k ∙ sym (get_or-drop top words (k + 1) 0)

here : (words : List ℕ) (top : ℕ) → at (drop top words) 0 ≡ at words top
here words top = get_or-drop top words 0 0 ∙ ap (λ j. at words j) (omega arith)

below : (xs : List ℕ) (n k : ℕ) → at (drop n xs) k ≡ at xs (k + n)
below xs n k = get_or-drop n xs k 0 ∙ ap (λ j. at xs j) (omega arith)

-- instructions that take words
module _ (n : ℕ) (words values : List ℕ) (top v first rest : ℕ) (zeros : AreZeros n words) (taken : first ≡ at words top) (behind : rest ≡ min (top + 1) n) where
  pub applied_same : (op : Operation) (word : ℕ) → word ≡ applied op first v → IsSame (executed (Apply op) (working words top values v)) (working words rest values word)
  applied_same op word is = record { values = refl; stack = stack }
    where
      stack : (k : ℕ) → last (executed (Apply op) (working words top values v)) k ≡ last (working words rest values word) k
      stack zero = ap (λ x. applied op x v) (here words top ∙ sym taken) ∙ sym is
      stack (suc k) = below (drop top words) 1 k ∙ sym (popped n words top rest zeros behind k)

  pub stored_same : (k place : ℕ) (after : List ℕ) → k ≡ place → after ≡ set values k v → IsSame (executed (Store place) (working words top values v)) (working words rest after first)
  stored_same k place after at_place is = record { values = vals; stack = stack }
    where
      vals : set (take 6 values) place v ≡ take 6 after
      vals = sym (ap (take 6) is ∙ ap (λ j. take 6 (set values j v)) at_place ∙ take_set 6 values place v)

      stack : (k : ℕ) → at (drop top words) k ≡ at (first ∷ drop rest words) k
      stack zero = here words top ∙ sym taken
      stack (suc k) = ap (λ j. at (drop top words) j) (omega arith) ∙ sym (popped n words top rest zeros behind k)

  pub chosen_same : (condition last_rest word : ℕ) → condition ≡ at words rest → last_rest ≡ min (rest + 1) n → word ≡ chosen condition first v → IsSame (executed Choose (working words top values v)) (working words last_rest values word)
  chosen_same condition last_rest word found behind_both is = record { values = refl; stack = stack }
    where
      second : at (drop top words) 1 ≡ condition
      second = sym (popped n words top rest zeros behind 0) ∙ here words rest ∙ sym found

      stack : (k : ℕ) → last (executed Choose (working words top values v)) k ≡ last (working words last_rest values word) k
      stack zero = ap (λ x. chosen x (at (drop top words) 0) v) second ∙ ap (λ x. chosen condition x v) (here words top ∙ sym taken) ∙ sym is
      stack (suc k) =
          below (drop top words) 2 k
          ∙ ap (λ j. at (drop top words) j) (omega arith)
          ∙ sym (popped n words rest last_rest zeros behind_both k ∙ popped n words top rest zeros behind (k + 1))

-- a word that is pushed
pub pushed_same : (words values more : List ℕ) (top v place word pushed : ℕ) → top < length words → 0 < top → place ≡ top - 1 → more ≡ set words (top - 1) v → pushed ≡ word → IsSame (executed (Push word) (working words top values v)) (working more place values pushed)
pushed_same words values more top v place word pushed within some before is pushes = record { values = refl; stack = stack }
  where
    under : drop place more ≡ v ∷ drop top words
    under = ap (drop place) (is ∙ ap (λ n. set words n v) (sym before)) ∙ drop-set words place v (omega (arith, before, within, some)) ∙ ap (λ n. v ∷ drop n words) (omega (arith, before, some))

    stack : (k : ℕ) → last (executed (Push word) (working words top values v)) k ≡ last (working more place values pushed) k
    stack zero = sym pushes
    stack (suc k) = below (v ∷ drop top words) 0 k ∙ ap (λ j. at (v ∷ drop top words) j) (omega arith) ∙ ap (λ (l : List ℕ). at l k) (sym under)

-- a value among the first six
pub loaded : (values : List ℕ) (k place word : ℕ) → k ≡ place → place < 6 → word ≡ at values k → word ≡ at (take 6 values) place
loaded values k place word same below is = is ∙ ap (λ j. at values j) same ∙ sym (get_or-take 6 values place 0 below)

-- workspaces that are the same stay so
put_same : (n x y : ℕ) (w v : Working) → IsSame w v → x ≡ y → IsSame (instead n x w) (instead n y v)
put_same n x y w v is words = record { values = is.values; stack = stack }
  where
    stack : (k : ℕ) → last (instead n x w) k ≡ last (instead n y v) k
    stack zero = words
    stack (suc k) = get_or-drop n w.stack k 0 ∙ is.stack (n + k) ∙ sym (get_or-drop n v.stack k 0)

pub same_after : (i : Instruction) (w v : Working) → IsSame w v → IsSame (executed i w) (executed i v)
same_after End w v is = is
same_after (Push x) w v is = put_same 0 x x w v is refl
same_after (Times m) w v is = put_same 1 _ _ w v is (ap (λ x. product x m) (is.stack 0))
same_after (Shift n) w v is = put_same 1 _ _ w v is (ap (λ x. right_shift n x) (is.stack 0))
same_after Not w v is = put_same 1 _ _ w v is (ap (λ x. negated x) (is.stack 0))
same_after Abs w v is = put_same 1 _ _ w v is (ap (λ x. unsigned_abs (signed x)) (is.stack 0))
same_after Choose w v is =
    put_same 3 _ _ w v is (ap (λ x. chosen x (last w 1) (last w 0)) (is.stack 2) ∙ ap (λ x. chosen (last v 2) x (last w 0)) (is.stack 1) ∙ ap (λ x. chosen (last v 2) (last v 1) x) (is.stack 0))
same_after (Apply op) w v is = put_same 2 _ _ w v is (ap (λ x. applied op x (last w 0)) (is.stack 1) ∙ ap (λ x. applied op (last v 1) x) (is.stack 0))
same_after (Load k) w v is = put_same 0 _ _ w v is (ap (λ (l : List ℕ). at l k) is.values)
same_after (Store k) w v is =
    record {
      values = ap (λ (l : List ℕ). set l k (last w 0)) is.values ∙ ap (λ x. set v.values k x) (is.stack 0);
      stack = λ j. get_or-drop 1 w.stack j 0 ∙ is.stack (1 + j) ∙ sym (get_or-drop 1 v.stack j 0);
    }

pub run_same : (is : List Instruction) (w v : Working) → IsSame w v → (run is w).values ≡ (run is v).values
run_same [] w v same = same.values
run_same (i ∷ is) w v same = run_same is (executed i w) (executed i v) (same_after i w v same)
