-- Code that gives states their start values, put together.
use Rattle.std.proofs.Common.{◌≡◌, ◌∙◌, ℕ, suc, ◌+◌, ◌-◌, List, [], ◌∷◌, ◌++◌, length, set, refl, sym, ap, append_assoc, length-append, arith}
use Rattle.std.specs.Prelude.{replicate}
use Rattle.kpn_formula.specs.declared.instruction.Instruction.{Instruction}
use Rattle.kpn_formula.specs.declared.instruction.Instruction.TheVariants.{Store}
use Rattle.kpn_formula.specs.Programs.{run}
use Rattle.hox_formula.specs.Expressions.{Constant}
use Rattle.hox_formula.specs.Fragments.{working, Computes}
use Rattle.hox_formula.specs.Compiling.{Opens}

set_behind : (done zs : List ℕ) (x s j : ℕ) → length done ≡ j → set (done ++ (x ∷ zs)) j s ≡ done ++ (s ∷ zs)
set_behind [] zs x s j is = rw (sym is) refl
set_behind (d ∷ done) zs x s j is = rw (sym is) (ap (λ (ws : List ℕ). d ∷ ws) (set_behind done zs x s (length done) refl))

first_zero : (done ss : List ℕ) (s m : ℕ) → done ++ replicate (length (s ∷ ss) + m) 0 ≡ done ++ (0 ∷ replicate (length ss + m) 0)
first_zero done ss s m = let e : length (s ∷ ss) + m ≡ suc (length ss + m) = omega arith in ap (λ (n : ℕ). done ++ replicate n 0) e

one_more : (done : List ℕ) (s j : ℕ) → length done ≡ j → length (done ++ (s ∷ [])) ≡ j + 1
one_more done s j is = omega (arith, length-append done (s ∷ []), is)

pub opens_none : (code : List Instruction) (j : ℕ) → code ≡ [] → Opens code j []
opens_none code j is = record { runs = λ done m at_j. let e : 0 + m ≡ m = omega arith in ap (λ (c : List Instruction). run c (working (done ++ replicate (0 + m) 0) [])) is ∙ ap (λ (n : ℕ). working (done ++ replicate n 0) []) e }

-- the others, once this one has its value
goes_on : (others : List Instruction) (j s : ℕ) (ss : List ℕ) → Opens others (j + 1) ss → (done : List ℕ) (m : ℕ) → length done ≡ j
    → run others (working (done ++ (s ∷ replicate (length ss + m) 0)) []) ≡ working (done ++ (s ∷ ss ++ replicate m 0)) []
goes_on others j s ss opens done m at_j =
    ap (λ (vs : List ℕ). run others (working vs [])) (sym (append_assoc done (s ∷ []) (replicate (length ss + m) 0)))
    ∙ opens.runs (done ++ (s ∷ [])) m (one_more done s j at_j)
    ∙ ap (λ (vs : List ℕ). working vs []) (append_assoc done (s ∷ []) (ss ++ replicate m 0))

pub opens_zero : (code : List Instruction) (j s : ℕ) (ss : List ℕ) → s ≡ 0 → Opens code (j + 1) ss → Opens code j (s ∷ ss)
opens_zero code j s ss is opens = record {
  runs = λ done m at_j.
      ap (λ (vs : List ℕ). run code (working vs [])) (first_zero done ss s m)
      ∙ goes_on code j 0 ss opens done m at_j
      ∙ ap (λ (x : ℕ). working (done ++ (x ∷ ss ++ replicate m 0)) []) (sym is);
}

pub opens_start : (code xs others : List Instruction) (j s : ℕ) (ss : List ℕ) → code ≡ (xs ++ (Store j ∷ [])) ++ others → Computes xs (Constant s) → Opens others (j + 1) ss → Opens code j (s ∷ ss)
opens_start code xs others j s ss is computes opens = record {
  runs = λ done m at_j.
      ap (λ (c : List Instruction). run c (working (done ++ replicate (length (s ∷ ss) + m) 0) [])) (is ∙ append_assoc xs (Store j ∷ []) others)
      ∙ ap (λ (vs : List ℕ). run (xs ++ (Store j ∷ others)) (working vs [])) (first_zero done ss s m)
      ∙ computes.runs (Store j ∷ others) (done ++ (0 ∷ replicate (length ss + m) 0)) []
      ∙ ap (λ (vs : List ℕ). run others (working vs [])) (set_behind done (replicate (length ss + m) 0) 0 s j at_j)
      ∙ goes_on others j s ss opens done m at_j;
}
