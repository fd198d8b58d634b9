-- Programs that run on.
use Rattle.std.proofs.Common.{◌≡◌, ◌∙◌, ℕ, zero, suc, ◌+◌, ◌-◌, ◌/◌, ◌%◌, ◌^◌, ◌<◌, ◌≤◌, if◌then◌else◌, Bool, true, false, ◌==◌, not, eqb-true, eq-eqb, List, [], ◌∷◌, drop, take, replicate, refl, sym, ap, subst, arith}
use Rattle.std.proofs.Math.Nat.{pow-le-pow_right}
use Rattle.std.proofs.lemmas.Bool.{false≢true}
use Rattle.std.proofs.lemmas.Nat.{pow-add}
use Rattle.std.proofs.lemmas.List.{get_or-drop}
use Rattle.kpn_model.specs.declared.kinds.Card.{Card}
use Rattle.kpn_standard.specs.Locals.{at}
use Rattle.kpn_formula.specs.declared.instruction.Instruction.{Instruction}
use Rattle.kpn_formula.specs.Programs.{Working, executed, run, values_after}
use Rattle.kpn_formula.specs.Cards.{before_end, is_end, instruction, digits, operands}
use Rattle.kpn_formula.specs.Reading.{program_at, HoldsFrom, IsCode, first_three, behind_operands}
use Rattle.kpn_formula.specs.Running.{HasRoom, IsSame, PushesOne, RunsFrom, passed, working}
use Rattle.kpn_formula.proofs.Held.{ends, stands, moved_one, same_instruction, behind_held}
use Rattle.kpn_formula.proofs.Stacks.{run_same, zeros_at}

first_stays : (b : Bool) (i : Instruction) (is : List Instruction) → b ≡ false → (if b then [] else i ∷ is) ≡ i ∷ is
first_stays b i is goes_on = rw goes_on refl

-- from a place on, whose digits a number holds, there is left to run what leads to the same values
pub record IsLeft (card : Card) (n : ℕ) (w : Working) (values : List ℕ) : Type 0 where
  pub place : ℕ
  pub held : HoldsFrom card place n
  pub same : (run (before_end (program_at card place)) w).values ≡ values

module _ (card : Card) (n : ℕ) (w : Working) (values : List ℕ) (left : IsLeft card n w values) where
  -- behind an End nothing is left
  all_run : n % 32 ≡ 0 → w.values ≡ values
  all_run none = ap (λ is. (run is w).values) (sym (ends card left.place n left.held none).before) ∙ left.same

  runs_on : (code : ℕ) → IsCode n code → (next : Working) (rest : ℕ) → IsSame (executed (instruction code (first_three (n / 32))) w) next → rest ≡ behind_operands code (n / 32) → IsLeft card rest next values
  runs_on code found next rest is behind =
      let p = left.place in
      let i = instruction code (drop (p + 1) (digits card)) in
      let st = stands card p n left.held code found in
      let moved : HoldsFrom card (p + 1) (n / 32) = moved_one card p n left.held in
      let q = p + 1 + operands code in
      let step : run (before_end (program_at card p)) w ≡ run (before_end (program_at card q)) (executed (instruction code (first_three (n / 32))) w) =
      ap (λ js. run (before_end js) w) st.is
      ∙ ap (λ js. run js w) (first_stays (is_end i) i (before_end (program_at card q)) st.goes_on)
      ∙ ap (λ (j : Instruction). run (before_end (program_at card q)) (executed j w)) (same_instruction card (p + 1) (n / 32) moved code) in
      record {
        place = q;
        held = subst (λ k. HoldsFrom card q k) (sym behind) (behind_held card (p + 1) code (n / 32) moved);
        same = sym (run_same (before_end (program_at card q)) _ next is) ∙ ap (λ (v : Working). v.values) (sym step) ∙ left.same;
      }

-- a program runs: a number holds the digits that are left, of which there are fewer than there is room
pub record IsRunning (size n : ℕ) (start words : List ℕ) (top : ℕ) (values : List ℕ) (v m : ℕ) : Type 0 where
  pub stack : HasRoom size words top
  pub short : m < 32 ^ (top - 1)
  pub left : (card : Card) (p : ℕ) → HoldsFrom card p n → IsLeft card m (working words top values v) (values_after (before_end (program_at card p)) (take 6 start))

none_pushed : (size k : ℕ) → at (0 ∷ drop (size - 1) (replicate size 0)) k ≡ at [] k
none_pushed size zero = refl
none_pushed size (suc k) = get_or-drop (size - 1) (replicate size 0) k 0 ∙ zeros_at size (size - 1 + k)

pub starts_running : (size n : ℕ) (values : List ℕ) → 2 ≤ size → n < 32 ^ (size - 2) → IsRunning size n values (replicate size 0) (size - 1) values 0 n
starts_running size n values some small =
    record {
      stack = record { room = omega (arith, some); within = omega (arith, some); zeros = λ k past. zeros_at size k };
      short = subst (λ k. n < 32 ^ k) (omega (arith, some)) small;
      left = λ card p held. record {
        place = p;
        held = held;
        same = run_same (before_end (program_at card p)) _ (record { values = take 6 values; stack = [] }) (record { values = refl; stack = none_pushed size });
      };
    }

passes : (code n : ℕ) → (code ≡ 0 → ⊥) → passed code n ≡ behind_operands code (n / 32)
passes zero n some = absurd (some refl)
passes (suc code) n some = refl

-- what is left gets shorter
pub shorter : (code n : ℕ) → behind_operands code n ≤ n
shorter zero n = omega arith
shorter (suc zero) n = omega arith
shorter (suc (suc zero)) n = omega arith
shorter (suc (suc (suc zero))) n = omega arith
shorter (suc (suc (suc (suc zero)))) n = omega arith
shorter (suc (suc (suc (suc (suc code))))) n = omega arith

-- and so does the room
has_room : (top m : ℕ) → 0 < m → m < 32 ^ (top - 1) → 1 < top
has_room zero m some less = absurd (omega (arith, less))
has_room (suc zero) m some less = absurd (omega (arith, less))
has_room (suc (suc top)) m some less = omega arith

stays_short : (j top m rest : ℕ) → m < 32 ^ (j + 1) → rest ≤ m / 32 → j ≤ top → rest < 32 ^ top
stays_short j top m rest less fewer long = omega (arith, less, fewer, pow-add 32 j 1, pow-le-pow_right {n = 32} (omega arith) long)

module _ (size n : ℕ) (start words : List ℕ) (top : ℕ) (values : List ℕ) (v m : ℕ) (running : IsRunning size n start words top values v m) (code : ℕ) (is : code ≡ m % 32) where
  some_left : (code ≡ 0 → ⊥) → 0 < m
  some_left some = grind (arith, is)

  pub goes_down : (code ≡ 0 → ⊥) → (rest : ℕ) → rest ≡ passed code m → rest < m
  goes_down some rest behind = omega (arith, behind, passes code m some, shorter code (m / 32), some_left some)

  pub keeps_running :
      (code ≡ 0 → ⊥) → (rest top' v' : ℕ) (words' values' : List ℕ)
      → IsSame (executed (instruction code (first_three (m / 32))) (working words top values v)) (working words' top' values' v')
      → rest ≡ passed code m → PushesOne size top words' top' → IsRunning size n start words' top' values' v' rest
  keeps_running some rest top' v' words' values' same behind stack =
      let behind_it : rest ≡ behind_operands code (m / 32) = behind ∙ passes code m some in
      let enough = has_room top m (some_left some) running.short in
      record {
        stack = record { room = omega (arith, enough, stack.room); within = stack.within; zeros = stack.zeros };
        short = stays_short (top - 2) (top' - 1) m rest (subst (λ k. m < 32 ^ k) (omega (arith, enough)) running.short) (omega (arith, behind_it, shorter code (m / 32))) (omega (arith, stack.room));
        left = λ card p held. runs_on card m (working words top values v) _ (running.left card p held) code (record { is = is; small = omega (arith, is); goes_on = some }) (working words' top' values' v') rest same behind_it;
      }

  pub has_run :
      code ≡ 0 → (top' v' : ℕ) (words' values' : List ℕ)
      → IsSame (executed (instruction code (first_three (m / 32))) (working words top values v)) (working words' top' values' v') → RunsFrom n start values'
  has_run end top' v' words' values' same card p held =
      let stays : IsSame (working words top values v) (working words' top' values' v') =
      subst (λ k. IsSame (executed (instruction k (first_three (m / 32))) (working words top values v)) (working words' top' values' v')) end same in
      sym stays.values ∙ all_run card m (working words top values v) _ (running.left card p held) (sym is ∙ end)

-- what a test of a code says
test : (code : ℕ) (b : Bool) → (code == 0) ≡ b → (not b ≡ true → code ≡ 0 → ⊥) × (not b ≡ false → code ≡ 0)
test code true is = (λ goes_on. cc, λ ends. eqb-true code 0 is)
test code false is = (λ goes_on end. false≢true (sym is ∙ eq-eqb code 0 end), λ ends. cc)

pub goes_on : (code : ℕ) (b : Bool) → b ≡ not (code == 0) → b ≡ true → code ≡ 0 → ⊥
goes_on code b is true_is = (test code (code == 0) refl).0 (sym is ∙ true_is)

pub ended : (code : ℕ) (b : Bool) → b ≡ not (code == 0) → b ≡ false → code ≡ 0
ended code b is false_is = (test code (code == 0) refl).1 (sym is ∙ false_is)
