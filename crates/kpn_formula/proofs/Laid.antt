-- Values that are laid one over the other.
use Rattle.std.proofs.Common.{◌≡◌, ◌∙◌, ◌⊎◌, inl, inr, ℕ, zero, suc, ◌+◌, ◌-◌, ◌<◌, ◌≤◌, nat_lt, if◌then◌else◌, true, false, List, [], ◌∷◌, length, set, take, refl, sym, ap, subst, arith}
use Rattle.std.proofs.lemmas.List.{length-set, get_or_past, get_or-take, get_or-set_same, get_or-set_other}
use Rattle.std.proofs.lemmas.Bool.Decides.{nat_tests}
use Rattle.kpn_standard.specs.Locals.{at}
use Rattle.kpn_formula.specs.Formulas.{part, value, values, states_in, outputs_in}
use Rattle.kpn_formula.specs.Running.{laid, cleared, begun}
use Rattle.kpn_formula.proofs.Held.{split}

cond : (n m : ℕ) → (n ≡ m) ⊎ (n ≡ m → ⊥)
cond n m = grind arith

set_at : (xs : List ℕ) (i k y : ℕ) → (k ≡ i → ⊥) → at (set xs i y) k ≡ at xs k
set_at xs i k y other = get_or-set_other xs i k y 0 other

below_test : (k n : ℕ) → k < n → nat_lt k n ≡ true
below_test k n less = grind (arith, nat_tests)

past_test : (k n : ℕ) → n ≤ k → nat_lt k n ≡ false
past_test k n past = grind (arith, nat_tests)

if_below : (k n x y : ℕ) → k < n → (if nat_lt k n then x else y) ≡ x
if_below k n x y less = rw (below_test k n less) refl

if_past : (k n x y : ℕ) → n ≤ k → (if nat_lt k n then x else y) ≡ y
if_past k n x y past = rw (past_test k n past) refl

-- three words that were laid
module _ (vs ws : List ℕ) (p : ℕ) (room : p + 3 ≤ length vs) where
  laid_other : (k : ℕ) → (k < p) ⊎ (p + 3 ≤ k) → at (laid p ws vs) k ≡ at vs k
  laid_other k far =
      set_at (set (set vs p (at ws 0)) (p + 1) (at ws 1)) (p + 2) k (at ws 2) (apart far 2 (omega arith))
      ∙ set_at (set vs p (at ws 0)) (p + 1) k (at ws 1) (apart far 1 (omega arith))
      ∙ set_at vs p k (at ws 0) (λ same. apart far 0 (omega arith) (omega (arith, same)))
    where
      apart : (k < p) ⊎ (p + 3 ≤ k) → (j : ℕ) → j < 3 → k ≡ p + j → ⊥
      apart (inl less) j small same = omega (arith, same)
      apart (inr past) j small same = omega (arith, same)

  laid_here : (j : ℕ) → j < 3 → at (laid p ws vs) (p + j) ≡ at ws j
  laid_here zero small =
      ap (λ i. at (laid p ws vs) i) (omega arith)
      ∙ set_at (set (set vs p (at ws 0)) (p + 1) (at ws 1)) (p + 2) p (at ws 2) (λ same. omega (arith, same))
      ∙ set_at (set vs p (at ws 0)) (p + 1) p (at ws 1) (λ same. omega (arith, same))
      ∙ get_or-set_same vs p (at ws 0) 0 (omega arith)
  laid_here (suc zero) small =
      set_at (set (set vs p (at ws 0)) (p + 1) (at ws 1)) (p + 2) (p + 1) (at ws 2) (λ same. omega (arith, same))
      ∙ get_or-set_same (set vs p (at ws 0)) (p + 1) (at ws 1) 0 (omega (arith, length-set vs p (at ws 0)))
  laid_here (suc (suc zero)) small =
      get_or-set_same (set (set vs p (at ws 0)) (p + 1) (at ws 1)) (p + 2) (at ws 2) 0 (omega (arith, length-set (set vs p (at ws 0)) (p + 1) (at ws 1), length-set vs p (at ws 0)))
  laid_here (suc (suc (suc j))) small = absurd (omega arith)

laid_length : (vs ws : List ℕ) (p : ℕ) → length (laid p ws vs) ≡ length vs
laid_length vs ws p = length-set (set (set vs p (at ws 0)) (p + 1) (at ws 1)) (p + 2) (at ws 2) ∙ length-set (set vs p (at ws 0)) (p + 1) (at ws 1) ∙ length-set vs p (at ws 0)

-- from a place on, three zeros and zeros behind them
laid_within : (vs ws : List ℕ) (p k : ℕ) → p + 3 ≤ length vs → length ws ≡ 3 → p ≤ k → (p + 3 ≤ k → at vs k ≡ 0) → at (laid p ws vs) k ≡ at ws (k - p)
laid_within vs ws p k room three within zeros =
    elim (split k (p + 3)) [
      | inl less ↦ ap (λ i. at (laid p ws vs) i) (omega arith) ∙ laid_here vs ws p room (k - p) (omega arith)
      | inr past ↦ laid_other vs ws p room k (inr past) ∙ zeros past ∙ sym (get_or_past ws (k - p) 0 (omega (arith, three)))
    ]

none : (k : ℕ) → at (0 ∷ 0 ∷ 0 ∷ []) k ≡ 0
none zero = refl
none (suc zero) = refl
none (suc (suc zero)) = refl
none (suc (suc (suc k))) = refl

module _ (vs : List ℕ) (p : ℕ) (room : p + 4 ≤ length vs) where
  cleared_below : (k : ℕ) → k < p → at (cleared p vs) k ≡ at vs k
  cleared_below k less = laid_other (set vs p 0) (0 ∷ 0 ∷ 0 ∷ []) (p + 1) (omega (arith, room, length-set vs p 0)) k (inl (omega arith)) ∙ set_at vs p k 0 (λ same. omega (arith, same))

  cleared_past : (k : ℕ) → p ≤ k → (p + 4 ≤ k → at vs k ≡ 0) → at (cleared p vs) k ≡ 0
  cleared_past k past zeros =
      elim (cond k p) [
        | inl same ↦ laid_other (set vs p 0) (0 ∷ 0 ∷ 0 ∷ []) (p + 1) (omega (arith, room, length-set vs p 0)) k (inl (omega (arith, same))) ∙ ap (λ i. at (set vs p 0) i) same ∙ get_or-set_same vs p 0 0 (omega arith)
        | inr other ↦ laid_within (set vs p 0) (0 ∷ 0 ∷ 0 ∷ []) (p + 1) k (omega (arith, room, length-set vs p 0)) refl (omega (arith, past, apart other)) (λ far. set_at vs p k 0 other ∙ zeros (omega (arith, far))) ∙ none (k - (p + 1))
      ]
    where
      apart : (k ≡ p → ⊥) → p < k
      apart other = grind (arith, other, past)

cleared_length : (vs : List ℕ) (p : ℕ) → length (cleared p vs) ≡ length vs
cleared_length vs p = laid_length (set vs p 0) (0 ∷ 0 ∷ 0 ∷ []) (p + 1) ∙ length-set vs p 0

six : (vs : List ℕ) (f : ℕ → ℕ) → 6 ≤ length vs → ((k : ℕ) → k < 6 → at vs k ≡ f k) → take 6 vs ≡ f 0 ∷ f 1 ∷ f 2 ∷ f 3 ∷ f 4 ∷ f 5 ∷ []
six [] f long is = absurd (omega arith)
six (a ∷ []) f long is = absurd (omega arith)
six (a ∷ b ∷ []) f long is = absurd (omega arith)
six (a ∷ b ∷ c ∷ []) f long is = absurd (omega arith)
six (a ∷ b ∷ c ∷ d ∷ []) f long is = absurd (omega arith)
six (a ∷ b ∷ c ∷ d ∷ e ∷ []) f long is = absurd (omega arith)
six (a ∷ b ∷ c ∷ d ∷ e ∷ g ∷ vs) f long is = rw (is 0 (omega arith), is 1 (omega arith), is 2 (omega arith), is 3 (omega arith), is 4 (omega arith), is 5 (omega arith)) refl

-- four words, and zeros behind them
abbrev pub filled : ℕ → ℕ → ℕ → ℕ → List ℕ
filled a b c d = a ∷ b ∷ c ∷ d ∷ 0 ∷ 0 ∷ 0 ∷ 0 ∷ 0 ∷ 0 ∷ 0 ∷ 0 ∷ 0 ∷ 0 ∷ 0 ∷ 0 ∷ []

filled_at : (a b c d k : ℕ) → at (filled a b c d) k ≡ at (a ∷ b ∷ c ∷ d ∷ []) k
filled_at a b c d zero = refl
filled_at a b c d (suc zero) = refl
filled_at a b c d (suc (suc zero)) = refl
filled_at a b c d (suc (suc (suc zero))) = refl
filled_at a b c d (suc (suc (suc (suc k)))) = behind k
  where
    behind : (k : ℕ) → at (0 ∷ 0 ∷ 0 ∷ 0 ∷ 0 ∷ 0 ∷ 0 ∷ 0 ∷ 0 ∷ 0 ∷ 0 ∷ 0 ∷ []) k ≡ 0
    behind zero = refl
    behind (suc zero) = refl
    behind (suc (suc zero)) = refl
    behind (suc (suc (suc zero))) = refl
    behind (suc (suc (suc (suc zero)))) = refl
    behind (suc (suc (suc (suc (suc zero))))) = refl
    behind (suc (suc (suc (suc (suc (suc zero)))))) = refl
    behind (suc (suc (suc (suc (suc (suc (suc zero))))))) = refl
    behind (suc (suc (suc (suc (suc (suc (suc (suc zero)))))))) = refl
    behind (suc (suc (suc (suc (suc (suc (suc (suc (suc zero))))))))) = refl
    behind (suc (suc (suc (suc (suc (suc (suc (suc (suc (suc zero)))))))))) = refl
    behind (suc (suc (suc (suc (suc (suc (suc (suc (suc (suc (suc zero))))))))))) = refl
    behind (suc (suc (suc (suc (suc (suc (suc (suc (suc (suc (suc (suc k)))))))))))) = refl

-- the values of a round: the states, then zeros for the outputs, then the inputs
module _ (s m n a b c d : ℕ) (inputs : List ℕ) (few_states : s < 8) (few_outputs : m < 4) (few_inputs : n < 4) (three : length inputs ≡ 3) where
  abbrev kept : List ℕ
  kept = a ∷ b ∷ c ∷ d ∷ []

  abbrev first : List ℕ
  first = cleared s (filled a b c d)

  abbrev second : List ℕ
  second = laid (s + m) inputs first

  abbrev third : List ℕ
  third = laid (s + m + n) (0 ∷ 0 ∷ 0 ∷ []) second

  first_long : length first ≡ 16
  first_long = cleared_length (filled a b c d) s

  second_long : length second ≡ 16
  second_long = laid_length first inputs (s + m) ∙ first_long

  third_long : length third ≡ 16
  third_long = laid_length second (0 ∷ 0 ∷ 0 ∷ []) (s + m + n) ∙ second_long

  none_kept : (k : ℕ) → 4 ≤ k → at (filled a b c d) k ≡ 0
  none_kept k past = filled_at a b c d k ∙ get_or_past kept k 0 (omega arith)

  state : (k : ℕ) → k < s → at first k ≡ at kept k
  state k less = cleared_below (filled a b c d) s (omega arith) k less ∙ filled_at a b c d k

  no_state : (k : ℕ) → s ≤ k → at first k ≡ 0
  no_state k past = cleared_past (filled a b c d) s (omega arith) k past (λ far. none_kept k (omega (arith, far)))

  input : (k : ℕ) → s + m ≤ k → at second k ≡ at inputs (k - (s + m))
  input k past = laid_within first inputs (s + m) k (omega (arith, first_long)) three past (λ far. no_state k (omega arith))

  before : (k : ℕ) → k < s + m → at third k ≡ at first k
  before k less =
      laid_other second (0 ∷ 0 ∷ 0 ∷ []) (s + m + n) (omega (arith, second_long)) k (inl (omega arith))
      ∙ laid_other first inputs (s + m) (omega (arith, first_long)) k (inl less)

  own : (k : ℕ) → k < s + m + n → s + m ≤ k → at third k ≡ at inputs (k - (s + m))
  own k less past = laid_other second (0 ∷ 0 ∷ 0 ∷ []) (s + m + n) (omega (arith, second_long)) k (inl less) ∙ input k past

  behind_all : (k : ℕ) → s + m + n ≤ k → at third k ≡ 0
  behind_all k past =
      laid_within second (0 ∷ 0 ∷ 0 ∷ []) (s + m + n) k (omega (arith, second_long)) refl past (λ far. input k (omega arith) ∙ get_or_past inputs (k - (s + m)) 0 (omega (arith, three, far)))
      ∙ none (k - (s + m + n))

  value_at : (k : ℕ) → at third k ≡ value s m n kept inputs k
  value_at k =
      elim (split k (s + m)) [
        | inl less ↦ elim (split k s) [
          | inl state_here ↦ before k less ∙ state k state_here ∙ sym (if_below k (s + m) _ _ less ∙ if_below k s _ _ state_here ∙ ap (λ i. at kept i) (omega arith))
          | inr past ↦ before k less ∙ no_state k past ∙ sym (if_below k (s + m) _ _ less ∙ if_past k s _ _ past)
        ]
        | inr past ↦ elim (split k (s + m + n)) [
          | inl less ↦ own k less past ∙ sym (if_past k (s + m) _ _ past ∙ if_below (k - (s + m)) n _ _ (omega arith) ∙ ap (λ i. at inputs i) (omega arith))
          | inr far ↦ behind_all k far ∙ sym (if_past k (s + m) _ _ past ∙ if_past (k - (s + m)) n _ _ (omega arith))
        ]
      ]

  values_laid : take 6 third ≡ values s m n kept inputs
  values_laid = six third (λ k. value s m n kept inputs k) (omega (arith, third_long)) (λ k less. value_at k)

-- the results in values, of which there are at most six
module _ (s m : ℕ) (vs : List ℕ) (few : s + m ≤ 6) (long : length vs ≡ 16) where
  abbrev ends : List ℕ
  ends = laid (s + m) (0 ∷ 0 ∷ 0 ∷ []) vs

  ends_long : length ends ≡ 16
  ends_long = laid_length vs (0 ∷ 0 ∷ 0 ∷ []) (s + m) ∙ long

  pub output : (j : ℕ) → j < 3 → at ends (s + j) ≡ part s m (take 6 vs) j
  output j small =
      elim (split j m) [
        | inl less ↦ laid_other vs (0 ∷ 0 ∷ 0 ∷ []) (s + m) (omega (arith, long)) (s + j) (inl (omega arith)) ∙ sym (if_below j m _ _ less ∙ get_or-take 6 vs (s + j) 0 (omega arith))
        | inr past ↦ ap (λ i. at ends i) (omega arith) ∙ laid_here vs (0 ∷ 0 ∷ 0 ∷ []) (s + m) (omega (arith, long)) (j - m) (omega arith) ∙ none (j - m) ∙ sym (if_past j m _ _ past)
      ]

  pub state_kept : (j : ℕ) → j < 4 → at (cleared s ends) j ≡ part 0 s (take 6 vs) j
  state_kept j small =
      elim (split j s) [
        | inl less ↦ cleared_below ends s (omega (arith, ends_long)) j less ∙ laid_other vs (0 ∷ 0 ∷ 0 ∷ []) (s + m) (omega (arith, long)) j (inl (omega arith)) ∙ sym (if_below j s _ _ less ∙ get_or-take 6 vs (0 + j) 0 (omega arith) ∙ ap (λ i. at vs i) (omega arith))
        | inr past ↦ cleared_past ends s (omega (arith, ends_long)) j past (λ far. absurd (omega arith)) ∙ sym (if_past j s _ _ past)
      ]

  output_first : at ends s ≡ part s m (take 6 vs) 0
  output_first = ap (λ i. at ends i) (omega arith) ∙ output 0 (omega arith)

  pub results_are :
      (made after : List ℕ) → made ≡ ends → after ≡ cleared s made
      → ◌≡◌ {A = List ℕ × List ℕ} (at after 0 ∷ at after 1 ∷ at after 2 ∷ at after 3 ∷ [], at made s ∷ at made (s + 1) ∷ at made (s + 2) ∷ []) (states_in s (take 6 vs), outputs_in s m (take 6 vs))
  results_are made after is cleared_is =
      let kept : after ≡ cleared s ends = cleared_is ∙ ap (λ l. cleared s l) is in
      rw (kept, is, state_kept 0 (omega arith), state_kept 1 (omega arith), state_kept 2 (omega arith), state_kept 3 (omega arith), output_first, output 1 (omega arith), output 2 (omega arith)) refl

four : (ks : List ℕ) → length ks ≡ 4 → ks ≡ at ks 0 ∷ at ks 1 ∷ at ks 2 ∷ at ks 3 ∷ []
four [] long = absurd (omega (arith, long))
four (a ∷ []) long = absurd (omega (arith, long))
four (a ∷ b ∷ []) long = absurd (omega (arith, long))
four (a ∷ b ∷ c ∷ []) long = absurd (omega (arith, long))
four (a ∷ b ∷ c ∷ d ∷ []) long = refl
four (a ∷ b ∷ c ∷ d ∷ e ∷ ks) long = absurd (omega (arith, long))

-- the values of a round, over words that were kept
pub values_begun : (s m n : ℕ) (kept inputs begins : List ℕ) → s < 8 → m < 4 → n < 4 → length kept ≡ 4 → length inputs ≡ 3 → begins ≡ begun s m n inputs (filled (at kept 0) (at kept 1) (at kept 2) (at kept 3)) → take 6 begins ≡ values s m n kept inputs
values_begun s m n kept inputs begins few_states few_outputs few_inputs four_long three_long is =
    subst (λ ks. take 6 begins ≡ values s m n ks inputs) (sym (four kept four_long))
    (ap (take 6) is ∙ values_laid s m n (at kept 0) (at kept 1) (at kept 2) (at kept 3) inputs few_states few_outputs few_inputs three_long)
