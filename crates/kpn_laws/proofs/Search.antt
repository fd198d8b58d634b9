-- A search below a bound: it returns what it looks for, or that there is none.
use Rattle.std.proofs.Common.{◌≡◌, ◌<◌, ◌⊎◌, inl, inr, ⊎_elim, ℕ, zero, suc, arith}
use Rattle.std.proofs.lemmas.Bool.{cases_eq}

-- what holds of each number below n and of n
pub and_at : (Q : ℕ → Type 0) (n : ℕ) → ((p : ℕ) → p < n → Q p) → Q n → (p : ℕ) → p < suc n → Q p
and_at Q n below here p l = ⊎_elim (λ (e : p ≡ n). rw e here) (λ ne. below p (omega arith)) (cases_eq p n)

-- if each number has P or Q, some number has P, or each below n has Q
pub search_below : (P Q : ℕ → Type 0) → ((p : ℕ) → P p ⊎ Q p) → (n : ℕ) → ((p : ℕ) × P p) ⊎ ((p : ℕ) → p < n → Q p)
search_below P Q which zero = inr (λ p l. absurd (omega arith))
search_below P Q which (suc n) = joined (which n) (search_below P Q which n)
  where
    joined : P n ⊎ Q n → ((p : ℕ) × P p) ⊎ ((p : ℕ) → p < n → Q p) → ((p : ℕ) × P p) ⊎ ((p : ℕ) → p < suc n → Q p)
    joined (inl x) found = inl (n, x)
    joined (inr y) (inl x) = inl x
    joined (inr y) (inr below) = inr (and_at Q n below y)

-- each number p may have some c at it, by P p c, and then has one that comes first among these
module _ (P R : ℕ → ℕ → Type 0) (total : (c d : ℕ) → R c d ⊎ R d c) (trans : (b c d : ℕ) → R b c → R c d → R b d) where
  abbrev pub Absent : ℕ → Type 0
  Absent p = (c : ℕ) → P p c → ⊥

  -- c comes before all that are at p
  abbrev pub IsBeforeAllAt : ℕ → ℕ → Type 0
  IsBeforeAllAt c p = (d : ℕ) → P p d → R c d

  -- c is at some number, and comes before all that are at the numbers below n
  pub record IsLeast (n c : ℕ) : Type 0 where
    pub at : ℕ
    pub here : P at c
    pub first : (p : ℕ) → p < n → IsBeforeAllAt c p

  abbrev pub Least : ℕ → Type 0
  Least n = ((c : ℕ) × IsLeast n c) ⊎ ((p : ℕ) → p < n → Absent p)

  -- so one comes first among all that are at the numbers below n, or there is none
  pub least_below : ((p : ℕ) → ((c : ℕ) × P p c × IsBeforeAllAt c p) ⊎ Absent p) → (n : ℕ) → Least n
  least_below which zero = inr (λ p l. absurd (omega arith))
  least_below which (suc n) = joined (which n) (least_below which n)
    where
      joined : ((c : ℕ) × P n c × IsBeforeAllAt c n) ⊎ Absent n → Least n → Least (suc n)
      joined (inr absent) (inr none) = inr (and_at Absent n none absent)
      joined (inr absent) (inl (c, f)) = inl (c, record { at = f.at; here = f.here; first = and_at (IsBeforeAllAt c) n f.first (λ d x. absurd (absent d x)) })
      joined (inl (d, x, own)) (inr none) = inl (d, record { at = n; here = x; first = and_at (IsBeforeAllAt d) n (λ p l b y. absurd (none p l b y)) own })
      joined (inl (d, x, own)) (inl (c, f)) =
          ⊎_elim
          (λ (old : R c d). inl (c, record { at = f.at; here = f.here; first = and_at (IsBeforeAllAt c) n f.first (λ b y. trans c d b old (own b y)) }))
          (λ (new : R d c). inl (d, record { at = n; here = x; first = and_at (IsBeforeAllAt d) n (λ p l b y. trans d c b new (f.first p l b y)) own }))
          (total c d)
