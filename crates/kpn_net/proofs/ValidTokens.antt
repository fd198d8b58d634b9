-- Start tokens without a fault are of their channel's sort, and fit into it.
use Rattle.std.proofs.Common.{◌≡◌, ◌≤◌, ℕ, ℤ, pos, negsuc, zero, suc, false, not, List, [], ◌∷◌, map, refl, arith}
use Rattle.std.proofs.lemmas.Bool.{or_parts}
use Rattle.std.proofs.lemmas.Bool.Decides.{nat_tests}
use Rattle.std.specs.List.{list_any, All, AllByRecursion}
use Rattle.std.specs.Prelude.{unsigned_abs, int_lt}
use Rattle.kpn_model.specs.declared.token.Sort.{Sort}
use Rattle.kpn_model.specs.declared.token.Sort.TheVariants.{Words, Flags}
use Rattle.kpn_sketch.specs.declared.sketch.TokenSketch.{TokenSketch}
use Rattle.kpn_sketch.specs.declared.sketch.TokenSketch.TheVariants.{Integer, Boolean, Word}
use Rattle.kpn_model.specs.Lawful.{sort_of, Fits}
use Rattle.kpn_net.specs.Faults.{is_token}
use Rattle.kpn_net.specs.Sketched.{token_in}
use Rattle.kpn_model.specs.Valid.{IsOfSort}

sort_is : (w : Sort) (t : TokenSketch) → not (is_token w t) ≡ false → sort_of (token_in t) ≡ w
sort_is Words (Integer z) h = refl
sort_is Words (Word w) h = refl
sort_is Words (Boolean b) h = cc
sort_is Flags (Integer z) h = cc
sort_is Flags (Word w) h = cc
sort_is Flags (Boolean b) h = refl

-- each is of the sort
pub tokens_of_sort : (w : Sort) (ts : List TokenSketch) → list_any (λ t. not (is_token w t)) ts ≡ false → All Fits (map token_in ts) → AllByRecursion (IsOfSort w) (map token_in ts)
tokens_of_sort w [] h fit = tt
tokens_of_sort w (t ∷ ts) h fit =
    let parts = or_parts (not (is_token w t)) (list_any (λ u. not (is_token w u)) ts) h in
    ((sort_is w t parts.0, fit zero (token_in t) (omega arith)), tokens_of_sort w ts parts.1 (λ j e m. fit (suc j) e (omega arith)))

-- if the test of a channel's tokens passes, they are no more than its capacity
pub no_more_than : (z : ℤ) (n : ℕ) → int_lt z (pos n) ≡ false → n ≤ unsigned_abs z
no_more_than (pos k) n h = grind (arith, nat_tests)
no_more_than (negsuc k) n h = cc
