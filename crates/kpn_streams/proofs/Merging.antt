-- What merge writes.
use Rattle.std.proofs.Common.{◌≡◌, ℕ, nat_lt, Bool, true, false, List, [], ◌∷◌, refl, sym, ◌∙◌, subst, Some, None}
use Rattle.kpn_model.specs.declared.token.Token.TheVariants.{Word}
use Rattle.kpn_model.specs.declared.kinds.Card.{Card}
use Rattle.kpn_model.specs.declared.history.Status.{Status}
use Rattle.kpn_model.specs.declared.history.Status.TheVariants.{Live}
use Rattle.kpn_standard.specs.declared.kind.Kind.TheVariants.{Merge}
use Rattle.kpn_standard.specs.Locals.{one, two, three}
use Rattle.kpn_standard.specs.Signatures.{card_of_kind}
use Rattle.kpn_standard.specs.Standard.{standard}
use Rattle.kpn_streams.specs.Fed.{WritesFrom}
use Rattle.kpn_streams.specs.Functions.{words, merged}
use Rattle.kpn_streams.specs.Kinds.{MergeWrites}
use Rattle.kpn_streams.proofs.Fed.{chosen, chosen_else, waits, reads, puts}

-- what holds where a stream is empty, and of two heads if it holds of what is merged after them, holds of all that is merged
module _
    (P : List ℕ → List ℕ → List ℕ → Type 0)
    (first_empty : (ys : List ℕ) → P [] ys [])
    (second_empty : (x : ℕ) (xs : List ℕ) → P (x ∷ xs) [] [])
    (less : (x y : ℕ) (xs ys zs : List ℕ) → nat_lt x y ≡ true → P xs (y ∷ ys) zs → P (x ∷ xs) (y ∷ ys) (x ∷ zs))
    (more : (x y : ℕ) (xs ys zs : List ℕ) → nat_lt x y ≡ false → nat_lt y x ≡ true → P (x ∷ xs) ys zs → P (x ∷ xs) (y ∷ ys) (y ∷ zs))
    (same : (x y : ℕ) (xs ys zs : List ℕ) → nat_lt x y ≡ false → nat_lt y x ≡ false → P xs ys zs → P (x ∷ xs) (y ∷ ys) (x ∷ zs)) where
  -- of two heads
  heads :
      (x y : ℕ) (xs ys : List ℕ) (low high : Bool) → nat_lt x y ≡ low → nat_lt y x ≡ high
      → ((zs : List ℕ) → P xs zs (merged xs zs)) → P (x ∷ xs) ys (merged (x ∷ xs) ys) → P (x ∷ xs) (y ∷ ys) (merged (x ∷ xs) (y ∷ ys))
  heads x y xs ys true high e f first second =
      subst (λ l. P (x ∷ xs) (y ∷ ys) l) (sym (chosen (nat_lt x y) _ _ e)) (less x y xs ys (merged xs (y ∷ ys)) e (first (y ∷ ys)))
  heads x y xs ys false true e f first second =
      subst (λ l. P (x ∷ xs) (y ∷ ys) l) (sym (chosen_else (nat_lt x y) _ _ e))
      (subst (λ l. P (x ∷ xs) (y ∷ ys) l) (sym (chosen (nat_lt y x) _ _ f)) (more x y xs ys (merged (x ∷ xs) ys) e f second))
  heads x y xs ys false false e f first second =
      subst (λ l. P (x ∷ xs) (y ∷ ys) l) (sym (chosen_else (nat_lt x y) _ _ e))
      (subst (λ l. P (x ∷ xs) (y ∷ ys) l) (sym (chosen_else (nat_lt y x) _ _ f)) (same x y xs ys (merged xs ys) e f (first ys)))

  -- of a first stream with the head x, if it holds of the rest of it
  of_second : (x : ℕ) (xs : List ℕ) → ((zs : List ℕ) → P xs zs (merged xs zs)) → (ys : List ℕ) → P (x ∷ xs) ys (merged (x ∷ xs) ys)
  of_second x xs first [] = second_empty x xs
  of_second x xs first (y ∷ ys) = heads x y xs ys (nat_lt x y) (nat_lt y x) refl refl first (of_second x xs first ys)

  pub of_merged : (xs ys : List ℕ) → P xs ys (merged xs ys)
  of_merged [] ys = first_empty ys
  of_merged (x ∷ xs) ys = of_second x xs (of_merged xs) ys

module _ (others : List ℕ) where
  abbrev merger : Card
  merger = card_of_kind Merge others

  -- from this status, fed with these numbers, it writes those
  abbrev Goes : Status → List ℕ → List ℕ → List ℕ → Type 0
  Goes s xs ys zs = WritesFrom standard merger s (words xs ∷ words ys ∷ []) (words zs ∷ [])

  -- so it goes where it holds the head of the first stream already; and of the second
  abbrev WithFirst : List ℕ → List ℕ → List ℕ → Type 0
  WithFirst [] ys zs = Unit {0}
  WithFirst (x ∷ xs) ys zs = Goes (Live (two 4 x) None) xs ys zs

  abbrev WithSecond : List ℕ → List ℕ → List ℕ → Type 0
  WithSecond xs [] zs = Unit {0}
  WithSecond xs (y ∷ ys) zs = Goes (Live (three 3 0 y) None) xs ys zs

  -- it merges the two streams, whichever heads it holds
  record Merges (xs ys zs : List ℕ) : Type 0 where
    from_none : Goes (Live (one 0) None) xs ys zs
    from_first : WithFirst xs ys zs
    from_second : WithSecond xs ys zs

  -- it holds two heads, in either way
  record HoldsBoth (x y : ℕ) (xs ys zs : List ℕ) : Type 0 where
    read_second : Goes (Live (two 2 x) (Some (Word y))) xs ys zs
    read_first : Goes (Live (three 5 0 y) (Some (Word x))) xs ys zs

  -- so it read one of them
  merges_both : (x y : ℕ) (xs ys zs : List ℕ) → HoldsBoth x y xs ys zs → Merges (x ∷ xs) (y ∷ ys) zs
  merges_both x y xs ys zs h =
      record {
        from_none =
            reads standard merger (one 1) 0 (Word x) (words xs) refl refl (reads standard merger (two 2 x) 1 (Word y) (words ys) refl refl h.read_second);
        from_first = reads standard merger (two 2 x) 1 (Word y) (words ys) refl refl h.read_second;
        from_second = reads standard merger (three 5 0 y) 0 (Word x) (words xs) refl refl h.read_first;
      }

  first_dry : (ys : List ℕ) → WithSecond [] ys []
  first_dry [] = tt
  first_dry (y ∷ ys) = waits standard merger (three 5 0 y) 0 refl refl refl

  first_empty : (ys : List ℕ) → Merges [] ys []
  first_empty ys = record { from_none = waits standard merger (one 1) 0 refl refl refl; from_first = tt; from_second = first_dry ys }

  second_empty : (x : ℕ) (xs : List ℕ) → Merges (x ∷ xs) [] []
  second_empty x xs =
      record {
        from_none = reads standard merger (one 1) 0 (Word x) (words xs) refl refl (waits standard merger (two 2 x) 1 refl refl refl);
        from_first = waits standard merger (two 2 x) 1 refl refl refl;
        from_second = tt;
      }

  -- the first head is the lesser
  less : (x y : ℕ) (xs ys zs : List ℕ) → nat_lt x y ≡ true → Merges xs (y ∷ ys) zs → Merges (x ∷ xs) (y ∷ ys) (x ∷ zs)
  less x y xs ys zs e m =
      merges_both x y xs ys (x ∷ zs)
      (record {
        read_second = puts standard merger (three 3 0 y) (Word x) (chosen (nat_lt x y) _ _ e) m.from_second;
        read_first = puts standard merger (three 3 0 y) (Word x) (chosen (nat_lt x y) _ _ e) m.from_second;
      })

  -- the second is
  more : (x y : ℕ) (xs ys zs : List ℕ) → nat_lt x y ≡ false → nat_lt y x ≡ true → Merges (x ∷ xs) ys zs → Merges (x ∷ xs) (y ∷ ys) (y ∷ zs)
  more x y xs ys zs e f m =
      merges_both x y xs ys (y ∷ zs)
      (record {
        read_second = puts standard merger (two 4 x) (Word y) (chosen_else (nat_lt x y) _ _ e ∙ chosen (nat_lt y x) _ _ f) m.from_first;
        read_first = puts standard merger (two 4 x) (Word y) (chosen_else (nat_lt x y) _ _ e ∙ chosen (nat_lt y x) _ _ f) m.from_first;
      })

  -- they are equal
  same : (x y : ℕ) (xs ys zs : List ℕ) → nat_lt x y ≡ false → nat_lt y x ≡ false → Merges xs ys zs → Merges (x ∷ xs) (y ∷ ys) (x ∷ zs)
  same x y xs ys zs e f m =
      merges_both x y xs ys (x ∷ zs)
      (record {
        read_second = puts standard merger (one 0) (Word x) (chosen_else (nat_lt x y) _ _ e ∙ chosen_else (nat_lt y x) _ _ f) m.from_none;
        read_first = puts standard merger (one 0) (Word x) (chosen_else (nat_lt x y) _ _ e ∙ chosen_else (nat_lt y x) _ _ f) m.from_none;
      })

  merges : (xs ys : List ℕ) → Merges xs ys (merged xs ys)
  merges xs ys = of_merged Merges first_empty second_empty less more same xs ys

-- merge writes the lesser of the two heads, and one of two equal ones
pub merge_writes : MergeWrites
merge_writes others xs ys = (merges others xs ys).from_none
