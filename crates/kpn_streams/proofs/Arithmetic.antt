-- What add and scale write.
use Rattle.std.proofs.Common.{ℕ, ◌+◌, ◌*◌, ◌%◌, ◌^◌, List, [], ◌∷◌, refl, None}
use Rattle.kpn_model.specs.declared.token.Token.TheVariants.{Word}
use Rattle.kpn_model.specs.declared.kinds.Card.{Card}
use Rattle.kpn_model.specs.declared.history.Status.TheVariants.{Live}
use Rattle.kpn_standard.specs.declared.kind.Kind.TheVariants.{Add, Scale}
use Rattle.kpn_standard.specs.Locals.{one, two}
use Rattle.kpn_standard.specs.Signatures.{card_of_kind}
use Rattle.kpn_standard.specs.Standard.{standard}
use Rattle.kpn_streams.specs.Fed.{WritesFrom}
use Rattle.kpn_streams.specs.Functions.{words, sums, products}
use Rattle.kpn_streams.specs.Kinds.{AddWrites, ScaleWrites}
use Rattle.kpn_streams.proofs.Fed.{waits, reads, puts}

module _ (others : List ℕ) where
  abbrev adder : Card
  adder = card_of_kind Add others

  adds : (xs ys : List ℕ) → WritesFrom standard adder (Live (one 0) None) (words xs ∷ words ys ∷ []) (words (sums xs ys) ∷ [])
  adds [] ys = waits standard adder (one 1) 0 refl refl refl
  adds (x ∷ xs) [] = reads standard adder (one 1) 0 (Word x) (words xs) refl refl (waits standard adder (two 2 x) 1 refl refl refl)
  adds (x ∷ xs) (y ∷ ys) =
      reads standard adder (one 1) 0 (Word x) (words xs) refl refl
      (reads standard adder (two 2 x) 1 (Word y) (words ys) refl refl (puts standard adder (one 0) (Word ((x + y) % 2 ^ 64)) refl (adds xs ys)))

-- add writes the sums
pub add_writes : AddWrites
add_writes others xs ys = adds others xs ys

module _ (k : ℕ) (others : List ℕ) where
  abbrev scaler : Card
  scaler = card_of_kind Scale (k ∷ others)

  scales : (xs : List ℕ) → WritesFrom standard scaler (Live (one 0) None) (words xs ∷ []) (words (products k xs) ∷ [])
  scales [] = waits standard scaler (one 1) 0 refl refl refl
  scales (x ∷ xs) =
      reads standard scaler (one 1) 0 (Word x) (words xs) refl refl (puts standard scaler (one 0) (Word ((k * x) % 2 ^ 64)) refl (scales xs))

-- scale writes the products
pub scale_writes : ScaleWrites
scale_writes k others xs = scales k others xs
