-- What divides, switch and select write.
use Rattle.std.proofs.Common.{ℕ, ◌%◌, ◌==◌, Bool, true, false, not, List, [], ◌∷◌, map, refl, None}
use Rattle.kpn_model.specs.declared.token.Token.TheVariants.{Word, Flag}
use Rattle.kpn_model.specs.declared.kinds.Card.{Card}
use Rattle.kpn_model.specs.declared.history.Status.TheVariants.{Live}
use Rattle.kpn_standard.specs.declared.kind.Kind.TheVariants.{Divides, Switch, Select}
use Rattle.kpn_standard.specs.Locals.{one, two}
use Rattle.kpn_standard.specs.Signatures.{card_of_kind}
use Rattle.kpn_standard.specs.Standard.{standard}
use Rattle.kpn_streams.specs.Fed.{WritesFrom}
use Rattle.kpn_streams.specs.Functions.{words, flags, divided, flagged, selected}
use Rattle.kpn_streams.specs.Kinds.{DividesWrites, SwitchWrites, SelectWrites}
use Rattle.kpn_streams.proofs.Fed.{waits, reads, writes, puts}

module _ (m : ℕ) (others : List ℕ) where
  abbrev divider : Card
  divider = card_of_kind Divides (m ∷ others)

  divide : (xs : List ℕ) → WritesFrom standard divider (Live (one 0) None) (words xs ∷ []) (flags (divided m xs) ∷ [])
  divide [] = waits standard divider (one 1) 0 refl refl refl
  divide (x ∷ xs) =
      reads standard divider (one 1) 0 (Word x) (words xs) refl refl (puts standard divider (one 0) (Flag (x % m == 0)) refl (divide xs))

-- divides writes for each word whether m divides it
pub divides_writes : DividesWrites
divides_writes m others xs = divide m others xs

module _ (others : List ℕ) where
  abbrev switcher : Card
  switcher = card_of_kind Switch others

  switches :
      (xs : List ℕ) (fs : List Bool)
      → WritesFrom standard switcher (Live (one 0) None) (words xs ∷ flags fs ∷ []) (words (flagged (map not fs) xs) ∷ words (flagged fs xs) ∷ [])
  switches xs [] = waits standard switcher (one 1) 1 refl refl refl
  switches [] (true ∷ fs) = reads standard switcher (one 1) 1 (Flag true) (flags fs) refl refl (waits standard switcher (two 2 1) 0 refl refl refl)
  switches [] (false ∷ fs) = reads standard switcher (one 1) 1 (Flag false) (flags fs) refl refl (waits standard switcher (two 2 0) 0 refl refl refl)
  switches (x ∷ xs) (true ∷ fs) =
      reads standard switcher (one 1) 1 (Flag true) (flags fs) refl refl
      (reads standard switcher (two 2 1) 0 (Word x) (words xs) refl refl
      (writes standard switcher (one 0) (words (flagged (map not fs) xs) ∷ words (flagged fs xs) ∷ []) 1 (Word x) refl refl refl refl (switches xs fs)))
  switches (x ∷ xs) (false ∷ fs) =
      reads standard switcher (one 1) 1 (Flag false) (flags fs) refl refl
      (reads standard switcher (two 2 0) 0 (Word x) (words xs) refl refl
      (writes standard switcher (one 0) (words (flagged (map not fs) xs) ∷ words (flagged fs xs) ∷ []) 0 (Word x) refl refl refl refl (switches xs fs)))

-- switch writes each word to the output that its flag selects
pub switch_writes : SwitchWrites
switch_writes others xs fs = switches others xs fs

module _ (others : List ℕ) where
  abbrev selector : Card
  selector = card_of_kind Select others

  selects :
      (fs : List Bool) (xs ys : List ℕ)
      → WritesFrom standard selector (Live (one 0) None) (words xs ∷ words ys ∷ flags fs ∷ []) (words (selected fs xs ys) ∷ [])
  selects [] xs ys = waits standard selector (one 1) 2 refl refl refl
  selects (true ∷ fs) xs [] = reads standard selector (one 1) 2 (Flag true) (flags fs) refl refl (waits standard selector (one 2) 1 refl refl refl)
  selects (true ∷ fs) xs (y ∷ ys) =
      reads standard selector (one 1) 2 (Flag true) (flags fs) refl refl
      (reads standard selector (one 2) 1 (Word y) (words ys) refl refl (puts standard selector (one 0) (Word y) refl (selects fs xs ys)))
  selects (false ∷ fs) [] ys = reads standard selector (one 1) 2 (Flag false) (flags fs) refl refl (waits standard selector (one 2) 0 refl refl refl)
  selects (false ∷ fs) (x ∷ xs) ys =
      reads standard selector (one 1) 2 (Flag false) (flags fs) refl refl
      (reads standard selector (one 2) 0 (Word x) (words xs) refl refl (puts standard selector (one 0) (Word x) refl (selects fs xs ys)))

-- select writes for each flag the next word of the stream that it selects
pub select_writes : SelectWrites
select_writes others xs ys fs = selects others fs xs ys
