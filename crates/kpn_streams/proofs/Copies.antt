-- What take, copy and prefix write.
use Rattle.std.proofs.Common.{◌≡◌, ◌+◌, ℕ, zero, suc, nat_lt, List, [], ◌∷◌, take, refl, arith, lt-ltb, le-ltb, None}
use Rattle.kpn_model.specs.declared.token.Token.TheVariants.{Word}
use Rattle.kpn_model.specs.declared.kinds.Card.{Card}
use Rattle.kpn_model.specs.declared.history.Status.TheVariants.{Live}
use Rattle.kpn_standard.specs.declared.kind.Kind.TheVariants.{Take, Copy, Prefix}
use Rattle.kpn_standard.specs.Locals.{one, two}
use Rattle.kpn_standard.specs.Signatures.{card_of_kind}
use Rattle.kpn_standard.specs.Standard.{standard}
use Rattle.kpn_streams.specs.Fed.{WritesFrom}
use Rattle.kpn_streams.specs.Functions.{words}
use Rattle.kpn_streams.specs.Kinds.{TakeWrites, CopyWrites, PrefixWrites}
use Rattle.kpn_streams.proofs.Fed.{chosen, chosen_else, stops, waits, reads, writes, puts}

module _ (n : ℕ) (others : List ℕ) where
  abbrev taker : Card
  taker = card_of_kind Take (n ∷ others)

  -- after i words it takes `left` more
  takes : (xs : List ℕ) (i left : ℕ) → i + left ≡ n → WritesFrom standard taker (Live (two 0 i) None) (words xs ∷ []) (words (take left xs) ∷ [])
  takes xs i zero all = stops standard taker (two 0 i) (chosen_else (nat_lt i n) _ _ (le-ltb i n (omega arith))) refl
  takes [] i (suc left) all = waits standard taker (two 1 i) 0 (chosen (nat_lt i n) _ _ (lt-ltb i n (omega arith))) refl refl
  takes (x ∷ xs) i (suc left) all =
      reads standard taker (two 1 i) 0 (Word x) (words xs) (chosen (nat_lt i n) _ _ (lt-ltb i n (omega arith))) refl
      (puts standard taker (two 0 (i + 1)) (Word x) refl (takes xs (i + 1) left (omega arith)))

-- take writes the first n words
pub take_writes : TakeWrites
take_writes n others xs = takes n others xs 0 n (omega arith)

module _ (others : List ℕ) where
  abbrev copier : Card
  copier = card_of_kind Copy others

  copies : (xs : List ℕ) → WritesFrom standard copier (Live (one 0) None) (words xs ∷ []) (words xs ∷ words xs ∷ [])
  copies [] = waits standard copier (one 1) 0 refl refl refl
  copies (x ∷ xs) =
      reads standard copier (one 1) 0 (Word x) (words xs) refl refl
      (writes standard copier (two 2 x) (words xs ∷ words (x ∷ xs) ∷ []) 0 (Word x) refl refl refl refl
      (writes standard copier (one 0) (words xs ∷ words xs ∷ []) 1 (Word x) refl refl refl refl (copies xs)))

-- copy writes the words to both outputs
pub copy_writes : CopyWrites
copy_writes others xs = copies others xs

module _ (v : ℕ) (others : List ℕ) where
  abbrev prefixer : Card
  prefixer = card_of_kind Prefix (v ∷ others)

  -- after its first word it passes words on
  passes_on : (xs : List ℕ) → WritesFrom standard prefixer (Live (one 1) None) (words xs ∷ []) (words xs ∷ [])
  passes_on [] = waits standard prefixer (one 2) 0 refl refl refl
  passes_on (x ∷ xs) = reads standard prefixer (one 2) 0 (Word x) (words xs) refl refl (puts standard prefixer (one 1) (Word x) refl (passes_on xs))

-- prefix writes its word, and then the words
pub prefix_writes : PrefixWrites
prefix_writes v others xs = puts standard (card_of_kind Prefix (v ∷ others)) (one 1) (Word v) refl (passes_on v others xs)
