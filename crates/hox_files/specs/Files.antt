-- What a program reads from files, and does to them.
use Rattle.std.specs.Prelude.{◌≡◌, ℕ, Bool, codes, List, ◌++◌, map, Option, Some, IfSome}
use Rattle.std.specs.Borrow.{Bor}

-- these bytes are written under a name, or to standard error; or that failed: then a file is unchanged, while
-- standard output or standard error may have got a part
pub data Effect : Type 0 where
  wrote : List ℕ → List ℕ → Effect
  said : List ℕ → Effect
  not_written : List ℕ → Effect
  not_said : Effect

-- what was written so far, or failed to be, if known
abbrev pub Effects : Type 0
Effects = Option (List Effect)

-- what can be read under each name, if known
abbrev pub Contents : Type 0
Contents = List ℕ → Option (List ℕ)

-- whether two names, each written or else read, can't be used together, if known
abbrev pub Clashing : Type 0
Clashing = List ℕ → Bool → List ℕ → Bool → Option Bool

-- texts, each by its bytes
abbrev pub Texts : Type 0
Texts = List (List ℕ)

-- the bytes of each of these texts
abbrev pub texts_in : List (Bor (List ℕ)) → Texts
texts_in texts = map (λ s. s.now) texts

-- the name of standard input and output
abbrev pub standard : List ℕ
standard = codes "-"

-- these effects follow the earlier ones, if those are known
abbrev pub GoOn : List Effect → Effects → Effects → Type 0
GoOn effects before after = IfSome before (λ es. after ≡ Some (es ++ effects))
