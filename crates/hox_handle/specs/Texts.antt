-- Texts in buffers of callers.
use Rattle.std.specs.Prelude.{◌≡◌, ℕ, List, ◌++◌, length, take, drop}

-- the buffer begins with as many bytes as fit, its rest is unchanged, and `count` is the number of bytes
-- given
pub record IsCopied (bytes before after : List ℕ) (count : ℕ) : Type 0 where
  pub count_is : count ≡ length bytes
  pub after_is : after ≡ take (length before) bytes ++ drop (length bytes) before
