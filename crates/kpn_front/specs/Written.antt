-- What is written to a sink.
use Rattle.std.specs.Prelude.{◌≡◌, ◌≢◌, ℕ, Bool, true, List, length, Option, ◌+◌, Result, IsOk}
use Rattle.std.specs.Io.KnownBytes.{Appends}
use Rattle.kpn_front.specs.declared.status.ExitStatus.{ExitStatus}
use Rattle.kpn_front.specs.declared.status.ExitStatus.TheVariants.{WriteFailed}
use Rattle.kpn_front.specs.Statuses.{code_of}

-- a sink: what has been written, if known, and whether it takes a number of further bytes without failure
pub record SinkView : Type 0 where
  pub contents : Option (List ℕ)
  pub takes : ℕ → Bool

-- the text is written, with the status's number; or the write fails, but not if the sink takes that many
-- bytes
pub record Says (status : ExitStatus) (text : List ℕ) (before after : SinkView) (number : ℕ) : Type 0 where
  pub said : number ≢ code_of WriteFailed → (number ≡ code_of status) × Appends before.contents after.contents text
  pub written_if_it_fits : before.takes (length text) ≡ true → number ≢ code_of WriteFailed

-- the text is appended to what has been written
abbrev pub AppendsTo : SinkView → SinkView → List ℕ → Type 0
AppendsTo before after text = Appends before.contents after.contents text

-- where the sink takes `count` and n more bytes without failure, nothing fails, and it then takes n more
abbrev pub LeavesRoom : {T E : Type 0} → SinkView → SinkView → ℕ → Result T E → Type 0
LeavesRoom before after count result =
    (n : ℕ) → before.takes (count + n) ≡ true → IsOk result × (after.takes n ≡ true)
