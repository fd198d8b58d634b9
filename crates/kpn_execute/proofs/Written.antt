-- What is said is written, and what it tells may be told by more.
use Rattle.std.proofs.Common.{ℕ, ◌<◌, List, Option, inl, inr, refl}
use Rattle.kpn_model.specs.Network.{Family, Network}
use Rattle.kpn_sketch.specs.declared.fault.NetFault.TheVariants.{Memory}
use Rattle.kpn_front.specs.declared.status.ExitStatus.{ExitStatus}
use Rattle.kpn_front.specs.declared.status.ExitStatus.TheVariants.{MemoryRefused}
use Rattle.kpn_front.specs.Lines.{refused_line}
use Rattle.kpn_front.specs.Written.{SinkView, Says}
use Rattle.kpn_execute.specs.Execution.{TellsNoMemory, TellsShown, Writes}

module _ {before after : SinkView} {number : ℕ} where
  pub written : {tells : ExitStatus → List ℕ → Type 0} {status : ExitStatus} {text : List ℕ} → Says status text before after number → tells status text → Writes tells before after number
  written {tells} {status} {text} says told = record { status = status; text = text; told = told; says = says }

  pub written_of : {narrow tells : ExitStatus → List ℕ → Type 0} → ((status : ExitStatus) (text : List ℕ) → narrow status text → tells status text) → Writes narrow before after number → Writes tells before after number
  written_of more w = record { status = w.status; text = w.text; told = more w.status w.text w.told; says = w.says }

-- that memory was refused is told so
pub no_memory : TellsNoMemory MemoryRefused (refused_line Memory)
no_memory = record { status_is = refl; text_is = refl }

-- what several workers tell, any other number of several may
pub as_several : {kinds : Family} {net : Network} {m n : ℕ} {channel : Option ℕ} {status : ExitStatus} {text : List ℕ} → 1 < n → TellsShown kinds net m channel status text → TellsShown kinds net n channel status text
as_several several (inl lost) = inl (record { several = several; status_is = lost.status_is; text_is = lost.text_is })
as_several several (inr ended) = inr ended
