-- The family of an implementation of the trait `Kinds`.
use Rattle.kpn_model.specs.Network.{Family}
use Rattle.kpn_model.specs.declared.kinds.Kinds.{Ghosts}

abbrev pub family : {X : Type 0} → Ghosts X → Family
family kinds = record { start = kinds.start; answer = kinds.answer_of }
