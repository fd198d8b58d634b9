-- A loop that copies its own output (examples/endless.toml): no run of it ends, and each stream is endless.
use Rattle.std.specs.Prelude.{ℕ, zero, suc, [], ◌∷◌, Some, None}
use Rattle.kpn_model.specs.declared.token.Token.TheVariants.{Word}
use Rattle.kpn_model.specs.Network.{Network}
use Rattle.kpn_standard.specs.Standard.{standard}
use Rattle.kpn_laws.specs.Alone.{Streams}
use Rattle.kpn_laws.specs.Equations.{IsLeastSolution}
use Rattle.test_laws.specs.Building.{process, copy, sink, words, network}

-- writes v, and then what comes back; the sink takes k
abbrev pub endless : ℕ → ℕ → Network
endless v k =
    network (process 4 v 0 ∷ copy ∷ sink k ∷ [])
    (words (0, 0) (1, 0) 1 ∷ words (1, 0) (0, 0) 1 ∷ words (1, 1) (2, 0) 1 ∷ [])

-- v on each channel, forever
abbrev pub for_ever : ℕ → Streams
for_ever v zero n = Some (Word v)
for_ever v (suc zero) n = Some (Word v)
for_ever v (suc (suc zero)) n = Some (Word v)
for_ever v (suc (suc (suc c))) n = None

abbrev pub EndlessLoop : Type 0
EndlessLoop = (v k : ℕ) → IsLeastSolution standard (endless v k) (for_ever v)
