use Rattle.std.proofs.Common.{◌+◌, ℕ, drop}
use Rattle.kpn_model.specs.Network.{Network}
use Rattle.kpn_network.specs.Parts.{network_of}
use Rattle.hox_network.specs.declared.presets.FileFault.{FileFault}
use Rattle.hox_network.specs.Presets.{PresetAll, Stops}
use Rattle.hox_network.proofs.presets.preset.Given as goal

-- what the files that are left say, said after those so far, is what all files say
abbrev pub invariant-loop-file : goal.invariant-loop-file
invariant-loop-file l = record {
  goes : (other : Network) → PresetAll (drop l.file l.files) (network_of l.parts) other → PresetAll l.files (network_of l.fn.parts) other;
  stops : (number : ℕ) (fault : FileFault) → Stops (drop l.file l.files) (network_of l.parts) number fault → Stops l.files (network_of l.fn.parts) (l.file + number) fault;
}
