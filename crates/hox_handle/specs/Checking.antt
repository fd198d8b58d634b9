-- What checking a text answers.
use Rattle.std.specs.Prelude.{◌≡◌, ℕ, List, Result, Ok, Err, false}
use Rattle.kpn_sketch.specs.declared.fault.NetFault.{NetFault}
use Rattle.kpn_model.specs.Network.{Network}
use Rattle.hox_network.specs.Meant.{LoadsMeant}
use Rattle.hox_handle.specs.declared.answers.ReturnCode.{ReturnCode}
use Rattle.hox_handle.specs.declared.answers.ReturnCode.TheVariants.{Done, Description}
use Rattle.hox_handle.specs.Opening.{all_named, all_ports}

-- the result of loading the whole text, with its sketch completed
abbrev pub LoadsText : List ℕ → Result Network NetFault → Type 0
LoadsText text loaded = LoadsMeant all_named all_ports false text loaded

abbrev pub answer_of_loaded : Result Network NetFault → ReturnCode
answer_of_loaded (Ok net) = Done
answer_of_loaded (Err fault) = Description fault

-- the text describes a network, or has the answered fault
abbrev pub Checks : List ℕ → ReturnCode → Type 0
Checks text answer = (loaded : Result Network NetFault) × LoadsText text loaded × (answer ≡ answer_of_loaded loaded)
