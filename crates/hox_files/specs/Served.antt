-- The result of reading a description from a file.
use Rattle.std.specs.Prelude.{ℕ, List, Result, Ok, Err}
use Rattle.kpn_model.specs.Network.{Network}
use Rattle.kpn_front.specs.Names.{KindNames, Signatures}
use Rattle.hox_network.specs.declared.request.Fault.{Fault}
use Rattle.hox_files.specs.declared.stops.Unserved.{Unserved}
use Rattle.hox_files.specs.Files.{Contents}
use Rattle.hox_files.specs.Requests.{ServesFile}

abbrev pub faulty : {X : Type 0} → Result X Unserved → Result X Fault
faulty (Ok x) = Ok x
faulty (Err unserved) = Err unserved.fault

module _ {X : Type 0} (contents : Contents) (named : KindNames) (signature : Signatures) where
  -- the description in a file is read, with this result
  abbrev pub ServesNamed : (Network → Result X Fault → Type 0) → List ℕ → Result X Unserved → Type 0
  ServesNamed gives name result = ServesFile contents named signature gives name (faulty result)
