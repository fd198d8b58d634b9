-- Worked networks: the least solution of the equations, written out (Kahn 1974).
use Rattle.std.specs.Prelude.{zero, suc, Some, None}
use Rattle.kpn_model.specs.declared.token.Token.TheVariants.{Word}
use Rattle.kpn_standard.specs.Standard.{standard}
use Rattle.kpn_laws.specs.Alone.{Streams}
use Rattle.kpn_laws.specs.Equations.{listed, IsLeastSolution}
use Rattle.test_laws.specs.Growing.{parks_case, parks_case_digest}
use Rattle.test_laws.specs.Computing.{running_sums, running_sums_digest}
use Rattle.test_laws.specs.WorkedRoom.{ring}

-- 1, 2, 3 on the counter's channel and on both branches, then 1, 2, 3, 1, 2, 3
abbrev pub ParksSolution : Type 0
ParksSolution = IsLeastSolution standard parks_case (listed parks_case_digest.streams)

-- the running sums of 1, 2, 3, fed back through a channel that begins with 0
abbrev pub SumsSolution : Type 0
SumsSolution = IsLeastSolution standard running_sums (listed running_sums_digest.streams)

-- the token 7 for ever on channel 0
abbrev pub endless : Streams
endless zero n = Some (Word 7)
endless (suc c) n = None

-- the solution of a process that passes a token on to itself; no run of it ends
abbrev pub RingSolution : Type 0
RingSolution = IsLeastSolution standard ring endless
