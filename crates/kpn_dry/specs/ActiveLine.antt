-- The line that names the processes that are not dry.
use Rattle.std.specs.Prelude.{ℕ, Bool, codes, if◌then◌else◌, List, [], ◌++◌, length}
use Rattle.kpn_model.specs.Network.{Network}
use Rattle.kpn_model.specs.texts.Names.{process_name}
use Rattle.kpn_model.specs.texts.Reports.{lines_upto}
use Rattle.kpn_state.specs.declared.standing.Standing.{Standing}
use Rattle.kpn_dry.specs.Told.{is_told_dry}

module _ (net : Network) (dry : ℕ → Bool) where
  abbrev pub active_name : ℕ → List ℕ
  active_name p = if dry p then [] else codes " " ++ process_name net p

  abbrev pub active_line : List ℕ
  active_line = codes "active" ++ lines_upto active_name (length net.processes) ++ codes "\n"

module _ (net : Network) (standings : List Standing) where
  -- the name of p, unless the standings tell that it is dry
  abbrev pub told_name : ℕ → List ℕ
  told_name p = active_name net (is_told_dry net standings) p

  -- the names of the processes that are not told dry
  abbrev pub told_names : List ℕ
  told_names = lines_upto (active_name net (is_told_dry net standings)) (length net.processes)

  -- the line with these names
  abbrev pub told_line : List ℕ
  told_line = active_line net (is_told_dry net standings)
