-- Which entries are growths.
use Rattle.std.specs.Prelude.{Bool, true, false}
use Rattle.kpn_model.specs.declared.history.Entry.{Entry}
use Rattle.kpn_model.specs.declared.history.Entry.TheVariants.{Did, Grew}

abbrev pub entry_grows : Entry → Bool
entry_grows (Did p d) = false
entry_grows (Grew c to) = true
