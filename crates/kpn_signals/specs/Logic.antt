-- The kinds that write flags. A flag that was read first is kept as 1 or 0.
use Rattle.std.specs.Prelude.{ℕ, ◌==◌, ◌&&◌, ◌||◌, not, int_lt, List}
use Rattle.kpn_model.specs.declared.token.Token.{Token}
use Rattle.kpn_model.specs.declared.token.Token.TheVariants.{Flag}
use Rattle.kpn_standard.specs.Locals.{at, one, word, flag}
use Rattle.kpn_signals.specs.Words.{signed}
use Rattle.kpn_signals.specs.Shapes.{number_of}

abbrev pub less_join : ℕ → ℕ → Token → ℕ × Token
less_join kept x t = (kept, Flag (int_lt (signed x) (signed (word t))))

abbrev pub equal_join : ℕ → ℕ → Token → ℕ × Token
equal_join kept x t = (kept, Flag (x == word t))

abbrev pub not_step : List ℕ → Token → List ℕ × Token
not_step kept t = (kept, Flag (not (flag t)))

abbrev pub and_join : ℕ → ℕ → Token → ℕ × Token
and_join kept x t = (kept, Flag ((x == 1) && flag t))

abbrev pub or_join : ℕ → ℕ → Token → ℕ × Token
or_join kept x t = (kept, Flag ((x == 1) || flag t))

-- edge: whether the flag is true and the one before is not; it keeps the flag
abbrev pub edge_step : List ℕ → Token → List ℕ × Token
edge_step kept t = (one (number_of (Flag (flag t))), Flag (flag t && (at kept 0 == 0)))
