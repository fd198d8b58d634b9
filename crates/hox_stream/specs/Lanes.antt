-- A column of a table.
use Rattle.std.specs.Prelude.{◌≡◌, ◌++◌, ◌||◌, ℕ, not, List, length}
use Rattle.kpn_model.specs.declared.token.Token.{Token}
use Rattle.kpn_tokens.specs.declared.layouts.Decimals.{Decimals}
use Rattle.kpn_tokens.specs.declared.tables.Table.{Table}
use Rattle.kpn_tokens.specs.Tables.{column_layout}
use Rattle.hox_stream.specs.Ports.{CountsOn, are_written, clipped_of, written_of}
use Rattle.hox_stream.specs.Views.{HeadView, LaneView, fresh_lane}

-- the head of a column
abbrev pub new_head : Table → ℕ → Decimals → HeadView
new_head table channel decimals =
    record { channel = channel; decimals = decimals; layout = column_layout table 1 0 decimals }

abbrev pub new_lane : Table → ℕ → Decimals → LaneView
new_lane table channel decimals = fresh_lane (new_head table channel decimals)

-- a column took these tokens, up to the first that does not fit
pub record TakesIn (p q : LaneView) (tokens : List Token) : Type 0 where
  pub head : q.head ≡ p.head
  pub waiting : q.waiting ≡ p.waiting ++ written_of p.head.layout p.is_misfit tokens
  pub misfit : q.is_misfit ≡ (p.is_misfit || not (are_written p.head.layout tokens))
  pub counted : CountsOn p.tokens q.tokens (length (written_of p.head.layout p.is_misfit tokens))
  pub clipped : CountsOn p.clipped q.clipped (clipped_of p.head.layout p.is_misfit tokens)
