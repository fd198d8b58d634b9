-- What contracts see of the ends of a stream.
use Rattle.std.specs.Prelude.{ℕ, Bool, false, List, [], Option, None}
use Rattle.std.specs.Io.KnownBytes.{prepend_known}
use Rattle.kpn_model.specs.declared.token.Sort.{Sort}
use Rattle.kpn_model.specs.declared.token.Sort.TheVariants.{Words}
use Rattle.kpn_model.specs.declared.token.Token.{Token}
use Rattle.kpn_tokens.specs.declared.layouts.Decimals.{Decimals}
use Rattle.kpn_tokens.specs.declared.layouts.Layout.{Layout}
use Rattle.kpn_tokens.specs.declared.layouts.Layout.TheVariants.{Lines}
use Rattle.kpn_tokens.specs.declared.layouts.Separator.TheVariants.{Comma}
use Rattle.kpn_tokens.specs.declared.tables.Table.{Table}
use Rattle.kpn_tokens.specs.declared.tables.Table.TheVariants.{Rows}

-- a source: its channel, layout and sort; the bytes read and not taken; those left to read, if known; whether
-- a read failed; whether it is at its end; how many records and tokens were taken
pub record InletView : Type 0 where
  pub channel : ℕ
  pub layout : Layout
  pub sort : Sort
  pub kept : List ℕ
  pub remaining : Option (List ℕ)
  pub has_failed : Bool
  pub is_over : Bool
  pub records : ℕ
  pub tokens : ℕ

-- the bytes not yet taken, if known
abbrev pub unread : InletView → Option (List ℕ)
unread p = prepend_known p.kept p.remaining

-- a sink: its channel and layout; what is written together with what waits, if known; what waits; whether a
-- write failed, or a token did not fit; how many tokens are written or wait, and how many were clipped
pub record OutletView : Type 0 where
  pub channel : ℕ
  pub layout : Layout
  pub contents : Option (List ℕ)
  pub waiting : List ℕ
  pub has_failed : Bool
  pub is_misfit : Bool
  pub tokens : ℕ
  pub clipped : ℕ

-- the head of a column: its channel, the format of its words, and the layout of a file of it alone
pub record HeadView : Type 0 where
  pub channel : ℕ
  pub decimals : Decimals
  pub layout : Layout

-- a column: its tokens that wait; whether one did not fit; how many it took, and how many were clipped
pub record LaneView : Type 0 where
  pub head : HeadView
  pub waiting : List Token
  pub is_misfit : Bool
  pub tokens : ℕ
  pub clipped : ℕ

-- a table: its columns; what is written together with what waits, if known; what waits; whether a write failed
pub record TableView : Type 0 where
  pub table : Table
  pub lanes : List LaneView
  pub contents : Option (List ℕ)
  pub waiting : List ℕ
  pub has_failed : Bool

-- all sinks: those of one channel, and then those of several
pub record OutsView : Type 0 where
  pub sinks : List OutletView
  pub tables : List TableView

-- a source of which nothing was read
abbrev pub fresh_inlet : ℕ → Layout → Sort → Option (List ℕ) → Bool → InletView
fresh_inlet channel layout sort remaining has_failed =
    record {
      channel = channel;
      layout = layout;
      sort = sort;
      kept = [];
      remaining = remaining;
      has_failed = has_failed;
      is_over = false;
      records = 0;
      tokens = 0;
    }

-- a sink to which nothing was written
abbrev pub fresh_outlet : ℕ → Layout → Option (List ℕ) → OutletView
fresh_outlet channel layout contents =
    record {
      channel = channel;
      layout = layout;
      contents = contents;
      waiting = [];
      has_failed = false;
      is_misfit = false;
      tokens = 0;
      clipped = 0;
    }

-- a column that took nothing
abbrev pub fresh_lane : HeadView → LaneView
fresh_lane head = record { head = head; waiting = []; is_misfit = false; tokens = 0; clipped = 0 }

-- a table to which nothing was written
abbrev pub fresh_table : Table → List LaneView → Option (List ℕ) → TableView
fresh_table table lanes contents =
    record { table = table; lanes = lanes; contents = contents; waiting = []; has_failed = false }

abbrev pub no_layout : Layout
no_layout = Lines (record { digits = 0; is_unsigned = false })

abbrev pub no_inlet : InletView
no_inlet = fresh_inlet 0 no_layout Words None false

abbrev pub no_outlet : OutletView
no_outlet = fresh_outlet 0 no_layout None

abbrev pub no_head : HeadView
no_head = record { channel = 0; decimals = record { digits = 0; is_unsigned = false }; layout = no_layout }

abbrev pub no_lane : LaneView
no_lane = record { head = no_head; waiting = []; is_misfit = false; tokens = 0; clipped = 0 }

abbrev pub no_table : TableView
no_table = record { table = Rows Comma; lanes = []; contents = None; waiting = []; has_failed = false }

abbrev pub outs : List OutletView → List TableView → OutsView
outs sinks tables = record { sinks = sinks; tables = tables }
