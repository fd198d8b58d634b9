-- What the calls of a session do. A session is seen as its flow, a channel as its place among the inputs or
-- the outputs.
use Rattle.std.specs.Prelude.{◌≡◌, ℕ, ◌&&◌, Bool, List, nat_lt, length, slice_get, Option, Some, MatchOption, option_map}
use Rattle.kpn_model.specs.Network.{Family, Network, number_of_channel}
use Rattle.kpn_model.specs.Semantics.{tokens, capacity}
use Rattle.kpn_standard.specs.Standard.{standard}
use Rattle.kpn_signals.specs.Family.{signals}
use Rattle.kpn_rounds.specs.Rounds.{rounds_family}
use Rattle.kpn_formula.specs.Shapes.{ports as formula_ports}
use Rattle.kpn_formula.specs.Formulas.{start as formula_start, step as formula_step}
use Rattle.kpn_compute.specs.Both.{both_family}
use Rattle.hox_stream.specs.Exits.{exits}
use Rattle.kpn_flow.specs.declared.pause.Pause.{Pause}
use Rattle.kpn_flow.specs.Flows.{FlowView, is_among, with_ended, IsSameFlow, fill}
use Rattle.kpn_flow.specs.Stands.{IsStand}
use Rattle.kpn_flow.specs.Waits.{starves, holds_up}
use Rattle.kpn_flow.specs.Pauses.{Advances, TellWants}
use Rattle.hox_handle.specs.declared.answers.ReturnCode.{ReturnCode}
use Rattle.hox_handle.specs.declared.answers.ReturnCode.TheVariants.{Done, NoChannel}
use Rattle.hox_handle.specs.declared.words.Transferred.{Transferred}
use Rattle.hox_handle.specs.Words.{Feeds, Drains}

-- all kinds of descriptions; below, readers that stop at once too
abbrev pub all_kinds : Family
all_kinds = both_family (both_family standard signals) (rounds_family formula_ports formula_start formula_step)

abbrev pub flow_kinds : Family
flow_kinds = both_family all_kinds exits

abbrev pub nothing_for : ReturnCode → Transferred
nothing_for answer = record { count = 0; answer = answer }

-- nothing is moved, for want of a channel
abbrev pub MovesNothing : FlowView → FlowView → Transferred → Type 0
MovesNothing s t moved = (moved ≡ nothing_for NoChannel) × (t ≡ s)

-- words are fed into the input at this place; without one nothing changes
abbrev pub FeedsAt : FlowView → FlowView → ℕ → List ℕ → Transferred → Type 0
FeedsAt s t place words moved =
    MatchOption (slice_get s.inputs place) (MovesNothing s t moved) (λ c. Feeds flow_kinds s t c words moved)

-- nothing is drained, for want of a channel
abbrev pub DrainsNothing : FlowView → FlowView → List ℕ → List ℕ → Transferred → Type 0
DrainsNothing s t before after moved = (moved ≡ nothing_for NoChannel) × (t ≡ s) × (after ≡ before)

-- words are drained from this channel
abbrev pub DrainsFrom : FlowView → FlowView → List ℕ → List ℕ → Transferred → ℕ → Type 0
DrainsFrom s t before after moved c = Drains flow_kinds s t c before after moved.count × (moved.answer ≡ Done)

-- words are drained from the output at this place; without one nothing changes
abbrev pub DrainsAt : FlowView → FlowView → ℕ → List ℕ → List ℕ → Transferred → Type 0
DrainsAt s t place before after moved =
    MatchOption (slice_get s.outputs place) (DrainsNothing s t before after moved) (DrainsFrom s t before after moved)

-- nothing ends, for want of a channel
abbrev pub EndsNothing : FlowView → FlowView → ReturnCode → Type 0
EndsNothing s t answer = (answer ≡ NoChannel) × (t ≡ s)

-- this channel has ended
abbrev pub EndsChannel : FlowView → FlowView → ReturnCode → ℕ → Type 0
EndsChannel s t answer c = (answer ≡ Done) × (t ≡ with_ended s c)

-- the input at this place has ended; without one nothing changes
abbrev pub EndsAt : FlowView → FlowView → ℕ → ReturnCode → Type 0
EndsAt s t place answer = MatchOption (slice_get s.inputs place) (EndsNothing s t answer) (EndsChannel s t answer)

-- the flow runs for at most `most` entries, and returns for this reason
pub record GoesOn (s t : FlowView) (most : ℕ) (pause : Pause) : Type 0 where
  pub same : IsSameFlow s t
  pub advances : Advances flow_kinds s.network s.unended s.outputs s.counts t.counts s.state t.state most pause
  pub told : TellWants flow_kinds t.network t.state t.standings pause

abbrev pub may_feed : FlowView → ℕ → Bool
may_feed s c = is_among s.unended c && nat_lt (length (tokens s.state c)) (capacity s.state c)

-- whether the input at this place may be fed, if there is one
abbrev pub may_feed_at : FlowView → ℕ → Option Bool
may_feed_at s place = option_map (may_feed s) (slice_get s.inputs place)

-- whether a process waits for the input at this place
abbrev pub starves_at : FlowView → ℕ → Option Bool
starves_at s place = option_map (starves s.network s.standings) (slice_get s.inputs place)

-- whether a process waits for room in the output at this place
abbrev pub holds_up_at : FlowView → ℕ → Option Bool
holds_up_at s place = option_map (holds_up s.network s.standings) (slice_get s.outputs place)

-- the tokens and the capacity of the input at this place
abbrev pub input_fill : FlowView → ℕ → Option (ℕ × ℕ)
input_fill s place = option_map (fill s) (slice_get s.inputs place)

-- those of the output
abbrev pub output_fill : FlowView → ℕ → Option (ℕ × ℕ)
output_fill s place = option_map (fill s) (slice_get s.outputs place)

-- how the flow stands
abbrev pub StandsAs : FlowView → Pause → Type 0
StandsAs s stand = IsStand flow_kinds s.network s.unended s.outputs s.state s.standings stand

-- the channel at this place of the list has this name
pub record IsNamedAt (net : Network) (channels : List ℕ) (name : List ℕ) (place : ℕ) : Type 0 where
  pub channel : ℕ
  pub at : slice_get channels place ≡ Some channel
  pub named : number_of_channel net name ≡ Some channel

-- no channel of the list has this name
abbrev pub IsNotNamed : Network → List ℕ → List ℕ → Type 0
IsNotNamed net channels name = (place : ℕ) → IsNamedAt net channels name place → ⊥
