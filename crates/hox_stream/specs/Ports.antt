-- Tokens that come in from a source, and go out to a sink.
use Rattle.std.specs.Prelude.{◌≡◌, ◌<◌, ◌≤◌, ◌+◌, ◌-◌, ◌^◌, ◌++◌, ◌&&◌, ◌||◌, ◌⊎◌, ℕ, Bool, true, false, not, List, [], length, map, if◌then◌else◌, Result, Ok, IfErr, ◌≢◌, drop}
use Rattle.std.specs.List.{flat_map, list_all, take_while}
use Rattle.std.specs.Io.Iter.{u64_saturate}
use Rattle.std.specs.Io.KnownBytes.{Appends, Consumes, IsAtEnd}
use Rattle.kpn_model.specs.declared.token.Token.{Token}
use Rattle.kpn_model.specs.Network.{Family, Network, channel_of}
use Rattle.kpn_tokens.specs.declared.layouts.Layout.{Layout}
use Rattle.kpn_tokens.specs.Records.{clips, fits, misfits, record_text}
use Rattle.kpn_flow.specs.Events.{Event, Fed, Drained, Flows}
use Rattle.kpn_flow.specs.Flows.{FlowView, IsSameFlow, is_among}
use Rattle.kpn_flow.specs.Preloaded.{IsAtEnds}
use Rattle.hox_stream.specs.declared.outlet.WriteFault.{WriteFault}
use Rattle.hox_stream.specs.declared.outlet.WriteFault.TheVariants.{Failed, Misfit, Memory}
use Rattle.hox_stream.specs.declared.cutting.FirstRecord.{FirstRecord}
use Rattle.hox_stream.specs.declared.cutting.Refusal.{Refusal}
use Rattle.hox_stream.specs.Cutting.{IsFirstRecord, IsRefused, Passes, has_record}
use Rattle.hox_stream.specs.Views.{InletView, OutletView, unread}

-- m is n + k; a count stays at 2 ^ 64 - 1 once it is there
abbrev pub CountsOn : ℕ → ℕ → ℕ → Type 0
CountsOn n m k = n ≤ 2 ^ 64 - 1 → m ≡ u64_saturate (n + k)

-- these tokens were taken from a source, as its records say; it holds at most 8,192 bytes
pub record Takes (p q : InletView) (tokens : List Token) : Type 0 where
  pub channel : q.channel ≡ p.channel
  pub layout : q.layout ≡ p.layout
  pub sort : q.sort ≡ p.sort
  pub counted : CountsOn p.tokens q.tokens (length tokens)
  pub records : ℕ
  pub counted_records : CountsOn p.records q.records records
  pub passes : Passes p.layout p.sort (unread p) (unread q) tokens records
  pub held : length p.kept ≤ 8192 → length q.kept ≤ 8192

abbrev pub are_written : Layout → List Token → Bool
are_written layout tokens = clips layout || list_all (fits layout) tokens

-- the tokens before the first that does not fit, or all if they are clipped
abbrev pub up_to_misfit : Layout → List Token → List Token
up_to_misfit layout tokens = if clips layout then tokens else take_while (fits layout) tokens

-- the tokens before the first that does not fit and is not clipped; none after such a misfit
abbrev pub written_of : Layout → Bool → List Token → List Token
written_of layout misfit tokens = if misfit then [] else up_to_misfit layout tokens

-- their records
abbrev pub written_text : Layout → Bool → List Token → List ℕ
written_text layout misfit tokens = flat_map (record_text layout) (written_of layout misfit tokens)

-- how many of them are clipped
abbrev pub clipped_of : Layout → Bool → List Token → ℕ
clipped_of layout misfit tokens = if misfit then 0 else if clips layout then misfits layout tokens else 0

-- these tokens were written to a sink, up to the first misfit, unless a write failed; at most 4,096 bytes wait
pub record Writes (p q : OutletView) (tokens : List Token) : Type 0 where
  pub channel : q.channel ≡ p.channel
  pub layout : q.layout ≡ p.layout
  pub unfailed : q.has_failed ≡ false → p.has_failed ≡ false
  pub written : q.has_failed ≡ false
      → Appends p.contents q.contents (flat_map (record_text p.layout) (written_of p.layout p.is_misfit tokens))
  pub misfit : q.has_failed ≡ false → q.is_misfit ≡ (p.is_misfit || not (are_written p.layout tokens))
  pub counted : q.has_failed ≡ false → CountsOn p.tokens q.tokens (length (written_of p.layout p.is_misfit tokens))
  pub clipped : q.has_failed ≡ false → CountsOn p.clipped q.clipped (clipped_of p.layout p.is_misfit tokens)
  pub held : length p.waiting ≤ 4096 → length q.waiting ≤ 4096

-- when a write ends with each fault
abbrev pub IsWriteFault : OutletView → WriteFault → Type 0
IsWriteFault q Failed = q.has_failed ≡ true
IsWriteFault q Misfit = q.is_misfit ≡ true
IsWriteFault q Memory = q.has_failed ≡ true

pub record ReadsOn (p q : InletView) : Type 0 where
  pub channel : q.channel ≡ p.channel
  pub layout : q.layout ≡ p.layout
  pub sort : q.sort ≡ p.sort
  pub bytes : List ℕ
  pub kept : q.kept ≡ p.kept ++ bytes
  pub consumed : Consumes p.remaining q.remaining bytes
  pub held : length q.kept ≤ 8192
  pub tokens : q.tokens ≡ p.tokens
  pub records : q.records ≡ p.records

-- the next record is incomplete, and the source is not at its end
abbrev pub wants_more : InletView → Bool
wants_more p = not p.is_over && not (has_record p.layout p.kept)

-- the source was read: bytes came, or it is now at its end
abbrev pub IsRead : InletView → InletView → Type 0
IsRead p q = (length p.kept < length q.kept) ⊎ ((p.is_over ≡ false) × (q.is_over ≡ true))

-- or more bytes are held than a record may have
abbrev pub IsReadOrFull : InletView → InletView → Type 0
IsReadOrFull p q = IsRead p q ⊎ (4096 < length q.kept)

-- so many bytes, records and tokens were taken
abbrev pub with_records_taken : InletView → ℕ → ℕ → ℕ → InletView
with_records_taken p used records tokens =
    record p {
      kept = drop used p.kept;
      records = u64_saturate (p.records + records);
      tokens = u64_saturate (p.tokens + tokens);
    }

-- the first record of what is held is rejected
abbrev pub IsRejectedIn : InletView → Refusal → Type 0
IsRejectedIn p refusal = IsRefused p.layout p.sort p.kept p.is_over refusal

-- the channel has another sort than the source
abbrev pub HasOtherSort : Network → InletView → Type 0
HasOtherSort net p = p.sort ≢ (channel_of net p.channel).sort

pub record IsNotRead (p q : InletView) : Type 0 where
  pub kept : length q.kept ≤ length p.kept
  pub remaining : q.remaining ≡ p.remaining
  pub is_over : q.is_over ≡ p.is_over

-- this comes next of a source; at its end there is no more
pub record IsNextIn (p : InletView) (found : FirstRecord) : Type 0 where
  pub next : IsFirstRecord p.layout p.sort p.kept p.is_over found
  pub at_end : p.is_over ≡ true → IsAtEnd p.remaining

-- the source was read once, and then only records were taken
pub record IsReadOnce (p q : InletView) : Type 0 where
  pub between : InletView
  pub read : IsRead p between
  pub taken : IsNotRead between q

pub record IsSameNet (s t : FlowView) : Type 0 where
  pub network : t.network ≡ s.network
  pub inputs : t.inputs ≡ s.inputs
  pub outputs : t.outputs ≡ s.outputs

-- events that feed a channel, and that drain one
abbrev pub events_fed : ℕ → List Token → List Event
events_fed channel tokens = map (λ token. Fed channel token) tokens

abbrev pub events_drained : ℕ → List Token → List Event
events_drained channel tokens = map (λ token. Drained channel token) tokens

-- events are only at the ends of the flow
abbrev pub AreAtItsEnds : FlowView → List Event → Type 0
AreAtItsEnds s events = IsAtEnds (is_among s.inputs) (is_among s.outputs) events

-- feeding a channel with these tokens leads the flow on
abbrev pub FlowsFed : Family → FlowView → FlowView → ℕ → List Token → Type 0
FlowsFed kinds s t channel tokens = Flows kinds s.network s.state (events_fed channel tokens) t.state

module _ (kinds : Family) (s t : FlowView) where
  -- the tokens taken from a source were fed into its channel; nothing else happened
  pub record Pours (p q : InletView) : Type 0 where
    pub same : IsSameNet s t
    pub tokens : List Token
    pub takes : Takes p q tokens
    pub flows : Flows kinds s.network s.state (map (λ token. Fed p.channel token) tokens) t.state
    pub at_ends : IsAtEnds (is_among s.inputs) (is_among s.outputs) (map (λ token. Fed p.channel token) tokens)

  -- so were the tokens of bytes that were read before; the source was not read
  pub record PoursKept (p q : InletView) : Type 0 where
    pub pours : Pours p q
    pub unread : IsNotRead p q

  -- the tokens drained from a channel were written to its sink; nothing else happened
  pub record Tells (p q : OutletView) : Type 0 where
    pub same : IsSameNet s t
    pub tokens : List Token
    pub writes : Writes p q tokens
    pub flows : Flows kinds s.network s.state (map (λ token. Drained p.channel token) tokens) t.state
    pub at_ends : IsAtEnds (is_among s.inputs) (is_among s.outputs) (map (λ token. Drained p.channel token) tokens)

  -- so they were, if there were any, up to a fault; the flow has the same ends
  pub record TellsSink (p q : OutletView) (result : Result Bool WriteFault) : Type 0 where
    pub tells : Tells p q
    pub same : IsSameFlow s t
    pub none : result ≡ Ok false → t.state ≡ s.state
    pub fault : IfErr result (IsWriteFault q)
