-- The text of a report.
use Rattle.std.specs.Prelude.{◌≡◌, ℕ, ◌-◌, true, false, codes, decimal, List, [], ◌++◌, length, slice_index, slice_index_or, Option, Some, None, String, string_bytes}
use Rattle.std.specs.List.{flat_map}
use Rattle.kpn_model.specs.declared.token.Token.{Token}
use Rattle.kpn_model.specs.declared.token.Token.TheVariants.{Word, Flag}
use Rattle.kpn_model.specs.declared.history.Place.{Place}
use Rattle.kpn_model.specs.declared.history.Place.TheVariants.{Stopped, Reads, Writes}
use Rattle.kpn_model.specs.declared.history.End.{End}
use Rattle.kpn_model.specs.declared.history.End.TheVariants.{Terminated, Deadlock, Ceiling, Budget, Memory}
use Rattle.kpn_model.specs.declared.history.Entry.{Entry}
use Rattle.kpn_model.specs.Network.{Family, Network, channel_of}
use Rattle.kpn_model.specs.texts.Names.{process_name, channel_name}
use Rattle.kpn_model.specs.texts.Reports.{lines_upto}
use Rattle.kpn_model.specs.Semantics.{State}
use Rattle.kpn_model.specs.History.{Digest, digest}

-- the new text is the old one and then this
abbrev pub AppendsText : {Z : Type 0} → String Z → String Z → List ℕ → Type 0
AppendsText old new text = string_bytes new ≡ string_bytes old ++ text

-- the line with the number of entries
abbrev pub entries_line : ℕ → List ℕ
entries_line entries = codes "entries " ++ decimal entries ++ codes "\n"

abbrev pub token_text : Token → List ℕ
token_text (Word n) = decimal n
token_text (Flag true) = codes "true"
token_text (Flag false) = codes "false"

abbrev pub end_text : End → List ℕ
end_text Terminated = codes "terminated"
end_text Deadlock = codes "deadlock"
end_text Ceiling = codes "ceiling"
end_text Budget = codes "budget"
end_text Memory = codes "memory"

abbrev pub end_line : End → List ℕ
end_line end = codes "end " ++ end_text end ++ codes "\n"

abbrev pub token_part : Token → List ℕ
token_part t = codes " " ++ token_text t

module _ (net : Network) where
  abbrev pub place_text : Place → List ℕ
  place_text Stopped = codes "stopped"
  place_text (Reads c) = codes "reads " ++ channel_name net c
  place_text (Writes c) = codes "writes " ++ channel_name net c

  abbrev pub growth_line : ℕ × ℕ → List ℕ
  growth_line g = codes "grew " ++ channel_name net g.0 ++ codes " " ++ decimal g.1 ++ codes "\n"

  abbrev pub process_line : List Place → List ℕ → ℕ → List ℕ
  process_line places steps p =
      codes "process " ++ process_name net p ++ codes " " ++ place_text (slice_index_or places p Stopped)
      ++ codes " steps " ++ decimal (slice_index steps p) ++ codes "\n"

  -- the line of each process
  abbrev pub process_lines : List Place → List ℕ → List ℕ
  process_lines places steps = lines_upto (process_line places steps) (length net.processes)

  abbrev pub channel_line : ℕ → ℕ → ℕ → ℕ → List ℕ
  channel_line put left capacity c =
      codes "channel " ++ channel_name net c ++ codes " put " ++ decimal put
      ++ codes " left " ++ decimal left ++ codes " capacity " ++ decimal capacity ++ codes "\n"

  abbrev pub stream_line : List Token → ℕ → List ℕ
  stream_line tokens c = codes "stream " ++ channel_name net c ++ flat_map token_part tokens ++ codes "\n"

  module _ (d : Digest) where
    -- the stream without the start tokens
    abbrev pub put_count : ℕ → ℕ
    put_count c = length (slice_index_or d.streams c []) - length (channel_of net c).tokens

    abbrev pub left_count : ℕ → ℕ
    left_count c = length (slice_index_or d.rests c [])

    abbrev pub digest_line : ℕ → List ℕ
    digest_line c = channel_line (put_count c) (left_count c) (slice_index d.capacities c) c

    abbrev pub shown_line : Option ℕ → List ℕ
    shown_line None = []
    shown_line (Some c) = stream_line (slice_index_or d.streams c []) c

    abbrev pub digest_text : Option ℕ → List ℕ
    digest_text show =
        process_lines d.places d.steps ++ lines_upto digest_line (length net.channels)
        ++ flat_map growth_line d.growths ++ codes "entries " ++ decimal d.entries ++ codes "\n" ++ shown_line show

-- only the first line if the budget was spent or the run was out of memory
abbrev pub report_text : Family → Network → End → List Entry → State → Option ℕ → List ℕ
report_text kinds net Budget E M show = end_line Budget
report_text kinds net Memory E M show = end_line Memory
report_text kinds net cause E M show = end_line cause ++ digest_text net (digest kinds net cause E M) show
