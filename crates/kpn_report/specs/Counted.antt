-- The lines of a report, from the counts of a history.
use Rattle.std.specs.Prelude.{ℕ, ◌+◌, ◌-◌, ◌++◌, codes, decimal, List, [], Option, Some, None, length, slice_index_or}
use Rattle.std.specs.List.{flat_map}
use Rattle.kpn_model.specs.declared.history.Entry.{Entry}
use Rattle.kpn_model.specs.declared.history.Place.{Place}
use Rattle.kpn_model.specs.Network.{Network, channel_of}
use Rattle.kpn_model.specs.History.{stream, each_channel}
use Rattle.kpn_report.specs.declared.channel_counts.ChannelCounts.{ChannelCounts}
use Rattle.kpn_report.specs.declared.tally.Tally.{Tally}
use Rattle.kpn_report.specs.Tally.{counts_at}
use Rattle.kpn_model.specs.texts.Reports.{lines_upto}
use Rattle.kpn_report.specs.Text.{process_lines, channel_line, growth_line, stream_line}

-- left are the start tokens and those put on the channel, without those taken
abbrev pub left_on : Network → ChannelCounts → ℕ → ℕ
left_on net a c = length (channel_of net c).tokens + a.put - a.taken

abbrev pub counted_line : Network → List ChannelCounts → ℕ → List ℕ
counted_line net channel_counts c =
    let a = counts_at channel_counts c in channel_line net a.put (left_on net a c) a.capacity c

-- the line of each channel
abbrev pub counted_lines : Network → List ChannelCounts → List ℕ
counted_lines net channel_counts = lines_upto (counted_line net channel_counts) (length net.channels)

-- all lines except the first and that of the channel to show
abbrev pub counted_text : Network → List Place → List ℕ → List ChannelCounts → List (ℕ × ℕ) → ℕ → List ℕ
counted_text net places steps channel_counts growths entries =
    process_lines net places steps ++ counted_lines net channel_counts
    ++ flat_map (growth_line net) growths ++ codes "entries " ++ decimal entries ++ codes "\n"

-- those lines, from a tally
abbrev pub tally_text : Network → List Place → Tally → ℕ → List ℕ
tally_text net places t entries =
    counted_text net places t.steps.items t.channel_counts.items t.growths.items entries

abbrev pub shown_of : Network → List Entry → Option ℕ → List ℕ
shown_of net E None = []
shown_of net E (Some c) = stream_line net (slice_index_or (each_channel net (λ b. stream net E b)) c []) c
