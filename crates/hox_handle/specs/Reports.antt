-- The report of how a flow stands.
use Rattle.std.specs.Prelude.{◌≡◌, ℕ, Bool, true, false, codes, decimal, List, ◌++◌, length, slice_index_or}
use Rattle.kpn_model.specs.declared.history.Place.{Place}
use Rattle.kpn_model.specs.declared.history.Place.TheVariants.{Stopped, Reads, Writes}
use Rattle.kpn_model.specs.texts.Names.{process_name, channel_name}
use Rattle.kpn_model.specs.texts.Reports.{lines_upto}
use Rattle.kpn_model.specs.Network.{Family, Network}
use Rattle.kpn_model.specs.Semantics.{State, tokens, capacity}
use Rattle.kpn_model.specs.History.{each_process, place_of}
use Rattle.kpn_state.specs.declared.standing.Standing.{Standing}
use Rattle.kpn_state.specs.Standings.{standing, is_busy, parked_answer}
use Rattle.kpn_report.specs.Text.{end_line}
use Rattle.kpn_flow.specs.declared.pause.Pause.{Pause}
use Rattle.kpn_flow.specs.declared.pause.Pause.TheVariants.{Cut, Starved, Blocked, Over}
use Rattle.kpn_flow.specs.Flows.{FlowView}
use Rattle.kpn_flow.specs.Stands.{IsStand}

abbrev pub stand_line : Pause → List ℕ
stand_line Cut = codes "goes on\n"
stand_line Starved = codes "starved\n"
stand_line Blocked = codes "blocked\n"
stand_line (Over end) = end_line end

abbrev pub place_words : Network → Place → List ℕ
place_words net Stopped = codes "stopped"
place_words net (Reads c) = codes "reads " ++ channel_name net c
place_words net (Writes c) = codes "writes " ++ channel_name net c

abbrev pub process_words : Network → Bool → Place → List ℕ
process_words net true place = codes "goes on"
process_words net false place = place_words net place

-- what process p does
abbrev pub words_at : Network → List Standing → List Place → ℕ → List ℕ
words_at net standings places p = process_words net (is_busy (standing standings p)) (slice_index_or places p Stopped)

abbrev pub process_line : Network → List Standing → List Place → ℕ → List ℕ
process_line net standings places p =
    codes "process " ++ process_name net p ++ codes " " ++ words_at net standings places p ++ codes "\n"

-- the line of each process
abbrev pub lines_of_processes : Network → List Standing → List Place → List ℕ
lines_of_processes net standings places = lines_upto (process_line net standings places) (length net.processes)

-- the name of channel c, and how many tokens are left in it
abbrev pub left_part : Network → State → ℕ → List ℕ
left_part net M c = codes "channel " ++ channel_name net c ++ codes " left " ++ decimal (length (tokens M c))

abbrev pub channel_line : Network → State → ℕ → List ℕ
channel_line net M c = left_part net M c ++ codes " capacity " ++ decimal (capacity M c) ++ codes "\n"

-- the line of each channel
abbrev pub lines_of_channels : Network → State → List ℕ
lines_of_channels net M = lines_upto (channel_line net M) (length net.channels)

abbrev pub entries_part : FlowView → List ℕ
entries_part s = codes "entries " ++ decimal s.counts.entries

abbrev pub count_line : FlowView → List ℕ
count_line s = entries_part s ++ codes " growths " ++ decimal s.counts.growths ++ codes "\n"

abbrev pub places : FlowView → List Place
places s = each_process s.network (λ p. place_of s.network p (parked_answer (standing s.standings p)))

-- how the flow stands, and where each process is
abbrev pub stand_and_processes : FlowView → Pause → List ℕ
stand_and_processes s stand = stand_line stand ++ lines_of_processes s.network s.standings (places s)

-- how the flow stands, where each process is, what each channel holds, and the counts
abbrev pub flow_text : FlowView → Pause → List ℕ
flow_text s stand = stand_and_processes s stand ++ lines_of_channels s.network s.state ++ count_line s

-- the text reports how the flow stands
pub record TellsStand (kinds : Family) (s : FlowView) (text : List ℕ) : Type 0 where
  pub stand : Pause
  pub stands : IsStand kinds s.network s.unended s.outputs s.state s.standings stand
  pub text_is : text ≡ flow_text s stand
