-- What a report has before and after its verdict.
use Rattle.std.specs.Prelude.{◌≡◌, ◌<◌, ℕ, codes, List, [], ◌++◌, if◌then◌else◌, length, slice_index_or, Option, Some, None, IfSome}
use Rattle.std.specs.List.{flat_map}
use Rattle.kpn_model.specs.declared.token.Token.{Token}
use Rattle.kpn_model.specs.declared.history.Entry.{Entry}
use Rattle.kpn_model.specs.declared.history.End.{End}
use Rattle.kpn_model.specs.declared.history.End.TheVariants.{Budget, Memory}
use Rattle.kpn_model.specs.declared.history.Place.{Place}
use Rattle.kpn_model.specs.declared.history.Place.TheVariants.{Stopped}
use Rattle.kpn_model.specs.Network.{Family, Network}
use Rattle.kpn_model.specs.texts.Names.{process_name, channel_name}
use Rattle.kpn_model.specs.texts.Reports.{lines_upto}
use Rattle.kpn_model.specs.Semantics.{State, wants, IsEnabled}
use Rattle.kpn_model.specs.History.{each_channel, place_of, stream}
use Rattle.kpn_state.specs.declared.standing.Standing.{Standing}
use Rattle.kpn_state.specs.Standings.{standing, is_busy}
use Rattle.kpn_report.specs.Text.{place_text}
use Rattle.kpn_tokens.specs.declared.layouts.Decimals.{Decimals}
use Rattle.kpn_tokens.specs.Numbers.{token_text}
use Rattle.hox_run.specs.declared.shown.ChannelAs.{ChannelAs}
use Rattle.hox_run.specs.declared.shown.StreamLine.{StreamLine}

-- where a cut left each process: no place if it was ready, as each enabled one is; else that it has stopped,
-- or the place where it waits
pub record Leaves (kinds : Family) (net : Network) (M : State) (left : ℕ → Option Place) : Type 0 where
  pub ready : (p : ℕ) → IsEnabled kinds net M p → left p ≡ None
  pub placed : (p : ℕ) → p < length net.processes
      → IfSome (left p) (λ place. place ≡ place_of net p (wants kinds net M p))

-- the place of process p by the standings and the places
abbrev pub left_at : List Standing → List Place → ℕ → Option Place
left_at standings places p = if is_busy (standing standings p) then None else Some (slice_index_or places p Stopped)

abbrev pub token_part : Decimals → Token → List ℕ
token_part decimals token = codes " " ++ token_text decimals token

module _ (net : Network) where
  abbrev pub IsWithin : {W : Type 0} → ChannelAs W → Type 0
  IsWithin c = c.channel < length net.channels

  abbrev pub left_text : Option Place → List ℕ
  left_text None = codes "ready"
  left_text (Some place) = place_text net place

  abbrev pub left_line : (ℕ → Option Place) → ℕ → List ℕ
  left_line left p = codes "process " ++ process_name net p ++ codes " " ++ left_text (left p) ++ codes "\n"

  abbrev pub tokens_line : List ℕ → List Token → ChannelAs Decimals → List ℕ
  tokens_line word tokens c = word ++ channel_name net c.channel ++ flat_map (token_part c.written) tokens ++ codes "\n"

  abbrev pub text_of_line : StreamLine → List ℕ
  text_of_line line = tokens_line line.word.now line.tokens.now line.channel

  -- the tokens of channel c's stream, none if there is no such channel
  abbrev pub tokens_shown : List Entry → ℕ → List Token
  tokens_shown E c = slice_index_or (each_channel net (λ b. stream net E b)) c []

  -- the line with a channel's stream
  abbrev pub stream_shown : List ℕ → List Entry → ChannelAs Decimals → List ℕ
  stream_shown word E c = tokens_line word (tokens_shown E c.channel) c

  abbrev pub streams_text : List ℕ → List Entry → List (ChannelAs Decimals) → List ℕ
  streams_text word E channels = flat_map (stream_shown word E) channels

  -- the streams to show, if the run has a report
  abbrev pub before_verdict : End → List Entry → List (ChannelAs Decimals) → List ℕ
  before_verdict Budget E show = []
  before_verdict Memory E show = []
  before_verdict _ E show = streams_text (codes "stream ") E show

  -- where a cut left each process
  abbrev pub left_lines : (ℕ → Option Place) → List ℕ
  left_lines left = lines_upto (left_line left) (length net.processes)

  -- where a cut left the processes, and the streams to show so far
  abbrev pub cut_text : List Entry → (ℕ → Option Place) → List (ChannelAs Decimals) → List ℕ
  cut_text E left show = left_lines left ++ streams_text (codes "prefix ") E show

  -- the text after the verdict
  abbrev pub after_verdict : End → List Entry → (ℕ → Option Place) → List (ChannelAs Decimals) → List ℕ
  after_verdict Budget E left show = cut_text E left show
  after_verdict _ E left show = []
