-- Entries counted while they are kept.
use Rattle.std.specs.Prelude.{◌≡◌, ℕ, Bool, true, false, List, [], length}
use Rattle.kpn_model.specs.declared.limits.TheConstants.{MOST_PROCESSES, MOST_CHANNELS}
use Rattle.kpn_model.specs.declared.history.Deed.TheVariants.{Took, Put, Stopped}
use Rattle.kpn_model.specs.declared.history.Entry.{Entry}
use Rattle.kpn_model.specs.declared.history.Entry.TheVariants.{Did, Grew}
use Rattle.kpn_model.specs.History.{deeds, put_on, taken, growths}
use Rattle.kpn_report.specs.Tally.{Tabulates, one_more_at}

pub record TalliedEntries : Type 0 where
  pub entries : List Entry
  pub room : ℕ

abbrev pub tallied_entries : List Entry → ℕ → TalliedEntries
tallied_entries E room = record { entries = E; room = room }

-- the counts after one more entry
abbrev pub puts_after : List ℕ → Entry → List ℕ
puts_after puts (Did p (Put c t)) = one_more_at puts c
puts_after puts (Did p (Took c t)) = puts
puts_after puts (Did p Stopped) = puts
puts_after puts (Grew c to) = puts

abbrev pub takes_after : List ℕ → Entry → List ℕ
takes_after takes (Did p (Took c t)) = one_more_at takes c
takes_after takes (Did p (Put c t)) = takes
takes_after takes (Did p Stopped) = takes
takes_after takes (Grew c to) = takes

abbrev pub grew_after : Bool → Entry → Bool
grew_after grew (Grew c to) = true
grew_after grew (Did p d) = grew

-- the counts of these entries, for the most processes and channels of a network
pub record AreCounts (E : List Entry) (steps puts takes : List ℕ) (grew : Bool) : Type 0 where
  pub of_steps : Tabulates 0 MOST_PROCESSES (λ p. length (deeds E p)) steps
  pub of_puts : Tabulates 0 MOST_CHANNELS (λ c. length (put_on E c)) puts
  pub of_takes : Tabulates 0 MOST_CHANNELS (λ c. length (taken E c)) takes
  pub of_growths : grew ≡ false → growths E ≡ []
