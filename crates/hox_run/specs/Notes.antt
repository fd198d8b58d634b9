-- What a run left unused.
use Rattle.std.specs.Prelude.{◌≡◌, ◌-◌, ◌==◌, ◌&&◌, ℕ, Bool, true, false, not, List, [], ◌∷◌, ◌++◌, zero, suc, length, Option, Some, None, if◌then◌else◌}
use Rattle.std.specs.List.{count_by, list_any}
use Rattle.kpn_model.specs.declared.history.Deed.TheVariants.{Took, Put}
use Rattle.kpn_model.specs.declared.history.Entry.{Entry}
use Rattle.kpn_model.specs.declared.history.Entry.TheVariants.{Did}
use Rattle.kpn_model.specs.declared.history.Place.{Place}
use Rattle.kpn_model.specs.declared.history.Place.TheVariants.{Stopped}
use Rattle.kpn_model.specs.declared.verdict.Verdict.{Verdict}
use Rattle.kpn_model.specs.declared.verdict.Verdict.TheVariants.{Cut}
use Rattle.kpn_model.specs.texts.Names.{channel_name}
use Rattle.kpn_model.specs.Network.{Network, channel_of}
use Rattle.hox_run.specs.declared.notes.Notes.{Notes}
use Rattle.hox_run.specs.declared.notes.SourceNote.{SourceNote}

-- an entry is a put on channel c, or takes a token from it
abbrev pub is_put_on : ℕ → Entry → Bool
is_put_on c (Did p (Put b t)) = b == c
is_put_on c _ = false

abbrev pub is_taken_from : ℕ → Entry → Bool
is_taken_from c (Did p (Took b t)) = b == c
is_taken_from c _ = false

abbrev pub has_put : List Entry → ℕ → Bool
has_put E c = list_any (is_put_on c) E

abbrev pub taken_count : List Entry → ℕ → ℕ
taken_count E c = count_by (is_taken_from c) E

abbrev pub is_place_of_stopped : Option Place → Bool
is_place_of_stopped (Some Stopped) = true
is_place_of_stopped _ = false

abbrev pub spent : Network → Verdict → Option ℕ
spent net Cut = Some net.budget
spent net _ = None

module _ (net : Network) (E : List Entry) where
  -- the writer of channel c stopped without a put on it
  abbrev pub is_source : (ℕ → Option Place) → ℕ → Bool
  is_source left c = is_place_of_stopped (left (channel_of net c).writer) && not (has_put E c)

  -- how many start tokens a source had, and how many of these were not read
  abbrev pub source_of : ℕ → SourceNote
  source_of c = record {
    channel = channel_name net c;
    tokens = length (channel_of net c).tokens;
    unread = length (channel_of net c).tokens - taken_count E c;
  }

  -- the sources among the first n channels
  abbrev pub sources_upto : (ℕ → Option Place) → ℕ → List SourceNote
  sources_upto left zero = []
  sources_upto left (suc n) = sources_upto left n ++ (if is_source left n then source_of n ∷ [] else [])

module _ (net : Network) (verdict : Verdict) where
  -- what a run with this verdict left unused
  pub record AreNotes (E : List Entry) (left : ℕ → Option Place) (notes : Notes) : Type 0 where
    pub sources : notes.sources.items ≡ sources_upto net E left (length net.channels)
    pub budget : notes.budget ≡ spent net verdict
