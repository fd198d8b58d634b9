-- The rule between the word and what the seats have seen, and what each step shows.
use Rattle.std.specs.Prelude.{◌≡◌, ◌≢◌, ℕ, ◌^◌, ◌<◌, [], ◌∷◌, length}
use mathlib.Core.Option.{some}
use mathlib.Core.List.{IsPrefix}
use lib.ListN.{get_elem?}
use Rattle.atomic_table.specs.Table.{State, Me, Step}
use Rattle.kpn_watch.specs.declared.progress.Phase.TheVariants.{Running}
use Rattle.kpn_watch.specs.declared.rule.Seen.{Seen}
use Rattle.kpn_watch.specs.declared.rule.View.{View}
use Rattle.kpn_watch.specs.Shown.{word_of}

abbrev pub nothing : Seen
nothing = record { entries = []; phase = Running }

abbrev pub view_of : Seen → View
view_of seen = record { seen = seen; note = nothing }

abbrev pub noted : View → Seen → View
noted v note = record { seen = v.seen; note = note }

-- the new continues the old, and equals it if that had ended
pub record ContinuesSeen (old new : Seen) : Type 0 where
  pub front : IsPrefix old.entries new.entries
  pub ended : old.phase ≢ Running → new ≡ old

-- the word shows what the first seat has seen, which continues what any seat has seen or was given as a note
pub record WordIsTrue (s : State (Unit {0}) View) : Type 0 where
  pub published : Seen
  pub first : (v : View) × (get_elem? s.views 0 ≡ some v) × (v.seen ≡ published)
  pub word : s.words ≡ word_of published.entries published.phase ∷ []
  pub short : length published.entries < 2 ^ 22
  pub seen : (by : ℕ) (v : View) → get_elem? s.views by ≡ some v
      → ContinuesSeen v.seen published × ContinuesSeen v.note published

abbrev pub It : Type 0
It = Me (Unit {0}) View

-- the word shows what is seen now
abbrev pub ShowsSeen : ℕ → It → Type 0
ShowsSeen found now = found ≡ word_of now.0.seen.entries now.0.seen.phase

-- what was seen fits a word
abbrev pub FitsWord : Seen → Type 0
FitsWord seen = length seen.entries < 2 ^ 22

-- what is seen now continues what was seen before
abbrev pub SeesOn : It → It → Type 0
SeesOn me now = ContinuesSeen me.0.seen now.0.seen

abbrev pub KeepsNote : It → It → Type 0
KeepsNote me now = now.0.note ≡ me.0.note

-- the word shows what is seen now, which continues what was seen before
abbrev pub Looks : Step (Unit {0}) → It → ℕ → It → Type 0
Looks s me found now = ShowsSeen found now × FitsWord now.0.seen × SeesOn me now × KeepsNote me now × (now.1 ≡ me.1)

abbrev pub Publishes : Seen → Step (Unit {0}) → It → ℕ → It → Type 0
Publishes news s me stored now = now ≡ (record { seen = news; note = me.0.note }, me.1)

-- what was seen continues the note, which is removed
abbrev pub Compares : Step (Unit {0}) → It → ℕ → It → Type 0
Compares s me found now = (now ≡ (view_of me.0.seen, me.1)) × ContinuesSeen me.0.note me.0.seen
