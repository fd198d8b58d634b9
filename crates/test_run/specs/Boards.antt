-- What is published on the boards of tests.
use Rattle.std.specs.Prelude.{◌≡◌, List, [], ◌∷◌}
use Rattle.kpn_model.specs.declared.history.Deed.TheVariants.{Put, Took, Stopped}
use Rattle.kpn_model.specs.declared.history.Entry.{Entry}
use Rattle.kpn_model.specs.declared.history.Entry.TheVariants.{Did, Grew}
use Rattle.kpn_model.specs.declared.token.Token.TheVariants.{Word}
use Rattle.kpn_watch.specs.declared.progress.Phase.{Phase}
use Rattle.kpn_watch.specs.declared.progress.Phase.TheVariants.{Running}
use Rattle.kpn_watch.specs.Boards.{Published}

-- these entries were published, and this phase
abbrev pub HasPublished : List Entry → Phase → Published → Type 0
HasPublished entries phase publisher = (publisher.entries ≡ entries) × (publisher.phase ≡ phase)

-- these entries were published, and there are none
abbrev pub HasNothingOf : List Entry → Published → Type 0
HasNothingOf entries publisher = (publisher.entries ≡ entries) × (publisher.phase ≡ Running) × (entries ≡ [])

-- a counter puts 1, a sink takes it, and the counter puts 2; then the rest
abbrev pub two_put : List Entry → List Entry
two_put rest = Did 0 (Put 0 (Word 1)) ∷ Did 1 (Took 0 (Word 1)) ∷ Did 0 (Put 0 (Word 2)) ∷ rest

-- then the sink stops, the channel grows, and the counter puts 3; then the rest
abbrev pub three_put : List Entry → List Entry
three_put rest = two_put (Did 1 Stopped ∷ Grew 0 2 ∷ Did 0 (Put 0 (Word 3)) ∷ rest)
