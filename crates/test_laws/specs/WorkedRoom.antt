-- Networks of the standard kinds for which a known capacity suffices.
use Rattle.std.specs.Prelude.{◌≡◌, ℕ, ◌<◌, codes, List, [], ◌∷◌, length}
use Rattle.kpn_model.specs.declared.parts.Process.{Process}
use Rattle.kpn_model.specs.declared.parts.Channel.{Channel}
use Rattle.kpn_model.specs.declared.history.Entry.{Entry}
use Rattle.kpn_model.specs.Network.{Network}
use Rattle.kpn_model.specs.Semantics.{State, capacity, IsRun}
use Rattle.kpn_standard.specs.Standard.{standard}
use Rattle.kpn_laws.specs.Sufficient.{EndsWithin, LastsWithin}
use Rattle.test_laws.specs.Building.{count, sink, copy, scale, weave, words, holding, numbers, network}

abbrev pub process_named : List ℕ → Process → Process
process_named name p = record p { name = name }

abbrev pub with_name : List ℕ → Channel → Channel
with_name name c = record c { name = name }

-- the processes of the case with a counter of five
abbrev pub source_of_five : Process
source_of_five = process_named (codes "src") (count 1 5)

abbrev pub named_copy : Process
named_copy = process_named (codes "cp") copy

abbrev pub named_weave : Process
named_weave = process_named (codes "wv") (weave 3 3)

abbrev pub sink_of_eight : Process
sink_of_eight = process_named (codes "snk") (sink 8)

-- and its channels
abbrev pub source_to_copier : Channel
source_to_copier = with_name (codes "c0") (words (0, 0) (1, 0) 1)

abbrev pub copier_to_weaver : Channel
copier_to_weaver = with_name (codes "c1") (words (1, 0) (2, 0) 1)

abbrev pub copier_to_weaver_again : Channel
copier_to_weaver_again = with_name (codes "c2") (words (1, 1) (2, 1) 1)

abbrev pub weaver_to_sink : Channel
weaver_to_sink = with_name (codes "c3") (words (2, 0) (3, 0) 1)

-- Parks's case with a counter of five: when the counter and the copy are both blocked, room for one more
-- token of the copy is enough; more room for the counter does not help
abbrev pub longer_parks_case : Network
longer_parks_case =
    network
    (source_of_five ∷ named_copy ∷ named_weave ∷ sink_of_eight ∷ [])
    (source_to_copier ∷ copier_to_weaver ∷ copier_to_weaver_again ∷ weaver_to_sink ∷ [])

abbrev pub TwoPlacesSuffice : Type 0
TwoPlacesSuffice = (s : EndsWithin standard longer_parks_case 2) × (length s.history ≡ 46)

-- so no channel ever has capacity three
abbrev pub NeverThree : Type 0
NeverThree = (E : List Entry) (M : State) → IsRun standard longer_parks_case E M → (c : ℕ) → capacity M c < 3

-- a process that passes one token on to itself for ever
abbrev pub ring : Network
ring = network (scale 1 ∷ []) (holding (numbers (7 ∷ [])) (words (0, 0) (0, 0) 1) ∷ [])

-- capacity one suffices, for any number of deeds
abbrev pub RingLasts : Type 0
RingLasts = (n : ℕ) → LastsWithin standard ring 1 n
