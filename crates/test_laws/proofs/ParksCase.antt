-- What meets the premises of the laws.
use Rattle.std.proofs.Common.{ℕ, ◌<◌, ◌^◌, List, [], ◌∷◌, ◌++◌, map, None, refl, arith, lit<}
use Rattle.std.proofs.lemmas.List.Elements.{All-nil, All-cons, All-from_recursion}
use Rattle.std.specs.List.{All}
use Rattle.kpn_model.specs.declared.parts.Process.{Process}
use Rattle.kpn_model.specs.declared.parts.Channel.{Channel}
use Rattle.kpn_model.specs.Lawful.{CardFits, Fits as TokenFits}
use Rattle.kpn_standard.specs.Standard.{standard}
use Rattle.kpn_model.specs.Valid.{IsValid}
use Rattle.kpn_net.proofs.ValidNet.{valid}
use Rattle.kpn_standard.specs.Locals.{one}
use Rattle.kpn_standard.specs.Signatures.{card, signature, named}
use Rattle.kpn_standard.specs.Copies.{prefix_begins}
use Rattle.kpn_standard.specs.Admitted.{Admitted}
use Rattle.kpn_laws.specs.Digested.{HasDigest}
use Rattle.test_laws.proofs.Schedule.{Turn, Go, Grow}
use Rattle.test_laws.proofs.Replay.{digest_from_schedule}
use Rattle.test_laws.specs.Unbounded.{NamesPortsOfAnyCard}
use Rattle.kpn_net.specs.Sketched.{process_in}
use Rattle.test_laws.specs.Parks.{source, copier, weaver, sink, sketch, parks, parks_digest, roomy, roomy_digest}

-- a prefix of 2^64 writes a word that does not fit
pub no_law_of_any_card : NamesPortsOfAnyCard signature Admitted standard → ⊥
no_law_of_any_card law =
    let written = law (card 4 (2 ^ 64 ∷ 0 ∷ 0 ∷ [])) (one 0) None refl (record { local_fits = omega arith; last_fits = tt; line = prefix_begins }) in
    omega (arith, written.1)

-- a number of 64 bits
abbrev IsArgument : ℕ → Type 0
IsArgument n = n < 2 ^ 64

-- a process whose card fits
abbrev Fits : Process → Type 0
Fits p = CardFits p.card

-- a card whose three arguments fit
fits : (kind a b c : ℕ) → kind < 2 ^ 16 → IsArgument a → IsArgument b → IsArgument c → CardFits (card kind (a ∷ b ∷ c ∷ []))
fits kind a b c k x y z =
    record { kind = k; three = refl; args = All-cons IsArgument a (b ∷ c ∷ []) x (All-cons IsArgument b (c ∷ []) y (All-cons IsArgument c [] z (All-nil IsArgument))) }

-- a channel whose start tokens fit
abbrev HasFitting : Channel → Type 0
HasFitting l = All TokenFits l.tokens

-- the cards of Parks's case
cards_fit : All Fits parks.processes
cards_fit =
    All-cons Fits (process_in named source) (map (process_in named) (copier ∷ weaver ∷ sink ∷ [])) (fits 0 1 3 0 (lit< tt) (lit< tt) (lit< tt) (lit< tt))
    (All-cons Fits (process_in named copier) (map (process_in named) (weaver ∷ sink ∷ [])) (fits 3 0 0 0 (lit< tt) (lit< tt) (lit< tt) (lit< tt))
    (All-cons Fits (process_in named weaver) (map (process_in named) (sink ∷ [])) (fits 7 3 3 0 (lit< tt) (lit< tt) (lit< tt) (lit< tt))
    (All-cons Fits (process_in named sink) [] (fits 1 6 0 0 (lit< tt) (lit< tt) (lit< tt) (lit< tt)) (All-nil Fits))))

empty_fits : All TokenFits []
empty_fits = All-nil TokenFits

-- no channel of Parks's case has a start token
tokens_fit : All HasFitting parks.channels
tokens_fit = All-from_recursion HasFitting parks.channels (empty_fits, (empty_fits, (empty_fits, (empty_fits, tt))))

-- the description of Parks's case has no fault
pub parks_valid : IsValid signature parks
parks_valid = valid named signature sketch refl cards_fit tokens_fit

-- the schedule until the right branch has to grow
abbrev before : List Turn
before = Go 0 ∷ Go 1 ∷ Go 0 ∷ Go 1 ∷ Go 2 ∷ Go 1 ∷ Go 2 ∷ Go 3 ∷ Go 1 ∷ Go 0 ∷ Go 1 ∷ Go 2 ∷ Go 0 ∷ Go 2 ∷ Go 3 ∷ []

-- and from then on
abbrev after : List Turn
after = Go 1 ∷ Go 1 ∷ Go 1 ∷ Go 2 ∷ Go 2 ∷ Go 3 ∷ Go 2 ∷ Go 1 ∷ Go 2 ∷ Go 3 ∷ Go 2 ∷ Go 2 ∷ Go 3 ∷ Go 2 ∷ Go 2 ∷ Go 3 ∷ Go 3 ∷ []

-- one schedule with the growth
pub parks_ends : HasDigest standard parks parks_digest
parks_ends = digest_from_schedule standard parks (before ++ (Grow 1 ∷ after)) parks_digest refl

-- and the same without it
pub roomy_ends : HasDigest standard roomy roomy_digest
roomy_ends = digest_from_schedule standard roomy (before ++ after) roomy_digest refl
