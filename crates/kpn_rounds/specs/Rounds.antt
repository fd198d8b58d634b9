-- Kinds that read each input once, step, and write each output once, forever.
use Rattle.std.specs.Prelude.{ℕ, ◌-◌, ◌≤◌, ◌==◌, ◌&&◌, ◌||◌, nat_lt, not, if◌then◌else◌, Bool, true, false, List, [], ◌∷◌, ◌++◌, Option, Some, None, IfSome, length, take}
use Rattle.std.specs.Option.{option_map_or}
use Rattle.kpn_model.specs.declared.token.Token.{Token}
use Rattle.kpn_model.specs.declared.token.Token.TheVariants.{Word, Flag}
use Rattle.kpn_model.specs.declared.token.Sort.{Sort}
use Rattle.kpn_model.specs.declared.token.Sort.TheVariants.{Words, Flags}
use Rattle.kpn_model.specs.declared.kinds.Card.{Card}
use Rattle.kpn_model.specs.declared.kinds.Signature.{Signature}
use Rattle.kpn_model.specs.declared.kinds.Act.TheVariants.{Read, Write, Stop}
use Rattle.kpn_model.specs.declared.kinds.Answer.{Answer}
use Rattle.kpn_model.specs.Network.{Family}
use Rattle.kpn_model.specs.Lawful.{port_at}
use Rattle.kpn_standard.specs.Locals.{at, one, two, stays, LastFits}
use Rattle.kpn_compute.specs.Filters.{AreKept}
use Rattle.kpn_rounds.specs.declared.turns.TheConstants.{NONE_HELD, ONE_READ, TWO_READ, ONE_LEFT, TWO_LEFT}
use Rattle.kpn_rounds.specs.Steps.{count, RoundStep}

-- a word, or 1 or 0 for a flag
abbrev pub number_of : Token → ℕ
number_of (Word n) = n
number_of (Flag true) = 1
number_of (Flag false) = 0

-- a number as a token; a flag is true unless it is 0
abbrev pub token_of : Sort → ℕ → Token
token_of Words n = Word n
token_of Flags n = Flag (not (n == 0))

-- a number on a port
abbrev pub token_at : List (Option Sort) → ℕ → ℕ → Token
token_at ports k n = option_map_or (λ sort. token_of sort n) (port_at ports k) (Word n)

-- the token that was just read, as a number, if there is one
abbrev pub latest : Option Token → List ℕ
latest None = []
latest (Some t) = number_of t ∷ []

-- three numbers; missing ones are 0
abbrev pub three_of : List ℕ → List ℕ
three_of xs = at xs 0 ∷ at xs 1 ∷ at xs 2 ∷ []

-- a local state that keeps words, and holds one or two numbers: inputs that were read, or outputs that are left
abbrev pub packed : ℕ → ℕ → List ℕ → List ℕ → List ℕ
packed one_held two_held kept [] = at kept 0 ∷ at kept 1 ∷ 0 ∷ NONE_HELD ∷ []
packed one_held two_held kept (x ∷ []) = at kept 0 ∷ at kept 1 ∷ x ∷ one_held ∷ []
packed one_held two_held kept (x ∷ y ∷ _) = at kept 0 ∷ y ∷ x ∷ two_held ∷ []

-- the numbers that it holds
abbrev pub held : ℕ → ℕ → List ℕ → List ℕ
held one_held two_held local =
    if at local 3 == one_held then at local 2 ∷ [] else
    if at local 3 == two_held then at local 2 ∷ at local 1 ∷ [] else
    []

module _ (s : Signature) where
  -- at most one input and one output
  abbrev pub is_narrow : Bool
  is_narrow = nat_lt (count s.ins) 2 && nat_lt (count s.outs) 2

  -- three inputs or three outputs
  abbrev pub is_wide : Bool
  is_wide = nat_lt 2 (count s.ins) || nat_lt 2 (count s.outs)

  -- the kept words for which there is room: four, one or two; the others are 0
  abbrev pub carried : List ℕ → List ℕ
  carried kept = if is_narrow then kept else if is_wide then one (at kept 0) else two (at kept 0) (at kept 1)

  -- the local state with these inputs read in this round, and the one with these outputs left
  abbrev pub with_inputs : List ℕ → List ℕ → List ℕ
  with_inputs kept inputs = if is_narrow then kept else packed ONE_READ TWO_READ kept inputs

  abbrev pub with_outputs : List ℕ → List ℕ → List ℕ
  with_outputs kept outputs = if is_narrow then kept else packed ONE_LEFT TWO_LEFT kept outputs

  -- the inputs that were read in this round
  abbrev pub read_in : List ℕ → List ℕ
  read_in local = if is_narrow then [] else held ONE_READ TWO_READ local

  -- the outputs that are left to be written in this round
  abbrev pub left_in : List ℕ → List ℕ
  left_in local = if is_narrow then [] else held ONE_LEFT TWO_LEFT local

  -- writes the first of the outputs that are left; with none it begins the next round
  abbrev pub write_answer : List ℕ → List ℕ → Answer
  write_answer kept [] = record { next = with_outputs kept []; act = if nat_lt 0 (count s.ins) then Read 0 else Stop }
  write_answer kept (w ∷ ws) =
      let k = count s.outs - length (w ∷ ws) in
      record { next = with_outputs kept ws; act = Write k (token_at s.outs k w) }

  -- reads the next input
  abbrev pub reading : List ℕ → List ℕ → Answer
  reading kept inputs = record { next = with_inputs kept inputs; act = Read (length inputs) }

  module _ (step : List ℕ → List ℕ → List ℕ × List ℕ) where
    -- what is kept after a step, and the outputs
    abbrev pub made_by : List ℕ → List ℕ → List ℕ × List ℕ
    made_by kept inputs =
        let made = step (carried kept) (three_of inputs) in
        (made.0, take (count s.outs) (three_of made.1))

    -- reads the next input; after the last it steps
    abbrev pub read_answer : List ℕ → List ℕ → Answer
    read_answer kept inputs =
        if nat_lt (length inputs) (count s.ins)
        then reading kept inputs
        else let made = made_by kept inputs in write_answer made.0 made.1

    abbrev pub next_answer : List ℕ → List ℕ → List ℕ → Answer
    next_answer kept inputs [] = read_answer kept inputs
    next_answer kept inputs (w ∷ ws) = write_answer kept (w ∷ ws)

    -- the answer in a local state, after this token
    abbrev pub round_answer : List ℕ → Option Token → Answer
    round_answer local last = next_answer local (read_in local ++ latest last) (left_in local)

  -- four words, a token that fits, and no more outputs left than there are
  pub record IsWithinRound (local : List ℕ) (last : Option Token) : Type 0 where
    pub kept : AreKept local
    pub last_fits : LastFits last
    pub left : length (left_in local) ≤ count s.outs

-- a card without ports stops
abbrev pub rounds_family : (Card → Option Signature) → (Card → List ℕ) → (Card → RoundStep) → Family
rounds_family ports start step =
    record {
      start = λ card. option_map_or (λ s. with_inputs s (start card) []) (ports card) (start card);
      answer = λ card local last. option_map_or (λ s. round_answer s (step card) local last) (ports card) (stays local);
    }

abbrev pub RoundsAdmit : (Card → Option Signature) → Card → List ℕ → Option Token → Type 0
RoundsAdmit ports card local last = IfSome (ports card) (λ s. IsWithinRound s local last)
