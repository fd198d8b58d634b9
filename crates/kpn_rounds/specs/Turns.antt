-- What a process does next, whatever its step.
use Rattle.std.specs.Prelude.{◌≡◌, ◌≤◌, ℕ, List, Option, length}
use Rattle.kpn_model.specs.declared.token.Token.{Token}
use Rattle.kpn_model.specs.declared.kinds.Signature.{Signature}
use Rattle.kpn_model.specs.declared.kinds.Answer.{Answer}
use Rattle.kpn_rounds.specs.declared.turns.Turn.{Turn}
use Rattle.kpn_rounds.specs.declared.turns.Turn.TheVariants.{Reads, Writes, Steps}
use Rattle.kpn_rounds.specs.Steps.{count, RoundStep}
use Rattle.kpn_rounds.specs.Numbers.{list_of}
use Rattle.kpn_rounds.specs.Rounds.{made_by, reading, write_answer, round_answer}

-- the answer that a turn comes to with this step
abbrev pub HasAnswer : Signature → RoundStep → List ℕ → Answer → Turn → Type 0
HasAnswer s step kept answer (Reads inputs) = answer ≡ reading s kept (list_of inputs)
HasAnswer s step kept answer (Writes left) = answer ≡ write_answer s kept (list_of left)
HasAnswer s step kept answer (Steps inputs) =
    let made = made_by s step kept (list_of inputs) in
    answer ≡ write_answer s made.0 made.1

-- the turn in a local state, after this token
abbrev pub IsTurn : Signature → List ℕ → Option Token → Turn → Type 0
IsTurn s local last turn =
    (step : List ℕ → List ℕ → List ℕ × List ℕ)
    → HasAnswer s step local (round_answer s step local last) turn

-- no more outputs are left than there are
abbrev pub LeavesFew : Signature → Turn → Type 0
LeavesFew s (Writes left) = length (list_of left) ≤ count s.outs
LeavesFew s _ = Unit {0}
