-- Digits as they are written, with zeros behind them.
use Rattle.std.proofs.Common.{◌≡◌, get_or, ◌∙◌, ℕ, ◌+◌, ◌-◌, ◌<◌, ◌≤◌, List, ◌++◌, length, take, drop, set, replicate, All, sum_by, sym, ap, arith}
use Rattle.std.proofs.lemmas.List.{drop-drop, drop-set-lt, drop-replicate, take-append-drop, length-take-le, length-append}
use Rattle.std.proofs.lemmas.List.Elements.{All-replicate}
use Rattle.std.proofs.lemmas.List.Sums.{sum_by_more, sum_by-take-le}
use Rattle.kpn_formula.specs.declared.instruction.Instruction.{Instruction}
use Rattle.kpn_formula.specs.Encoding.{width}
use Rattle.kpn_formula.specs.declared.instruction.Instruction.TheVariants.{End}
use Rattle.kpn_formula.specs.Spelling.{IsDigit, filled, spelling}
use Rattle.kpn_formula.proofs.Spelled.{spelling_length}

pub zeros_are_digits : All IsDigit (replicate 36 0)
zeros_are_digits = All-replicate IsDigit 36 0 (omega arith)

-- behind one digit more there is a zero less
pub zeros_after : (ds : List ℕ) (n d : ℕ) → drop n ds ≡ replicate (36 - n) 0 → drop (n + 1) (set ds n d) ≡ replicate (36 - (n + 1)) 0
zeros_after ds n d zeros =
    drop-set-lt (n + 1) ds n d (omega arith)
    ∙ sym (drop-drop 1 n ds)
    ∙ ap (λ rest. drop 1 rest) zeros
    ∙ drop-replicate 1 (36 - n) 0
    ∙ ap (λ k. replicate k 0) (omega arith)

-- all that is on the tape
pub tape_is : (ds : List ℕ) (n : ℕ) → length ds ≡ 36 → n ≤ 36 → drop n ds ≡ replicate (36 - n) 0 → filled (take n ds) ≡ ds
tape_is ds n long within zeros =
    let front : length (take n ds) ≡ n = length-take-le n ds (omega arith) in
    ap (λ k. take n ds ++ replicate (36 - k) 0) front ∙ ap (λ rest. take n ds ++ rest) (sym zeros) ∙ take-append-drop n ds

-- there is room for the next instruction, if there is for all
pub room_for : (program : List Instruction) (i : ℕ) (ds initial : List ℕ) → i < length program → ds ≡ initial ++ spelling (take i program) → length initial + sum_by width program ≤ 36 → length ds + width (get_or program i End) ≤ 36
room_for program i ds initial within is room =
    omega (arith, ap length is, length-append initial (spelling (take i program)), spelling_length (take i program), sum_by_more width program i End within, sum_by-take-le width program (i + 1))
