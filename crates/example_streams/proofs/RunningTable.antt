-- The approximations of the running sums of 1, 2 and 3.
use Rattle.std.proofs.Common.{◌≡◌, ◌≤◌, ◌<◌, ℕ, zero, suc, List, [], ◌∷◌, length, refl, ap, arith, get_or}
use Rattle.std.specs.List.{range_with_len}
use Rattle.std.proofs.lemmas.List.{get_or_past}
use Rattle.kpn_model.specs.declared.token.Token.{Token}
use Rattle.kpn_model.specs.Network.{Network}
use Rattle.kpn_standard.specs.Standard.{standard}
use Rattle.kpn_streams.specs.Functions.{sums}
use Rattle.kpn_streams.specs.Solving.{HasEquation, Approximates}
use Rattle.test_laws.specs.Building.{numbers}
use Rattle.example_streams.specs.RunningSums.{running_sums}
use Rattle.example_streams.specs.RunningTable.{last_column, columns, table, RunningTable}
use Rattle.example_streams.proofs.Laws.{Laws}

module _ (laws : Laws) where
  abbrev net : Network
  net = running_sums [] 1 3 3

  -- the tokens on the channels, and none on others
  abbrev on : List (List ℕ) → ℕ → List Token
  on column c = numbers (get_or column c [])

  -- a column follows from the one before
  module _ (x0 x1 x2 x3 y2 : List ℕ) (sum : y2 ≡ sums x0 x1) where
    abbrev before : List (List ℕ)
    before = x0 ∷ x1 ∷ x2 ∷ x3 ∷ []

    abbrev after : List (List ℕ)
    after = (1 ∷ 2 ∷ 3 ∷ []) ∷ (0 ∷ x2) ∷ y2 ∷ x2 ∷ []

    follows : (c : ℕ) → c < length net.channels → HasEquation standard net (on before) c (on after c)
    follows zero h = laws.equation net (on before) 0 (on after 0) 0 (numbers (range_with_len 1 3) ∷ []) refl (laws.count 1 3 (0 ∷ [])) refl
    follows (suc zero) h = laws.equation net (on before) 1 (on after 1) 1 (numbers x2 ∷ numbers x2 ∷ []) refl (laws.copy (0 ∷ 0 ∷ 0 ∷ []) x2) refl
    follows (suc (suc zero)) h =
        laws.equation net (on before) 2 (on after 2) 2 (numbers (sums x0 x1) ∷ []) refl (laws.add (0 ∷ 0 ∷ 0 ∷ []) x0 x1) (ap (λ l. numbers l) sum)
    follows (suc (suc (suc zero))) h = laws.equation net (on before) 3 (on after 3) 1 (numbers x2 ∷ numbers x2 ∷ []) refl (laws.copy (0 ∷ 0 ∷ 0 ∷ []) x2) refl
    follows (suc (suc (suc (suc c)))) h = absurd (omega arith)

  abbrev all : List ℕ
  all = 1 ∷ 2 ∷ 3 ∷ []

  next : (n c : ℕ) → c < length net.channels → HasEquation standard net (table n) c (table (suc n) c)
  next zero = follows [] [] [] [] [] refl
  next (suc zero) = follows all (0 ∷ []) [] [] (1 ∷ []) refl
  next (suc (suc zero)) = follows all (0 ∷ []) (1 ∷ []) [] (1 ∷ []) refl
  next (suc (suc (suc zero))) = follows all (0 ∷ 1 ∷ []) (1 ∷ []) (1 ∷ []) (1 ∷ 3 ∷ []) refl
  next (suc (suc (suc (suc zero)))) = follows all (0 ∷ 1 ∷ []) (1 ∷ 3 ∷ []) (1 ∷ []) (1 ∷ 3 ∷ []) refl
  next (suc (suc (suc (suc (suc zero))))) = follows all (0 ∷ 1 ∷ 3 ∷ []) (1 ∷ 3 ∷ []) (1 ∷ 3 ∷ []) (1 ∷ 3 ∷ 6 ∷ []) refl
  next (suc (suc (suc (suc (suc (suc zero)))))) = follows all (0 ∷ 1 ∷ 3 ∷ []) (1 ∷ 3 ∷ 6 ∷ []) (1 ∷ 3 ∷ []) (1 ∷ 3 ∷ 6 ∷ []) refl
  next (suc (suc (suc (suc (suc (suc (suc n))))))) = follows all (0 ∷ 1 ∷ 3 ∷ 6 ∷ []) (1 ∷ 3 ∷ 6 ∷ []) (1 ∷ 3 ∷ 6 ∷ []) (1 ∷ 3 ∷ 6 ∷ []) refl

  begins : (c : ℕ) → table 0 c ≡ []
  begins zero = refl
  begins (suc zero) = refl
  begins (suc (suc zero)) = refl
  begins (suc (suc (suc zero))) = refl
  begins (suc (suc (suc (suc c)))) = refl

  -- on any other channel there is none
  beyond : (n c : ℕ) → length net.channels ≤ c → table n c ≡ []
  beyond zero c past = ap (λ l. numbers l) (get_or_past (get_or columns 0 last_column) c [] past)
  beyond (suc zero) c past = ap (λ l. numbers l) (get_or_past (get_or columns 1 last_column) c [] past)
  beyond (suc (suc zero)) c past = ap (λ l. numbers l) (get_or_past (get_or columns 2 last_column) c [] past)
  beyond (suc (suc (suc zero))) c past = ap (λ l. numbers l) (get_or_past (get_or columns 3 last_column) c [] past)
  beyond (suc (suc (suc (suc zero)))) c past = ap (λ l. numbers l) (get_or_past (get_or columns 4 last_column) c [] past)
  beyond (suc (suc (suc (suc (suc zero))))) c past = ap (λ l. numbers l) (get_or_past (get_or columns 5 last_column) c [] past)
  beyond (suc (suc (suc (suc (suc (suc zero)))))) c past = ap (λ l. numbers l) (get_or_past (get_or columns 6 last_column) c [] past)
  beyond (suc (suc (suc (suc (suc (suc (suc n))))))) c past = ap (λ l. numbers l) (get_or_past last_column c [] past)

-- so they lead to what the network computes
pub running_table : Laws → RunningTable
running_table laws =
    let a : Approximates standard (running_sums [] 1 3 3) table = record { begins = begins laws; next = next laws; beyond = beyond laws } in
    record { approximates = a; computed = laws.fixed (running_sums [] 1 3 3) table 7 a (λ c. refl) }
