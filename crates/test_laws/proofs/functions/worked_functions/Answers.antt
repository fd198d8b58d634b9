-- What is worked out by hand is what the laws give.
use Rattle.std.proofs.Common.{zero, suc, true, false, [], ◌∷◌, Some, refl, arith}
use Rattle.std.specs.List.Sorted.{IsStrictlyIncreasing}
use Rattle.kpn_model.specs.declared.token.Sort.TheVariants.{Words, Flags}
use Rattle.kpn_standard.specs.Table.{word_and_flag}
use Rattle.kpn_streams.specs.Functions.{words, flags}
use Rattle.test_laws.proofs.functions.worked_functions.Goals as goal

pub returns-clause-count : goal.returns-clause-count
returns-clause-count c = c.standard_functions.ensures.count 3 4 (0 ∷ [])

pub returns-clause-sink : goal.returns-clause-sink
returns-clause-sink c = c.standard_functions.ensures.sink 2 (0 ∷ 0 ∷ []) (words (7 ∷ 8 ∷ 9 ∷ [])) 1

pub returns-clause-take : goal.returns-clause-take
returns-clause-take c = c.standard_functions.ensures.take 2 (0 ∷ 0 ∷ []) (7 ∷ 8 ∷ 9 ∷ [])

pub returns-clause-copy : goal.returns-clause-copy
returns-clause-copy c = c.standard_functions.ensures.copy (0 ∷ 0 ∷ 0 ∷ []) (4 ∷ 5 ∷ [])

pub returns-clause-prefix : goal.returns-clause-prefix
returns-clause-prefix c = c.standard_functions.ensures.prefix 9 (0 ∷ 0 ∷ []) (4 ∷ 5 ∷ [])

pub returns-clause-add : goal.returns-clause-add
returns-clause-add c = c.standard_functions.ensures.add (0 ∷ 0 ∷ 0 ∷ []) (1 ∷ 18446744073709551615 ∷ 3 ∷ []) (10 ∷ 1 ∷ [])

pub returns-clause-scale : goal.returns-clause-scale
returns-clause-scale c = c.standard_functions.ensures.scale 3 (0 ∷ 0 ∷ []) (5 ∷ 9223372036854775808 ∷ [])

pub returns-clause-weave : goal.returns-clause-weave
returns-clause-weave c = c.standard_functions.ensures.weave 2 1 (0 ∷ []) (1 ∷ 2 ∷ 3 ∷ 4 ∷ 5 ∷ []) (10 ∷ 20 ∷ 30 ∷ [])

pub returns-clause-merge : goal.returns-clause-merge
returns-clause-merge c = c.standard_functions.ensures.merge (0 ∷ 0 ∷ 0 ∷ []) (1 ∷ 3 ∷ 5 ∷ 9 ∷ []) (2 ∷ 3 ∷ 4 ∷ [])

pub returns-clause-divides : goal.returns-clause-divides
returns-clause-divides c = c.standard_functions.ensures.divides 3 (0 ∷ 0 ∷ []) (9 ∷ 10 ∷ 0 ∷ [])

pub returns-clause-switch : goal.returns-clause-switch
returns-clause-switch c = c.standard_functions.ensures.switch (0 ∷ 0 ∷ 0 ∷ []) (1 ∷ 2 ∷ 3 ∷ 4 ∷ []) (true ∷ false ∷ true ∷ [])

pub returns-clause-select : goal.returns-clause-select
returns-clause-select c = c.standard_functions.ensures.select (0 ∷ 0 ∷ 0 ∷ []) (1 ∷ 2 ∷ []) (10 ∷ 20 ∷ []) (true ∷ false ∷ false ∷ true ∷ false ∷ [])

pub returns-clause-filter : goal.returns-clause-filter
returns-clause-filter c card = c.filter_function_of.ensures.scans card (1 ∷ 2 ∷ 18446744073709551615 ∷ 4 ∷ [])

pub returns-clause-round : goal.returns-clause-round
returns-clause-round c card =
    c.round_function_of.ensures.scans card (record { ins = Some Words ∷ Some Flags ∷ Some Words ∷ []; outs = word_and_flag })
    (words (1 ∷ 2 ∷ 3 ∷ []) ∷ flags (true ∷ false ∷ true ∷ []) ∷ words (10 ∷ 20 ∷ []) ∷ []) refl (omega arith) refl

pub returns-clause-turns : goal.returns-clause-turns
returns-clause-turns c = c.standard_functions.ensures.turns 2 1 (omega arith) (omega arith)

-- the two streams that are merged rise
first_rises : IsStrictlyIncreasing (1 ∷ 3 ∷ 5 ∷ 9 ∷ [])
first_rises zero h = omega arith
first_rises (suc zero) h = omega arith
first_rises (suc (suc zero)) h = omega arith
first_rises (suc (suc (suc k))) h = absurd (omega arith)

second_rises : IsStrictlyIncreasing (2 ∷ 3 ∷ 4 ∷ [])
second_rises zero h = omega arith
second_rises (suc zero) h = omega arith
second_rises (suc (suc k)) h = absurd (omega arith)

pub returns-clause-union : goal.returns-clause-union
returns-clause-union c = c.standard_functions.ensures.union (1 ∷ 3 ∷ 5 ∷ 9 ∷ []) (2 ∷ 3 ∷ 4 ∷ []) first_rises second_rises
