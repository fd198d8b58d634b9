-- What the networks compute, by nothing but what the calls ensure.
use Rattle.kpn_standard.specs.Standard.{standard}
use Rattle.example_streams.proofs.Laws.{Laws}
use Rattle.example_streams.proofs.RunningSums.{has_running_sums, sums_are_sums}
use Rattle.example_streams.proofs.RunningTable.{running_table}
use Rattle.example_streams.proofs.MovingSum.{has_moving_sum}
use Rattle.example_streams.proofs.Sieve.{has_sieve}
use Rattle.example_streams.proofs.HammingLists.{few_are_small}
use Rattle.example_streams.proofs.Hamming.{hamming_in_run, hamming_at_end}
use Rattle.example_streams.proofs.Endless.{endless_loop}
use Rattle.example_streams.proofs.worked.worked_streams.Goals as goal

pub returns : goal.returns
returns c =
    let kinds = c.standard_functions.ensures in
    let solving = c.solving.ensures.laws standard in
    let laws : Laws = record {
      count = kinds.count;
      take = kinds.take;
      copy = kinds.copy;
      prefix = kinds.prefix;
      add = kinds.add;
      scale = kinds.scale;
      merge = kinds.merge;
      divides = kinds.divides;
      switch = kinds.switch;
      union = kinds.union;
      order = c.solving.ensures.order;
      equation = solving.equation;
      step = solving.step;
      fixed = solving.fixed;
      computed = solving.computed;
      ordered = solving.ordered;
      approximated = solving.approximated;
      solves = solving.solves;
      limit = solving.limit;
      from_any = (c.least_solution.ensures standard).end_is_least_from_any;
    } in
    record {
      running_sums = has_running_sums laws;
      sums = sums_are_sums;
      table = running_table laws;
      moving_sum = has_moving_sum laws;
      sieve = has_sieve laws;
      few_are_small = few_are_small;
      hamming = hamming_in_run laws;
      hamming_at_end = hamming_at_end laws;
      endless = endless_loop laws;
    }
