-- What is told is told of the network that was given; a body fits each process.
use Rattle.std.proofs.Common.{◌<◌, ◌≤◌, ap, ◌∙◌, Err, arith}
use Rattle.std.proofs.lemmas.Grind.{common_steps}
use Rattle.hox_run.proofs.Shared.{of_run, of_watched_run}
use Rattle.hox_run.proofs.running.execute_by_workers.Goals as goal

pub no_result_of-requires-clause-few : goal.no_result_of-requires-clause-few
no_result_of-requires-clause-few g c κs within =
    let few : (1 < c.min-workers.result) × (c.min-workers.result ≤ 16) = (grind (arith, common_steps), grind (arith, common_steps)) in
    of_run c.in-Err.fault c.args.wanted.now.streams.outputs.now c.run_with_keeper.ensures c.in-Err.is few c.requires

pub no_result_of-requires-in-Failed-clause-few : goal.no_result_of-requires-in-Failed-clause-few
no_result_of-requires-in-Failed-clause-few g c κs within =
    let few : (1 < c.min-workers.result) × (c.min-workers.result ≤ 16) = (grind (arith, common_steps), grind (arith, common_steps)) in
    of_watched_run c.in-Failed.fault c.args.wanted.now.streams.outputs.now c.run_watched_with_keeper.ensures (c.in-Err-run_watched_with_keeper.is ∙ ap (λ x. Err x) c.in-Failed.is) few c.requires
