-- While the run has not ended and no process is out, a ready process goes on.
use denote.Param.Send.{sendable}
use Rattle.std.proofs.Common.{◌≡◌, ◌≢◌, None, arith}
use Rattle.kpn_model.specs.Network.{family_of}
use Rattle.kpn_machine.proofs.Finishing.{none_is_out, none_counted, some_ready}
use Rattle.kpn_machine.proofs.Rounds.{goes_nowhere, rounds_go, rounds_keep_out, rounds_commits}
use Rattle.kpn_machine.proofs.machine.Machine.finish_alone.Goals as goal

pub loop-self-preserved : goal.loop-self-preserved
loop-self-preserved g c =
    let kinds = family_of g.B.Kinds.Kinds.start g.B.Kinds.Kinds.answer_of in
    let rounds = c.go_on.ensures.rounds in
    let before = c.loop-self.invariant in
    record {
      none_out = none_counted _ (λ p e. none_is_out _ before.none_out p ((rounds_keep_out kinds _ _ rounds.0 rounds.2 p).0 e));
      goes = rounds_go kinds _ _ _ rounds.0 rounds.2 before.goes;
    }

pub loop-self-smaller : goal.loop-self-smaller
loop-self-smaller g c =
    let kinds = family_of g.B.Kinds.Kinds.start g.B.Kinds.Kinds.answer_of in
    let rounds = c.go_on.ensures.rounds in
    let goes = rounds_go kinds _ _ _ rounds.0 rounds.2 (goes_nowhere kinds c.loop-self.self) in
    let more = rounds_commits kinds _ _ rounds.0 rounds.2 in
    let faithful = c.end.ensures.faithful in
    let none : c.loop-self.self.end ≡ None = grind arith in
    let some : c.go_on.result ≢ 0 = λ zero. some_ready _ (faithful.some_busy none) (none_is_out _ c.loop-self.invariant.none_out) (c.go_on.ensures.stuck zero (omega arith)) in
    rw goes.network (omega (arith, more, rounds.1, faithful.few_commits, faithful.few_entries))

pub least_room_of-requires : goal.least_room_of-requires
least_room_of-requires g c = search sendable

pub least_solution_of-requires : goal.least_solution_of-requires
least_solution_of-requires g c = search sendable
