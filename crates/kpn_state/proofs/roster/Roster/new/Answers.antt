-- One more process, which is ready.
use Rattle.std.proofs.Common.{◌≡◌, ◌∙◌, ◌++◌, ◌∷◌, [], sym, ap, arith, length}
use Rattle.std.proofs.lemmas.List.{length-replicate, replicate_more}
use Rattle.kpn_state.specs.declared.standing.Standing.TheVariants.{Ready}
use Rattle.kpn_state.proofs.Rostered.{kept_more}
use Rattle.kpn_state.proofs.roster.Roster.new.Goals as goal

pub loop-process-preserved : goal.loop-process-preserved
loop-process-preserved c =
    let i = c.loop-process.invariant in
    let n : c.loop-process.process ≡ length c.loop-process.standings.items = sym (ap length i.are ∙ length-replicate c.loop-process.process Ready) in
    record {
      are = c.in_ok-push.ensures.items ∙ ap (λ xs. xs ++ Ready ∷ []) i.are ∙ replicate_more c.loop-process.process Ready;
      room = c.enqueue.ensures.room ∙ i.room;
      kept = rw (c.in_ok-push.ensures.items, c.enqueue.ensures.items, c.enqueue.ensures.room) (kept_more _ _ _ _ _ c.loop-process.process n i.kept (omega (arith, i.room)));
    }
