-- Each process starts in the local state of its card, with nothing read.
use Rattle.std.proofs.lemmas.Grind.{common_steps}
use Rattle.std.proofs.Common.{arith, sym, ap, ◌∙◌, ◌++◌, ◌∷◌, [], None, below_more}
use Rattle.std.proofs.lemmas.List.{map_more}
use Rattle.kpn_model.specs.Network.{no_process, family_of}
use Rattle.kpn_model.specs.declared.history.Status.TheVariants.{Live}
use Rattle.kpn_machine.specs.Opening.{starting}
use Rattle.kpn_machine.proofs.opening.start_statuses.Goals as goal

pub loop-p-preserved : goal.loop-p-preserved
loop-p-preserved g c = record {
  items = c.in_ok-push.ensures.items ∙ (ap (λ xs. xs ++ Live c.start.result None ∷ []) c.loop-p.invariant.items
      ∙ (rw (c.start.ensures, c.card-card.ensures.is) (sym (map_more (starting (family_of g.K.Kinds.start g.K.Kinds.answer_of)) c.args.net.now.processes c.loop-p.p no_process (omega arith)))));
  admitted = below_more _ _ c.loop-p.invariant.admitted (rw c.card-card.ensures.is at c.starts.ensures);
}

pub returns-clause-items : goal.returns-clause-items
returns-clause-items g c = grind (arith, common_steps)
