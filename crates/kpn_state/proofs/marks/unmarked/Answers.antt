-- One more channel, which has no mark.
use Rattle.std.proofs.Common.{◌∙◌, ◌++◌, ◌∷◌, [], ap, false}
use Rattle.std.proofs.lemmas.List.{replicate_more}
use Rattle.kpn_state.proofs.marks.unmarked.Goals as goal

pub loop-channel-preserved : goal.loop-channel-preserved
loop-channel-preserved c = c.in_ok-push.ensures.items ∙ ap (λ xs. xs ++ false ∷ []) c.loop-channel.invariant ∙ replicate_more c.loop-channel._channel false
