-- Where no process is ready, the outside can help, or each has stopped or waits for a token, or one waits for room.
use Rattle.std.proofs.Common.{inr, sym, ◌∙◌}
use Rattle.kpn_model.specs.Families.{family}
use Rattle.kpn_flow.proofs.Standing.{rest_stands, terminated_stands, deadlock_stands}
use Rattle.kpn_flow.proofs.Waiting.{awaited_rests, none_can_help}
use Rattle.kpn_flow.proofs.stand.stand.Goals as goal

pub returns-in-Some : goal.returns-in-Some
returns-in-Some g c =
    let idle = sym c.any_busy.ensures ∙ c.if-any_busy.false in
    rest_stands (family g.K.Kinds) g.K.Kinds.admits c.args.net.now c.args.inputs.now c.args.outputs.now c.args.core.now.store.state c.args.core.now.standings c.requires.keeps c.in-Some.pause
    (awaited_rests (family g.K.Kinds) g.K.Kinds.admits c.args.net.now c.args.core.now.store.state c.args.core.now.standings c.requires.keeps c.args.inputs.now c.args.outputs.now idle c.in-Some.pause (rw c.as_slice-standings.ensures.value at c.in-Some.ensures.some))

pub returns-then-all_stopped : goal.returns-then-all_stopped
returns-then-all_stopped g c =
    let idle = sym c.any_busy.ensures ∙ c.if-any_busy.false in
    let help = none_can_help (family g.K.Kinds) g.K.Kinds.admits c.args.net.now c.args.core.now.store.state c.args.core.now.standings c.requires.keeps idle c.args.inputs.now c.args.outputs.now
    (rw c.as_slice-standings.ensures.value at c.in_default.ensures.not_fed) (rw c.as_slice-standings.ensures.value at c.in_default.ensures.not_drained) in
    terminated_stands (family g.K.Kinds) g.K.Kinds.admits c.args.net.now c.args.inputs.now c.args.outputs.now c.args.core.now.store.state c.args.core.now.standings c.requires.keeps idle help (sym c.all_stopped.ensures ∙ c.if-all_stopped.true)

pub returns-then-all_wait_to_read : goal.returns-then-all_wait_to_read
returns-then-all_wait_to_read g c =
    let idle = sym c.any_busy.ensures ∙ c.if-any_busy.false in
    let help = none_can_help (family g.K.Kinds) g.K.Kinds.admits c.args.net.now c.args.core.now.store.state c.args.core.now.standings c.requires.keeps idle c.args.inputs.now c.args.outputs.now
    (rw c.as_slice-standings.ensures.value at c.in_default.ensures.not_fed) (rw c.as_slice-standings.ensures.value at c.in_default.ensures.not_drained) in
    deadlock_stands (family g.K.Kinds) g.K.Kinds.admits c.args.net.now c.args.inputs.now c.args.outputs.now c.args.core.now.store.state c.args.core.now.standings c.requires.keeps idle help (sym c.all_stopped.ensures ∙ c.if-all_stopped.false)
    (rw c.as_slice-standings.ensures.value at (sym c.all_wait_to_read.ensures ∙ c.if-all_wait_to_read.true))

pub returns-else-all_wait_to_read : goal.returns-else-all_wait_to_read
returns-else-all_wait_to_read g c =
    let idle = sym c.any_busy.ensures ∙ c.if-any_busy.false in
    let help = none_can_help (family g.K.Kinds) g.K.Kinds.admits c.args.net.now c.args.core.now.store.state c.args.core.now.standings c.requires.keeps idle c.args.inputs.now c.args.outputs.now
    (rw c.as_slice-standings.ensures.value at c.in_default.ensures.not_fed) (rw c.as_slice-standings.ensures.value at c.in_default.ensures.not_drained) in
    inr (rw c.as_slice-standings.ensures.value at (sym c.all_wait_to_read.ensures ∙ c.if-all_wait_to_read.false), help)
