-- A flow that was open stays; another is opened, or stays closed.
use Rattle.hoxburen.proofs.Opens.{is_opened, stays_closed, stays_open}
use Rattle.hoxburen.proofs.opening.hox_open.Goals as goal

pub returns-in-Some-clause-opened : goal.returns-in-Some-clause-opened
returns-in-Some-clause-opened c =
    stays_open c.args.text.now c.args.inputs.now c.args.outputs.now c.args.flow.now.kept c.put.new.self.kept c.number.result c.in-Some.session.value c.in-Some.ensures.taken c.put.ensures c.number.ensures

pub returns-in-Ok-clause-opened : goal.returns-in-Ok-clause-opened
returns-in-Ok-clause-opened c =
    is_opened c.args.text.now c.args.inputs.now c.args.outputs.now c.args.flow.now.kept c.put-in-Ok.new.self.kept c.number-in-Ok.result c.in-Ok.session.value c.in-None.ensures.taken c.put-in-Ok.ensures
    (rw (c.bytes_of-text.ensures, c.bytes_of-inputs.ensures, c.bytes_of-outputs.ensures) at c.in-Ok.ensures.ok) c.number-in-Ok.ensures
