-- What is loaded is a network, of which what was chosen is written, or a fault.
use Rattle.std.proofs.Common.{Ok, Err, refl, rules}
use Rattle.kpn_execute.proofs.Written.{written}
use Rattle.kpn_execute.proofs.program.serve.Goals as goal

pub returns-in_err-choice-clause-untouched : goal.returns-in_err-choice-clause-untouched
returns-in_err-choice-clause-untouched g c = search rules

pub returns-in-Err-clause-served : goal.returns-in-Err-clause-served
returns-in-Err-clause-served g c = (
  c.in_ok-choice.choice,
  c.in_ok-choice.ensures.ok,
  record {
    loaded = Err c.in-Err.refused.fault;
    loads = c.in-Err.ensures.loaded.loads;
    failed = c.in-Err.ensures.loaded.failed;
    fault_is = c.serve_refused.ensures.fault;
    writes = written c.serve_refused.ensures.says (refl, refl);
  },
)

pub returns-clause-served : goal.returns-clause-served
returns-clause-served g c =
    (c.in_ok-choice.choice, c.in_ok-choice.ensures.ok, record { loaded = Ok c.in-Ok.net; loads = c.in-Ok.ensures.loaded.loads; failed = c.in-Ok.ensures.loaded.failed; fault_is = refl; writes = c.serve_net.ensures })
