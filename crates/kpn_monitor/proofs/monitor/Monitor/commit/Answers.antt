-- What the call under the lock says of the answer.
use Rattle.std.specs.Prelude.{Result, Ok, Err, MatchResult, IfOk, IfErr}
use Rattle.std.proofs.lemmas.Result.{MatchResult-weaker}
use Rattle.kpn_monitor.proofs.monitor.Monitor.commit.Goals as goal

if_ok : {T E : Type 0} (r : Result T E) (P A : T → Type 0) (Q : E → Type 0) → MatchResult r P Q → ((x : T) → P x → A x) → IfOk r A
if_ok (Ok x) P A Q told leads = leads x told
if_ok (Err e) P A Q told leads = tt

if_err : {T E : Type 0} (r : Result T E) (P : T → Type 0) (Q A : E → Type 0) → MatchResult r P Q → ((e : E) → Q e → A e) → IfErr r A
if_err (Ok x) P Q A told leads = tt
if_err (Err e) P Q A told leads = leads e told

pub returns : goal.returns
returns g c = record {
  seat = MatchResult-weaker c.commit-answer.result c.commit-answer.ensures (λ o taken. taken.seat) (λ s same. same.1);
  stranger = if_err c.commit-answer.result _ _ _ c.commit-answer.ensures (λ s same. same.2);
  committed = if_ok c.commit-answer.result _ _ _ c.commit-answer.ensures (λ o taken. taken.committed);
}
