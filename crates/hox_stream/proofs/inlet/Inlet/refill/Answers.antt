-- What was kept, and then what was read.
use Rattle.std.proofs.Common.{◌++◌, ℕ, List, [], drop, take, refl, sym, ap, ◌∙◌, append-nil, arith}
use Rattle.std.proofs.lemmas.Grind.{common_steps}
use Rattle.kpn_tokens.proofs.Lefts.{all_left}
use Rattle.hox_stream.proofs.Buffered.{keeps_consumes}
use Rattle.hox_stream.proofs.inlet.Inlet.refill.Goals as goal

pub returns-clause-reads : goal.returns-clause-reads
returns-clause-reads g c =
    rw (← c.self.view_is) (record {
      channel = refl;
      layout = refl;
      sort = refl;
      bytes = take c.in-Ok-read.n c.read.new.buf;
      kept = c.append.ensures ∙ ap (λ l. l ++ take c.in-Ok-read.n c.read.new.buf) (c.in-Ok.ensures.items ∙ all_left c.deref.result.now c.self.inside.next ∙ ap (λ (l : List ℕ). drop c.self.inside.next l) c.deref.ensures.value);
      consumed = c.in-Ok-read.ensures.bytes.0;
      held = grind (arith, common_steps);
      tokens = refl;
      records = refl;
    })

pub returns-in_default-read-clause-reads : goal.returns-in_default-read-clause-reads
returns-in_default-read-clause-reads g c =
    rw (← c.self.view_is) (record {
      channel = refl;
      layout = refl;
      sort = refl;
      bytes = [];
      kept = sym (append-nil _);
      consumed = keeps_consumes _ _ c.in_default-read.ensures.bytes;
      held = grind (arith, common_steps);
      tokens = refl;
      records = refl;
    })

pub invariant_of-self-2 : goal.invariant_of-self-2
invariant_of-self-2 g c = grind (arith, common_steps)
