-- What the text describes, its formulas written as cards, and then the rest written out.
use Rattle.std.proofs.Common.{refl, rules}
use Rattle.hox_network.proofs.described.sketch_of_text.Goals as goal

pub returns-in-Ok-completed : goal.returns-in-Ok-completed
returns-in-Ok-completed g c =
    record {
      described = c.in_ok-described.described;
      written = record { sketch = c.in-Ok.written; delays = c.in_ok-described.described.delays };
      describes = c.in_ok-described.ensures.ok;
      out = record { formulas = c.in-Ok.ensures; delays = refl };
      meant = search rules;
    }
