use Rattle.std.proofs.Common.{ℤ, Option, ap, ◌∙◌}
use Rattle.std.specs.Option.{ok_or}
use Rattle.toml.specs.Data.{as_integer}
use Rattle.toml.specs.View.{view}
use Rattle.kpn_sketch.specs.declared.fault.NetFault.TheVariants.{Keys}
use Rattle.kpn_sketch.proofs.Forms.{reads_or_keys}
use Rattle.kpn_sketch.proofs.read.version_of.Goals as goal

pub returns-in-Some : goal.returns-in-Some
returns-in-Some c =
    rw (← c.in-Some.ensures) (reads_or_keys (as_integer (view c.in-Some.value.now)) c.ok_or.result (c.ok_or.ensures.value ∙ ap (λ (o : Option ℤ). ok_or o Keys) c.as_integer.ensures))
