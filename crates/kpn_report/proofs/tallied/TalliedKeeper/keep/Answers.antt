-- One more entry; and no count is greater than the number of entries.
use Rattle.std.proofs.lemmas.Grind.{common_steps}
use Rattle.std.proofs.Common.{arith, map}
use Rattle.kpn_state.specs.Packed.{unpacked}
use Rattle.kpn_report.proofs.Counting.{few_steps, few_puts, few_takes, counted_more}
use Rattle.kpn_report.proofs.tallied.TalliedKeeper.keep.Goals as goal

pub count_entry-requires-clause-few_steps : goal.count_entry-requires-clause-few_steps
count_entry-requires-clause-few_steps c = λ p.
    let few = few_steps (map unpacked c.self.inside.packed.items.items) _ _ _ _ c.self.invariant p in
    omega (arith, few, c.count-entries.ensures.few)

pub count_entry-requires-clause-few_puts : goal.count_entry-requires-clause-few_puts
count_entry-requires-clause-few_puts c = λ b.
    let few = few_puts (map unpacked c.self.inside.packed.items.items) _ _ _ _ c.self.invariant b in
    omega (arith, few, c.count-entries.ensures.few)

pub count_entry-requires-clause-few_takes : goal.count_entry-requires-clause-few_takes
count_entry-requires-clause-few_takes c = λ b.
    let few = few_takes (map unpacked c.self.inside.packed.items.items) _ _ _ _ c.self.invariant b in
    omega (arith, few, c.count-entries.ensures.few)

pub invariant_of-self : goal.invariant_of-self
invariant_of-self c =
    let counted = c.count_entry.ensures in
    let more = counted_more (map unpacked c.self.inside.packed.items.items) _ _ _ _ c.self.invariant c.args.entry in
    rw (c.keep.ensures.entries, counted.steps, counted.puts, counted.takes, counted.grew) more

pub keep-requires-clause-room : goal.keep-requires-clause-room
keep-requires-clause-room c = grind (arith, common_steps)
