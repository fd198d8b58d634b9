-- The place of a table is behind all sinks.
use Rattle.std.proofs.Common.{◌≡◌, ◌+◌, inr, rules, subst, sym, ap, ◌∙◌}
use Rattle.hox_stream.specs.declared.table.TableFault.{TableFault}
use Rattle.hox_stream.specs.Streams.{table_at}
use Rattle.hox_stream.specs.Tables.{IsTableFault}
use Rattle.hox_stream.proofs.tabling.finish_of.Goals as goal

pub returns-in-Failed : goal.returns-in-Failed
returns-in-Failed c = λ kinds s ins sinks tables first within fault.
    let place : c.in-Some.place ≡ c.args.first + c.args.k = search rules in
    inr (c.args.k, place ∙ ap (λ n. n + c.args.k) (sym first), within, subst (λ (f : TableFault). IsTableFault (table_at tables c.args.k) f) c.in-Failed.is fault)

pub returns-in-Misfit : goal.returns-in-Misfit
returns-in-Misfit c = λ kinds s ins sinks tables first within fault.
    let place : c.in-Some.place ≡ c.args.first + c.args.k = search rules in
    inr (c.args.k, place ∙ ap (λ n. n + c.args.k) (sym first), within, subst (λ (f : TableFault). IsTableFault (table_at tables c.args.k) f) c.in-Misfit.is fault)

pub returns-in-Apart : goal.returns-in-Apart
returns-in-Apart c = λ kinds s ins sinks tables first within fault.
    let place : c.in-Some.place ≡ c.args.first + c.args.k = search rules in
    inr (c.args.k, place ∙ ap (λ n. n + c.args.k) (sym first), within, subst (λ (f : TableFault). IsTableFault (table_at tables c.args.k) f) c.in-Apart.is fault)
