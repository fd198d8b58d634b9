-- First the sinks are flushed, and then the tables behind them.
use Rattle.std.proofs.Common.{◌∙◌, sym, arith}
use Rattle.std.proofs.lemmas.Grind.{common_steps}
use Rattle.hox_stream.proofs.Paired.{written_back}
use Rattle.hox_stream.proofs.Streamed.{streams_both}
use Rattle.hox_stream.proofs.telling.Outs.flush_all.Goals as goal

pub returns-in-Err-clause-streams : goal.returns-in-Err-clause-streams
returns-in-Err-clause-streams g c =
    let sinks = c.flush_sinks-sinks.new.outlets in
    let tables = c.flush_tables-tables.new.tables in
    let many = sym (c.flush_sinks-sinks.ensures.still.0 ∙ c.as_mut_slice.ensures.len) in
    let much = sym (c.flush_tables-tables.ensures.still.0 ∙ c.as_mut_slice-2.ensures.len) in
    λ kinds s ins. rw (← c.self.view_is, written_back _ sinks _ many, written_back _ tables _ much)
    (streams_both kinds s s s ins ins ins _ _ _ (rw c.as_mut_slice.ensures.value at (c.flush_sinks-sinks.ensures.streams kinds s ins c.self.inside.tables.items)) (rw c.as_mut_slice-2.ensures.value at (c.flush_tables-tables.ensures.streams kinds s ins sinks)))

pub returns-in-Err-clause-written : goal.returns-in-Err-clause-written
returns-in-Err-clause-written g c =
    let sinks = c.flush_sinks-sinks.new.outlets in
    let tables = c.flush_tables-tables.new.tables in
    let many = sym (c.flush_sinks-sinks.ensures.still.0 ∙ c.as_mut_slice.ensures.len) in
    let much = sym (c.flush_tables-tables.ensures.still.0 ∙ c.as_mut_slice-2.ensures.len) in
    rw (written_back _ sinks _ many, written_back _ tables _ much) (record { sinks = c.flush_sinks-sinks.ensures.written; tables = c.flush_tables-tables.ensures.written })

pub returns-in-Err-clause-still : goal.returns-in-Err-clause-still
returns-in-Err-clause-still g c =
    let sinks = c.flush_sinks-sinks.new.outlets in
    let tables = c.flush_tables-tables.new.tables in
    let many = sym (c.flush_sinks-sinks.ensures.still.0 ∙ c.as_mut_slice.ensures.len) in
    let much = sym (c.flush_tables-tables.ensures.still.0 ∙ c.as_mut_slice-2.ensures.len) in
    rw (← c.self.view_is, written_back _ sinks _ many, written_back _ tables _ much) (rw c.as_mut_slice.ensures.value at c.flush_sinks-sinks.ensures.still, rw c.as_mut_slice-2.ensures.value at c.flush_tables-tables.ensures.still)

pub returns-in-Err-clause-finish : goal.returns-in-Err-clause-finish
returns-in-Err-clause-finish g c =
    let sinks = c.flush_sinks-sinks.new.outlets in
    let tables = c.flush_tables-tables.new.tables in
    let many = sym (c.flush_sinks-sinks.ensures.still.0 ∙ c.as_mut_slice.ensures.len) in
    let much = sym (c.flush_tables-tables.ensures.still.0 ∙ c.as_mut_slice-2.ensures.len) in
    λ kinds s ins. rw (written_back _ sinks _ many, written_back _ tables _ much) (c.in-Err.ensures.finish kinds s ins tables)

pub returns-clause-streams : goal.returns-clause-streams
returns-clause-streams g c =
    let sinks = c.flush_sinks-sinks.new.outlets in
    let tables = c.flush_tables-tables.new.tables in
    let many = sym (c.flush_sinks-sinks.ensures.still.0 ∙ c.as_mut_slice.ensures.len) in
    let much = sym (c.flush_tables-tables.ensures.still.0 ∙ c.as_mut_slice-2.ensures.len) in
    λ kinds s ins. rw (← c.self.view_is, written_back _ sinks _ many, written_back _ tables _ much)
    (streams_both kinds s s s ins ins ins _ _ _ (rw c.as_mut_slice.ensures.value at (c.flush_sinks-sinks.ensures.streams kinds s ins c.self.inside.tables.items)) (rw c.as_mut_slice-2.ensures.value at (c.flush_tables-tables.ensures.streams kinds s ins sinks)))

pub returns-clause-written : goal.returns-clause-written
returns-clause-written g c =
    let sinks = c.flush_sinks-sinks.new.outlets in
    let tables = c.flush_tables-tables.new.tables in
    let many = sym (c.flush_sinks-sinks.ensures.still.0 ∙ c.as_mut_slice.ensures.len) in
    let much = sym (c.flush_tables-tables.ensures.still.0 ∙ c.as_mut_slice-2.ensures.len) in
    rw (written_back _ sinks _ many, written_back _ tables _ much) (record { sinks = c.flush_sinks-sinks.ensures.written; tables = c.flush_tables-tables.ensures.written })

pub returns-clause-still : goal.returns-clause-still
returns-clause-still g c =
    let sinks = c.flush_sinks-sinks.new.outlets in
    let tables = c.flush_tables-tables.new.tables in
    let many = sym (c.flush_sinks-sinks.ensures.still.0 ∙ c.as_mut_slice.ensures.len) in
    let much = sym (c.flush_tables-tables.ensures.still.0 ∙ c.as_mut_slice-2.ensures.len) in
    rw (← c.self.view_is, written_back _ sinks _ many, written_back _ tables _ much) (rw c.as_mut_slice.ensures.value at c.flush_sinks-sinks.ensures.still, rw c.as_mut_slice-2.ensures.value at c.flush_tables-tables.ensures.still)

pub returns-clause-finish : goal.returns-clause-finish
returns-clause-finish g c = grind (arith, common_steps)
