use Rattle.std.proofs.Common.{◌≡◌, ◌∙◌, true, false, inl, sym, rules}
use Rattle.csv.specs.Reading.{took_first}
use Rattle.csv.specs.Records.{fields_of}
use Rattle.kpn_tokens.specs.Rows.{is_open}
use Rattle.kpn_tokens.proofs.RowFacts.{no_row, open_row, shut_row, two_rows}
use Rattle.kpn_tokens.proofs.rows.only_row.Goals as goal

pub returns-then-not-found : goal.returns-then-not-found
returns-then-not-found c =
    λ separator line at.
    let none : c.in-Ok.found ≡ false = search rules in
    let read = c.in-Ok.ensures.reads at.trim at.ready in
    sym (no_row separator line c.args.reader.now c.read_byte_record.new.self at.config at.source at.state (fields_of c.read_byte_record.new.row) (rw none at read))

pub returns-then-more : goal.returns-then-more
returns-then-more c =
    λ separator line at.
    let some : c.in-Ok.found ≡ true = search rules in
    let read = rw some at (c.in-Ok.ensures.reads at.trim at.ready) in
    let took : took_first c.read_byte_record.new.self ≡ true = c.in-Ok.ensures.ready at.trim in
    let is : c.in-Ok-read_byte_record.more ≡ true = search rules in
    let other = rw is at (c.in-Ok-read_byte_record.ensures.reads (read.3 ∙ at.trim) (inl took)) in
    sym (two_rows separator line c.args.reader.now c.read_byte_record.new.self at.config at.source at.state c.read_byte_record-2.new.self (fields_of c.read_byte_record.new.row) read (fields_of c.read_byte_record-2.new.row) other)

pub returns-then-is_open : goal.returns-then-is_open
returns-then-is_open c =
    λ separator line at.
    let some : c.in-Ok.found ≡ true = search rules in
    let read = rw some at (c.in-Ok.ensures.reads at.trim at.ready) in
    let took : took_first c.read_byte_record.new.self ≡ true = c.in-Ok.ensures.ready at.trim in
    let is : c.in-Ok-read_byte_record.more ≡ false = search rules in
    let other = rw is at (c.in-Ok-read_byte_record.ensures.reads (read.3 ∙ at.trim) (inl took)) in
    let open_is : is_open (fields_of c.read_byte_record.new.row) ≡ true = sym c.is_open.ensures ∙ c.if-is_open.true in
    sym (open_row separator line c.args.reader.now c.read_byte_record.new.self at.config at.source at.state c.read_byte_record-2.new.self (fields_of c.read_byte_record.new.row) read (fields_of c.read_byte_record-2.new.row) other open_is)

pub returns : goal.returns
returns c =
    λ separator line at.
    let some : c.in-Ok.found ≡ true = search rules in
    let read = rw some at (c.in-Ok.ensures.reads at.trim at.ready) in
    let took : took_first c.read_byte_record.new.self ≡ true = c.in-Ok.ensures.ready at.trim in
    let is : c.in-Ok-read_byte_record.more ≡ false = search rules in
    let other = rw is at (c.in-Ok-read_byte_record.ensures.reads (read.3 ∙ at.trim) (inl took)) in
    let shut : is_open (fields_of c.read_byte_record.new.row) ≡ false = sym c.is_open.ensures ∙ c.if-is_open.false in
    sym (shut_row separator line c.args.reader.now c.read_byte_record.new.self at.config at.source at.state c.read_byte_record-2.new.self (fields_of c.read_byte_record.new.row) read (fields_of c.read_byte_record-2.new.row) other shut)
