use Rattle.std.proofs.Common.{◌∙◌}
use Rattle.kpn_tokens.proofs.rows.row_of.Goals as goal

pub returns : goal.returns
returns c =
    let reader = c.reader_of-reader in
    let text = c.as_slice.ensures.value ∙ c.in_ok-text.ensures in
    c.only_row.ensures c.args.separator c.args.line.now (record {
      config = reader.ensures.config;
      trim = reader.ensures.trim;
      ready = reader.ensures.ready;
      state = reader.ensures.state;
      source = rw text at reader.ensures.source;
    })
