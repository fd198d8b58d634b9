-- The parts between spaces, without the first.
use Rattle.std.proofs.Common.{◌≡◌, true, lit<}
use Rattle.std.specs.Iterator.Adapters.{skip_source}
use Rattle.std.specs.Str.Iter.{split_has_more, split_pattern, split_text}
use Rattle.std.proofs.lemmas.Iterator.Adapters.{YieldsList-from_skip}
use Rattle.std.proofs.lemmas.Iterator.Consumers.{map_from_collect}
use Rattle.std.proofs.lemmas.Iterator.Splits.{YieldsList-from_str_split}
use Rattle.hox_json.proofs.lines.words_after.Goals as goal

pub returns : goal.returns
returns c =
    let same = c.skip.ensures.source in
    let text : split_text (skip_source c.skip.result) ≡ c.args.line.now = rw same c.split.ensures.text in
    let has_more : split_has_more (skip_source c.skip.result) ≡ true = rw same c.split.ensures.has_more in
    let pattern : split_pattern (skip_source c.skip.result) ≡ 32 = rw same c.split.ensures.pattern in
    map_from_collect _ c.collect.ensures.ran (YieldsList-from_skip 1 (YieldsList-from_str_split {s = skip_source c.skip.result} 32 c.args.line.now (lit< tt) text has_more pattern) c.skip.ensures.count)
