-- A test of each name is a test of what each name says.
use Rattle.std.proofs.Common.{◌||◌, ◌∙◌, rules, tests, ℕ, Bor, List}
use Rattle.std.specs.Str.{bytes_eq}
use Rattle.std.proofs.lemmas.Iterator.{YieldsList-from_slice}
use Rattle.std.proofs.lemmas.Iterator.Search.{any_from_yields_List}
use Rattle.hox_files.specs.Formats.{all_channels}
use Rattle.hox_files.proofs.Named.{any_mapped}
use Rattle.hox_files.proofs.formats.is_named.Goals as goal

pub returns : goal.returns
returns c =
    let channel = c.args.channel.now in
    any_from_yields_List (λ (s : Bor (List ℕ)). bytes_eq s.now channel || bytes_eq s.now all_channels) _ _ _ c.any.ensures.ran (YieldsList-from_slice c.args.names.now cc) (λ x b q k. search (rules, tests))
    ∙ any_mapped (λ name. bytes_eq name channel || bytes_eq name all_channels) (λ (s : Bor (List ℕ)). s.now) c.args.names.now
