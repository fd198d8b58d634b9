-- The uses that were checked are those that are asked for.
use Rattle.std.proofs.Common.{◌≡◌, false, map, sym, ap, subst, ◌∙◌}
use Rattle.hox_files.specs.declared.uses.Role.TheVariants.{Tokens}
use Rattle.hox_files.specs.Pairs.{firsts, is_named_twice}
use Rattle.hox_files.specs.Requests.{is_told, want_of}
use Rattle.hox_files.specs.Uses.{AreApart, IsMisuse, uses_in}
use Rattle.hox_files.proofs.Misused.{unasked}
use Rattle.hox_files.proofs.reading.asked_of.Goals as goal

pub returns-clause-ok : goal.returns-clause-ok
returns-clause-ok g c =
    let clash = g.S.FileSystem.clash c.args.files.now in
    let file = c.args.wanted.file.now in
    let quiet = c.args.wanted.is_quiet in
    let tokens = c.in_ok-tokens.tokens.items in
    let outputs = c.in_ok-outputs.outputs.items in
    let told : c.is_told-is_told.result ≡ is_told quiet outputs = c.is_told-is_told.ensures ∙ ap (is_told quiet) c.as_slice-4.ensures.value in
    let given : c.in-Ok.firsts.items ≡ firsts outputs = c.in-Ok.ensures ∙ ap firsts c.as_slice-5.ensures.value in
    let read = subst (λ l. AreApart clash (uses_in Tokens file l c.as_slice-written.result.now c.is_told-is_told.result)) c.as_slice-read.ensures.value c.in-Ok-check_uses.ensures.ok in
    let written = subst (λ l. AreApart clash (uses_in Tokens file tokens l c.is_told-is_told.result)) (c.as_slice-written.ensures.value ∙ given) read in
    record {
      tokens = c.in_ok-tokens.ensures.ok;
      outputs = c.in_ok-outputs.ensures.ok;
      formats = rw (c.as_slice.ensures.value, c.as_slice-2.ensures.value) at c.in_ok-check_formats.ensures.ok;
      once = subst (λ l. is_named_twice file l ≡ false) c.as_slice-3.ensures.value (sym c.is_named_twice.ensures ∙ c.if-is_named_twice.false);
      apart = subst (λ b. AreApart clash (uses_in Tokens file tokens (firsts outputs) b)) told written;
      request = rw (c.as_slice-6.ensures.value, c.as_slice-7.ensures.value) at c.in_ok-request.ensures.ok;
    }

pub returns-in-Err-clause-fault : goal.returns-in-Err-clause-fault
returns-in-Err-clause-fault g c =
    let clash = g.S.FileSystem.clash c.args.files.now in
    let file = c.args.wanted.file.now in
    let quiet = c.args.wanted.is_quiet in
    let tokens = c.in_ok-tokens.tokens.items in
    let outputs = c.in_ok-outputs.outputs.items in
    let told : c.is_told-is_told.result ≡ is_told quiet outputs = c.is_told-is_told.ensures ∙ ap (is_told quiet) c.as_slice-4.ensures.value in
    let given : c.in-Ok.firsts.items ≡ firsts outputs = c.in-Ok.ensures ∙ ap firsts c.as_slice-5.ensures.value in
    let read = subst (λ l. IsMisuse clash (uses_in Tokens file l c.as_slice-written.result.now c.is_told-is_told.result) c.in-Err.stop) c.as_slice-read.ensures.value c.in-Err.ensures.fault in
    let written = subst (λ l. IsMisuse clash (uses_in Tokens file tokens l c.is_told-is_told.result) c.in-Err.stop) (c.as_slice-written.ensures.value ∙ given) read in
    unasked (g.S.FileSystem.contents c.args.files.now) clash (want_of c.args.wanted) (map (λ t. t.now) c.args.tokens.now) (map (λ t. t.now) c.args.outputs.now) tokens outputs c.in_ok-tokens.ensures.ok c.in_ok-outputs.ensures.ok c.in-Err.stop
    (subst (λ b. IsMisuse clash (uses_in Tokens file tokens (firsts outputs) b) c.in-Err.stop) told written)
