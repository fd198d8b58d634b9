use Rattle.std.proofs.Common.{◌≡◌, ◌<◌, ◌≤◌, ◌++◌, ℕ, true, false, get_or, take}
use Rattle.std.specs.List.{flat_map}
use Rattle.kpn_model.specs.declared.token.Token.TheVariants.{Word}
use Rattle.kpn_tokens.specs.Records.{clips, fits, misfits, record_text}
use Rattle.kpn_tokens.proofs.appending.append_tokens.Given as goal

abbrev pub invariant-loop-place : goal.invariant-loop-place
invariant-loop-place l = record {
  written : l.out.items ≡ l.initial.out.items ++ flat_map (record_text l.layout) (take l.place l.tokens);
  counted : l.clipped ≡ misfits l.layout (take l.place l.tokens);
  unclipped : clips l.layout ≡ false → l.clipped ≡ 0;
  few : l.clipped ≤ l.place;
  fit : clips l.layout ≡ false → (k : ℕ) → k < l.place → fits l.layout (get_or l.tokens k (Word 0)) ≡ true;
}
