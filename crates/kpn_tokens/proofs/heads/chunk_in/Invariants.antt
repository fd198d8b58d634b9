use Rattle.std.proofs.Common.{◌-◌, ℕ, length}
use Rattle.kpn_tokens.specs.Heads.{Finds}
use Rattle.kpn_tokens.proofs.heads.chunk_in.Given as goal

-- a chunk that is found from here on is the first one, and the first one is found from here on
abbrev pub invariant-loop-place : goal.invariant-loop-place
invariant-loop-place l = record {
  first : (found : ℕ) → Finds l.bytes l.letters l.place found → Finds l.bytes l.letters 12 found;
  only : (found : ℕ) → Finds l.bytes l.letters 12 found → Finds l.bytes l.letters l.place found;
}

abbrev pub decreases-loop-place : goal.decreases-loop-place
decreases-loop-place l = length l.bytes - l.place
