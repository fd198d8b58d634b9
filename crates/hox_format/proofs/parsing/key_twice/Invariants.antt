use Rattle.std.proofs.Common.{◌≡◌, option_map}
use Rattle.hox_format.specs.Saying.{key_twice, later_pieces}
use Rattle.hox_format.proofs.Pieces.{left}
use Rattle.hox_format.proofs.parsing.key_twice.Given as goal

-- the key is sought among the settings that are left
abbrev pub invariant-loop-sought : goal.invariant-loop-sought
invariant-loop-sought l = key_twice (later_pieces (option_map (λ t. t.now) l.settings)) ≡ key_twice (later_pieces (option_map (λ t. t.now) l.sought))

abbrev pub decreases-loop-sought : goal.decreases-loop-sought
decreases-loop-sought l = left l.sought
