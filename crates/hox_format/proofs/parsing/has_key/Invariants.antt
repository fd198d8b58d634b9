use Rattle.std.proofs.Common.{◌≡◌, option_map}
use Rattle.std.specs.List.{list_any}
use Rattle.hox_format.specs.Saying.{has_key, later_pieces}
use Rattle.hox_format.proofs.Pieces.{left}
use Rattle.hox_format.proofs.parsing.has_key.Given as goal

-- the key is sought among the settings that are left
abbrev pub invariant-loop-others : goal.invariant-loop-others
invariant-loop-others l = list_any (has_key l.key) (later_pieces (option_map (λ t. t.now) l.settings)) ≡ list_any (has_key l.key) (later_pieces (option_map (λ t. t.now) l.others))

abbrev pub decreases-loop-others : goal.decreases-loop-others
decreases-loop-others l = left l.others
