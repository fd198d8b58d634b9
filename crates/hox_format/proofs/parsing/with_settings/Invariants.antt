use Rattle.std.proofs.Common.{◌≡◌, Ok, option_map}
use Rattle.hox_format.specs.Forms.{form}
use Rattle.hox_format.specs.Saying.{later_pieces, settings_said}
use Rattle.hox_format.proofs.Pieces.{left}
use Rattle.hox_format.proofs.parsing.with_settings.Given as goal

-- the settings that are left change the format to what all say
abbrev pub invariant-loop-rest : goal.invariant-loop-rest
invariant-loop-rest l =
    settings_said (Ok (form l.format)) (later_pieces (option_map (λ t. t.now) l.settings)) ≡ settings_said (Ok (form l.changed)) (later_pieces (option_map (λ t. t.now) l.rest))

abbrev pub decreases-loop-rest : goal.decreases-loop-rest
decreases-loop-rest l = left l.rest
