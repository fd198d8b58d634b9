-- What comes of a picture, of its text.
use Rattle.std.proofs.Common.{ℕ, Bool, List, Option, Result, Ok, Err, String, string_bytes}
use Rattle.kpn_sketch.specs.declared.fault.NetFault.{NetFault}
use Rattle.kpn_model.specs.Network.{Family, Network}
use Rattle.kpn_picture.specs.declared.looks.Direction.{Direction}
use Rattle.hox_network.specs.declared.request.Request.{Request}
use Rattle.hox_network.specs.Preparing.{GivesLoaded}
use Rattle.hox_draw.specs.Drawing.{GivesPicture}
use Rattle.hox_execute.specs.Commands.{GivesDrawing}

pub drawn_text :
    {Z : Type 0} (kinds : Family) (named : List ℕ → Option (ℕ × ℕ)) (title : ℕ → List ℕ × ℕ) (direction : Direction) (is_run : Bool) (request : Request) (picture : String Z) (loaded : Result Network NetFault)
    → GivesLoaded (GivesPicture kinds named title direction {Z = Z} is_run request) loaded (Ok picture) → GivesLoaded (GivesDrawing kinds named title direction is_run request) loaded (Ok (string_bytes picture))
drawn_text {Z} kinds named title direction is_run request picture (Ok net) h = h
drawn_text {Z} kinds named title direction is_run request picture (Err e) h = absurd h
