use Rattle.std.proofs.Common.{◌≡◌, take, count_by}
use Rattle.kpn_picture.specs.Picture.{stays}
use Rattle.kpn_picture.proofs.rows.staying.Given as goal

abbrev pub invariant-loop-c : goal.invariant-loop-c
invariant-loop-c g l = l.staying ≡ count_by stays (take l.c l.net.channels)
