use Rattle.std.proofs.Common.{◌≡◌, take, count_by}
use Rattle.kpn_picture.specs.Picture.{is_branch}
use Rattle.kpn_picture.proofs.rows.branches.Given as goal

abbrev pub invariant-loop-c : goal.invariant-loop-c
invariant-loop-c g l = l.branches ≡ count_by is_branch (take l.c l.net.channels)
