use Rattle.std.proofs.Common.{◌≡◌, ◌++◌, string_bytes}
use Rattle.kpn_model.specs.texts.Reports.{lines_upto}
use Rattle.kpn_picture.specs.Picture.{edge_line}
use Rattle.kpn_picture.proofs.edges.push_channels.Given as goal

abbrev pub invariant-loop-c : goal.invariant-loop-c
invariant-loop-c g l = string_bytes l.out ≡ string_bytes l.initial.out ++ lines_upto (edge_line l.net l.left.places.now l.left.capacities.now l.left.rests.now g.K.Titled.title l.has_rows) l.c
