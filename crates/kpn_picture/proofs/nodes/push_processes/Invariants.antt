use Rattle.std.proofs.Common.{◌≡◌, ◌++◌, string_bytes}
use Rattle.kpn_model.specs.texts.Reports.{lines_upto}
use Rattle.kpn_picture.specs.Picture.{node_line}
use Rattle.kpn_picture.proofs.nodes.push_processes.Given as goal

abbrev pub invariant-loop-p : goal.invariant-loop-p
invariant-loop-p g l = string_bytes l.out ≡ string_bytes l.initial.out ++ lines_upto (node_line l.net g.K.Titled.title l.titles l.places) l.p
