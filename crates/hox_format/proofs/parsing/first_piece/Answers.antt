use Rattle.hox_format.proofs.Pieces.{first_piece, whole_piece}
use Rattle.std.proofs.Common.{rules}
use Rattle.hox_format.proofs.parsing.first_piece.Goals as goal

pub returns-in-Some-clause-pieces : goal.returns-in-Some-clause-pieces
returns-in-Some-clause-pieces c = search (rules, first_piece)

pub returns-in-None-clause-pieces : goal.returns-in-None-clause-pieces
returns-in-None-clause-pieces c = search (rules, whole_piece)
