use Rattle.std.proofs.Common.{◌≡◌, ◌∙◌, ◌++◌, length, ap, arith}
use Rattle.kpn_formula.specs.Encoding.{size}
use Rattle.kpn_formula.specs.Spelling.{spelling}
use Rattle.kpn_formula.proofs.Spelled.{spelling_length}
use Rattle.kpn_formula.proofs.Encoded.{card_holds}
use Rattle.kpn_formula.proofs.encoding.card_of.Goals as goal

pub write_opening-requires-clause-room : goal.write_opening-requires-clause-room
write_opening-requires-clause-room c =
    let long : length c.write_all.new.self ≡ size c.args.round.now = ap length (c.write_all.ensures ∙ ap (λ t. t ++ spelling c.args.round.now) c.new-tape.ensures) ∙ spelling_length c.args.round.now in
    omega (arith, long, c.size.ensures.is, c.opening_size.ensures.is)

pub returns : goal.returns
returns c =
    card_holds c.args.shape c.args.round.now c.args.opening.now c.in-Some.kind c.args-args.result (omega arith) (omega arith) c.requires.round c.requires.opening c.in-Some.ensures
    (omega (arith, c.size.ensures.is, c.opening_size.ensures.is)) (search (c.args-args.ensures, c.write_opening.ensures, c.write_all.ensures, c.new-tape.ensures))
