-- A record is taken and then others, or nothing is fed but the source is read on, or the input ends.
use Rattle.std.proofs.Common.{◌≡◌, false, refl, sym, ◌∙◌, rules}
use Rattle.kpn_model.specs.Network.{family_of}
use Rattle.hox_stream.proofs.Flowed.{pours_both, pours_ended, pours_none, pours_read}
use Rattle.hox_stream.proofs.Reading.{never_wants, not_read_both, read_on, wants, wants_not}
use Rattle.hox_stream.proofs.pouring.pour.Goals as goal

pub returns-in-Refused-clause-pours : goal.returns-in-Refused-clause-pours
returns-in-Refused-clause-pours g c = pours_none (family_of g.B.Kinds.Kinds.start g.B.Kinds.Kinds.answer_of) _ _ _ _ refl refl

pub returns-then-is_over-clause-pours : goal.returns-then-is_over-clause-pours
returns-then-is_over-clause-pours g c = pours_ended (family_of g.B.Kinds.Kinds.start g.B.Kinds.Kinds.answer_of) _ _ _ _ c.end_input.ensures

pub returns-then-is_over-clause-ended : goal.returns-then-is_over-clause-ended
returns-then-is_over-clause-ended g c = search rules

pub returns-in-Memory-clause-pours : goal.returns-in-Memory-clause-pours
returns-in-Memory-clause-pours g c = pours_none (family_of g.B.Kinds.Kinds.start g.B.Kinds.Kinds.answer_of) _ _ _ _ refl refl

pub returns-in-Err-Failed-clause-pours : goal.returns-in-Err-Failed-clause-pours
returns-in-Err-Failed-clause-pours g c = pours_read (family_of g.B.Kinds.Kinds.start g.B.Kinds.Kinds.answer_of) _ _ _ c.refill.ensures.reads

pub returns-in-Err-Failed-clause-only_if_wanted : goal.returns-in-Err-Failed-clause-only_if_wanted
returns-in-Err-Failed-clause-only_if_wanted g c = λ no.
    let unended : c.args.inlet.now.is_over ≡ false = sym c.is_over.ensures.is ∙ c.if-is_over.false in
    never_wants c.args.inlet.now no (wants c.args.inlet.now unended c.in-Wanting.ensures.next.0)

pub returns-in-Err-Memory-clause-pours : goal.returns-in-Err-Memory-clause-pours
returns-in-Err-Memory-clause-pours g c = pours_read (family_of g.B.Kinds.Kinds.start g.B.Kinds.Kinds.answer_of) _ _ _ c.refill.ensures.reads

pub returns-in-Err-Memory-clause-only_if_wanted : goal.returns-in-Err-Memory-clause-only_if_wanted
returns-in-Err-Memory-clause-only_if_wanted g c = λ no.
    let unended : c.args.inlet.now.is_over ≡ false = sym c.is_over.ensures.is ∙ c.if-is_over.false in
    never_wants c.args.inlet.now no (wants c.args.inlet.now unended c.in-Wanting.ensures.next.0)

pub returns-in-Ok-clause-pours : goal.returns-in-Ok-clause-pours
returns-in-Ok-clause-pours g c =
    pours_both (family_of g.B.Kinds.Kinds.start g.B.Kinds.Kinds.answer_of) _ _ _ _ _ _ (pours_read (family_of g.B.Kinds.Kinds.start g.B.Kinds.Kinds.answer_of) _ _ _ c.refill.ensures.reads) c.take_more-in-Ok.ensures.pours

pub returns-in-Ok-clause-read : goal.returns-in-Ok-clause-read
returns-in-Ok-clause-read g c = λ more.
    let unended : c.args.inlet.now.is_over ≡ false = sym c.is_over.ensures.is ∙ c.if-is_over.false in
    record { between = c.refill.new.self; read = read_on c.args.inlet.now c.refill.new.self c.in-Wanting.ensures.next.1 (c.in-Ok.ensures.read unended); taken = c.take_more-in-Ok.ensures.unread }

pub returns-in-Ok-clause-only_if_wanted : goal.returns-in-Ok-clause-only_if_wanted
returns-in-Ok-clause-only_if_wanted g c = λ no.
    let unended : c.args.inlet.now.is_over ≡ false = sym c.is_over.ensures.is ∙ c.if-is_over.false in
    never_wants c.args.inlet.now no (wants c.args.inlet.now unended c.in-Wanting.ensures.next.0)

pub returns-then-ne-clause-pours : goal.returns-then-ne-clause-pours
returns-then-ne-clause-pours g c = pours_none (family_of g.B.Kinds.Kinds.start g.B.Kinds.Kinds.answer_of) _ _ _ _ refl refl

pub returns-then-not-take_said-clause-pours : goal.returns-then-not-take_said-clause-pours
returns-then-not-take_said-clause-pours g c = c.take_said.ensures.pours

pub returns-then-not-take_said-clause-read : goal.returns-then-not-take_said-clause-read
returns-then-not-take_said-clause-read g c = λ more. never_wants c.args.inlet.now (wants_not c.args.inlet.now c.in-Record.ensures.next.4) more

pub returns-else-not-take_said-clause-pours : goal.returns-else-not-take_said-clause-pours
returns-else-not-take_said-clause-pours g c = pours_both (family_of g.B.Kinds.Kinds.start g.B.Kinds.Kinds.answer_of) _ _ _ _ _ _ c.take_said.ensures.pours c.take_more.ensures.pours

pub returns-else-not-take_said-clause-read : goal.returns-else-not-take_said-clause-read
returns-else-not-take_said-clause-read g c = λ more. never_wants c.args.inlet.now (wants_not c.args.inlet.now c.in-Record.ensures.next.4) more

pub returns-else-not-take_said-clause-only_if_wanted : goal.returns-else-not-take_said-clause-only_if_wanted
returns-else-not-take_said-clause-only_if_wanted g c = λ no. not_read_both _ _ _ c.take_said.ensures.unread c.take_more.ensures.unread
