-- A network that was prepared is drawn; a description of which there is none is refused.
use Rattle.kpn_model.specs.Network.{family_of}
use Rattle.hox_draw.proofs.Served.{drawn_of, memory_of, refused}
use Rattle.hox_draw.proofs.drawing.draw_text.Goals as goal

pub returns : goal.returns
returns g c =
    drawn_of (family_of g.K.Kinds.start g.K.Kinds.answer_of) g.K.Kinds.named g.K.Titled.title c.args.wanted.now.direction c.args.wanted.now.is_run c.args.wanted.now.request.now c.in-Ok.net c.in-Ok-titles_of.titles.items c.draw_prepared.result c.in-Ok.ensures.served
    c.in-Ok-titles_of.ensures (rw c.as_slice.ensures.value at c.draw_prepared.ensures.drawn, c.draw_prepared.ensures.fault)

pub returns-in-Err : goal.returns-in-Err
returns-in-Err g c =
    refused (family_of g.K.Kinds.start g.K.Kinds.answer_of) g.K.Kinds.named g.K.Titled.title c.args.wanted.now.direction c.args.wanted.now.is_run c.args.wanted.now.request.now c.in-Err.fault c.in-Err.ensures.served

pub returns-in_default : goal.returns-in_default
returns-in_default g c =
    memory_of (family_of g.K.Kinds.start g.K.Kinds.answer_of) g.K.Kinds.named g.K.Titled.title c.args.wanted.now.direction c.args.wanted.now.is_run c.args.wanted.now.request.now c.in-Ok.net c.in-Ok.ensures.served
