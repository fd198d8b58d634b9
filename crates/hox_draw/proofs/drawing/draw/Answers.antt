-- A text that was read is drawn; a source that can't be read is refused.
use Rattle.std.proofs.Common.{rules, IfSome, Some, Err, ap}
use Rattle.kpn_sketch.specs.Description.{delayed_of}
use Rattle.kpn_front.specs.Loading.{LoadsChanged}
use Rattle.hox_network.specs.Meant.{as_meant}
use Rattle.hox_network.proofs.Meant.{known_unread}
use Rattle.hox_draw.proofs.Served.{of_source}
use Rattle.hox_draw.proofs.drawing.draw.Goals as goal

pub returns-in-Ok : goal.returns-in-Ok
returns-in-Ok g c = record {
  served =
      of_source (g.I.Source.remaining c.args.source.now) (g.I.Source.has_failed c.args.source.now) (g.I.Source.has_failed c.read_text.new.source) c.in-Ok.text.items c.draw_text.result
      c.in-Ok.ensures.ok.1 (c.in-Ok.ensures.failed (λ e. cc)) (rw c.as_slice.ensures.value at c.draw_text.ensures);
  taken = c.in-Ok.ensures.source.taken;
}

pub returns-in-Err : goal.returns-in-Err
returns-in-Err g c =
    let named = g.K.Kinds.named in
    let signature = g.K.Kinds.signature in
    let known = g.I.Source.remaining c.args.source.now in
    let failed = g.I.Source.has_failed c.read_text.new.source in
    record {
      served = record {
        loaded = Err c.in-Err.fault;
        loads = λ fresh. let read : IfSome known (λ text. LoadsChanged delayed_of (as_meant named signature text) named signature failed text (Err c.in-Err.fault)) = search rules in known_unread named signature failed known (Err c.in-Err.fault) read;
        failed = search rules;
        comes = ap Some c.unread.ensures.fault;
      };
      taken = c.in-Err.ensures.source.taken;
    }
