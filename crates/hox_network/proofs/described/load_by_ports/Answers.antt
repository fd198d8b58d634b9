-- What the text means is loaded of the source: a network, or a fault.
use Rattle.std.proofs.Common.{◌≡◌, ◌∙◌, Ok, Err, ap, arith, rules}
use Rattle.kpn_sketch.specs.declared.fault.NetFault.TheVariants.{Input}
use Rattle.kpn_front.specs.Loading.{without_text}
use Rattle.kpn_front.proofs.Loaded.{loads_read}
use Rattle.hox_network.specs.Meant.{LoadsMeant}
use Rattle.hox_network.proofs.Meant.{loads_checked, same_fault, unread_source}
use Rattle.hox_network.proofs.described.load_by_ports.Goals as goal

pub returns : goal.returns
returns g c =
    let named = g.K.Kinds.named in
    let signature = g.K.Kinds.signature in
    let text = c.in_ok-text.text.items in
    let read : c.read_text.result ≡ Ok c.in_ok-text.text = grind arith in
    let whole = rw read at c.read_text.ensures.ok in
    let found = c.sketch_of_text-sketch in
    let loaded = without_text c.net_or_refuse.result in
    let checked = loads_checked named signature text found.result loaded whole.0 (rw c.as_slice.ensures.value at found.ensures) c.net_or_refuse.ensures.checked in
    loads_read (LoadsMeant named signature) g.S.Source.is_steady g.S.Source.has_failed g.S.Source.remaining c.args.source.now c.read_text.new.source text loaded
    whole.1 (c.read_text.ensures.failed (λ e. cc)) c.read_text.ensures.source checked

pub returns-in_err-text : goal.returns-in_err-text
returns-in_err-text g c =
    let refused = c.in_err-text.field-0.0 in
    let fault = refused.fault in
    let read : c.read_text.result ≡ Err fault = search rules in
    let result : c.from_residual.result ≡ Err refused = search rules in
    let unread = unread_source g.K.Kinds.named g.K.Kinds.signature g.S.Source.is_steady g.S.Source.has_failed g.S.Source.remaining c.args.source.now c.read_text.new.source fault
    (λ input. c.read_text.ensures.input (read ∙ ap Err input)) (rw read at c.read_text.ensures.fault)
    (λ other. c.read_text.ensures.failed (λ input. other (same_fault c.read_text.result fault Input read input))) c.read_text.ensures.source in
    rw result unread
