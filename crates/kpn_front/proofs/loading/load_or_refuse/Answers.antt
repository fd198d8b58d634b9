-- A refused text is the source's own, and so its fault is that of the source.
use Rattle.std.proofs.Common.{◌≡◌, Ok, arith}
use Rattle.kpn_front.specs.Loading.{Loads, without_text}
use Rattle.kpn_front.proofs.Loaded.{loads_checked, loads_read, text_of}
use Rattle.kpn_front.proofs.loading.load_or_refuse.Goals as goal

pub returns-clause-loaded : goal.returns-clause-loaded
returns-clause-loaded g c =
    let named = g.K.Kinds.named in
    let signature = g.K.Kinds.signature in
    let text = c.in_ok-text.text.items in
    let read : c.read_text.result ≡ Ok c.in_ok-text.text = grind arith in
    let whole = rw read at c.read_text.ensures.ok in
    let found = c.read_sketch-sketch in
    let loaded = without_text c.net_or_refuse.result in
    let checked = loads_checked named signature text found.result loaded whole.0 (rw c.as_slice.ensures.value at found.ensures.ok) (rw c.as_slice.ensures.value at found.ensures.fault) c.net_or_refuse.ensures.checked in
    loads_read (Loads named signature) g.S.Source.is_steady g.S.Source.has_failed g.S.Source.remaining c.args.source.now c.read_text.new.source text loaded
    whole.1 (c.read_text.ensures.failed (λ e. cc)) c.read_text.ensures.source checked

pub returns-clause-text : goal.returns-clause-text
returns-clause-text g c =
    let read : c.read_text.result ≡ Ok c.in_ok-text.text = grind arith in
    let whole = rw read at c.read_text.ensures.ok in
    text_of (g.S.Source.remaining c.args.source.now) c.in_ok-text.text.items c.net_or_refuse.result whole.1 c.net_or_refuse.ensures.text
