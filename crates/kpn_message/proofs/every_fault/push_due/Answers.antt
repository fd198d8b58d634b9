use Rattle.std.proofs.Common.{◌≡◌, ◌&&◌, true, length, sym, ◌∙◌, rules}
use Rattle.kpn_net.specs.Faults.{has_fault}
use Rattle.kpn_message.specs.declared.location.Location.TheVariants.{Description, Process, Channel}
use Rattle.kpn_message.specs.EveryFault.{for_each_below, places_of, stands_alone, told_at}
use Rattle.kpn_message.proofs.Told.{adds_both, adds_when}
use Rattle.kpn_message.proofs.every_fault.push_due.Goals as goal

pub returns : goal.returns
returns g c =
    let named = g.K.Kinds.named in
    let signature = g.K.Kinds.signature in
    let sketch = c.args.sketch.now in
    let fault = c.args.fault in
    let whole = told_at named signature sketch fault Description in
    let processes = for_each_below (λ p. told_at named signature sketch fault (Process p)) (length sketch.processes) in
    let channels = for_each_below (λ k. told_at named signature sketch fault (Channel k)) (length sketch.channels) in
    let is : c.is_due.result ≡ true = search rules in
    adds_when (has_fault named signature sketch fault && stands_alone named signature sketch fault) (places_of named signature sketch fault) c.args.messages.now c.push_channels.new.messages (sym c.is_due.ensures ∙ is)
    (adds_both whole _ c.args.messages.now c.push_place.new.messages c.push_channels.new.messages c.push_place.ensures
    (adds_both processes channels c.push_place.new.messages c.push_processes.new.messages c.push_channels.new.messages c.push_processes.ensures c.push_channels.ensures))
