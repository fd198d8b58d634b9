-- What `open_stream` answers, of the text whose sketch it was given.
use Rattle.std.proofs.Common.{◌⊎◌, inl, inr, ℕ, List, Err, false, subst}
use Rattle.kpn_model.specs.Network.{Network}
use Rattle.kpn_sketch.specs.declared.fault.NetFault.{NetFault}
use Rattle.kpn_sketch.specs.declared.sketch.Sketch.{Sketch}
use Rattle.kpn_sketch.specs.Description.{delayed_of}
use Rattle.kpn_net.specs.Sketched.{net_of}
use Rattle.kpn_front.specs.Loading.{IsWhole, LoadsChanged}
use Rattle.kpn_front.proofs.Loaded.{loads_from}
use Rattle.kpn_flow.specs.Flows.{FlowView}
use Rattle.hox_network.proofs.Meant.{nothing_out, writes_this}
use Rattle.hox_stream.specs.Exits.{with_exits}
use Rattle.hox_stream.specs.Starts.{IsStarted, IsStreamFault, IsNoNetwork}
use Rattle.hox_stream.specs.declared.starting.StreamFault.{StreamFault}
use Rattle.hox_stream.specs.declared.starting.StreamFault.TheVariants.{Description, Input, Output, Twice, Memory}
use Rattle.hox_handle.specs.declared.opening.SessionFault.TheVariants.{NoText, Unopened}
use Rattle.hox_handle.specs.declared.opening.SessionFault.{SessionFault}
use Rattle.hox_handle.specs.Names.{AreNames}
use Rattle.hox_handle.specs.Opening.{flow_named, flow_ports, flow_sketch, IsNoNames, IsReadAs, IsSessionFault, IsUnopened, OpensBetween}
use Rattle.hox_handle.specs.Sessions.{flow_kinds}

module _ (text : List ℕ) (fed drained : List (List ℕ)) (sketch : Sketch) (read : IsReadAs text sketch) where
  -- the network of a sketch
  abbrev pub net : Sketch → Network
  net x = net_of flow_named (with_exits drained x)

  pub opens_between : (start : FlowView) → IsStarted flow_kinds (net sketch) fed drained start → OpensBetween text fed drained start
  opens_between start s = record { described = read.described; written = read.written; describes = read.describes; out = read.out; started = subst (λ x. IsStarted flow_kinds (net x) fed drained start) read.meant s }

  pub unopened : (fault : StreamFault) → IsWhole false text → IsStreamFault flow_kinds (net sketch) (IsNoNetwork flow_named flow_ports (with_exits drained sketch)) fed drained fault → IsUnopened text fed drained fault
  unopened (Description fault) whole e = record {
    write = λ _. read.written;
    out = writes_this text read.described read.written read.describes read.out;
    loads = loads_from flow_named flow_ports delayed_of (λ _. flow_sketch text drained read.written) false text read.described (Err fault) whole read.describes tt
        (subst (λ x. IsNoNetwork flow_named flow_ports (with_exits drained x) fault) read.meant e);
  }
  unopened (Input fault) whole e = record { described = read.described; written = read.written; describes = read.describes; out = read.out; faulty = subst (λ x. IsStreamFault flow_kinds (net x) (λ _. ⊥) fed drained (Input fault)) read.meant e }
  unopened (Output fault) whole e = record { described = read.described; written = read.written; describes = read.describes; out = read.out; faulty = subst (λ x. IsStreamFault flow_kinds (net x) (λ _. ⊥) fed drained (Output fault)) read.meant e }
  unopened Twice whole e = record { described = read.described; written = read.written; describes = read.describes; out = read.out; faulty = subst (λ x. IsStreamFault flow_kinds (net x) (λ _. ⊥) fed drained Twice) read.meant e }
  unopened Memory whole e = tt

-- why it is not opened between the channels of these names is why it is not opened
pub session_fault : (text inputs outputs : List ℕ) (fed drained : List (List ℕ)) (fault : StreamFault) → AreNames inputs fed → AreNames outputs drained → IsUnopened text fed drained fault → IsSessionFault text inputs outputs (Unopened fault)
session_fault text inputs outputs fed drained (Description fault) a b e = (fed, drained, a, b, e)
session_fault text inputs outputs fed drained (Input fault) a b e = (fed, drained, a, b, e)
session_fault text inputs outputs fed drained (Output fault) a b e = (fed, drained, a, b, e)
session_fault text inputs outputs fed drained Twice a b e = (fed, drained, a, b, e)
session_fault text inputs outputs fed drained Memory a b e = tt

-- a text that is too long, or can't be read
pub unread : (text : List ℕ) (fed drained : List (List ℕ)) (fault : NetFault) → LoadsChanged delayed_of (flow_sketch text drained) flow_named flow_ports false text (Err fault) → IsUnopened text fed drained (Description fault)
unread text fed drained fault e = record { write = λ d. d; out = nothing_out text; loads = e }

-- without names there is no session
pub unnamed : (text inputs outputs : List ℕ) (fault : SessionFault) → IsNoNames inputs fault ⊎ IsNoNames outputs fault → IsSessionFault text inputs outputs fault
unnamed text inputs outputs NoText (inl none) = inl none
unnamed text inputs outputs NoText (inr none) = inr none
unnamed text inputs outputs (Unopened Memory) none = tt
unnamed text inputs outputs (Unopened (Description fault)) (inl none) = absurd none
unnamed text inputs outputs (Unopened (Description fault)) (inr none) = absurd none
unnamed text inputs outputs (Unopened (Input fault)) (inl none) = absurd none
unnamed text inputs outputs (Unopened (Input fault)) (inr none) = absurd none
unnamed text inputs outputs (Unopened (Output fault)) (inl none) = absurd none
unnamed text inputs outputs (Unopened (Output fault)) (inr none) = absurd none
unnamed text inputs outputs (Unopened Twice) (inl none) = absurd none
unnamed text inputs outputs (Unopened Twice) (inr none) = absurd none
