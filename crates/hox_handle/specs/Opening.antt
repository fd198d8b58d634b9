-- How a session is opened, and why it is not.
use Rattle.std.specs.Prelude.{◌⊎◌, ℕ, List, Option, Err, false, IsUtf8}
use Rattle.kpn_model.specs.declared.kinds.Card.{Card}
use Rattle.kpn_model.specs.declared.kinds.Signature.{Signature}
use Rattle.kpn_sketch.specs.declared.sketch.Delayed.{Delayed}
use Rattle.kpn_sketch.specs.declared.sketch.Sketch.{Sketch}
use Rattle.kpn_sketch.specs.Description.{DescribesDelayed, delayed_of}
use Rattle.kpn_model.specs.Network.{Network}
use Rattle.kpn_net.specs.Sketched.{net_of}
use Rattle.kpn_standard.specs.Signatures.{named as standard_named, signature as standard_ports}
use Rattle.kpn_signals.specs.Signatures.{number_named as signal_named, ports as signal_ports}
use Rattle.kpn_formula.specs.Formulas.{named as formula_named}
use Rattle.kpn_formula.specs.Shapes.{ports as formula_ports}
use Rattle.kpn_compute.specs.Both.{both_named, both_ports}
use Rattle.kpn_flow.specs.Flows.{FlowView}
use Rattle.kpn_front.specs.Loading.{LoadsChanged}
use Rattle.hox_network.specs.Formulas.{IsWrittenOut, WritesOut}
use Rattle.hox_network.specs.Meant.{IsSketchOf, as_meant}
use Rattle.hox_stream.specs.Exits.{exit_named, exit_ports, with_exits}
use Rattle.hox_stream.specs.Starts.{IsStarted, IsStreamFault}
use Rattle.hox_stream.specs.declared.starting.StreamFault.{StreamFault}
use Rattle.hox_stream.specs.declared.starting.StreamFault.TheVariants.{Description, Input, Output, Twice, Memory}
use Rattle.kpn_sketch.specs.declared.fault.NetFault.{NetFault}
use Rattle.kpn_sketch.specs.declared.fault.NetFault.TheVariants.{Memory as NoMemory}
use Rattle.hox_stream.specs.declared.starting.NameFault.TheVariants.{Memory as NoNameMemory}
use Rattle.hox_handle.specs.declared.answers.ReturnCode.{ReturnCode}
use Rattle.hox_handle.specs.declared.answers.ReturnCode.TheVariants.{Description as AnswerOf, NoInput, NoOutput, NoText as NoTextAnswer, Twice as TwiceNamed}
use Rattle.hox_handle.specs.declared.opening.SessionFault.{SessionFault}
use Rattle.hox_handle.specs.declared.opening.SessionFault.TheVariants.{NoText, Unopened}
use Rattle.hox_handle.specs.Names.{AreNames}
use Rattle.hox_handle.specs.Sessions.{flow_kinds}

-- names and signatures of all kinds; below, those of readers that stop at once too
abbrev pub all_named : List ℕ → Option (ℕ × ℕ)
all_named = both_named (both_named standard_named signal_named) formula_named

abbrev pub all_ports : Card → Option Signature
all_ports = both_ports (both_ports standard_ports signal_ports) formula_ports

abbrev pub flow_named : List ℕ → Option (ℕ × ℕ)
flow_named = both_named all_named exit_named

abbrev pub flow_ports : Card → Option Signature
flow_ports = both_ports all_ports exit_ports

-- the completed sketch, in which processes that only read a drained channel stop at once; formulas are written out
abbrev pub flow_sketch : List ℕ → List (List ℕ) → Delayed → Sketch
flow_sketch text drained written = with_exits drained (as_meant all_named all_ports text written)

-- that sketch, once `write` has written the formulas out
abbrev pub flow_sketch_by : List ℕ → List (List ℕ) → (Delayed → Delayed) → Delayed → Sketch
flow_sketch_by text drained write described = flow_sketch text drained (write described)

-- the network of that sketch
abbrev pub flow_net : List ℕ → List (List ℕ) → Delayed → Network
flow_net text drained written = net_of flow_named (flow_sketch text drained written)

-- a text describes this sketch, once completed
abbrev pub IsReadAs : List ℕ → Sketch → Type 0
IsReadAs text sketch = IsSketchOf all_named all_ports text sketch

-- a flow at the start of the text's network; each input or output has its name's place
pub record OpensBetween (text : List ℕ) (fed drained : List (List ℕ)) (start : FlowView) : Type 0 where
  pub described : Delayed
  pub written : Delayed
  pub describes : DescribesDelayed text described
  pub out : IsWrittenOut described written
  pub started : IsStarted flow_kinds (flow_net text drained written) fed drained start

-- the names are given as two texts
pub record Opens (text inputs outputs : List ℕ) (start : FlowView) : Type 0 where
  pub fed : List (List ℕ)
  pub drained : List (List ℕ)
  pub fed_are : AreNames inputs fed
  pub drained_are : AreNames outputs drained
  pub between : OpensBetween text fed drained start

-- the text's network can't be fed or drained at these channels
pub record IsEndFault (text : List ℕ) (fed drained : List (List ℕ)) (fault : StreamFault) : Type 0 where
  pub described : Delayed
  pub written : Delayed
  pub describes : DescribesDelayed text described
  pub out : IsWrittenOut described written
  pub faulty : IsStreamFault flow_kinds (flow_net text drained written) (λ _. ⊥) fed drained fault

-- the text describes no network, with this fault
pub record IsTextFault (text : List ℕ) (drained : List (List ℕ)) (fault : NetFault) : Type 0 where
  pub write : Delayed → Delayed
  pub out : WritesOut text write
  pub loads : LoadsChanged delayed_of (flow_sketch_by text drained write) flow_named flow_ports false text (Err fault)

-- why no flow is opened between channels of these names
abbrev pub IsUnopened : List ℕ → List (List ℕ) → List (List ℕ) → StreamFault → Type 0
IsUnopened text fed drained (Description fault) = IsTextFault text drained fault
IsUnopened text fed drained Memory = Unit {0}
IsUnopened text fed drained (Input fault) = IsEndFault text fed drained (Input fault)
IsUnopened text fed drained (Output fault) = IsEndFault text fed drained (Output fault)
IsUnopened text fed drained Twice = IsEndFault text fed drained Twice

-- why no session is opened
abbrev pub IsSessionFault : List ℕ → List ℕ → List ℕ → SessionFault → Type 0
IsSessionFault text inputs outputs NoText = (IsUtf8 inputs → ⊥) ⊎ (IsUtf8 outputs → ⊥)
IsSessionFault text inputs outputs (Unopened Memory) = Unit {0}
IsSessionFault text inputs outputs (Unopened fault) =
    (fed drained : List (List ℕ)) × AreNames inputs fed × AreNames outputs drained × IsUnopened text fed drained fault

-- why a text has no names: it is not UTF-8, or out of memory
abbrev pub IsNoNames : List ℕ → SessionFault → Type 0
IsNoNames text NoText = IsUtf8 text → ⊥
IsNoNames text (Unopened Memory) = Unit {0}
IsNoNames text (Unopened _) = ⊥

abbrev pub answer_of_stream : StreamFault → ReturnCode
answer_of_stream (Description fault) = AnswerOf fault
answer_of_stream (Input NoNameMemory) = AnswerOf NoMemory
answer_of_stream (Input _) = NoInput
answer_of_stream (Output NoNameMemory) = AnswerOf NoMemory
answer_of_stream (Output _) = NoOutput
answer_of_stream Twice = TwiceNamed
answer_of_stream Memory = AnswerOf NoMemory

abbrev pub answer_of : SessionFault → ReturnCode
answer_of NoText = NoTextAnswer
answer_of (Unopened fault) = answer_of_stream fault
