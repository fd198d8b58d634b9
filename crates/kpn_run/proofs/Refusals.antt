-- What is handed back of a run that failed.
use Rattle.std.proofs.Common.{◌≡◌, ◌∙◌, List, map, ap, sym, subst}
use Rattle.kpn_model.specs.declared.kinds.Card.{Card}
use Rattle.kpn_model.specs.Network.{Network}
use Rattle.kpn_machine.specs.declared.machine.OpenRefused.{OpenRefused}
use Rattle.kpn_machine.specs.declared.opening.OpenFault.{OpenFault}
use Rattle.kpn_machine.specs.Opening.{cards_of, IsOpenFault, IsOpenRefused}
use Rattle.kpn_run.specs.declared.fault.Failure.{Failure}
use Rattle.kpn_run.specs.declared.fault.Failure.TheVariants.{NotRun, Lost}
use Rattle.kpn_run.specs.Refusals.{IsHandedBack, LacksMemory, HandsBack, FailsOpened}

-- a machine that was not opened returns all unchanged
pub unopened : {B K : Type 0} (card : B → Card) (net : Network) (bodies : List B) (refused : OpenRefused B K) → IsOpenRefused card net bodies refused → IsHandedBack card net bodies refused
unopened card net bodies refused is = record { net_is = is.net_is; cards_are = ap (map card) is.bodies_are; bodies_are = λ other. is.bodies_are; applies = is.applies }

-- memory was refused after a machine of this network was opened
pub for_memory : {B K : Type 0} (card : B → Card) (net : Network) (bodies : List B) (m : Network) (refused : OpenRefused B K) → map card bodies ≡ cards_of net.processes → m ≡ net → LacksMemory card m refused → IsHandedBack card net bodies refused
for_memory card net bodies m refused fit m_is lacks = record {
  net_is = lacks.net_is ∙ m_is;
  cards_are = lacks.cards_are ∙ ap (λ (x : Network). cards_of x.processes) m_is ∙ sym fit;
  bodies_are = λ other. absurd (other lacks.fault_is);
  applies = subst (λ (x : OpenFault). IsOpenFault net.processes (map card bodies) x) (sym lacks.fault_is) fit;
}

-- a machine that was opened is one of this network, and its bodies fit
pub opened_back : {B K : Type 0} (card : B → Card) (net : Network) (bodies : List B) (m : Network) (failure : Failure B K) → map card bodies ≡ cards_of net.processes → m ≡ net → FailsOpened card m failure → HandsBack card net bodies failure
opened_back card net bodies m (NotRun refused) fit m_is failed = for_memory card net bodies m refused fit m_is failed
opened_back card net bodies m (Lost finished) fit m_is failed = fit

-- the bodies that come back are in another vector
pub unboxed_back : {B K : Type 0} (card : B → Card) (net : Network) (bodies : List B) (given back : OpenRefused B K) → back.net ≡ given.net → back.bodies.items ≡ given.bodies.items → back.fault ≡ given.fault
    → IsHandedBack card net bodies given → IsHandedBack card net bodies back
unboxed_back card net bodies given back net_same same fault_same is = record {
  net_is = net_same ∙ is.net_is;
  cards_are = ap (map card) same ∙ is.cards_are;
  bodies_are = λ other. same ∙ is.bodies_are (λ memory. other (fault_same ∙ memory));
  applies = subst (λ (x : OpenFault). IsOpenFault net.processes (map card bodies) x) (sym fault_same) is.applies;
}
