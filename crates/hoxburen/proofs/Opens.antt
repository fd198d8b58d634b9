-- What opening leaves of a flow, which was open or not.
use Rattle.std.proofs.Common.{◌≡◌, ℕ, List, Option, None, Some, inl, inr}
use Rattle.kpn_flow.specs.Flows.{FlowView}
use Rattle.hox_handle.specs.declared.answers.ReturnCode.TheVariants.{Open}
use Rattle.hox_handle.specs.declared.opening.SessionFault.{SessionFault}
use Rattle.hox_handle.specs.Answers.{answer_number}
use Rattle.hox_handle.specs.Opening.{answer_of, IsSessionFault, Opens}
use Rattle.hoxburen.specs.Calls.{OpensFlow}

module _ (text inputs outputs : List ℕ) (before after : Option FlowView) (number : ℕ) where
  pub stays_open : (s : FlowView) → before ≡ Some s → after ≡ Some s → number ≡ answer_number Open → OpensFlow text inputs outputs before after number
  stays_open s was is told = rw was (is, told)

  pub is_opened : (t : FlowView) → before ≡ None → after ≡ Some t → Opens text inputs outputs t → number ≡ 0 → OpensFlow text inputs outputs before after number
  is_opened t was is opens told = rw was (inl (t, is, opens, told))

  pub stays_closed : (fault : SessionFault) → before ≡ None → after ≡ None → IsSessionFault text inputs outputs fault → number ≡ answer_number (answer_of fault) → OpensFlow text inputs outputs before after number
  stays_closed fault was is faulty told = rw was (inr (fault, faulty, is, told))
