-- One record after another is poured.
use Rattle.std.proofs.Common.{◌≡◌, refl, sym, subst}
use Rattle.kpn_model.specs.Network.{Family, family_of}
use Rattle.kpn_flow.specs.Flows.{FlowView}
use Rattle.hox_stream.specs.Ports.{PoursKept}
use Rattle.hox_stream.specs.Views.{InletView}
use Rattle.hox_stream.proofs.Flowed.{pours_both, pours_none}
use Rattle.hox_stream.proofs.Reading.{not_read_both, not_read_same}
use Rattle.hox_stream.proofs.pouring.take_more.Goals as goal
use Rattle.hox_stream.proofs.pouring.take_more.Goals.{then-taken-eq0+in-Record+else-not-take_said, else-taken-eq0}

kept_both : (kinds : Family) (s t u : FlowView) (p q r : InletView) → PoursKept kinds s t p q → PoursKept kinds t u q r → PoursKept kinds s u p r
kept_both kinds s t u p q r x y = record { pours = pours_both kinds s t u p q r x.pours y.pours; unread = not_read_both p q r x.unread y.unread }

kept_there : (kinds : Family) (s t u : FlowView) (p q r : InletView) → PoursKept kinds s t p q → u ≡ t → r ≡ q → PoursKept kinds s u p r
kept_there kinds s t u p q r x e f = subst (λ (y : FlowView). PoursKept kinds s y p r) (sym e) (subst (λ (y : InletView). PoursKept kinds s t p y) (sym f) x)

pub records-init : goal.records-init
records-init g c = record { pours = pours_none (family_of g.B.Kinds.Kinds.start g.B.Kinds.Kinds.answer_of) _ _ _ _ refl refl; unread = not_read_same _ }

pub records-preserved : goal.records-preserved
records-preserved g c =
    elim c.if-taken-eq0.branch [
      | then-taken-eq0+in-Record+else-not-take_said w ↦
          kept_there (family_of g.B.Kinds.Kinds.start g.B.Kinds.Kinds.answer_of) _ _ _ _ _ _
          (kept_both (family_of g.B.Kinds.Kinds.start g.B.Kinds.Kinds.answer_of) _ _ _ _ _ _ (kept_both (family_of g.B.Kinds.Kinds.start g.B.Kinds.Kinds.answer_of) _ _ _ _ _ _ c.records.invariant c.take_batch-taken.ensures) w.take_said.ensures) w.flow-is w.inlet-is
      | else-taken-eq0 w ↦
          kept_there (family_of g.B.Kinds.Kinds.start g.B.Kinds.Kinds.answer_of) _ _ _ _ _ _
          (kept_both (family_of g.B.Kinds.Kinds.start g.B.Kinds.Kinds.answer_of) _ _ _ _ _ _ c.records.invariant c.take_batch-taken.ensures) w.flow-is w.inlet-is
    ]

pub returns-in_default : goal.returns-in_default
returns-in_default g c = kept_both (family_of g.B.Kinds.Kinds.start g.B.Kinds.Kinds.answer_of) _ _ _ _ _ _ c.records.invariant c.take_batch-taken.ensures

pub returns-then-not-take_said : goal.returns-then-not-take_said
returns-then-not-take_said g c =
    kept_both (family_of g.B.Kinds.Kinds.start g.B.Kinds.Kinds.answer_of) _ _ _ _ _ _
    (kept_both (family_of g.B.Kinds.Kinds.start g.B.Kinds.Kinds.answer_of) _ _ _ _ _ _ c.records.invariant c.take_batch-taken.ensures) c.take_said.ensures
