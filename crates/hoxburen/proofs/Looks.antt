-- Calls that look at a flow, and finding a place.
use Rattle.std.proofs.Common.{◌≡◌, ℕ, List, Option, None, Some, IfSome, IfNone, inl, inr, refl, sym, subst}
use Rattle.std.specs.Prelude.{IsUtf8}
use Rattle.kpn_model.specs.Network.{Network}
use Rattle.kpn_flow.specs.Flows.{FlowView}
use Rattle.hox_handle.specs.declared.answers.ReturnCode.TheVariants.{NoChannel}
use Rattle.hox_handle.specs.Answers.{answer_number}
use Rattle.hox_handle.specs.Sessions.{IsNamedAt, IsNotNamed}
use Rattle.hoxburen.specs.Calls.{FindsPlace, LooksAt}

-- an open flow is looked at
pub looks_open : (before after : Option FlowView) (number : ℕ) (nothing : Type 0) (tells : FlowView → Type 0) (s : FlowView) → before ≡ Some s → after ≡ Some s → tells s → LooksAt before after number nothing tells
looks_open before after number nothing tells s e f told = rw e (s, f, (refl, told))

-- the place that was found is told, or that none was
pub place_finds : (net : Network) (channels name : List ℕ) (found : Option ℕ) (place number : ℕ) → IfSome found (IsNamedAt net channels name) → IfNone found (IsUtf8 name → IsNotNamed net channels name)
    → IfSome found (λ k. (place ≡ k) × (number ≡ 0)) → IfNone found ((place ≡ 0) × (number ≡ answer_number NoChannel)) → FindsPlace net channels name place number
place_finds net channels name (Some k) place number named not told absent = inl (subst (IsNamedAt net channels name) (sym told.0) named, told.1)
place_finds net channels name None place number named not told absent = inr (not, absent.0, absent.1)
