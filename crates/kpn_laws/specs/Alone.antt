-- A process alone: a function from the streams that it reads to those that it writes (Kahn 1974).
use Rattle.std.specs.Prelude.{◌≡◌, ℕ, suc, List, [], ◌∷◌, ◌++◌, Option, Some, None, length, flat_map}
use Rattle.kpn_model.specs.declared.token.Token.{Token}
use Rattle.kpn_model.specs.declared.kinds.Act.{Act}
use Rattle.kpn_model.specs.declared.kinds.Act.TheVariants.{Read, Write, Stop}
use Rattle.kpn_model.specs.declared.kinds.Answer.{Answer}
use Rattle.kpn_model.specs.declared.history.Deed.{Deed}
use Rattle.kpn_model.specs.declared.history.Deed.TheVariants.{Took, Put, Stopped}
use Rattle.kpn_model.specs.declared.history.Status.{Status}
use Rattle.kpn_model.specs.declared.history.Status.TheVariants.{Live, Done}
use Rattle.kpn_model.specs.Network.{Family, Network, in_of, out_of}
use Rattle.kpn_model.specs.Semantics.{status, start, answered}
use Rattle.kpn_model.specs.History.{put_by_deed, taken_by_deed, ArePrefixComparable}

-- the token at each place of each channel's stream, finite or endless; none past its end
abbrev pub Streams : Type 0
Streams = ℕ → ℕ → Option Token

abbrev pub BeginsWith : (ℕ → Option Token) → List Token → Type 0
BeginsWith s [] = Unit {0}
BeginsWith s (t ∷ ts) = (s 0 ≡ Some t) × BeginsWith (λ n. s (suc n)) ts

abbrev pub puts : List Deed → ℕ → List Token
puts ds c = flat_map (put_by_deed c) ds

abbrev pub took : List Deed → ℕ → List Token
took ds c = flat_map (taken_by_deed c) ds

abbrev pub after_answer : Answer → Deed → Status
after_answer a (Took c t) = Live a.next (Some t)
after_answer a (Put c t) = Live a.next None
after_answer a Stopped = Done

module _ (kinds : Family) (net : Network) where
  -- after the deeds ds of p, the act comes to this deed under the streams T: a read takes the first token not
  -- yet taken, or waits; a write is always possible
  abbrev pub IsDeedAlone : Streams → ℕ → List Deed → Act → Deed → Type 0
  IsDeedAlone T p ds Stop Stopped = Unit {0}
  IsDeedAlone T p ds (Read k) (Took c t) = (in_of net p k ≡ Some c) × (T c (length (took ds c)) ≡ Some t)
  IsDeedAlone T p ds (Write k w) (Put c t) = (out_of net p k ≡ Some c) × (t ≡ w)
  IsDeedAlone T p ds a d = ⊥

  -- p with this status answers, does this deed, and its next status goes on so
  abbrev pub DoesNext : Streams → ℕ → Status → List Deed → Deed → (Status → Type 0) → Type 0
  DoesNext T p s before d GoesOn =
      (a : Answer) × (answered kinds net p s ≡ Some a) × IsDeedAlone T p before a.act d × GoesOn (after_answer a d)

  -- from this status, after the deeds `before`, p alone does these deeds
  abbrev pub GoesOnAlone : Streams → ℕ → Status → List Deed → List Deed → Type 0
  GoesOnAlone T p s before [] = Unit {0}
  GoesOnAlone T p s before (d ∷ ds) = DoesNext T p s before d (λ next. GoesOnAlone T p next (before ++ d ∷ []) ds)

  abbrev pub DoesAlone : Streams → ℕ → List Deed → Type 0
  DoesAlone T p ds = GoesOnAlone T p (status (start kinds net) p) [] ds

abbrev pub IsFunction : Family → Type 0
IsFunction kinds =
    (net : Network) (T : Streams) (p : ℕ) (ds es : List Deed)
    → DoesAlone kinds net T p ds → DoesAlone kinds net T p es → ArePrefixComparable ds es

-- each stream begins with the tokens that these deeds take from its channel
abbrev pub BeginWithTaken : Streams → List Deed → Type 0
BeginWithTaken T ds = (c : ℕ) → BeginsWith (T c) (took ds c)

-- what p does, up to any point, depends only on the tokens taken
abbrev pub IsContinuous : Family → Type 0
IsContinuous kinds =
    (net : Network) (T : Streams) (p : ℕ) (ds : List Deed) → DoesAlone kinds net T p ds
    → BeginWithTaken T ds × ((U : Streams) → BeginWithTaken U ds → DoesAlone kinds net U p ds)
