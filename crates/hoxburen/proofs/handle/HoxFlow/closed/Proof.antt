-- `closed` puts null beside the allocator, which owns what it owned.
use Rattle.std.proofs.Common.{List, [], ◌∷◌, ◌++◌, None, refl, sym, subst}
use mir.Val.{Val}
use base.Logic.{SProp, ent, emp}
use base.Fml.{ftrue, fsep}
use prog.Wp.{WpFn}
use types.Kit.{Item, ‵, raw, ◌⊛◌, ◌$◌, ◌∵◌, !, qed, by, move, drop, join, split, fsplit, fjoin, suffices, done, ⋆}
use types.Part.{agg}
use types.Run.{lit, no_more, and_then, returns, enter}
use types.ByLocal.{alloc_all, pass_all, free_all, look_at, get, sets}
use contract.Running.{tables}
use denote.RawPtr.{null_ptr, ptr_val}
use denote.Signature.{Slot, plain}
use denote.Steps.{nothing}
use denote.Triple.Walked.{says, Stays, stay_dropped, walk_of, ends_at, Goes-dropped}
use Rattle.core.proofs.alloc.Calls.{handle_tells}
use Rattle.std.proofs.raw_atomic.Walks.{proved_at}
use Rattle.hoxburen.proofs.Owned.{E, Z, both, both_good, closed_in, FlowRow}
use Rattle.hoxburen.specs.contracts.handle.HoxFlow.closed as f
use Rattle.hoxburen.proofs.handle.HoxFlow.closed.Statement.{statement}
use Rattle.hoxburen.proofs.handle.HoxFlow.closed.Code as code

abbrev Passed : Slot 0
Passed = plain (λ _. Z)

abbrev stayed : Stays f.ended.signature.params f.ended.kept
stayed = (stay_dropped Passed f.ended.kept.0, tt)

pub closed_spec : {M : Type 1} → statement M
closed_spec 𝓤 𝓛 𝓜 𝓡 wired =
    let c = f.clauses 𝓛 𝓜.mem 𝓡.returns in let 𝓣 = tables 𝓤 𝓛.H 𝓜 𝓡 𝓡.env in
    proved_at 𝓛 f.ended stayed c 𝓜 𝓡 (Goes-dropped 𝓛 0 Passed f.ended.kept.0 (λ κs x w. refl), tt) f.Key.name code.function (code.unfolded 𝓤 𝓛.H 𝓜 𝓡 wired) (λ z are.
    let Post = (walk_of 𝓛 f.ended stayed c).post z in let a = z.0.3.0 in
    let made : FlowRow.Denot = record { at = null_ptr; alloc = a; kept = None } in
    qed 𝓛 ((‵ ftrue ⊛ ‵ (fsep (Z.own_val a z.0.4.0) ftrue)) ∷ raw (emp 𝓤) ∷ []) ∵ split ! $ drop ! $ fsplit ! $
    handle_tells E.al ! a z.0.4.0 (λ h laid fits. move ! (1 ∷ 2 ∷ []) $ drop ! $ drop ! $
    let w = both (ptr_val null_ptr) h in let Γ : List (Item 𝓤) = ‵ (Z.own_val a (h ∷ [])) ∷ [] in
    by ! (subst (λ (us : List Val). ent 𝓤 (⋆ 𝓛 Γ) (WpFn 𝓤 𝓛.H 𝓣.C 𝓣.Λ code.function (us ++ []) Post)) (sym laid)
    (qed 𝓛 Γ ∵ enter ! 𝓣.C 𝓣.Λ code.function (h ∷ []) _ $ alloc_all ! (λ l. pass_all ! refl (fits, tt) $
    sets ! (agg ! (and_then ! (lit ! tt) (and_then ! (get ! refl) (no_more !)))) refl (both_good null_ptr h fits) $ returns ! (look_at ! 0 refl) $ free_all ! refl $
    closed_in ! h a $ suffices ! _ (ends_at 𝓛 f.ended stayed c z w made (tt, tt) (tt, tt)) $ says ! refl $
    nothing ! $ nothing ! $ fjoin ! $ join ! $ nothing ! $ join ! $ done !)))))
