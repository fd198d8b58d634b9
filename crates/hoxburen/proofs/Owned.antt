-- A flow that a caller keeps, and the parts of a box, by value. Assumes `Logic`.
--     E, Parted, Kept        a box of a session under short names; its parts and a kept flow, as slots of a signature
--     both, both_good        a struct of a pointer and a handle, as a machine value
--     flow_out               what a kept flow owns: at null the allocator alone, and it is closed; else the box and the allocator
--     closed_in, open_in, parts_in    the way back: at null, at a block, and as the parts of a box
use Rattle.std.proofs.Common.{◌≡◌, ℕ, List, [], ◌∷◌, ◌++◌, Option, None, Some, refl, subst}
use seplogic.Ra.Ura.{Ura}
use lib.Dec.{T}
use mir.Syntax.{impl, tnil, dnil}
use mir.Raw.{raw as bare}
use mir.Val.{Val, vptr, vstruct, vcons, vnil, of_list, has_ty, WT}
use base.Logic.{ent, via, snd∗, guard, guard_i}
use base.Fml.{feq, fsep}
use base.Fraction.{full_share}
use types.Logic.{Logic, sem}
use types.Kit.{Item, Goal, Seq, Step, step, given, ‵, ◌$◌, move, drop, fsplit, fjoin, fpick, fpack, feq_i, feq_l, use1, learn}
use contract.Monad.{fact_use}
use denote.RattleType.{RattleType, Valss}
use denote.Builtin.{RawPtr}
use denote.Memory.{lone}
use denote.RawPtr.{Ptr, block_ptr, null_ptr, ptr_val, lies_at, Testable}
use denote.Signature.{Slot, plain}
use denote.Steps.{nothing}
use denote.Param.{layout}
use denote.Struct.Struct.{within}
use denote.Struct.Owning.{shape, to}
use Rattle.core.proofs.alloc.Calls.{handle_tells}
use Rattle.core.proofs.atomic.Steps.{Ptr-Good}
use Rattle.core.proofs.cell.Inside.{Good}
use Rattle.std_alloc.proofs.BoxSteps.Form.{Bx}
use Rattle.std_alloc.proofs.ResultValues.{and_tt}
use Rattle.std_heap.specs.contracts.Global as Heap
use Rattle.std_heap.specs.contracts.GlobalAllocator.TheImpl.{ghosts, dict}
use Rattle.std_heap.proofs.Global.TheLaws as heap
use Rattle.std_heap.specs.declared.Global.{Global}
use Rattle.std.proofs.GlobalToken.{dealloc_token-Testable}
use Rattle.hoxburen.specs.Handles.{boxed, holds}
use Rattle.hox_handle.specs.contracts.session.Session as Session
use Rattle.hox_handle.proofs.session.Session.TheLaws as session
use Rattle.hoxburen.specs.contracts.parts.BoxParts as BoxParts
use Rattle.hoxburen.specs.contracts.handle.HoxFlow as Flow

abbrev pub E : Bx
E = record { row = Session.the_row; laws = session.the_row_laws; al = record { row = Heap.the_row; laws = heap.the_row_laws; g = ghosts; d = dict; drops = impl [] tnil dnil } }

abbrev pub X : Type 0
X = (Session.the_row).Denot

abbrev pub Z : RattleType
Z = Heap.the_row

abbrev pub PartsRow : RattleType
PartsRow = BoxParts.the_row Session.the_row Heap.the_row ghosts

abbrev pub FlowRow : RattleType
FlowRow = Flow.the_row

abbrev pub Parted : Slot 0
Parted = plain (λ _. PartsRow)

abbrev pub Kept : Slot 0
Kept = plain (λ _. FlowRow)

abbrev pub both : Val → Val → Val
both v w = vstruct (vcons v (vcons w vnil))

pub both_good : (p : Ptr) (h : Val) → Good (layout Z) h → T (has_ty (layout FlowRow) (both (ptr_val p) h)) × WT (both (ptr_val p) h)
both_good (block_ptr b o) h fits = (and_tt (has_ty (layout Z) h) fits.0, (tt, (fits.1, tt)))
both_good null_ptr h fits = (and_tt (has_ty (layout Z) h) fits.0, ((Ptr-Good null_ptr).1, (fits.1, tt)))

module _ {M : Type 1} {𝓤 : Ura M} (𝓛 : Logic 𝓤) (a : Global) where
  -- the pointer of a box may be compared with null
  tested : (p : Ptr) (x : X) → ent 𝓤 (sem 𝓛 (boxed a p x)) (guard 𝓤 (Testable p) (sem 𝓛 (boxed a p x)))
  tested p x =
      fact_use 𝓤 (Testable p) (via 𝓤 _ (snd∗ 𝓤 (sem 𝓛 (lies_at Session.the_row full_share p x)) (sem 𝓛 (ghosts.dealloc_token a (bare (lone (Session.the_row).mir)) p)))
      (dealloc_token-Testable 𝓛 a (bare (lone (Session.the_row).mir)) p)) (guard_i 𝓤 (Testable p) (sem 𝓛 (boxed a p x)))

module _ {M : Type 1} {𝓤 : Ura M} {𝓛 : Logic 𝓤} {K : Type 0} {Γ : List (Item 𝓤)} {G : Goal 𝓤 𝓛.H} where
  -- closed at null, and open at a block
  closed_or_open : K → (a : Global) (p : Ptr) (kept : Option X) → (p ≡ null_ptr → kept ≡ None → Seq K 𝓛 Γ G)
      → ((b o : ℕ) (x : X) → p ≡ block_ptr b o → kept ≡ Some x → Testable (block_ptr b o) → Seq K 𝓛 (‵ (boxed a (block_ptr b o) x) ∷ Γ) G) → Seq K 𝓛 (‵ (holds a p kept) ∷ Γ) G
  closed_or_open t a null_ptr kept closed open_ = feq_l t (λ e. closed refl e)
  closed_or_open t a (block_ptr b o) kept closed open_ =
      fpick t (λ x. fsplit t $ feq_l t (λ e. use1 𝓛 (given (Testable (block_ptr b o)) (‵ (boxed a (block_ptr b o) x))) (tested 𝓛 a (block_ptr b o) x) $ learn t (λ may. open_ b o x refl e may)))

module _ {M : Type 1} {𝓤 : Ura M} {𝓛 : Logic 𝓤} {K : Type 0} {Γ : List (Item 𝓤)} {G : Goal 𝓤 𝓛.H} where
  pub flow_out : K → (d : FlowRow.Denot) (vs : List Val)
      → ((h : Val) → d.kept ≡ None → vs ≡ both (ptr_val null_ptr) h ∷ [] → Good (layout Z) h → Seq K 𝓛 (‵ (Z.own_val d.alloc (h ∷ [])) ∷ Γ) G)
      → ((b o : ℕ) (x : X) (h : Val) → d.kept ≡ Some x → vs ≡ both (vptr b o) h ∷ [] → Good (layout Z) h → Testable (block_ptr b o)
      → Seq K 𝓛 (‵ (boxed d.alloc (block_ptr b o) x) ∷ ‵ (Z.own_val d.alloc (h ∷ [])) ∷ Γ) G)
      → Seq K 𝓛 (‵ (FlowRow.own_val d vs) ∷ Γ) G
  flow_out t d vs closed open_ =
      fsplit t $ fpick t (λ vss. fsplit t $ feq_l t (λ ev. fsplit t $ feq_l t (λ ep. fsplit t $ handle_tells E.al t d.alloc vss.1.0 (λ h ea fits. move t (1 ∷ []) $ drop t $ move t (1 ∷ []) $
      let laid : vs ≡ both (ptr_val d.at) h ∷ [] = subst (λ (ws : List Val). vs ≡ vstruct (of_list (ptr_val d.at ∷ (ws ++ []))) ∷ []) ea (subst (λ (ps : List Val). vs ≡ vstruct (of_list (ps ++ (vss.1.0 ++ []))) ∷ []) ep ev) in
      closed_or_open t d.alloc d.at d.kept
      (λ is none. closed h none (subst (λ (p : Ptr). vs ≡ both (ptr_val p) h ∷ []) is laid) fits)
      (λ b o x is some may. open_ b o x h some (subst (λ (p : Ptr). vs ≡ both (ptr_val p) h ∷ []) is laid) fits may)))))

  -- a struct of a pointer and a handle owns what is at hand, the way that its type says
  pub closed_in : K → (h : Val) (a : Global)
      → Step K 𝓛 (‵ (FlowRow.own_val (record { at = null_ptr; alloc = a; kept = None }) (both (ptr_val null_ptr) h ∷ [])) ∷ Γ) G (‵ (Z.own_val a (h ∷ [])) ∷ Γ) G
  closed_in t h a = step (λ s. let v : Val = both (ptr_val null_ptr) h in
      feq_i t (Option X) None None refl $ nothing t $ move t (2 ∷ 0 ∷ []) $ fjoin t $ feq_i t (List Val) (ptr_val null_ptr ∷ []) (ptr_val null_ptr ∷ []) refl $ fjoin t $ feq_i t (List Val) (v ∷ []) (v ∷ []) refl $ fjoin t $
      fpack t (Valss (RawPtr ∷ Z ∷ [])) (within (shape Flow.the_type) (to Flow.the_type (record { at = null_ptr; alloc = a; kept = None })) (v ∷ [])) (ptr_val null_ptr ∷ [], (h ∷ [], tt)) $ fjoin t $ s)

  pub open_in : K → (b o : ℕ) (h : Val) (a : Global) (x : X)
      → Step K 𝓛 (‵ (FlowRow.own_val (record { at = block_ptr b o; alloc = a; kept = Some x }) (both (vptr b o) h ∷ [])) ∷ Γ) G (‵ (boxed a (block_ptr b o) x) ∷ ‵ (Z.own_val a (h ∷ [])) ∷ Γ) G
  open_in t b o h a x = step (λ s. let v : Val = both (vptr b o) h in
      feq_i t (Option X) (Some x) (Some x) refl $ fjoin t $ fpack t X (λ y. fsep (feq (Option X) (Some x) (Some y)) (boxed a (block_ptr b o) y)) x $
      nothing t $ move t (2 ∷ 0 ∷ []) $ fjoin t $ feq_i t (List Val) (vptr b o ∷ []) (vptr b o ∷ []) refl $ fjoin t $ feq_i t (List Val) (v ∷ []) (v ∷ []) refl $ fjoin t $
      fpack t (Valss (RawPtr ∷ Z ∷ [])) (within (shape Flow.the_type) (to Flow.the_type (record { at = block_ptr b o; alloc = a; kept = Some x })) (v ∷ [])) (vptr b o ∷ [], (h ∷ [], tt)) $ fjoin t $ s)

  pub parts_in : K → (b o : ℕ) (h : Val) (a : Global) (x : X)
      → Step K 𝓛 (‵ (PartsRow.own_val (record { ptr = block_ptr b o; alloc = a; value = x }) (both (vptr b o) h ∷ [])) ∷ Γ) G (‵ (boxed a (block_ptr b o) x) ∷ ‵ (Z.own_val a (h ∷ [])) ∷ Γ) G
  parts_in t b o h a x = step (λ s. let v : Val = both (vptr b o) h in
      nothing t $ move t (2 ∷ 0 ∷ []) $ fjoin t $ feq_i t (List Val) (vptr b o ∷ []) (vptr b o ∷ []) refl $ fjoin t $ feq_i t (List Val) (v ∷ []) (v ∷ []) refl $ fjoin t $
      fpack t (Valss (RawPtr ∷ Z ∷ [])) (within (shape (BoxParts.the_type Session.the_row Heap.the_row ghosts)) (to (BoxParts.the_type Session.the_row Heap.the_row ghosts) (record { ptr = block_ptr b o; alloc = a; value = x })) (v ∷ [])) (vptr b o ∷ [], (h ∷ [], tt)) $ fjoin t $ s)
