-- Each port of a network is the end of exactly one channel.
use Rattle.std.proofs.Common.{◌≡◌, ◌<◌, ℕ, ℤ, pos, negsuc, zero, suc, Bool, true, false, ◌&&◌, nat_lt, List, [], ◌∷◌, length, get_or, Option, Some, None, option_and_then, slice_get, refl, sym, ap, ◌∙◌, arith}
use Rattle.std.proofs.lemmas.Bool.{or_parts, and_parts, false≢true}
use Rattle.std.proofs.lemmas.Bool.Decides.{nat_tests, Decides-int_eq}
use Rattle.std.proofs.lemmas.List.Folds.{Any-from_list_any}
use Rattle.std.proofs.lemmas.Option.{slice_get_within}
use Rattle.std.proofs.lemmas.Slice.Eq.{bytes_eq-Decides}
use Rattle.std.specs.List.{find, list_any, All, position_or_len}
use Rattle.std.specs.Ordering.{int_eq}
use Rattle.std.specs.Prelude.{unsigned_abs}
use Rattle.std.specs.Str.{bytes_eq}
use Rattle.kpn_model.specs.declared.token.Sort.{Sort}
use Rattle.kpn_sketch.specs.declared.sketch.ProcessSketch.{ProcessSketch}
use Rattle.kpn_sketch.specs.declared.sketch.ChannelSketch.{ChannelSketch}
use Rattle.kpn_model.specs.declared.kinds.Card.{Card}
use Rattle.kpn_model.specs.declared.kinds.Signature.{Signature}
use Rattle.kpn_net.specs.Faults.{any_pair, same_process, port_sort, signature_of}
use Rattle.kpn_net.specs.Sketched.{index_of}
use Rattle.kpn_model.specs.Valid.{JustOne}
use Rattle.kpn_net.proofs.SketchLists.{no_pair_passes, found_index, found_passes, none_passes_get}

-- the first process with a name is the only one
own_place : (ps : List ProcessSketch) (p : ℕ) (x : ProcessSketch) → any_pair same_process ps ≡ false → slice_get ps p ≡ Some x → position_or_len (λ q. bytes_eq q.name x.name) ps ≡ p
own_place [] p x h e = cc
own_place (y ∷ ys) zero x h e =
    let same : y ≡ x = cc in
    let own : bytes_eq y.name x.name ≡ true = rw same ((bytes_eq-Decides x.name x.name).1 refl) in rw own
own_place (y ∷ ys) (suc p) x h e =
    let parts = or_parts (list_any (same_process y) ys) (any_pair same_process ys) h in
    let other : bytes_eq y.name x.name ≡ false = none_passes_get (same_process y) ys p x parts.0 e in
    let later : position_or_len (λ q. bytes_eq q.name x.name) ys ≡ p = own_place ys p x parts.1 e in
    rw (other, later) (omega arith)

own_index : (ps : List ProcessSketch) (p : ℕ) (x : ProcessSketch) → any_pair same_process ps ≡ false → slice_get ps p ≡ Some x → index_of ps x.name ≡ p
own_index ps p x h e =
    let at : position_or_len (λ q. bytes_eq q.name x.name) ps ≡ p = own_place ps p x h e in
    let l : p < length ps = slice_get_within ps p x e in
    let tested : nat_lt p (length ps) ≡ true = grind (arith, nat_tests) in
    rw (at, tested)

port_number : (ports : List (Option Sort)) (z : ℤ) (w : Sort) → port_sort ports z ≡ Some w → z ≡ pos (unsigned_abs z)
port_number ports (pos k) w h = refl
port_number ports (negsuc k) w h = cc

module _ (named : List ℕ → Option (ℕ × ℕ)) (signature : Card → Option Signature) (ports : Signature → List (Option Sort)) (ps : List ProcessSketch) where
  -- the sort of a port of the process with this name
  abbrev pub port_named : List ℕ → ℤ → Option Sort
  port_named name z = option_and_then (λ g. port_sort (ports g) z) (option_and_then (signature_of named signature) (find (λ p. bytes_eq p.name name) ps))

  number_in : (o : Option Signature) (z : ℤ) (w : Sort) → option_and_then (λ g. port_sort (ports g) z) o ≡ Some w → z ≡ pos (unsigned_abs z)
  number_in None z w h = cc
  number_in (Some g) z w h = port_number (ports g) z w h

  abbrev Owner : List ℕ → Type 0
  Owner name = (q : ProcessSketch) × (slice_get ps (index_of ps name) ≡ Some q) × (q.name ≡ name)

  owner_in : (name : List ℕ) (o : Option ProcessSketch) (z : ℤ) (w : Sort) → find (λ p. bytes_eq p.name name) ps ≡ o
      → option_and_then (λ g. port_sort (ports g) z) (option_and_then (signature_of named signature) o) ≡ Some w → Owner name
  owner_in name None z w e h = cc
  owner_in name (Some q) z w e h =
      (q, found_index (λ p. bytes_eq p.name name) ps q e, (bytes_eq-Decides q.name name).0 (found_passes (λ p. bytes_eq p.name name) ps q e))

  owner_of : (name : List ℕ) (z : ℤ) (w : Sort) → port_named name z ≡ Some w → Owner name
  owner_of name z w h = owner_in name (find (λ p. bytes_eq p.name name) ps) z w refl h

  number_of_port : (name : List ℕ) (z : ℤ) (w : Sort) → port_named name z ≡ Some w → z ≡ pos (unsigned_abs z)
  number_of_port name z w h = number_in (option_and_then (signature_of named signature) (find (λ p. bytes_eq p.name name) ps)) z w h

  -- two names that lead to one process are one name
  same_owner : (a b : List ℕ) (p : ℕ) → Owner a → Owner b → index_of ps a ≡ p → index_of ps b ≡ p → a ≡ b
  same_owner a b p (q, at_q, name_q) (r, at_r, name_r) e f =
      let one : slice_get ps p ≡ Some q = rw (← e) at_q in
      let two : slice_get ps p ≡ Some r = rw (← f) at_r in
      let same : q ≡ r = cc in
      sym name_q ∙ ap (λ (x : ProcessSketch). x.name) same ∙ name_r

  module _ (distinct : any_pair same_process ps ≡ false) (name_of : ChannelSketch → List ℕ) (port_of : ChannelSketch → ℤ) (sort_of : ChannelSketch → Sort) where
    abbrev pub same_end : ChannelSketch → ChannelSketch → Bool
    same_end c d = bytes_eq (name_of c) (name_of d) && int_eq (port_of c) (port_of d)

    abbrev pub Ends : ℕ → ℕ → ChannelSketch → Type 0
    Ends p k c = (index_of ps (name_of c) ≡ p) × (unsigned_abs (port_of c) ≡ k)

    ends_from : (p k : ℕ) (x : ProcessSketch) (c : ChannelSketch) → slice_get ps p ≡ Some x → (bytes_eq (name_of c) x.name && int_eq (port_of c) (pos k)) ≡ true → Ends p k c
    ends_from p k x c at h =
        let parts = and_parts (bytes_eq (name_of c) x.name) (int_eq (port_of c) (pos k)) h in
        let name : name_of c ≡ x.name = (bytes_eq-Decides (name_of c) x.name).0 parts.0 in
        let port : port_of c ≡ pos k = (Decides-int_eq (port_of c) (pos k)).0 parts.1 in
        (rw name (own_index ps p x distinct at), rw port)

    two_ends : (p k : ℕ) (c d : ChannelSketch) → port_named (name_of c) (port_of c) ≡ Some (sort_of c) → port_named (name_of d) (port_of d) ≡ Some (sort_of d)
        → same_end c d ≡ false → Ends p k c → Ends p k d → ⊥
    two_ends p k c d at_c at_d apart e f =
        let name : name_of c ≡ name_of d = same_owner (name_of c) (name_of d) p (owner_of (name_of c) (port_of c) (sort_of c) at_c) (owner_of (name_of d) (port_of d) (sort_of d) at_d) e.0 f.0 in
        let port : port_of c ≡ port_of d = number_of_port (name_of c) (port_of c) (sort_of c) at_c ∙ ap pos (e.1 ∙ sym f.1) ∙ sym (number_of_port (name_of d) (port_of d) (sort_of d) at_d) in
        let names : bytes_eq (name_of c) (name_of d) ≡ true = (bytes_eq-Decides (name_of c) (name_of d)).1 name in
        let numbers : int_eq (port_of c) (port_of d) ≡ true = (Decides-int_eq (port_of c) (port_of d)).1 port in
        let both : same_end c d ≡ true = rw (names, numbers) in
        false≢true (sym apart ∙ both)

    pub just_one : (cs : List ChannelSketch) (p k : ℕ) (x : ProcessSketch) → All (λ c. port_named (name_of c) (port_of c) ≡ Some (sort_of c)) cs → any_pair same_end cs ≡ false
        → slice_get ps p ≡ Some x → list_any (λ c. bytes_eq (name_of c) x.name && int_eq (port_of c) (pos k)) cs ≡ true → JustOne (Ends p k) cs
    just_one cs p k x resolved apart at leads =
        let (i, c, l, e, h) = Any-from_list_any (λ (c : ChannelSketch). bytes_eq (name_of c) x.name && int_eq (port_of c) (pos k)) cs leads in (
          (i, c, l, e, ends_from p k x c at h),
          λ a b d l m. two_ends p k (get_or cs a d) (get_or cs b d) (resolved a d (omega arith)) (resolved b d m) (no_pair_passes same_end cs apart a b d l m),
        )
