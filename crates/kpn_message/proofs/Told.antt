-- Messages that are added to those before.
use Rattle.std.proofs.Common.{◌≡◌, ◌≢◌, ◌<◌, ◌≤◌, ◌+◌, ◌-◌, ◌^◌, ⊎_elim, ℕ, zero, suc, Bool, true, false, ◌&&◌, List, [], ◌∷◌, ◌++◌, length, map, take, get_or, string_bytes, if◌then◌else◌, sym, ap, subst, ◌∙◌, arith}
use Rattle.std.proofs.lemmas.List.{append-nil, append_assoc, length-append, length-map, length-take, map-append, take_all, take-append-le, take_more, flat_map_more}
use Rattle.std.proofs.Math.Nat.{min-eq_left, min_comm}
use Rattle.std.proofs.lemmas.Bool.{cases_lt}
use Rattle.std.proofs.lemmas.List.Elements.{All-append}
use Rattle.std.specs.Io.Iter.{u64_saturate}
use Rattle.std.specs.List.{All, flat_map}
use Rattle.kpn_sketch.specs.declared.fault.NetFault.{NetFault}
use Rattle.kpn_message.specs.declared.location.Location.{Location}
use Rattle.kpn_message.specs.declared.every_fault.Message.{Message}
use Rattle.kpn_message.specs.declared.every_fault.Messages.{Messages}
use Rattle.kpn_message.specs.declared.every_fault.TheConstants.{MOST_MESSAGES}
use Rattle.kpn_message.specs.EveryFault.{Adds, Tells, for_each_below, subject}

-- as many as there are, and one more
saturate_next : (n m : ℕ) → m ≡ u64_saturate n → u64_saturate (m + 1) ≡ u64_saturate (n + 1)
saturate_next n m e = ⊎_elim
    (λ (below : n < 2 ^ 64 - 1). ap (λ k. u64_saturate (k + 1)) (e ∙ min-eq_left (omega arith)))
    (λ (above : 2 ^ 64 - 1 ≤ n).
    let at : m ≡ 2 ^ 64 - 1 = e ∙ (min_comm n (2 ^ 64 - 1) ∙ min-eq_left above) in
    ap (λ k. u64_saturate (k + 1)) at ∙ sym (min_comm (n + 1) (2 ^ 64 - 1) ∙ min-eq_left (omega (arith, above))))
    (cases_lt n (2 ^ 64 - 1))

-- there is no room for more, and one more is counted
pub told_full : (before : List (NetFault × Location)) (x : NetFault × Location) (first last : Messages) → MOST_MESSAGES ≤ length first.told.items → last.told.items ≡ first.told.items
    → last.are_all ≡ first.are_all → last.more ≡ u64_saturate (first.more + 1) → Tells before first → Tells (before ++ x ∷ []) last
told_full before x first last long items flag more t =
    let due : first.are_all ≡ true → MOST_MESSAGES ≤ length before =
    λ e. omega (arith, ap length (t.all e), length-map first.told.items subject, length-take MOST_MESSAGES before, long) in
    record {
      few = omega (arith, ap length items, t.few);
      said = subst (All (λ (m : Message). string_bytes m.text ≢ [])) (sym items) t.said;
      all = λ e. ap (map subject) items ∙ (t.all (sym flag ∙ e) ∙ sym (take-append-le MOST_MESSAGES before (x ∷ []) (due (sym flag ∙ e))));
      counted = λ e.
          let old : first.more ≡ u64_saturate (length before - MOST_MESSAGES) = t.counted (sym flag ∙ e) in
          let next : (length before - MOST_MESSAGES) + 1 ≡ length (before ++ x ∷ []) - MOST_MESSAGES = omega (arith, due (sym flag ∙ e), length-append before (x ∷ [])) in
          more ∙ (saturate_next (length before - MOST_MESSAGES) first.more old ∙ ap u64_saturate next);
    }

-- what holds of one item
all_one : (P : Message → Type 0) (x : Message) → P x → All P (x ∷ [])
all_one P x p zero d l = p
all_one P x p (suc k) d l = absurd (omega arith)

-- there is one more
told_one : (before : List (NetFault × Location)) (first last : Messages) (x : Message) → length first.told.items < MOST_MESSAGES → last.told.items ≡ first.told.items ++ x ∷ []
    → last.are_all ≡ first.are_all → last.more ≡ first.more → string_bytes x.text ≢ [] → Tells before first → Tells (before ++ subject x ∷ []) last
told_one before first last x room items flag more said t = record {
  few = omega (arith, ap length items, length-append first.told.items (x ∷ []));
  said = subst (All (λ (m : Message). string_bytes m.text ≢ [])) (sym items) (All-append (λ (m : Message). string_bytes m.text ≢ []) first.told.items (x ∷ []) t.said (all_one (λ (m : Message). string_bytes m.text ≢ []) x said));
  all = λ e.
      let kept : map subject first.told.items ≡ take MOST_MESSAGES before = t.all (sym flag ∙ e) in
      let short : length before < MOST_MESSAGES = omega (arith, ap length kept, length-map first.told.items subject, length-take MOST_MESSAGES before) in
      let whole : take MOST_MESSAGES before ≡ before = take_all MOST_MESSAGES before (omega arith) in
      let fits : take MOST_MESSAGES (before ++ subject x ∷ []) ≡ before ++ subject x ∷ [] = take_all MOST_MESSAGES (before ++ subject x ∷ []) (omega (arith, length-append before (subject x ∷ []))) in
      ap (map subject) items ∙ (map-append subject first.told.items (x ∷ []) ∙ (ap (λ ys. ys ++ subject x ∷ []) (kept ∙ whole) ∙ sym fits));
  counted = λ e.
      let kept : map subject first.told.items ≡ take MOST_MESSAGES before = t.all (sym flag ∙ e) in
      let short : length before < MOST_MESSAGES = omega (arith, ap length kept, length-map first.told.items subject, length-take MOST_MESSAGES before) in
      let same : length before - MOST_MESSAGES ≡ length (before ++ subject x ∷ []) - MOST_MESSAGES = omega (arith, short, length-append before (subject x ∷ [])) in
      more ∙ (t.counted (sym flag ∙ e) ∙ ap u64_saturate same);
}

-- one lacks
told_lacks : (before more : List (NetFault × Location)) (first last : Messages) → last.told.items ≡ first.told.items → last.are_all ≡ false → Tells before first → Tells (before ++ more) last
told_lacks before more first last items flag t = record {
  few = omega (arith, ap length items, t.few);
  said = subst (All (λ (m : Message). string_bytes m.text ≢ [])) (sym items) t.said;
  all = λ e. absurd (cc);
  counted = λ e. absurd (cc);
}

-- there is one more, or it lacks
pub told_or_lost : (before : List (NetFault × Location)) (first last : Messages) (x : Message) (is_added : Bool) → length first.told.items < MOST_MESSAGES → string_bytes x.text ≢ []
    → last.told.items ≡ (if is_added then first.told.items ++ x ∷ [] else first.told.items) → last.are_all ≡ (is_added && first.are_all) → last.more ≡ first.more → Tells before first
    → Tells (before ++ subject x ∷ []) last
told_or_lost before first last x true room said items flag more t = told_one before first last x room items flag more said t
told_or_lost before first last x false room said items flag more t = told_lacks before (subject x ∷ []) first last items flag t

-- nothing is added, or one after the other
pub adds_none : (first : Messages) → Adds [] first first
adds_none first = λ before t. subst (λ (xs : List (NetFault × Location)). Tells xs first) (sym (append-nil before)) t

pub adds_both : (xs ys : List (NetFault × Location)) (first mid last : Messages) → Adds xs first mid → Adds ys mid last → Adds (xs ++ ys) first last
adds_both xs ys first mid last f g = λ before t. subst (λ (zs : List (NetFault × Location)). Tells zs last) (append_assoc before xs ys) (g (before ++ xs) (f before t))

pub adds_next : (f : ℕ → List (NetFault × Location)) (n : ℕ) (first mid last : Messages) → Adds (for_each_below f n) first mid → Adds (f n) mid last → Adds (for_each_below f (n + 1)) first last
adds_next f n first mid last g h =
    let e : n + 1 ≡ suc n = omega arith in
    subst (λ (k : ℕ). Adds (for_each_below f k) first last) (sym e) (adds_both (for_each_below f n) (f n) first mid last g h)

-- what is added where a test holds
pub adds_when : (b : Bool) (more : List (NetFault × Location)) (first last : Messages) → b ≡ true → Adds more first last → Adds (if b then more else []) first last
adds_when b more first last e h = subst (λ (c : Bool). Adds (if c then more else []) first last) (sym e) h

pub adds_unless : (b : Bool) (more : List (NetFault × Location)) (first : Messages) → b ≡ false → Adds (if b then more else []) first first
adds_unless b more first e = subst (λ (c : Bool). Adds (if c then more else []) first first) (sym e) (adds_none first)

-- what is due of one item more
pub tells_next : (f : NetFault → List (NetFault × Location)) (faults : List NetFault) (k : ℕ) (d : NetFault) (mid last : Messages) → k < length faults → Tells (flat_map f (take k faults)) mid
    → Adds (f (get_or faults k d)) mid last → Tells (flat_map f (take (k + 1) faults)) last
tells_next f faults k d mid last l t g =
    let x : NetFault = get_or faults k d in
    let one : Tells (flat_map f (take k faults ++ x ∷ [])) last = subst (λ (xs : List (NetFault × Location)). Tells xs last) (flat_map_more f [] (take k faults) x) (g (flat_map f (take k faults)) t) in
    subst (λ (xs : List NetFault). Tells (flat_map f xs) last) (sym (take_more faults k d l)) one
