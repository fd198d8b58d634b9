-- What is left of a file that is read on.
use Rattle.std.proofs.Common.{◌≡◌, ◌<◌, ◌≤◌, ◌+◌, ◌-◌, ◌++◌, ℕ, Bool, List, [], Option, Some, None, IfSome, drop, length, length-drop, min, option_map, inl, inr, refl, sym, ap, subst, take, append-nil, append_assoc, ◌∙◌, arith}
use Rattle.std.proofs.Math.Seq.{take-append-add, take-nil}
use Rattle.std.proofs.lemmas.Bool.{cases_lt}
use Rattle.std.proofs.lemmas.List.{drop-append-le, drop-drop, drop_all, length-take-le, take-append-drop, take-append-le, take_at}
use Rattle.std.specs.Io.KnownBytes.{Consumes, IsAtEnd, prepend_known}
use Rattle.std.specs.Option.{option_map_or}
use Rattle.hox_format.specs.declared.records.Records.{Records}
use Rattle.hox_format.specs.Records.{records_bytes, sized}
use Rattle.hox_format.specs.declared.resuming.BeginFault.{BeginFault}
use Rattle.hox_format.specs.declared.resuming.BeginFault.TheVariants.{Head, Memory, Unread}
use Rattle.hox_format.specs.Forms.{Form}
use Rattle.hox_format.specs.Resuming.{IsFront, IsFrontOf, IsNoHead, IsUnbegun, left_in}

-- how many bytes are read at most
abbrev pub most : Option ℕ → ℕ → ℕ
most left len = option_map_or (λ n. min n len) left len

-- what is left after so many
abbrev pub less : Option ℕ → ℕ → Option ℕ
less left n = option_map (λ k. k - n) left

within : (left : Option ℕ) (len n : ℕ) → n ≤ most left len → IfSome left (λ k. n ≤ k)
within None len n h = tt
within (Some k) len n h = omega (arith, h)

pub most_le : (left : Option ℕ) (len : ℕ) → most left len ≤ len
most_le None len = omega arith
most_le (Some k) len = omega arith

none_left : (left : Option ℕ) (len : ℕ) → most left len ≡ 0 → 0 < len → left ≡ Some 0
none_left None len h some = absurd (omega (arith, h, some))
none_left (Some k) len h some = ap (λ n. Some n) (omega (arith, h, some))

sized_front : (left : Option ℕ) (bs ys : List ℕ) → IfSome left (λ k. length bs ≤ k) → sized left (bs ++ ys) ≡ bs ++ sized (less left (length bs)) ys
sized_front None bs ys h = refl
sized_front (Some k) bs ys h = let e : k ≡ length bs + (k - length bs) = omega (arith, h) in ap (λ i. take i (bs ++ ys)) e ∙ take-append-add bs ys (k - length bs)

sized_nil : (left : Option ℕ) → sized left [] ≡ []
sized_nil None = refl
sized_nil (Some k) = take-nil k

consumes_sized : (left : Option ℕ) (old new : Option (List ℕ)) (bs : List ℕ) → IfSome left (λ k. length bs ≤ k) → Consumes old new bs → Consumes (option_map (sized left) old) (option_map (sized (less left (length bs))) new) bs
consumes_sized left None new bs fits h = tt
consumes_sized left (Some xs) None bs fits h = absurd h
consumes_sized left (Some xs) (Some ys) bs fits h = ap (sized left) h ∙ sized_front left bs ys fits

at_end_sized : (left : Option ℕ) (new : Option (List ℕ)) → IsAtEnd new → IsAtEnd (option_map (sized left) new)
at_end_sized left None h = tt
at_end_sized left (Some xs) h = ap (sized left) h ∙ sized_nil left

at_end_none : (new : Option (List ℕ)) → IsAtEnd (option_map (sized (Some 0)) new)
at_end_none None = tt
at_end_none (Some xs) = refl

-- no more comes where none may
ended_by_size : (left : Option ℕ) (len n : ℕ) (new : Option (List ℕ)) → most left len ≡ 0 → n ≡ 0 → 0 < len → IsAtEnd (option_map (sized (less left n)) new)
ended_by_size left len n new none nothing some =
    let at : less left n ≡ Some 0 = ap (λ (o : Option ℕ). less o n) (none_left left len none some) ∙ ap (λ k. Some (0 - k)) nothing in
    subst (λ (o : Option ℕ). IsAtEnd (option_map (sized o) new)) (sym at) (at_end_none new)

prepend_consumes : (xs bs ys : List ℕ) (rem : Option (List ℕ)) → xs ≡ bs ++ ys → Consumes (prepend_known xs rem) (prepend_known ys rem) bs
prepend_consumes xs bs ys None e = tt
prepend_consumes xs bs ys (Some rs) e = ap (λ l. l ++ rs) e ∙ append_assoc bs ys rs

prepend_none : (rem new : Option (List ℕ)) (bs : List ℕ) → Consumes rem new bs → Consumes (prepend_known [] rem) (prepend_known [] new) bs
prepend_none None new bs h = tt
prepend_none (Some xs) None bs h = absurd h
prepend_none (Some xs) (Some ys) bs h = h

at_end_prepend : (new : Option (List ℕ)) → IsAtEnd new → IsAtEnd (prepend_known [] new)
at_end_prepend None h = tt
at_end_prepend (Some xs) h = h

module _ (left : Option ℕ) (held : List ℕ) (next : ℕ) (rem : Option (List ℕ)) where
  -- bytes that were held are read
  pub held_read : (n len : ℕ) (bytes buf more : List ℕ) → bytes ≡ drop next held → next < length held → n ≡ min (length bytes) (most left len) → length buf ≡ most left len → take n buf ≡ take n bytes
      → Consumes (left_in left (drop next held) rem) (left_in (less left n) (drop (next + n) held) rem) (take n (buf ++ more)) × (n ≡ 0 → 0 < len → IsAtEnd (left_in (less left n) (drop (next + n) held) rem))
  held_read n len bytes buf more bytes_are some count long copied =
      let few : n ≤ length bytes = omega (arith, count) in
      let fits : n ≤ length buf = omega (arith, count, long) in
      let bs : List ℕ = take n (buf ++ more) in
      let bs_are : take n (buf ++ more) ≡ take n (drop next held) = take-append-le n buf more fits ∙ copied ∙ ap (take n) bytes_are in
      let size : length (take n (buf ++ more)) ≡ n = ap (λ (l : List ℕ). length l) (take-append-le n buf more fits) ∙ length-take-le n buf fits in
      let split : drop next held ≡ take n (buf ++ more) ++ drop (next + n) held = sym (take-append-drop n (drop next held)) ∙ ap (λ l. l ++ drop n (drop next held)) (sym bs_are) ∙ ap (λ l. take n (buf ++ more) ++ l) (drop-drop n next held) in
      let room : IfSome left (λ k. length (take n (buf ++ more)) ≤ k) = subst (λ m. IfSome left (λ k. m ≤ k)) (sym size) (within left len n (omega (arith, count))) in
      let taken = consumes_sized left (prepend_known (drop next held) rem) (prepend_known (drop (next + n) held) rem) bs room (prepend_consumes (drop next held) bs (drop (next + n) held) rem split) in (
        subst (λ m. Consumes (left_in left (drop next held) rem) (left_in (less left m) (drop (next + n) held) rem) (take n (buf ++ more))) size taken,
        λ nothing room_there.
            let left_some : 0 < length bytes = ap_length bytes bytes_are some in
            ended_by_size left len n (prepend_known (drop (next + n) held) rem) (omega (arith, count, nothing, left_some)) nothing room_there,
      )
    where
      ap_length : (bytes : List ℕ) → bytes ≡ drop next held → next < length held → 0 < length bytes
      ap_length bytes e h = let same : length bytes ≡ length held - next = ap (λ (l : List ℕ). length l) e ∙ length-drop next held in omega (arith, same, h)

  -- the source is read, where all that was held was read
  pub source_read : (new : Option (List ℕ)) (n len : ℕ) (buf more : List ℕ) → length held ≤ next → n ≤ length buf → length buf ≡ most left len → Consumes rem new (take n buf) → (n ≡ 0 → 0 < length buf → IsAtEnd new)
      → Consumes (left_in left (drop next held) rem) (left_in (less left n) (drop next held) new) (take n (buf ++ more)) × (n ≡ 0 → 0 < len → IsAtEnd (left_in (less left n) (drop next held) new))
  source_read new n len buf more past few long taken ended =
      let none : drop next held ≡ [] = drop_all next held past in
      let bs : List ℕ = take n (buf ++ more) in
      let same : take n (buf ++ more) ≡ take n buf = take-append-le n buf more few in
      let size : length (take n (buf ++ more)) ≡ n = ap (λ (l : List ℕ). length l) same ∙ length-take-le n buf few in
      let room : IfSome left (λ k. length (take n (buf ++ more)) ≤ k) = subst (λ m. IfSome left (λ k. m ≤ k)) (sym size) (within left len n (omega (arith, few, long))) in
      let read : Consumes rem new (take n (buf ++ more)) = subst (λ l. Consumes rem new l) (sym same) taken in
      let whole = subst (λ d. Consumes (prepend_known d rem) (prepend_known d new) (take n (buf ++ more))) (sym none) (prepend_none rem new bs read) in
      let all = consumes_sized left (prepend_known (drop next held) rem) (prepend_known (drop next held) new) bs room whole in (
        subst (λ m. Consumes (left_in left (drop next held) rem) (left_in (less left m) (drop next held) new) (take n (buf ++ more))) size all,
        λ nothing some. elim (cases_lt 0 (length buf)) [
          | inl h ↦ at_end_sized (less left n) (prepend_known (drop next held) new) (subst (λ d. IsAtEnd (prepend_known d new)) (sym none) (at_end_prepend new (ended nothing h)))
          | inr h ↦ ended_by_size left len n (prepend_known (drop next held) new) (omega (arith, h, long)) nothing some
        ],
      )

sized_drop : (size : Option ℕ) (start : ℕ) (bytes held ys : List ℕ) → start ≤ length held → bytes ≡ held ++ ys → sized size (drop start held ++ ys) ≡ sized size (drop start bytes)
sized_drop size start bytes held ys few e = ap (sized size) (sym (drop-append-le start held ys few)) ∙ ap (λ l. sized size (drop start l)) (sym e)

-- what was read of a file is its front
pub front_of : (known : Option (List ℕ)) (held : List ℕ) (last : Bool) (rem : Option (List ℕ)) → IsFrontOf known held last rem → IfSome known (λ bytes. IsFront held bytes last)
front_of None held last rem front = tt
front_of (Some bytes) held last None front = absurd front.read
front_of (Some bytes) held last (Some ys) front = record {
  begins = ap (take (length held)) front.read ∙ take_at held ys (length held) refl;
  ends = λ e. sym (append-nil held) ∙ ap (λ l. held ++ l) (sym (front.ends e)) ∙ sym front.read;
}

-- what is not for what stands before the records is any other cause
pub unbegun : (form : Form) (place count : ℕ) (known : Option (List ℕ)) (fault : BeginFault) → IsNoHead fault → IsUnbegun form place count known fault
unbegun form place count known (Head fault) h = absurd h
unbegun form place count known (Unread error) h = tt
unbegun form place count known Memory h = tt

-- what is left from where the records begin
pub records_left : (records : Records) (known : Option (List ℕ)) (held : List ℕ) (last : Bool) (rem : Option (List ℕ)) → records.start ≤ length held → IsFrontOf known held last rem
    → IfSome known (λ bytes. IsFront held bytes last × (left_in records.size (drop records.start held) rem ≡ Some (records_bytes records bytes)))
records_left records None held last rem few front = tt
records_left records (Some bytes) held last None few front = absurd front.read
records_left records (Some bytes) held last (Some ys) few front = (
  front_of (Some bytes) held last (Some ys) front,
  ap (λ l. Some l) (sized_drop records.size records.start bytes held ys few front.read),
)

-- what holds of known bytes in two parts
pub fronts_known : (P Q : List ℕ → Type 0) (known : Option (List ℕ)) → IfSome known (λ bytes. P bytes × Q bytes) → IfSome known P
fronts_known P Q None h = tt
fronts_known P Q (Some bytes) h = h.0

pub left_known : (P : List ℕ → Type 0) {a b : Option (List ℕ)} (f : List ℕ → List ℕ) (known : Option (List ℕ)) → a ≡ b → IfSome known (λ bytes. P bytes × (b ≡ Some (f bytes))) → IfSome known (λ bytes. a ≡ Some (f bytes))
left_known P f None e h = tt
left_known P f (Some bytes) e h = e ∙ h.1
