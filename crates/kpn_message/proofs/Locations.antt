-- A fault that no process and no channel has is a fault of the whole description, if it is there.
use Rattle.std.proofs.Common.{◌≡◌, ◌<◌, ℕ, zero, suc, Bool, true, false, not, ◌||◌, List, [], ◌∷◌, length, take, slice_get, Option, Some, None, refl, arith}
use Rattle.std.proofs.lemmas.Bool.{or_from, or_parts}
use Rattle.std.specs.Option.{option_map_or}
use Rattle.std.specs.List.{list_any}
use Rattle.kpn_sketch.specs.declared.fault.NetFault.{NetFault}
use Rattle.kpn_sketch.specs.declared.fault.NetFault.TheVariants.{NotToml, Keys, Version, Counts, Name, Kind, Args, NoEnd, Twice, Unused, Sorts, Capacity, Budget, Memory, Input, Tokens, Step}
use Rattle.kpn_model.specs.declared.kinds.Card.{Card}
use Rattle.kpn_model.specs.declared.kinds.Signature.{Signature}
use Rattle.kpn_sketch.specs.declared.sketch.Sketch.{Sketch}
use Rattle.kpn_model.specs.texts.NameForm.{is_name}
use Rattle.kpn_net.specs.Faults.{any_pair, same_process, same_channel, same_out, same_in, has_fault}
use Rattle.kpn_message.specs.Location.{holds_at, clashes_at, HoldsNowhere, is_of_description, process_has_fault, channel_has_fault}

-- a disjunction that holds nowhere
parts_nowhere : (a b : ℕ → Bool) (n : ℕ) → HoldsNowhere (λ k. a k || b k) n → HoldsNowhere a n × HoldsNowhere b n
parts_nowhere a b n h = (λ k l. (or_parts (a k) (b k) (h k l)).0, λ k l. (or_parts (a k) (b k) (h k l)).1)

module _ {A : Type 0} where
  parts_at : (a b : A → Bool) (o : Option A) → option_map_or (λ x. a x || b x) o false ≡ false → (option_map_or a o false ≡ false) × (option_map_or b o false ≡ false)
  parts_at a b None h = (refl, refl)
  parts_at a b (Some x) h = or_parts (a x) (b x) h

  nowhere_any : (t : A → Bool) (xs : List A) → HoldsNowhere (holds_at t xs) (length xs) → list_any t xs ≡ false
  nowhere_any t [] h = refl
  nowhere_any t (x ∷ xs) h = or_from (t x) (list_any t xs) (h zero (omega arith)) (nowhere_any t xs (λ k l. h (suc k) (omega arith)))

  later_clash : (t : A → A → Bool) (x : A) (xs : List A) → HoldsNowhere (clashes_at t (x ∷ xs)) (length (x ∷ xs)) → (k : ℕ) → k < length xs → (holds_at (t x) xs k ≡ false) × (clashes_at t xs k ≡ false)
  later_clash t x xs h k l = parts_at (t x) (λ z. list_any (λ y. t y z) (take k xs)) (slice_get xs k) (h (suc k) (omega arith))

  nowhere_pair : (t : A → A → Bool) (xs : List A) → HoldsNowhere (clashes_at t xs) (length xs) → any_pair t xs ≡ false
  nowhere_pair t [] h = refl
  nowhere_pair t (x ∷ xs) h =
      or_from (list_any (t x) xs) (any_pair t xs) (nowhere_any (t x) xs (λ k l. (later_clash t x xs h k l).0)) (nowhere_pair t xs (λ k l. (later_clash t x xs h k l).1))

module _ (named : List ℕ → Option (ℕ × ℕ)) (signature : Card → Option Signature) (sketch : Sketch) where
  no_names : HoldsNowhere (process_has_fault named signature sketch Name) (length sketch.processes) → HoldsNowhere (channel_has_fault named signature sketch Name) (length sketch.channels) → has_fault named signature sketch Name ≡ false
  no_names p c =
      let ps = parts_nowhere (holds_at (λ q. not (is_name q.name)) sketch.processes) (clashes_at same_process sketch.processes) (length sketch.processes) p in
      let cs = parts_nowhere (holds_at (λ d. not (is_name d.name)) sketch.channels) (clashes_at same_channel sketch.channels) (length sketch.channels) c in
      or_from _ _ (or_from _ _ (nowhere_any _ sketch.processes ps.0) (nowhere_any _ sketch.channels cs.0)) (or_from _ _ (nowhere_pair _ sketch.processes ps.1) (nowhere_pair _ sketch.channels cs.1))

  no_shared : HoldsNowhere (channel_has_fault named signature sketch Twice) (length sketch.channels) → has_fault named signature sketch Twice ≡ false
  no_shared c =
      let cs = parts_nowhere (clashes_at same_out sketch.channels) (clashes_at same_in sketch.channels) (length sketch.channels) c in
      or_from _ _ (nowhere_pair _ sketch.channels cs.0) (nowhere_pair _ sketch.channels cs.1)

  impossible : (b : Bool) {P : Type 0} → b ≡ false → b ≡ true → P
  impossible b e f = absurd (cc)

  -- a fault that no process and no channel has
  pub nowhere_else : (fault : NetFault) → HoldsNowhere (process_has_fault named signature sketch fault) (length sketch.processes) → HoldsNowhere (channel_has_fault named signature sketch fault) (length sketch.channels) → has_fault named signature sketch fault ≡ true → is_of_description fault ≡ true
  nowhere_else NotToml p c h = absurd cc
  nowhere_else Keys p c h = absurd cc
  nowhere_else Version p c h = refl
  nowhere_else Counts p c h = refl
  nowhere_else Name p c h = impossible _ (no_names p c) h
  nowhere_else Kind p c h = impossible _ (nowhere_any _ sketch.processes p) h
  nowhere_else Args p c h = impossible _ (nowhere_any _ sketch.processes p) h
  nowhere_else NoEnd p c h = impossible _ (nowhere_any _ sketch.channels c) h
  nowhere_else Twice p c h = impossible _ (no_shared c) h
  nowhere_else Unused p c h = impossible _ (nowhere_any _ sketch.processes p) h
  nowhere_else Sorts p c h = impossible _ (nowhere_any _ sketch.channels c) h
  nowhere_else Capacity p c h = impossible _ (nowhere_any _ sketch.channels c) h
  nowhere_else Budget p c h = refl
  nowhere_else Memory p c h = absurd cc
  nowhere_else Input p c h = absurd cc
  nowhere_else Tokens p c h = impossible _ (nowhere_any _ sketch.channels c) h
  nowhere_else Step p c h = refl
