-- Bodies in their slots, and the cards of a network.
use Rattle.std.proofs.Common.{◌≡◌, ⊎_elim, List, [], ◌∷◌, ◌++◌, length, length-append, map, refl, ap, ◌∙◌, arith, ℕ, zero, suc, ◌+◌, ◌<◌, ◌≤◌, Some, None, Option, set, get_or, slice_get, add-one, get_or-set_other}
use Rattle.std.specs.List.{All}
use Rattle.std.specs.Option.{option_map, IsSome}
use Rattle.std.proofs.lemmas.Bool.{cases_lt}
use Rattle.std.proofs.lemmas.List.{map-set, map-append, length-map, get_or-map, get_or_append_left, get_or_push}
use Rattle.std.proofs.lemmas.List.Elements.{All-from_get_or}
use Rattle.std.proofs.lemmas.Option.{slice_get-get_or}
use Rattle.kpn_model.specs.declared.kinds.Card.{Card}
use Rattle.kpn_model.specs.declared.kinds.Signature.{Signature}
use Rattle.kpn_model.specs.declared.parts.Process.{Process}
use Rattle.kpn_model.specs.Network.{no_process}
use Rattle.kpn_body.proofs.Cards.{AreFirst, take_one_more}
use Rattle.kpn_commit.proofs.Keeping.{each_set}
use Rattle.kpn_machine.specs.Opening.{cards_of}

-- a process's card is the card of its number
pub card_at : (ps : List Process) (p : ℕ) → get_or (cards_of ps) p no_process.card ≡ (get_or ps p no_process).card
card_at [] p = refl
card_at (x ∷ xs) zero = refl
card_at (x ∷ xs) (suc p) = card_at xs p

module _ {X : Type 0} (f : X → Card) where
  -- the card of an item, and of what is in a slot
  pub at_map : (xs : List X) (p : ℕ) (x : X) → p < length xs → x ≡ get_or xs p x → get_or (map f xs) p no_process.card ≡ f x
  at_map xs p x h e = rw (get_or-map f xs p x no_process.card h, ← e)

  pub slot_at : (slots : List (Option X)) (p : ℕ) (x : Option X) → p < length slots → x ≡ get_or slots p x → get_or (map (option_map f) slots) p None ≡ option_map f x
  slot_at slots p x h e = rw (get_or-map (option_map f) slots p x None h, ← e)

  module _ (old new : List X) (b : X) (is : old ≡ new ++ b ∷ []) (cs : List Card) (left : (p : ℕ) → p < length old → get_or (map f old) p no_process.card ≡ get_or cs p no_process.card) where
    old_length : length old ≡ length new + 1
    old_length = ap length is ∙ length-append new (b ∷ [])

    old_cards : map f old ≡ map f new ++ f b ∷ []
    old_cards = rw is (map-append f new (b ∷ []))

    -- the bodies that are left keep their cards
    pub left_stays : (p : ℕ) → p < length new → get_or (map f new) p no_process.card ≡ get_or cs p no_process.card
    left_stays p h =
        let many = length-map new f in
        let more = old_length in
        rw (old_cards, get_or_append_left (map f new) (f b ∷ []) no_process.card p (omega arith)) at (left p (omega arith))

    -- the last of them goes into its slot
    pub seat_taken :
        (slots : List (Option X)) (n : ℕ) → length slots ≡ n → length old ≤ n → ((p : ℕ) → length old ≤ p → p < n → get_or (map (option_map f) slots) p None ≡ Some (get_or cs p no_process.card))
        → (p : ℕ) → length new ≤ p → p < n → get_or (map (option_map f) (set slots (length new) (Some b))) p None ≡ Some (get_or cs p no_process.card)
    seat_taken slots n many few seated p from below =
        let more = old_length in
        let long = length-map slots (option_map f) in
        let last = rw (old_cards, get_or_push (map f new) (f b) no_process.card (length new) (length-map new f)) at (left (length new) (omega arith)) in
        rw map-set
        (each_set (λ q (c : Option Card). length new ≤ q → q < n → c ≡ Some (get_or cs q no_process.card)) (map (option_map f) slots) (length new) (Some (f b)) None (omega arith) (λ _ _. ap Some last) (λ q o from below. seated q (omega arith) below) p from below)

  -- emptying a slot changes no later one
  pub kept_later :
      (slots : List (Option X)) (p n : ℕ) (x : Option X) (cs : List Card) → ((q : ℕ) → p ≤ q → q < n → get_or (map (option_map f) slots) q None ≡ Some (get_or cs q no_process.card))
      → (q : ℕ) → p + 1 ≤ q → q < n → get_or (map (option_map f) (set slots p x)) q None ≡ Some (get_or cs q no_process.card)
  kept_later slots p n x cs kept q from below = rw (map-set, get_or-set_other (map (option_map f) slots) p q (option_map f x) None (λ e. omega arith)) (kept q (omega arith) below)

  -- one more body that was taken back
  pub back_more :
      (spare new : List X) (b : X) (cs : List Card) (p : ℕ) → new ≡ spare ++ b ∷ [] → length spare ≡ p → f b ≡ get_or cs p no_process.card
      → ((q : ℕ) → q < p → get_or (map f spare) q no_process.card ≡ get_or cs q no_process.card) → (q : ℕ) → q < p + 1 → get_or (map f new) q no_process.card ≡ get_or cs q no_process.card
  back_more spare new b cs p is many card back q below =
      let long = length-map spare f in
      rw (is, map-append f spare (b ∷ []))
      (⊎_elim (λ less. rw (get_or_append_left (map f spare) (f b ∷ []) no_process.card q (omega arith)) (back q less))
      (λ (past : p ≤ q). let same : q ≡ p = omega arith in rw (same, get_or_push (map f spare) (f b) no_process.card p (long ∙ many)) card) (cases_lt q p))

-- one more card of a network, in order
pub card_more : (xs zs : List Card) (ps : List Process) (p : ℕ) → AreFirst xs (cards_of ps) p → zs ≡ xs ++ (get_or ps p no_process).card ∷ [] → p < length ps → AreFirst zs (cards_of ps) (p + 1)
card_more xs zs ps p first z within =
    let all = length-map ps (λ (q : Process). q.card) in
    let here : slice_get (cards_of ps) p ≡ Some ((get_or ps p no_process).card) = rw (slice_get-get_or (cards_of ps) p no_process.card (omega arith), card_at ps p) in
    record { is = rw (add-one, z, first.is, take_one_more (cards_of ps) p (get_or ps p no_process).card here) }

-- the cards of a valid network have signatures
pub all_signed : (signature : Card → Option Signature) (cards : List Card) (ps : List Process) → cards ≡ cards_of ps → All (λ p. IsSome (signature p.card)) ps → All (λ card. IsSome (signature card)) cards
all_signed signature cards ps same signed =
    let all = length-map ps (λ (q : Process). q.card) in
    rw same (All-from_get_or (λ x. IsSome (signature x)) (cards_of ps) no_process.card (λ i within. rw (card_at ps i) (signed i no_process (omega arith))))
