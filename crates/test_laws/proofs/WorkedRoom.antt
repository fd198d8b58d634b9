-- Networks for which a known capacity suffices, each shown by a schedule.
use Rattle.std.proofs.Common.{◌≡◌, ◌≤◌, inl, ⊎_elim, ℕ, ◌+◌, zero, suc, List, [], ◌∷◌, ◌++◌, Bool, true, ◌&&◌, nat_le, Some, get_or, length, refl, subst, arith, leb-true}
use Rattle.std.proofs.lemmas.Bool.{and_parts}
use Rattle.kpn_model.specs.declared.history.Entry.{Entry}
use Rattle.kpn_model.specs.declared.history.End.{End}
use Rattle.kpn_model.specs.declared.history.End.TheVariants.{Deadlock}
use Rattle.kpn_model.specs.Network.{Network, channel_of, resized}
use Rattle.kpn_model.specs.Semantics.{Held, State, start, capacity, Run}
use Rattle.kpn_model.specs.History.{growths}
use Rattle.kpn_model.specs.Endings.{IsNatural}
use Rattle.kpn_standard.specs.Standard.{standard}
use Rattle.kpn_laws.specs.Sufficient.{EndsWithin}
use Rattle.test_laws.specs.WorkedRoom.{longer_parks_case, TwoPlacesSuffice, NeverThree, ring, RingLasts}
use Rattle.test_laws.proofs.Schedule.{Turn, Go, played, is_over}
use Rattle.test_laws.proofs.Led.{led}
use Rattle.test_laws.proofs.Replay.{played_sound, over_sound}
use Rattle.kpn_laws.proofs.LeastRoom.{stays_below}

-- all of these channels have a capacity of at most b
abbrev pub all_bounded : List Held → ℕ → Bool
all_bounded [] b = true
all_bounded (h ∷ hs) b = nat_le h.capacity b && all_bounded hs b

-- so no channel has more
pub bounded_sound : (hs : List Held) (b : ℕ) → all_bounded hs b ≡ true → (c : ℕ) → (get_or hs c (record { tokens = []; capacity = 0 })).capacity ≤ b
bounded_sound [] b e c = omega arith
bounded_sound (h ∷ hs) b e zero = leb-true _ _ (and_parts _ _ e).0
bounded_sound (h ∷ hs) b e (suc c) = bounded_sound hs b (and_parts _ _ e).1 c

-- a schedule to such an end with capacities of at most b shows that b suffices
unfoldable pub ends_by :
    (net : Network) (sizes : ℕ → ℕ) (b : ℕ) (a : End) (ts : List Turn) (r : List Entry × State) → played standard (resized net sizes) (start standard (resized net sizes)) ts ≡ Some r
    → is_over standard (resized net sizes) r.1 a ≡ true → IsNatural a → all_bounded r.1.channels b ≡ true → EndsWithin standard net b
ends_by net sizes b a ts r e over natural up =
    record {
      sizes = sizes;
      history = r.0;
      state = r.1;
      cause = a;
      final = record { run = played_sound standard (resized net sizes) ts (start standard (resized net sizes)) r e; over = over_sound standard (resized net sizes) r.1 a over };
      natural = natural;
      bounded = bounded_sound r.1.channels b up;
    }

-- capacity one for each channel, and two for the second of the copy's
abbrev pub two_for_one : ℕ → ℕ
two_for_one c = get_or (1 ∷ 1 ∷ 2 ∷ 1 ∷ []) c 0

-- a schedule to the deadlock, without a growth
abbrev pub to_the_end : List Turn
to_the_end = Go 0 ∷ Go 1 ∷ Go 0 ∷ Go 1 ∷ Go 2 ∷ Go 1 ∷ Go 2 ∷ Go 3 ∷ Go 1 ∷ Go 0 ∷ Go 1 ∷ Go 2 ∷ Go 1 ∷ Go 2 ∷ Go 3 ∷ Go 1 ∷ Go 0 ∷ Go 1 ∷ Go 2 ∷ Go 2 ∷ Go 3 ∷ Go 2 ∷ Go 1 ∷ Go 2 ∷ Go 3 ∷ Go 1 ∷ Go 2 ∷ Go 0 ∷ Go 1 ∷ Go 2 ∷ Go 3 ∷ Go 0 ∷ Go 1 ∷ Go 2 ∷ Go 1 ∷ Go 2 ∷ Go 3 ∷ Go 2 ∷ Go 1 ∷ Go 2 ∷ Go 3 ∷ Go 1 ∷ Go 2 ∷ Go 2 ∷ Go 3 ∷ Go 3 ∷ []

-- capacity two is enough for Parks's case with a counter of five to end
unfoldable pub ends_in_two : EndsWithin standard longer_parks_case 2
ends_in_two =
    ends_by longer_parks_case two_for_one 2 Deadlock to_the_end
    (led (resized longer_parks_case two_for_one) (start standard (resized longer_parks_case two_for_one)) to_the_end) refl refl tt refl

-- and it ends after 46 entries
pub two_places_suffice : TwoPlacesSuffice
unfolding ends_in_two ends_by
two_places_suffice = (ends_in_two, refl)

-- each channel begins with a capacity of at most one
pub begins_with_one : (c : ℕ) → (channel_of longer_parks_case c).capacity ≤ 1
begins_with_one zero = omega arith
begins_with_one (suc zero) = omega arith
begins_with_one (suc (suc zero)) = omega arith
begins_with_one (suc (suc (suc zero))) = omega arith
begins_with_one (suc (suc (suc (suc c)))) = omega arith

-- so no channel of it ever has three
pub never_three : NeverThree
never_three E M run c =
    ⊎_elim
    (λ (same : capacity M c ≡ (channel_of longer_parks_case c).capacity). let one = begins_with_one c in omega arith)
    (λ few. few)
    (stays_below standard longer_parks_case 2 (inl ends_in_two) E M run c)

-- the token taken, and put back
abbrev once_round : List Entry × State
once_round = led ring (start standard ring) (Go 0 ∷ Go 0 ∷ [])

-- n rounds
abbrev pub rounds : ℕ → List Entry
rounds zero = []
rounds (suc n) = once_round.0 ++ rounds n

-- they lead back to the start
pub rounds_run : (n : ℕ) → Run standard ring (start standard ring) (rounds n) (start standard ring)
rounds_run zero = refl
rounds_run (suc n) =
    let r = played_sound standard ring (Go 0 ∷ Go 0 ∷ []) (start standard ring) once_round refl in
    (r.0, r.1, (r.2.0, r.2.1, subst (λ x. Run standard ring x (rounds n) (start standard ring)) r.2.2 (rounds_run n)))

-- each round has two deeds and no growth
rounds_many : (n : ℕ) → n + length (growths (rounds n)) ≤ length (rounds n)
rounds_many zero = omega arith
rounds_many (suc n) = let h = rounds_many n in omega arith

-- a ring of capacity one goes on for ever
pub ring_lasts : RingLasts
ring_lasts n =
    record {
      sizes = λ c. 1;
      history = rounds n;
      state = start standard ring;
      run = rounds_run n;
      bounded = bounded_sound (start standard ring).channels 1 refl;
      many = rounds_many n;
    }
