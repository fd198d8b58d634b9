-- The faults of the inputs and outputs, and what holds if there is none.
use Rattle.std.proofs.Common.{◌≡◌, List, refl, ap, ◌∙◌, ℕ, ◌<◌, Bool, true, false, ◌&&◌, ◌||◌, not, Option, Some, None, length, get_or, if◌then◌else◌, nat_lt, subst, ltb-true, lt-ltb}
use Rattle.std.proofs.lemmas.Bool.{or_parts, not-false}
use Rattle.std.specs.List.{list_any}
use Rattle.kpn_model.specs.declared.kinds.Card.{Card}
use Rattle.kpn_model.specs.declared.kinds.Act.{Act}
use Rattle.kpn_model.specs.declared.kinds.Act.TheVariants.{Read, Write, Stop}
use Rattle.kpn_model.specs.Network.{Network, Family, no_process, card_of, channel_of}
use Rattle.kpn_machine.specs.Opening.{cards_of}
use Rattle.kpn_machine.proofs.Seats.{card_at}
use Rattle.kpn_flow.specs.declared.ends.FlowFault.{FlowFault}
use Rattle.kpn_flow.specs.declared.ends.FlowFault.TheVariants.{Bodies, Card as OtherCard, Channel, Twice, Writer, Reader, Memory}
use Rattle.kpn_flow.specs.Ends.{is_stop, stops_at_once, has_live_writer, has_live_reader, is_no_channel, has_twice, end_fault, AreApart, IsFlowFault}
use Rattle.kpn_flow.specs.Flows.{is_among, AreEnds}
use Rattle.kpn_flow.specs.Preloaded.{StopsAtOnce}
use Rattle.kpn_flow.proofs.Among.{none_found}

-- the first of four faults
abbrev first_of : Bool → Bool → Bool → Bool → Option FlowFault
first_of a b c d = if a then Some Channel else if b then Some Twice else if c then Some Writer else if d then Some Reader else None

not_bodies : (a b c d : Bool) → first_of a b c d ≡ Some Bodies → ⊥
not_bodies true b c d e = cc
not_bodies false true c d e = cc
not_bodies false false true d e = cc
not_bodies false false false true e = cc
not_bodies false false false false e = cc

not_card : (a b c d : Bool) → first_of a b c d ≡ Some OtherCard → ⊥
not_card true b c d e = cc
not_card false true c d e = cc
not_card false false true d e = cc
not_card false false false true e = cc
not_card false false false false e = cc

not_memory : (a b c d : Bool) → first_of a b c d ≡ Some Memory → ⊥
not_memory true b c d e = cc
not_memory false true c d e = cc
not_memory false false true d e = cc
not_memory false false false true e = cc
not_memory false false false false e = cc

-- if there is none, all four tests failed
none_of : (a b c d : Bool) → first_of a b c d ≡ None → (a ≡ false) × (b ≡ false) × (c ≡ false) × (d ≡ false)
none_of true b c d e = cc
none_of false true c d e = cc
none_of false false true d e = cc
none_of false false false true e = cc
none_of false false false false e = (refl, refl, refl, refl)

is_the_stop : (x : Act) → is_stop x ≡ true → x ≡ Stop
is_the_stop (Read k) e = cc
is_the_stop (Write k t) e = cc
is_the_stop Stop e = refl

module _ (kinds : Family) (net : Network) (cards : List Card) (inputs outputs : List ℕ) (same : cards ≡ cards_of net.processes) where
  -- a fault that was found is one of the inputs and outputs
  pub fault_is : (f : FlowFault) → end_fault kinds net cards inputs outputs ≡ Some f → IsFlowFault kinds net cards inputs outputs f
  fault_is Bodies e = absurd (not_bodies _ _ _ _ e)
  fault_is OtherCard e = absurd (not_card _ _ _ _ e)
  fault_is Memory e = absurd (not_memory _ _ _ _ e)
  fault_is Channel e = (same, e)
  fault_is Twice e = (same, e)
  fault_is Writer e = (same, e)
  fault_is Reader e = (same, e)

  -- a process that stops at once by its card does so in the network
  stops : (p : ℕ) → stops_at_once kinds cards p ≡ true → StopsAtOnce kinds net p
  stops p e =
      let card : get_or cards p no_process.card ≡ card_of net p = ap (λ l. get_or l p no_process.card) same ∙ card_at net.processes p in
      subst (λ (x : Card). (kinds.answer x (kinds.start x) None).act ≡ Stop) card (is_the_stop _ e)

  within : (c : ℕ) → is_no_channel net c ≡ false → c < length net.channels
  within c e = ltb-true c (length net.channels) (not-false (nat_lt c (length net.channels)) e)

  -- if there is no fault, only the outside is at the ends
  pub are_ends : end_fault kinds net cards inputs outputs ≡ None → AreEnds kinds net inputs outputs
  are_ends e =
      let tests = none_of _ _ _ _ e in
      let none = or_parts (list_any (is_no_channel net) inputs) (list_any (is_no_channel net) outputs) tests.0 in
      record {
        only_fed = λ c h.
            let here = within c (none_found (is_no_channel net) inputs c none.0 h) in
            let dead = none_found (has_live_writer kinds net cards) inputs c tests.2 h in
            (here, stops (channel_of net c).writer (idle (nat_lt c (length net.channels)) (stops_at_once kinds cards (channel_of net c).writer) (lt-ltb c (length net.channels) here) dead));
        only_drained = λ c h.
            let here = within c (none_found (is_no_channel net) outputs c none.1 h) in
            let dead = none_found (has_live_reader kinds net cards) outputs c tests.3 h in
            (here, stops (channel_of net c).reader (idle (nat_lt c (length net.channels)) (stops_at_once kinds cards (channel_of net c).reader) (lt-ltb c (length net.channels) here) dead));
      }
    where
      idle : (a b : Bool) → a ≡ true → (a && not b) ≡ false → b ≡ true
      idle true true e f = refl
      idle true false e f = cc
      idle false b e f = cc

  -- and no channel stands in the lists twice
  pub are_apart : end_fault kinds net cards inputs outputs ≡ None → AreApart inputs outputs
  are_apart e =
      let twice = or_parts (has_twice inputs || has_twice outputs) (list_any (is_among outputs) inputs) (none_of _ _ _ _ e).1 in
      let each = or_parts (has_twice inputs) (has_twice outputs) twice.0 in
      record { inputs_once = each.0; outputs_once = each.1; none_in_both = twice.1 }
