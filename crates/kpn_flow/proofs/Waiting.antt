-- Where no process is ready, the parked ones tell whether the outside can help.
use Rattle.std.proofs.Common.{◌≡◌, ◌≢◌, ⊎_elim, List, [], ◌∷◌, length, refl, sym, ap, ◌∙◌, ℕ, zero, suc, Bool, true, false, Some, None, Option, subst, nat_lt, eqb-true, eq-eqb, lt-ltb}
use Rattle.std.proofs.lemmas.Bool.{and_parts, and_from, cases_lt}
use Rattle.std.specs.List.{list_any, list_all}
use Rattle.kpn_model.specs.declared.token.Token.{Token}
use Rattle.kpn_model.specs.declared.kinds.Act.{Act}
use Rattle.kpn_model.specs.declared.kinds.Act.TheVariants.{Read, Write, Stop}
use Rattle.kpn_model.specs.declared.kinds.Answer.{Answer}
use Rattle.kpn_model.specs.Network.{Network, Family, channel_of, in_of, out_of, Admits}
use Rattle.kpn_model.specs.Semantics.{State, tokens, capacity, answered, wants, IsEnabled, IsPossible, IsBlocked}
use Rattle.kpn_laws.proofs.States.{in_of-reader, out_of-writer}
use Rattle.kpn_state.specs.declared.standing.Standing.{Standing}
use Rattle.kpn_state.specs.declared.standing.Standing.TheVariants.{Ready, Out, Parked, Stopped}
use Rattle.kpn_state.specs.Standings.{standing, is_busy, parked_answer, StandingsFit}
use Rattle.kpn_state.proofs.Placed.{idle_at}
use Rattle.kpn_state.proofs.Contradictions.{none_some, true_false}
use Rattle.kpn_commit.proofs.Idle.{idle_quiet, wants_parked}
use Rattle.kpn_flow.specs.declared.pause.Pause.{Pause}
use Rattle.kpn_flow.specs.declared.pause.Pause.TheVariants.{Cut, Starved, Blocked, Over}
use Rattle.kpn_flow.specs.Pauses.{IsAwaited, IsRest, IsStarving, IsStarved, IsHeldUp, NoneCanHelp, TellWants}
use Rattle.kpn_flow.specs.Pieces.{IsExhausted}
use Rattle.kpn_flow.specs.Waits.{is_at, is_read, reads_from, writes_to, is_parked_with, starves, holds_up, waits_to_read}
use Rattle.kpn_flow.proofs.Among.{any_found, none_found}

found_at : (c : ℕ) (d : Option ℕ) → is_at c d ≡ true → d ≡ Some c
found_at c None e = cc
found_at c (Some d) e = ap (λ x. Some x) (eqb-true d c e)

at_found : (c : ℕ) (d : Option ℕ) → d ≡ Some c → is_at c d ≡ true
at_found c d e = subst (λ x. is_at c x ≡ true) (sym e) (eq-eqb c c refl)

parked_act : (test : Act → Bool) (x : Standing) → is_parked_with test x ≡ true → (a : Answer) × (x ≡ Parked a) × (test a.act ≡ true)
parked_act test Ready e = cc
parked_act test Out e = cc
parked_act test (Parked a) e = (a, refl, e)
parked_act test Stopped e = cc

read_act : (net : Network) (c p : ℕ) (x : Act) → reads_from net c p x ≡ true → (k : ℕ) × (x ≡ Read k) × (in_of net p k ≡ Some c)
read_act net c p (Read k) e = (k, refl, found_at c (in_of net p k) e)
read_act net c p (Write k t) e = cc
read_act net c p Stop e = cc

write_act : (net : Network) (c p : ℕ) (x : Act) → writes_to net c p x ≡ true → (k : ℕ) × (t : Token) × (x ≡ Write k t) × (out_of net p k ≡ Some c)
write_act net c p (Read k) e = cc
write_act net c p (Write k t) e = (k, t, refl, found_at c (out_of net p k) e)
write_act net c p Stop e = cc

-- all processes pass, and one that is not there has stopped
all_at : (standings : List Standing) (p : ℕ) → list_all waits_to_read standings ≡ true → waits_to_read (standing standings p) ≡ true
all_at [] p e = refl
all_at (x ∷ xs) zero e = (and_parts (waits_to_read x) (list_all waits_to_read xs) e).0
all_at (x ∷ xs) (suc p) e = all_at xs p (and_parts (waits_to_read x) (list_all waits_to_read xs) e).1

some_token : (t : Token) (ts : List Token) → t ∷ ts ≢ []
some_token t ts e = cc

module _ (kinds : Family) (admits : Admits) (net : Network) (M : State) (standings : List Standing) (k : StandingsFit kinds admits net None M standings) where
  -- a process that can't read finds its channel empty
  empty_there : (p i c : ℕ) → in_of net p i ≡ Some c → (IsPossible kinds net M p (Read i) → ⊥) → tokens M c ≡ []
  empty_there p i c at cant = by_tokens (tokens M c) refl
    where
      by_tokens : (ts : List Token) → tokens M c ≡ ts → tokens M c ≡ []
      by_tokens [] e = e
      by_tokens (t ∷ ts) e = absurd (cant (c, at, λ f. some_token t ts (sym e ∙ f)))

  -- a reader that is parked at a channel wants to read from it, and it is empty
  pub starving_there : (c : ℕ) → starves net standings c ≡ true → IsStarving kinds net M (channel_of net c).reader c
  starving_there c e =
      let r = (channel_of net c).reader in
      let parts = and_parts (nat_lt c (length net.channels)) (is_parked_with (reads_from net c r) (standing standings r)) e in
      let at = parked_act (reads_from net c r) (standing standings r) parts.1 in
      let act = read_act net c r at.0.act at.2 in
      let cant = k.blocked r at.0 (λ f. none_some r f) at.1 in
      record {
        answer = at.0;
        wanted = k.wanted r at.0 at.1;
        port = act.0;
        act = act.1;
        at = act.2;
        empty = empty_there r act.0 c act.2 (λ can. cant (subst (λ x. IsPossible kinds net M r x) (sym act.1) can));
      }

  -- a writer that is parked at a channel wants to write to it, and it is full
  pub held_there : (c : ℕ) → holds_up net standings c ≡ true → IsBlocked kinds net M (channel_of net c).writer c
  held_there c e =
      let w = (channel_of net c).writer in
      let parts = and_parts (nat_lt c (length net.channels)) (is_parked_with (writes_to net c w) (standing standings w)) e in
      let at = parked_act (writes_to net c w) (standing standings w) parts.1 in
      let act = write_act net c w at.0.act at.2 in
      let cant = k.blocked w at.0 (λ f. none_some w f) at.1 in
      record {
        answer = at.0;
        wanted = k.wanted w at.0 at.1;
        port = act.0;
        token = act.1;
        act = act.2;
        at = act.3;
        full = ⊎_elim (λ room. absurd (cant (subst (λ x. IsPossible kinds net M w x) (sym act.2) (c, act.3, room)))) (λ full. full) (cases_lt (length (tokens M c)) (capacity M c));
      }

  module _ (idle : list_any is_busy standings ≡ false) where
    -- and the converse, if no process is ready or out
    starves_there : (p c : ℕ) → IsStarving kinds net M p c → starves net standings c ≡ true
    starves_there p c s =
        let here = in_of-reader net p s.port c s.at in
        let parked : standing standings p ≡ Parked s.answer = wants_parked k p s.answer (idle_at standings p idle) s.wanted in
        let reads : reads_from net c p s.answer.act ≡ true = ap (λ x. reads_from net c p x) s.act ∙ at_found c (in_of net p s.port) s.at in
        let waits : is_parked_with (reads_from net c p) (standing standings p) ≡ true = ap (λ x. is_parked_with (reads_from net c p) x) parked ∙ reads in
        and_from (nat_lt c (length net.channels)) (is_parked_with (reads_from net c (channel_of net c).reader) (standing standings (channel_of net c).reader)) (lt-ltb c (length net.channels) here.0)
        (subst (λ r. is_parked_with (reads_from net c r) (standing standings r) ≡ true) (sym here.1) waits)

    holds_there : (p c : ℕ) → IsBlocked kinds net M p c → holds_up net standings c ≡ true
    holds_there p c s =
        let here = out_of-writer net p s.port c s.at in
        let parked : standing standings p ≡ Parked s.answer = wants_parked k p s.answer (idle_at standings p idle) s.wanted in
        let writes : writes_to net c p s.answer.act ≡ true = ap (λ x. writes_to net c p x) s.act ∙ at_found c (out_of net p s.port) s.at in
        let waits : is_parked_with (writes_to net c p) (standing standings p) ≡ true = ap (λ x. is_parked_with (writes_to net c p) x) parked ∙ writes in
        and_from (nat_lt c (length net.channels)) (is_parked_with (writes_to net c (channel_of net c).writer) (standing standings (channel_of net c).writer)) (lt-ltb c (length net.channels) here.0)
        (subst (λ r. is_parked_with (writes_to net c r) (standing standings r) ≡ true) (sym here.1) waits)

    pub not_starved : (inputs : List ℕ) → list_any (starves net standings) inputs ≡ false → (c : ℕ) → IsStarved kinds net inputs M c → ⊥
    not_starved inputs e c s = true_false (starves net standings c) (starves_there s.reader c s.starving) (none_found (starves net standings) inputs c e s.input)

    pub not_held_up : (outputs : List ℕ) → list_any (holds_up net standings) outputs ≡ false → (c : ℕ) → IsHeldUp kinds net outputs M c → ⊥
    not_held_up outputs e c s = true_false (holds_up net standings c) (holds_there s.writer c s.blocked) (none_found (holds_up net standings) outputs c e s.output)

    pub none_can_help : (inputs outputs : List ℕ) → list_any (starves net standings) inputs ≡ false → list_any (holds_up net standings) outputs ≡ false → NoneCanHelp kinds net inputs outputs M
    none_can_help inputs outputs e f = record { not_starved = not_starved inputs e; not_held_up = not_held_up outputs f }

  pub some_starved : (inputs : List ℕ) → list_any (starves net standings) inputs ≡ true → (c : ℕ) × IsStarved kinds net inputs M c
  some_starved inputs e = let x = any_found (starves net standings) inputs e in (x.0, record { input = x.1; reader = (channel_of net x.0).reader; starving = starving_there x.0 x.2 })

  pub some_held_up : (outputs : List ℕ) → list_any (holds_up net standings) outputs ≡ true → (c : ℕ) × IsHeldUp kinds net outputs M c
  some_held_up outputs e = let x = any_found (holds_up net standings) outputs e in (x.0, record { output = x.1; writer = (channel_of net x.0).writer; blocked = held_there x.0 x.2 })

  -- what is awaited from outside is why nothing goes on
  pub awaited_rests : (inputs outputs : List ℕ) → list_any is_busy standings ≡ false → (pause : Pause) → IsAwaited net standings inputs outputs pause → IsRest kinds net inputs outputs M pause
  awaited_rests inputs outputs idle Cut e = absurd e
  awaited_rests inputs outputs idle Starved e = (idle_quiet k idle, some_starved inputs e)
  awaited_rests inputs outputs idle Blocked e = (idle_quiet k idle, not_starved idle inputs e.0, some_held_up outputs e.1)
  awaited_rests inputs outputs idle (Over end) e = absurd e

  -- a process that is neither ready nor out wants what it answered
  wants_told : (p : ℕ) (x : Standing) → standing standings p ≡ x → is_busy x ≡ false → wants kinds net M p ≡ parked_answer x
  wants_told p Ready e idle = cc
  wants_told p Out e idle = cc
  wants_told p (Parked a) e idle = k.wanted p a e
  wants_told p Stopped e idle = ap (answered kinds net p) (k.stopped p e)

  -- if no process is ready or out, the standings tell what each wants
  pub told : (pause : Pause) → list_any is_busy standings ≡ false → TellWants kinds net M standings pause
  told Cut idle = tt
  told Starved idle = λ p. wants_told p (standing standings p) refl (idle_at standings p idle)
  told Blocked idle = λ p. wants_told p (standing standings p) refl (idle_at standings p idle)
  told (Over end) idle = λ p. wants_told p (standing standings p) refl (idle_at standings p idle)

  -- if each process has stopped or waits for a token, none is busy, and none waits for room
  module _ (all : list_all waits_to_read standings ≡ true) where
    reads_or_stopped : (p : ℕ) → waits_to_read (standing standings p) ≡ true
    reads_or_stopped p = all_at standings p all

    not_busy : (x : Standing) → waits_to_read x ≡ true → is_busy x ≡ false
    not_busy Ready e = cc
    not_busy Out e = cc
    not_busy (Parked a) e = refl
    not_busy Stopped e = refl

    -- so none can go on
    can_not : (p : ℕ) → IsEnabled kinds net M p → ⊥
    can_not p e =
        let idle = not_busy (standing standings p) (reads_or_stopped p) in
        k.blocked p e.answer (λ f. none_some p f) (wants_parked k p e.answer idle e.wanted) e.possible

    does_not_write : (a : Act) (port : ℕ) (t : Token) → is_read a ≡ true → a ≡ Write port t → ⊥
    does_not_write (Read i) port t e f = cc
    does_not_write (Write i u) port t e f = cc
    does_not_write Stop port t e f = cc

    waits_not : (p c : ℕ) → IsBlocked kinds net M p c → ⊥
    waits_not p c b =
        let idle = not_busy (standing standings p) (reads_or_stopped p) in
        let parked = wants_parked k p b.answer idle b.wanted in
        does_not_write b.answer.act b.port b.token (subst (λ x. waits_to_read x ≡ true) parked (reads_or_stopped p)) b.act

    pub exhausted : IsExhausted kinds net M
    exhausted = record { quiet = can_not; none_blocked = waits_not }
