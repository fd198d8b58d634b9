-- The growth of the chosen channel and its writer's put are steps of the definitions.
use Rattle.std.proofs.Common.{◌≡◌, ◌≢◌, ◌↔◌, ◌∙◌, List, [], length, refl, arith, ℕ, ◌<◌, ◌≤◌, ◌+◌, min, false, Some, None, set}
use Rattle.std.proofs.lemmas.Bool.{false_from_ne_true}
use Rattle.std.specs.List.{list_any, Contains}
use Rattle.kpn_model.specs.declared.token.Token.{Token}
use Rattle.kpn_model.specs.declared.kinds.Act.TheVariants.{Write}
use Rattle.kpn_model.specs.declared.kinds.Answer.{Answer}
use Rattle.kpn_model.specs.declared.history.Deed.{Deed}
use Rattle.kpn_model.specs.declared.history.Deed.TheVariants.{Put}
use Rattle.kpn_model.specs.declared.history.Entry.{Entry}
use Rattle.kpn_model.specs.declared.history.Entry.TheVariants.{Did, Grew}
use Rattle.kpn_model.specs.Network.{Network, Family, Admits}
use Rattle.kpn_model.specs.Semantics.{State, tokens, capacity, with_channel, IsPossible, IsDeed, after_deed, Grows}
use Rattle.kpn_laws.proofs.States.{tokens_set_same, capacity_set_same, capacity_set_other}
use Rattle.kpn_laws.proofs.Transitions.{capacity_after}
use Rattle.kpn_state.specs.StateAndHistory.{state_and_history, more}
use Rattle.kpn_state.specs.declared.standing.Standing.{Standing}
use Rattle.kpn_state.specs.declared.standing.Standing.TheVariants.{Parked}
use Rattle.kpn_state.specs.declared.waiting.Waiting.{Waiting}
use Rattle.kpn_state.specs.Candidates.{CandidateList}
use Rattle.kpn_state.specs.Marks.{is_marked, mark_lists}
use Rattle.kpn_state.specs.Standings.{standing, is_busy, standing_after, partner, StandingsFit}
use Rattle.kpn_state.proofs.Placed.{standing_within}
use Rattle.kpn_commit.specs.Candidates.{awaited, IsSmallest}
use Rattle.kpn_commit.specs.Waiting.{AreWaiting, partner_marked}
use Rattle.kpn_commit.specs.Resolving.{GrowsAndPuts}
use Rattle.kpn_commit.proofs.Keeping.{keeps_all, keeps_grown}
use Rattle.kpn_commit.proofs.Waits.{WaitsToWrite, waiting_writer, waiting_reader, is_writer, acted_waits_not, waiting_with, done_writing, others_blocked}
use Rattle.kpn_commit.proofs.Idle.{awaits_blocked, smallest_chosen, smallest_artificial}
use Rattle.kpn_commit.proofs.Working.{acted}

module _ {kinds : Family} {admits : Admits} {net : Network} {M : State} {l : List Standing} (k : StandingsFit kinds admits net None M l) (c p to : ℕ) (waits : awaited net l p ≡ Some c) where
  -- the state after the growth
  abbrev grown : State
  grown = with_channel M c (tokens M c) to

  write : WaitsToWrite net p c (standing l p)
  write = waiting_writer net p c (standing l p) waits

  there : c < length M.channels
  there = let many = k.channels in let within = (is_writer net p c (standing l p) waits).0 in omega arith

  -- after the growth no parked process but the writer can go on
  pub keeps_enlarged : capacity M c ≤ to → to ≤ net.ceiling → StandingsFit kinds admits net (Some p) grown l
  keeps_enlarged more few = keeps_grown k c there p to (is_writer net p c (standing l p) waits).1 more few

  module _ (a : Answer) (parked : standing l p ≡ Parked a) where
    act : a.act ≡ Write write.port write.token
    act = let same = write.parked in let is = write.act in cc

    within : p < length l
    within = standing_within l p (λ e. cc)

    -- and the writer can
    pub put_possible : length (tokens M c) < to → IsPossible kinds net grown p a.act
    put_possible room = rw act (c, write.at, rw (tokens_set_same M c (tokens M c) to there, capacity_set_same M c (tokens M c) to there) room)

    -- its deed is the put
    deed_put : (d : Deed) → IsDeed kinds net grown p a.act d → (t : Token) × (d ≡ Put c t)
    deed_put d is = let on = act in let at = write.at in grind arith

    module _ {w : Waiting} (wait : AreWaiting net M l w) where
      -- no process waits to read from the channel, which is full
      no_reader : is_marked w.marks.readers c ≡ false
      no_reader =
          false_from_ne_true (is_marked w.marks.readers c)
          (λ m.
          let r = (wait.marks.readers c).0 m in
          let read = waiting_reader net r.0 c (standing l r.0) r.1 in
          let full = (awaits_blocked k p c waits).full in
          let some = k.smallest c (is_writer net p c (standing l p) waits).0 in
          k.blocked r.0 read.answer (λ f. cc) read.parked (rw read.act (c, read.at, λ (e : tokens M c ≡ []). let none : length (tokens M c) ≡ 0 = cc in absurd (omega arith))))

      -- so after the put no parked process can go on
      pub keeps_after_put :
          (d : Deed) → capacity M c ≤ to → to ≤ net.ceiling → IsDeed kinds net grown p a.act d → StandingsFit kinds admits net (partner net d) (after_deed kinds net grown p a.next d) (set l p (standing_after d))
          → StandingsFit kinds admits net None (after_deed kinds net grown p a.next d) (set l p (standing_after d))
      keeps_after_put d more few is kept = keeps_all kept (λ q b _ at can. others_blocked wait.marks (keeps_enlarged more few) a d within is unmarked q b at can)
        where
          unmarked : partner_marked w.marks d ≡ false
          unmarked = let put = deed_put d is in rw put.1 no_reader

      -- and the channel is no candidate any more
      pub waiting_after_put :
          (d : Deed) (fewer : CandidateList) → ((y : ℕ × ℕ) → Contains fewer.pairs y ↔ ((y ≢ (capacity M c, c)) × Contains w.candidates.pairs y))
          → (Contains w.candidates.pairs (capacity M c, c) → length fewer.pairs + 1 ≡ length w.candidates.pairs) → fewer.limit ≡ w.candidates.limit
          → AreWaiting net (after_deed kinds net grown p a.next d) (set l p (standing_after d)) (waiting_with fewer (mark_lists w.marks.readers (set w.marks.writers c false)))
      waiting_after_put d fewer taken many limit =
          done_writing wait p (standing_after d) within (acted_waits_not net p d) (after_deed kinds net grown p a.next d) c fewer (λ b other. capacity_after kinds net grown p b a.next d ∙ capacity_set_other M c b (tokens M c) to other) waits (rw (parked, act)) taken many limit

    module _ (idle : list_any is_busy l ≡ false) (best : IsSmallest net M l (Some (c, p))) (below : capacity M c < net.ceiling) (to_is : to ≡ min (capacity M c + net.step) net.ceiling) where
      -- the growth is that of the definitions
      pub growth : Grows kinds net M c to grown
      growth = record { artificial = smallest_artificial k idle c p best; chosen = smallest_chosen k idle c p best; below = below; to_is = to_is; leaves = refl }

      -- and so is the put
      pub grows_and_puts :
          (E : List Entry) (limit : ℕ) (d : Deed) → IsDeed kinds net grown p a.act d
          → GrowsAndPuts kinds net (state_and_history M E limit) l (more (more (state_and_history M E limit) grown (Grew c to)) (after_deed kinds net grown p a.next d) (Did p d)) (set l p (standing_after d))
      grows_and_puts E limit d is =
          let put = deed_put d is in
          let s = more (state_and_history M E limit) grown (Grew c to) in
          rw put.1
          (record { channel = c; to = to; grown = grown; grows = growth; writer = p; wanted = a; parked = parked; token = put.0; puts = acted s l p a (Put c put.0) (k.wanted p a parked) (rw put.1 at is) refl refl })
