-- For each changed definition a small network for which the law fails.
use Rattle.std.proofs.Common.{◌≡◌, ◌≤◌, ℕ, zero, suc, List, [], ◌∷◌, ◌++◌, refl, sym, ap, ◌∙◌, subst, arith, ◌==◌, false, eq-eqb}
use Rattle.kpn_model.specs.declared.token.Token.TheVariants.{Word}
use Rattle.kpn_model.specs.declared.kinds.Act.{Act}
use Rattle.kpn_model.specs.declared.kinds.Act.TheVariants.{Read, Write, Stop}
use Rattle.kpn_model.specs.declared.history.Deed.{Deed}
use Rattle.kpn_model.specs.declared.history.Deed.TheVariants.{Took, Put, Stopped}
use Rattle.kpn_model.specs.declared.history.Entry.{Entry}
use Rattle.kpn_model.specs.declared.history.Entry.TheVariants.{Did, Grew}
use Rattle.kpn_model.specs.declared.history.End.TheVariants.{Terminated}
use Rattle.kpn_model.specs.Network.{Network}
use Rattle.kpn_model.specs.Semantics.{State, start, tokens, with_channel, after_deed, IsDeed, Transition, Run}
use Rattle.kpn_model.specs.History.{Digest}
use Rattle.kpn_model.specs.Moments.{IsWithin}
use Rattle.kpn_standard.specs.Standard.{standard}
use Rattle.test_laws.specs.WorkedEnds.{counter_into_sink}
use Rattle.test_laws.specs.Growing.{counter_outlives_sink, equal_capacities}
use Rattle.test_laws.specs.ChangedRules.{RunBy, OneDigestBy, AlwaysWithinBy, EarlyGrowth, IsDeedAnyway, PutIntoFull, AnyOfEqual, TakenTells}
use Rattle.test_laws.proofs.Schedule.{Go, Grow}
use Rattle.test_laws.proofs.Led.{led}
use Rattle.test_laws.proofs.Replay.{played_sound, full_sound, chosen_sound, still_sound, over_sound}
use Rattle.test_laws.proofs.WorkedNetworks.{has_counter_into_sink, has_counter_outlives_sink, has_equal_capacities}

-- numbers that a test distinguishes are not equal
different : (m n : ℕ) → m ≡ n → (m == n) ≡ false → ⊥
different m n e f = let same = eq-eqb m n e in cc

module _ (rule : State → Entry → State → Type 0) (net : Network) (allows : (M : State) (e : Entry) (N : State) → Transition standard net M e N → rule M e N) where
  -- a run is a run by any rule that allows its steps
  by_rule : (M : State) (E : List Entry) (N : State) → Run standard net M E N → RunBy rule M E N
  by_rule M [] N r = r
  by_rule M (e ∷ E) N r = (r.0, allows M e r.0 r.1, by_rule r.0 E N r.2)

  -- so is a run, one step of the rule, and a run
  with_step :
      (M : State) (E : List Entry) (K : State) (e : Entry) (L : State) (F : List Entry) (N : State) → Run standard net M E K → rule K e L
      → Run standard net L F N → RunBy rule M (E ++ e ∷ F) N
  with_step M [] K e L F N r s q = (L, subst (λ x. rule x e L) r s, by_rule L F N q)
  with_step M (f ∷ E) K e L F N r s q = (r.0, allows M f r.0 r.1, with_step r.0 E K e L F N r.2 s q)

-- a growth that waits is one that need not
early_allows : (net : Network) (M : State) (e : Entry) (N : State) → Transition standard net M e N → EarlyGrowth net M e N
early_allows net M (Did p d) N s = s
early_allows net M (Grew c to) N s = record { chosen = s.chosen; below = s.below; to_is = s.to_is; leaves = s.leaves }

-- a deed that asks for room is one that need not
anyway : (net : Network) (M : State) (p : ℕ) (a : Act) (d : Deed) → IsDeed standard net M p a d → IsDeedAnyway net M p a d
anyway net M p (Write k w) (Put c t) h = (h.0, h.1)
anyway net M p Stop d h = h
anyway net M p (Read k) d h = h
anyway net M p (Write k w) (Took c t) h = absurd h
anyway net M p (Write k w) Stopped h = absurd h

-- a deed that finds room is one that need not
full_allows : (net : Network) (M : State) (e : Entry) (N : State) → Transition standard net M e N → PutIntoFull net M e N
full_allows net M (Did p d) N s = record { answer = s.answer; wanted = s.wanted; is_deed = anyway net M p s.answer.act d s.is_deed; leaves = s.leaves }
full_allows net M (Grew c to) N s = s

-- the chosen channel is one of least capacity
any_allows : (net : Network) (M : State) (e : Entry) (N : State) → Transition standard net M e N → AnyOfEqual net M e N
any_allows net M (Did p d) N s = s
any_allows net M (Grew c to) N s =
    record { artificial = s.artificial; writer = s.chosen.writer; blocked = s.chosen.blocked; no_smaller = s.chosen.no_smaller; below = s.below; to_is = s.to_is; leaves = s.leaves }

-- the counter has put one token on the channel, which the sink can take
abbrev one_put : List Entry × State
one_put = led counter_into_sink (start standard counter_into_sink) (Go 0 ∷ [])

-- the channel grows now, and then both go on to their ends
abbrev grown_at_once : State
grown_at_once = with_channel one_put.1 0 (tokens one_put.1 0) 2

-- what both then do
abbrev after_early : List Entry × State
after_early = led counter_into_sink grown_at_once (Go 0 ∷ Go 1 ∷ Go 0 ∷ Go 1 ∷ Go 0 ∷ Go 1 ∷ Go 1 ∷ [])

-- a growth that does not wait: the counter of three into the sink of three has a run of eight entries, and one of nine
pub early_growth_fails : OneDigestBy EarlyGrowth → ⊥
early_growth_fails h =
    let net = counter_into_sink in
    let S = start standard net in
    let calm = has_counter_into_sink in
    let grows : EarlyGrowth net one_put.1 (Grew 0 2) grown_at_once =
    record { chosen = chosen_sound standard net one_put.1 0 0 (full_sound standard net one_put.1 0 0 refl) refl; below = omega arith; to_is = refl; leaves = refl } in
    let F = one_put.0 ++ Grew 0 2 ∷ after_early.0 in
    let run : RunBy (EarlyGrowth net) S F after_early.1 =
    with_step (EarlyGrowth net) net (early_allows net) S one_put.0 one_put.1 (Grew 0 2) grown_at_once after_early.0 after_early.1
    (played_sound standard net (Go 0 ∷ []) S one_put refl) grows
    (played_sound standard net (Go 0 ∷ Go 1 ∷ Go 0 ∷ Go 1 ∷ Go 0 ∷ Go 1 ∷ Go 1 ∷ []) grown_at_once after_early refl) in
    let same = h net calm.history F calm.state after_early.1 Terminated Terminated (by_rule (EarlyGrowth net) net (early_allows net) S calm.history calm.state calm.final.run) calm.final.over run (over_sound standard net after_early.1 Terminated refl) in
    let eight_is_nine : 8 ≡ 9 = ap (λ (d : Digest). d.entries) (sym calm.digest_is ∙ same) in
    absurd (different _ _ eight_is_nine refl)

-- the counter has put two tokens, and the sink has taken one and stopped: the channel is full
abbrev sink_stopped : List Entry × State
sink_stopped = led counter_outlives_sink (start standard counter_outlives_sink) (Go 0 ∷ Go 1 ∷ Go 0 ∷ Go 1 ∷ [])

-- the counter puts its third token all the same, and stops
abbrev overfilled : State
overfilled = after_deed standard counter_outlives_sink sink_stopped.1 0 (3 ∷ 0 ∷ 0 ∷ 0 ∷ []) (Put 0 (Word 3))

-- and no more is done
abbrev after_overfilled : List Entry × State
after_overfilled = led counter_outlives_sink overfilled (Go 0 ∷ [])

-- a put that does not ask for room
puts_all_the_same : PutIntoFull counter_outlives_sink sink_stopped.1 (Did 0 (Put 0 (Word 3))) overfilled
puts_all_the_same = record { answer = record { next = 3 ∷ 0 ∷ 0 ∷ 0 ∷ []; act = Write 0 (Word 3) }; wanted = refl; is_deed = (refl, refl); leaves = refl }

-- the put that does not ask for room
before_overfilled : Run standard counter_outlives_sink (start standard counter_outlives_sink) sink_stopped.0 sink_stopped.1
before_overfilled = played_sound standard counter_outlives_sink (Go 0 ∷ Go 1 ∷ Go 0 ∷ Go 1 ∷ []) (start standard counter_outlives_sink) sink_stopped refl

-- the network begins within its capacities
begins_within : IsWithin (start standard counter_outlives_sink)
begins_within zero = omega arith
begins_within (suc c) = omega arith

-- a put into a full channel: the counter that outlives its sink brings two tokens to a channel of capacity one
pub put_into_full_overfills : AlwaysWithinBy PutIntoFull → ⊥
put_into_full_overfills h =
    let net = counter_outlives_sink in
    let run = with_step (PutIntoFull net) net (full_allows net) (start standard net) sink_stopped.0 sink_stopped.1 (Did 0 (Put 0 (Word 3))) overfilled [] overfilled before_overfilled puts_all_the_same refl in
    let two_in_one : 2 ≤ 1 = h net begins_within (sink_stopped.0 ++ Did 0 (Put 0 (Word 3)) ∷ []) overfilled run 0 in
    absurd (omega arith)

-- and it then has a run of six entries, without a growth, and one of seven
pub put_into_full_fails : OneDigestBy PutIntoFull → ⊥
put_into_full_fails h =
    let net = counter_outlives_sink in
    let S = start standard net in
    let calm = has_counter_outlives_sink in
    let F = sink_stopped.0 ++ Did 0 (Put 0 (Word 3)) ∷ after_overfilled.0 in
    let run : RunBy (PutIntoFull net) S F after_overfilled.1 =
    with_step (PutIntoFull net) net (full_allows net) S sink_stopped.0 sink_stopped.1 (Did 0 (Put 0 (Word 3))) overfilled after_overfilled.0 after_overfilled.1
    before_overfilled puts_all_the_same (played_sound standard net (Go 0 ∷ []) overfilled after_overfilled refl) in
    let same = h net calm.history F calm.state after_overfilled.1 Terminated Terminated (by_rule (PutIntoFull net) net (full_allows net) S calm.history calm.state calm.final.run) calm.final.over run (over_sound standard net after_overfilled.1 Terminated refl) in
    let seven_is_six : 7 ≡ 6 = ap (λ (d : Digest). d.entries) (sym calm.digest_is ∙ same) in
    absurd (different _ _ seven_is_six refl)

-- both counters have filled their channels of capacity one, and both sinks have stopped
abbrev both_full : List Entry × State
both_full = led equal_capacities (start standard equal_capacities) (Go 0 ∷ Go 1 ∷ Go 2 ∷ Go 3 ∷ [])

-- the second channel grows first
abbrev second_grown : State
second_grown = with_channel both_full.1 1 (tokens both_full.1 1) 2

-- what the counters then do, with the growth of the first channel
abbrev after_second : List Entry × State
after_second = led equal_capacities second_grown (Go 1 ∷ Go 1 ∷ Grow 0 ∷ Go 0 ∷ Go 0 ∷ [])

-- the channel of the first growth
abbrev first_grown : List (ℕ × ℕ) → ℕ
first_grown [] = 0
first_grown (g ∷ gs) = g.0

-- a free choice among equal capacities: two such channels grow in one order or in the other
pub any_of_equal_fails : OneDigestBy AnyOfEqual → ⊥
any_of_equal_fails h =
    let net = equal_capacities in
    let S = start standard net in
    let calm = has_equal_capacities in
    let K = both_full.1 in
    let second = full_sound standard net K 1 1 refl in
    let chosen = chosen_sound standard net K 0 0 (full_sound standard net K 0 0 refl) refl in
    let grows : AnyOfEqual net K (Grew 1 2) second_grown =
    record {
      artificial = record { quiet = still_sound standard net K refl; writer = 1; channel = 1; blocked = second };
      writer = 1;
      blocked = second;
      no_smaller = chosen.no_smaller;
      below = omega arith;
      to_is = refl;
      leaves = refl;
    } in
    let F = both_full.0 ++ Grew 1 2 ∷ after_second.0 in
    let run : RunBy (AnyOfEqual net) S F after_second.1 =
    with_step (AnyOfEqual net) net (any_allows net) S both_full.0 K (Grew 1 2) second_grown after_second.0 after_second.1
    (played_sound standard net (Go 0 ∷ Go 1 ∷ Go 2 ∷ Go 3 ∷ []) S both_full refl) grows
    (played_sound standard net (Go 1 ∷ Go 1 ∷ Grow 0 ∷ Go 0 ∷ Go 0 ∷ []) second_grown after_second refl) in
    let same = h net calm.history F calm.state after_second.1 Terminated Terminated (by_rule (AnyOfEqual net) net (any_allows net) S calm.history calm.state calm.final.run) calm.final.over run (over_sound standard net after_second.1 Terminated refl) in
    let zero_is_one : 0 ≡ 1 = ap (λ (d : Digest). first_grown d.growths) (sym calm.digest_is ∙ same) in
    absurd (different _ _ zero_is_one refl)

-- streams of the tokens taken: after the counter's first put nothing was taken, and the channel holds a token
pub taken_does_not_tell : TakenTells → ⊥
taken_does_not_tell h =
    let net = counter_into_sink in
    let none_is_one : [] ≡ Word 1 ∷ [] = h net one_put.0 one_put.1 (played_sound standard net (Go 0 ∷ []) (start standard net) one_put refl) 0 in
    cc
