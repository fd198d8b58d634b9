-- For each changed bound a small network for which it fails.
use Rattle.std.proofs.Common.{◌≡◌, ◌≤◌, ◌<◌, inl, ⊎_elim, ℕ, List, [], ◌∷◌, ◌++◌, refl, subst, arith}
use Rattle.kpn_model.specs.declared.history.Deed.{Deed}
use Rattle.kpn_model.specs.declared.history.Entry.{Entry}
use Rattle.kpn_model.specs.declared.history.Entry.TheVariants.{Did, Grew}
use Rattle.kpn_model.specs.declared.history.End.TheVariants.{Terminated}
use Rattle.kpn_model.specs.Network.{Network, resized}
use Rattle.kpn_model.specs.Semantics.{State, start, tokens, capacity, with_channel, Does, Run, IsArtificial, IsChosen}
use Rattle.kpn_model.specs.History.{growths}
use Rattle.kpn_standard.specs.Standard.{standard}
use Rattle.kpn_laws.specs.Sufficient.{EndsWithin}
use Rattle.test_laws.specs.WorkedEnds.{counter_into_sink}
use Rattle.test_laws.specs.Growing.{growth_step}
use Rattle.test_laws.specs.WorkedRoom.{longer_parks_case}
use Rattle.test_laws.specs.ChangedRules.{RunBy, EarlyGrowth}
use Rattle.test_laws.specs.ChangedBounds.{GrowsBelowBy, GreatestGrows, EachBelowItsOwn, StaysUpTo}
use Rattle.test_laws.proofs.Schedule.{Turn, Go, Grow}
use Rattle.test_laws.proofs.Led.{led}
use Rattle.test_laws.proofs.Replay.{played_sound, full_sound, chosen_sound, still_sound}
use Rattle.test_laws.proofs.WorkedRoom.{bounded_sound, ends_by, ends_in_two}

module _ (rule : State → Entry → State → Type 0) (net : Network) (allows : (M : State) (p : ℕ) (d : Deed) (N : State) → Does standard net M p d N → rule M (Did p d) N) where
  -- a run without growths is a run by any rule with the same deeds
  deeds_by : (M : State) (E : List Entry) (N : State) → growths E ≡ [] → Run standard net M E N → RunBy rule M E N
  deeds_by M [] N e r = r
  deeds_by M (Did p d ∷ E) N e r = (r.0, allows M p d r.0 r.1, deeds_by r.0 E N e r.2)
  deeds_by M (Grew c to ∷ E) N e r = absurd (nil_not _ _ e)
    where
      nil_not : (g : ℕ × ℕ) (gs : List (ℕ × ℕ)) → g ∷ gs ≡ [] → ⊥
      nil_not g gs e = cc

  -- runs by a rule one after the other
  then_by : (M : State) (E : List Entry) (K : State) (F : List Entry) (N : State) → RunBy rule M E K → RunBy rule K F N → RunBy rule M (E ++ F) N
  then_by M [] K F N r q = subst (λ x. RunBy rule x F N) r q
  then_by M (e ∷ E) K F N r q = (r.0, r.1, then_by r.0 E K F N r.2 q)

-- the schedule of Parks's case until the counter and the copy are blocked
abbrev until_blocked : List Turn
until_blocked = Go 0 ∷ Go 1 ∷ Go 0 ∷ Go 1 ∷ Go 2 ∷ Go 1 ∷ Go 2 ∷ Go 3 ∷ Go 1 ∷ Go 0 ∷ Go 1 ∷ Go 2 ∷ Go 2 ∷ Go 3 ∷ []

abbrev both_blocked : List Entry × State
both_blocked = led longer_parks_case (start standard longer_parks_case) until_blocked

-- this is a run
until_blocked_run : Run standard longer_parks_case (start standard longer_parks_case) both_blocked.0 both_blocked.1
until_blocked_run = played_sound standard longer_parks_case until_blocked (start standard longer_parks_case) both_blocked refl

-- there the counter's channel has to grow: of the blocked ones, which have equal capacities, it has the least number
blocked_chosen : IsChosen standard longer_parks_case both_blocked.1 0
blocked_chosen = chosen_sound standard longer_parks_case both_blocked.1 0 0 (full_sound standard longer_parks_case both_blocked.1 0 0 refl) refl

blocked_artificial : IsArtificial standard longer_parks_case both_blocked.1
blocked_artificial =
    record { quiet = still_sound standard longer_parks_case both_blocked.1 refl; writer = 0; channel = 0; blocked = full_sound standard longer_parks_case both_blocked.1 0 0 refl }

-- the counter's channel has capacity two, and the counter fills it
abbrev counter_grown : State
counter_grown = with_channel both_blocked.1 0 (tokens both_blocked.1 0) 2

abbrev blocked_again : List Entry × State
blocked_again = led longer_parks_case counter_grown (Go 0 ∷ [])

-- greatest first: the channel of the counter, where more room does not help, grows from capacity two although two suffices
pub greatest_grows_fails : GrowsBelowBy GreatestGrows → ⊥
greatest_grows_fails h =
    let net = longer_parks_case in
    let K = both_blocked.1 in
    let L = blocked_again.1 in
    let one : (d : ℕ) → capacity K d ≤ 1 = bounded_sound K.channels 1 refl in
    let two : (d : ℕ) → capacity L d ≤ 2 = bounded_sound L.channels 2 refl in
    let first : GreatestGrows net K (Grew 0 2) counter_grown =
    record {
      artificial = blocked_artificial;
      writer = 0;
      blocked = full_sound standard net K 0 0 refl;
      no_greater = λ q d x. one d;
      no_earlier = λ q d x e. omega arith;
      below = omega arith;
      to_is = refl;
      leaves = refl;
    } in
    let second : GreatestGrows net L (Grew 0 3) (with_channel L 0 (tokens L 0) 3) =
    record {
      artificial = record { quiet = still_sound standard net L refl; writer = 0; channel = 0; blocked = full_sound standard net L 0 0 refl };
      writer = 0;
      blocked = full_sound standard net L 0 0 refl;
      no_greater = λ q d x. two d;
      no_earlier = λ q d x e. omega arith;
      below = omega arith;
      to_is = refl;
      leaves = refl;
    } in
    let run : RunBy (GreatestGrows net) (start standard net) (both_blocked.0 ++ Grew 0 2 ∷ blocked_again.0) L =
    then_by (GreatestGrows net) net (λ M p d N s. s) (start standard net) both_blocked.0 K (Grew 0 2 ∷ blocked_again.0) L
    (deeds_by (GreatestGrows net) net (λ M p d N s. s) (start standard net) both_blocked.0 K refl until_blocked_run)
    (counter_grown, first, deeds_by (GreatestGrows net) net (λ M p d N s. s) counter_grown blocked_again.0 L refl (played_sound standard net (Go 0 ∷ []) counter_grown blocked_again refl)) in
    let two_below_two : 2 < 2 = h net 2 (inl ends_in_two) (both_blocked.0 ++ Grew 0 2 ∷ blocked_again.0) L (with_channel L 0 (tokens L 0) 3) 0 3 run second in
    omega arith

-- the counter has put one token on the channel, which the sink can take
abbrev one_put : List Entry × State
one_put = led counter_into_sink (start standard counter_into_sink) (Go 0 ∷ [])

-- a growth that does not wait: the channel of the counter grows from capacity one although one suffices
pub early_growth_fails : GrowsBelowBy EarlyGrowth → ⊥
early_growth_fails h =
    let net = counter_into_sink in
    let K = one_put.1 in
    let grows : EarlyGrowth net K (Grew 0 2) (with_channel K 0 (tokens K 0) 2) =
    record { chosen = chosen_sound standard net K 0 0 (full_sound standard net K 0 0 refl) refl; below = omega arith; to_is = refl; leaves = refl } in
    let s : EndsWithin standard net 1 = ends_by net (λ c. 1) 1 Terminated (Go 0 ∷ Go 1 ∷ Go 0 ∷ Go 1 ∷ Go 0 ∷ Go 1 ∷ Go 0 ∷ Go 1 ∷ []) (led net (start standard net) (Go 0 ∷ Go 1 ∷ Go 0 ∷ Go 1 ∷ Go 0 ∷ Go 1 ∷ Go 0 ∷ Go 1 ∷ [])) refl refl tt refl in
    let run = deeds_by (EarlyGrowth net) net (λ M p d N s. s) (start standard net) one_put.0 K refl (played_sound standard net (Go 0 ∷ []) (start standard net) one_put refl) in
    let one_below_one : 1 < 1 = h net 1 (inl s) one_put.0 K (with_channel K 0 (tokens K 0) 2) 0 2 run grows in
    omega arith

-- each below its own: the counter's channel grows from capacity one, although it needs no more if the others have enough
pub each_below_its_own_fails : EachBelowItsOwn → ⊥
unfolding ends_in_two ends_by
each_below_its_own_fails h =
    let s = ends_in_two in
    let one_below_one : 1 < 1 = h longer_parks_case s.sizes s.history s.state s.cause s.final s.natural both_blocked.0 both_blocked.1 0 until_blocked_run blocked_artificial blocked_chosen in
    omega arith

-- the second channel has grown by four
abbrev grown_by_four : List Entry × State
grown_by_four = led growth_step (start standard growth_step) (Go 0 ∷ Go 1 ∷ Go 2 ∷ Go 3 ∷ Go 0 ∷ Grow 1 ∷ [])

-- a step above one: a channel grows from capacity one to five although three suffices
pub stays_up_to_fails : StaysUpTo → ⊥
stays_up_to_fails h =
    let net = growth_step in
    let s : EndsWithin standard net 3 = ends_by net (λ c. 3) 3 Terminated (Go 0 ∷ Go 1 ∷ Go 2 ∷ Go 3 ∷ Go 0 ∷ Go 1 ∷ Go 0 ∷ Go 1 ∷ Go 0 ∷ Go 1 ∷ []) (led (resized net (λ c. 3)) (start standard (resized net (λ c. 3))) (Go 0 ∷ Go 1 ∷ Go 2 ∷ Go 3 ∷ Go 0 ∷ Go 1 ∷ Go 0 ∷ Go 1 ∷ Go 0 ∷ Go 1 ∷ [])) refl refl tt refl in
    let run = played_sound standard net (Go 0 ∷ Go 1 ∷ Go 2 ∷ Go 3 ∷ Go 0 ∷ Grow 1 ∷ []) (start standard net) grown_by_four refl in
    ⊎_elim
    (λ (same : 5 ≡ 1). omega arith)
    (λ (few : 5 ≤ 3). omega arith)
    (h net 3 (inl s) grown_by_four.0 grown_by_four.1 run 1)
