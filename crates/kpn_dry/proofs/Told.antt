-- What standings tell of dry processes.
use Rattle.std.proofs.Common.{◌≡◌, ◌↔◌, ℕ, Bool, true, false, List, [], ◌∷◌, Option, Some, None, refl, sym, ap, ◌∙◌, subst, option_and_then, option_map}
use Rattle.kpn_model.specs.declared.token.Token.{Token}
use Rattle.kpn_model.specs.declared.kinds.Act.{Act}
use Rattle.kpn_model.specs.declared.kinds.Act.TheVariants.{Read, Write, Stop}
use Rattle.kpn_model.specs.declared.kinds.Answer.{Answer}
use Rattle.kpn_model.specs.declared.history.Status.{Status}
use Rattle.kpn_model.specs.declared.history.Status.TheVariants.{Live, Done}
use Rattle.kpn_model.specs.Network.{Family, Network, channel_of, in_of}
use Rattle.kpn_model.specs.Semantics.{State, answered, status, tokens, wants, IsPossible}
use Rattle.kpn_state.specs.declared.standing.Standing.{Standing}
use Rattle.kpn_state.specs.declared.standing.Standing.TheVariants.{Ready, Out, Parked, Stopped}
use Rattle.kpn_state.specs.Standings.{standing, is_busy, parked_answer}
use Rattle.kpn_dry.proofs.Walk.{told_exactly}
use Rattle.kpn_dry.specs.Dry.{IsDry, stopped, waits}
use Rattle.kpn_dry.specs.Told.{IsToldDry, TellWaits, awaited, is_told_dry, writer_read, stopped as told_stopped, waits as told_waits}

module _ (kinds : Family) (net : Network) (M : State) (standings : List Standing) (tell : TellWaits kinds net M standings) where
  -- a process that wants nothing has stopped
  none_wanted : (p : ℕ) (s : Status) → answered kinds net p s ≡ None → s ≡ Done
  none_wanted p Done none = refl
  none_wanted p (Live local last) none = cc

  -- one that is parked to read can't read, and so finds its channel empty
  empty : (p : ℕ) (answer : Answer) (port c : ℕ) → standing standings p ≡ Parked answer → answer.act ≡ Read port → in_of net p port ≡ Some c → tokens M c ≡ []
  empty p answer port c parked act at = by_tokens (tokens M c) refl
    where
      by_tokens : (ts : List Token) → tokens M c ≡ ts → tokens M c ≡ []
      by_tokens [] same = same
      by_tokens (t ∷ ts) same =
          let idle : is_busy (standing standings p) ≡ false = ap is_busy parked in
          let wanted : wants kinds net M p ≡ Some answer = tell.wanted p idle ∙ ap parked_answer parked in
          let possible : IsPossible kinds net M p answer.act = subst (λ a. IsPossible kinds net M p a) (sym act) (c, at, λ (none : tokens M c ≡ []). let other = same in cc) in
          let busy = tell.busy p (record { answer = answer; wanted = wanted; possible = possible }) in
          cc

  -- the channel at which a process is parked to read
  pub record WaitsAt (p q : ℕ) : Type 0 where
    pub answer : Answer
    pub port : ℕ
    pub channel : ℕ
    pub parked : standing standings p ≡ Parked answer
    pub act : answer.act ≡ Read port
    pub at : in_of net p port ≡ Some channel
    pub writer : (channel_of net channel).writer ≡ q

  waits_at : (p q : ℕ) → awaited net standings p ≡ Some q → WaitsAt p q
  waits_at p q waits_for = by_standing (standing standings p) refl waits_for
    where
      by_channel : (answer : Answer) (port : ℕ) → standing standings p ≡ Parked answer → answer.act ≡ Read port → (o : Option ℕ) → in_of net p port ≡ o
          → option_map (λ c. (channel_of net c).writer) o ≡ Some q → WaitsAt p q
      by_channel answer port parked act None at is = cc
      by_channel answer port parked act (Some c) at is = record { answer = answer; port = port; channel = c; parked = parked; act = act; at = at; writer = cc }

      by_act : (answer : Answer) → standing standings p ≡ Parked answer → (a : Act) → answer.act ≡ a → writer_read net p a ≡ Some q → WaitsAt p q
      by_act answer parked (Read port) act is = by_channel answer port parked act (in_of net p port) refl is
      by_act answer parked (Write port t) act is = cc
      by_act answer parked Stop act is = cc

      by_standing : (s : Standing) → standing standings p ≡ s → option_and_then (λ answer. writer_read net p answer.act) (parked_answer s) ≡ Some q → WaitsAt p q
      by_standing (Parked answer) parked is = by_act answer parked answer.act refl is
      by_standing Ready parked is = cc
      by_standing Out parked is = cc
      by_standing Stopped parked is = cc

  -- what is told dry is dry
  dry_of_told : (p : ℕ) → IsToldDry net standings p → IsDry kinds net M p
  dry_of_told p (told_stopped at) = stopped (none_wanted p (status M p) (tell.wanted p (ap is_busy at) ∙ ap parked_answer at))
  dry_of_told p (told_waits q at dry) =
      let w = waits_at p q at in
      waits w.answer w.port w.channel (tell.wanted p (ap is_busy w.parked) ∙ ap parked_answer w.parked) w.act w.at (empty p w.answer w.port w.channel w.parked w.act w.at)
      (subst (IsDry kinds net M) (sym w.writer) (dry_of_told q dry))

  -- so it is if the test finds it
  pub dry_if_told : (p : ℕ) → is_told_dry net standings p ≡ true → IsDry kinds net M p
  dry_if_told p is = dry_of_told p ((told_exactly net standings p).0 is)

  -- and what is dry is told so, if none is ready or out
  module _ (idle : (p : ℕ) → is_busy (standing standings p) ≡ false) where
    told_of_dry : (p : ℕ) → IsDry kinds net M p → IsToldDry net standings p
    told_of_dry p (stopped done) = told_stopped (by_standing (standing standings p) refl)
      where
        by_standing : (s : Standing) → standing standings p ≡ s → standing standings p ≡ Stopped
        by_standing Stopped at = at
        by_standing Ready at = let none = idle p in let busy = ap is_busy at in cc
        by_standing Out at = let none = idle p in let busy = ap is_busy at in cc
        by_standing (Parked a) at =
            let wanted : answered kinds net p Done ≡ Some a = ap (λ s. answered kinds net p s) (sym done) ∙ tell.wanted p (idle p) ∙ ap parked_answer at in
            cc
    told_of_dry p (waits answer port c wanted act at empty dry) =
        let parked : parked_answer (standing standings p) ≡ Some answer = sym (tell.wanted p (idle p)) ∙ wanted in
        let reads : awaited net standings p ≡ Some (channel_of net c).writer =
        ap (λ o. option_and_then (λ (x : Answer). writer_read net p x.act) o) parked ∙ ap (λ a. writer_read net p a) act ∙ ap (λ o. option_map (λ x. (channel_of net x).writer) o) at in
        told_waits (channel_of net c).writer reads (told_of_dry (channel_of net c).writer dry)

    -- and only then
    pub told_if_dry : (p : ℕ) → IsDry kinds net M p → is_told_dry net standings p ≡ true
    told_if_dry p dry = (told_exactly net standings p).1 (told_of_dry p dry)

    pub not_dry_if_not_told : (p : ℕ) → is_told_dry net standings p ≡ false → IsDry kinds net M p → ⊥
    not_dry_if_not_told p is dry = false_true (sym is ∙ told_if_dry p dry)
      where
        false_true : false ≡ true → ⊥
        false_true h = cc

-- what is said of the test's result is said of an equal one
module _ (net : Network) (standings : List Standing) (p : ℕ) (result : Bool) (same : result ≡ is_told_dry net standings p) where
  pub told_here : (result ≡ true) ↔ IsToldDry net standings p
  told_here = subst (λ b. (b ≡ true) ↔ IsToldDry net standings p) (sym same) (told_exactly net standings p)

  pub dry_here : (kinds : Family) (M : State) → TellWaits kinds net M standings → result ≡ true → IsDry kinds net M p
  dry_here kinds M tell is = dry_if_told kinds net M standings tell p (sym same ∙ is)

  pub not_dry_here :
      (kinds : Family) (M : State) → TellWaits kinds net M standings → ((q : ℕ) → is_busy (standing standings q) ≡ false) → result ≡ false → IsDry kinds net M p → ⊥
  not_dry_here kinds M tell idle is = not_dry_if_not_told kinds net M standings tell idle p (sym same ∙ is)
