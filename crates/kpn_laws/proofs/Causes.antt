-- States in which a run is over.
use Rattle.std.proofs.Common.{◌≡◌, refl, sym, ap, ◌∙◌, arith, ℕ}
use Rattle.kpn_model.specs.Network.{Network, Family}
use Rattle.kpn_model.specs.declared.history.Status.TheVariants.{Done}
use Rattle.kpn_model.specs.Semantics.{State, status, capacity, IsBlocked, IsQuiet, IsChosen, Grows}
use Rattle.kpn_model.specs.Endings.{IsNatural, IsOver}
use Rattle.kpn_model.specs.declared.history.End.{End}
use Rattle.kpn_model.specs.declared.history.End.TheVariants.{Terminated, Deadlock, Ceiling, Budget, Memory}
use Rattle.kpn_laws.proofs.Transitions.{done_wants_none}

module _ (kinds : Family) (net : Network) where
  -- at most one channel is chosen
  pub chosen_same : (M : State) (c d : ℕ) → IsChosen kinds net M c → IsChosen kinds net M d → c ≡ d
  chosen_same M c d x y =
      let a = x.no_smaller y.writer d y.blocked in
      let b = y.no_smaller x.writer c x.blocked in
      let e : capacity M c ≡ capacity M d = omega arith in
      let f = x.no_earlier y.writer d y.blocked e in
      let g = y.no_earlier x.writer c x.blocked (sym e) in
      omega arith

  -- a process that has stopped is not blocked
  blocked_done_not : (M : State) (p c : ℕ) → status M p ≡ Done → IsBlocked kinds net M p c → ⊥
  blocked_done_not M p c e b = done_wants_none kinds net p (status M p) b.answer e b.wanted

  -- when a run is over, no process can go on
  pub over_quiet : (M : State) (a : End) → IsOver kinds net M a → IsQuiet kinds net M
  over_quiet M Terminated o = o.0
  over_quiet M Deadlock o = o.0
  over_quiet M Ceiling o = o.0.quiet
  over_quiet M Budget o = absurd o
  over_quiet M Memory o = absurd o

  -- and no channel can grow
  pub over_grows_not : (M : State) (a : End) (c to : ℕ) (N : State) → IsOver kinds net M a → Grows kinds net M c to N → ⊥
  over_grows_not M Terminated c to N o g =
      let b = g.chosen.blocked in
      done_wants_none kinds net g.chosen.writer (status M g.chosen.writer) b.answer (o.1 g.chosen.writer) b.wanted
  over_grows_not M Deadlock c to N o g = o.2 g.chosen.writer c g.chosen.blocked
  over_grows_not M Ceiling c to N o g =
      let same = chosen_same M c o.1.0 g.chosen o.1.1 in
      let at : capacity M c ≡ net.ceiling = ap (λ x. capacity M x) same ∙ o.1.2 in
      let below = g.below in
      omega arith
  over_grows_not M Budget c to N o g = absurd o
  over_grows_not M Memory c to N o g = absurd o

  -- if all have stopped, or in a deadlock, no writer is blocked
  pub none_blocked : (M : State) (a : End) → IsNatural a → IsOver kinds net M a → (p c : ℕ) → IsBlocked kinds net M p c → ⊥
  none_blocked M Terminated n o p c b = done_wants_none kinds net p (status M p) b.answer (o.1 p) b.wanted
  none_blocked M Deadlock n o p c b = o.2 p c b
  none_blocked M Ceiling n o p c b = n
  none_blocked M Budget n o p c b = n
  none_blocked M Memory n o p c b = n

  -- a run is over for at most one cause
  pub cause_same : (M : State) (a b : End) → IsOver kinds net M a → IsOver kinds net M b → a ≡ b
  cause_same M Terminated Terminated o u = refl
  cause_same M Terminated Deadlock o u = absurd (u.1.1 (o.1 u.1.0))
  cause_same M Terminated Ceiling o u = absurd (blocked_done_not M u.0.writer u.0.channel (o.1 u.0.writer) u.0.blocked)
  cause_same M Terminated Budget o u = absurd u
  cause_same M Terminated Memory o u = absurd u
  cause_same M Deadlock Terminated o u = absurd (o.1.1 (u.1 o.1.0))
  cause_same M Deadlock Deadlock o u = refl
  cause_same M Deadlock Ceiling o u = absurd (o.2 u.0.writer u.0.channel u.0.blocked)
  cause_same M Deadlock Budget o u = absurd u
  cause_same M Deadlock Memory o u = absurd u
  cause_same M Ceiling Terminated o u = absurd (blocked_done_not M o.0.writer o.0.channel (u.1 o.0.writer) o.0.blocked)
  cause_same M Ceiling Deadlock o u = absurd (u.2 o.0.writer o.0.channel o.0.blocked)
  cause_same M Ceiling Ceiling o u = refl
  cause_same M Ceiling Budget o u = absurd u
  cause_same M Ceiling Memory o u = absurd u
  cause_same M Budget b o u = absurd o
  cause_same M Memory b o u = absurd o
