-- The process at the head of the queue is ready.
use Rattle.std.proofs.Common.{◌∙◌, sym, arith, rules}
use Rattle.kpn_state.proofs.Rostered.{front_ready, front_within, kept_sent}
use Rattle.kpn_state.proofs.roster.Roster.send_out.Goals as goal

pub index_mut-requires : goal.index_mut-requires
index_mut-requires c =
    let within = front_within _ _ _ _ _ c.self.invariant c.in_ok-process.process (sym c.pop_front.ensures.value ∙ c.in_ok-process.was) in
    omega (arith, within, c.self.inside.standings.ok.0)

pub invariant_of-self-2 : goal.invariant_of-self-2
invariant_of-self-2 c = rw c.pop_front.ensures.items (kept_sent _ _ _ _ _ c.self.invariant c.in_ok-process.process (sym c.pop_front.ensures.value ∙ c.in_ok-process.was))

pub returns-clause-some : goal.returns-clause-some
returns-clause-some c =
    record {
      was =
          record {
            ready = rw (← c.self.view_is) (front_ready _ _ _ _ _ c.self.invariant c.in_ok-process.process (sym c.pop_front.ensures.value ∙ c.in_ok-process.was));
            within = rw (← c.self.view_is) (front_within _ _ _ _ _ c.self.invariant c.in_ok-process.process (sym c.pop_front.ensures.value ∙ c.in_ok-process.was));
          };
      out = search rules;
    }
