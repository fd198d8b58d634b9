-- Some process is ready or out if one is counted.
use Rattle.std.proofs.Common.{◌≡◌, ◌+◌, sym, ap, ◌∙◌, arith}
use Rattle.std.specs.List.{count_by}
use Rattle.std.specs.Prelude.{nat_lt}
use Rattle.kpn_state.specs.Standings.{is_ready, is_out}
use Rattle.kpn_state.proofs.Rostered.{busy_counted}
use Rattle.kpn_state.proofs.roster.Roster.any_busy.Goals as goal

pub returns : goal.returns
returns c =
    let k = c.self.invariant in
    let standings = c.self.inside.standings.items in
    let ready : c.ready.result ≡ count_by is_ready standings = rw (← c.self.view_is) at c.ready.ensures in
    let both : c.ready.result + c.self.inside.out ≡ count_by is_ready standings + count_by is_out standings = omega (arith, ready, k.out_is) in
    rw (← c.self.view_is) (ap (λ n. nat_lt 0 n) both ∙ sym (busy_counted standings))
