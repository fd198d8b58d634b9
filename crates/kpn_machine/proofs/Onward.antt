-- The machine's invariant is kept where the answer of a process is taken and the process goes out again.
use Rattle.std.proofs.Common.{◌≡◌, ◌≢◌, ◌∙◌, List, length, get_or-set_other, refl, sym, arith, ℕ, ◌+◌, ◌<◌, None, Some, Option, set}
use Rattle.std.proofs.lemmas.List.{set-set, set-get_or}
use Rattle.kpn_model.specs.declared.token.Token.{Token}
use Rattle.kpn_model.specs.declared.kinds.Card.{Card}
use Rattle.kpn_model.specs.declared.history.Entry.{Entry}
use Rattle.kpn_model.specs.declared.history.End.{End}
use Rattle.kpn_model.specs.declared.history.Status.TheVariants.{Live}
use Rattle.kpn_model.specs.Network.{Network, Family, Admits}
use Rattle.kpn_model.specs.Semantics.{State, status}
use Rattle.kpn_body.specs.Input.{Input, answer_to, input}
use Rattle.kpn_state.specs.StateAndHistory.{state_and_history}
use Rattle.kpn_state.specs.declared.standing.Standing.{Standing}
use Rattle.kpn_state.specs.declared.standing.Standing.TheVariants.{Ready, Out, Stopped}
use Rattle.kpn_state.specs.Standings.{standing, StandingsFit}
use Rattle.kpn_state.proofs.Placed.{standing_set_same}
use Rattle.kpn_commit.specs.declared.outcome.Outcome.{Outcome}
use Rattle.kpn_commit.specs.Works.{Works}
use Rattle.kpn_machine.specs.MachineView.{MachineView, machine_view, IsOutAt, IsSound}
use Rattle.kpn_machine.specs.Commits.{CommitsOn}
use Rattle.kpn_machine.proofs.Sound.{worked, sound_taken, out_within}

-- it keeps the invariant, and is one of the definitions
pub record GoesOn (kinds : Family) (admits : Admits) (s : MachineView) (i : Input) (o : Outcome) (j : Input) (t : MachineView) (limit : ℕ) (bodies : List (Option Card)) : Type 0 where
  pub sound : IsSound kinds admits t limit bodies
  pub goes : CommitsOn kinds s i o j t

pub went_on :
    {kinds : Family} {admits : Admits} {net : Network} {M : State} {E : List Entry} {l : List Standing} {end : Option End} {commits limit : ℕ} {bodies : List (Option Card)} → IsSound kinds admits (machine_view net M E l end commits) limit bodies → (i : Input) → IsOutAt net M l i → end ≡ None
    → (o : Outcome) (N : State) (F : List Entry) (m : List Standing) (rest : ℕ) → standing m i.process ≡ standing l i.process → length m ≡ length l
    → Works kinds net (state_and_history M E limit) l i.process (answer_to kinds i) o (state_and_history N F rest) (set m i.process Ready) None → StandingsFit kinds admits net None N (set m i.process Ready)
    → (local : List ℕ) (last : Option Token) → status N i.process ≡ Live local last
    → GoesOn kinds admits (machine_view net M E l end commits) i o (input i.process i.card local last) (machine_view net N F m end (commits + 1)) rest bodies
went_on {kinds = kinds} {admits = admits} {net = net} {l = l} {commits = commits} {bodies = bodies} h i out none o N F m rest same long works k local last live =
    let p = i.process in
    let w = worked h i out none o N F (set m p Ready) None rest works k in
    let within = out_within h i out in
    let there : p < length m = omega (arith, within, long) in
    let ready : standing (set m p Ready) p ≡ Ready = standing_set_same m p Ready there in
    let stand : standing m p ≡ Out = same ∙ out.out in
    let back : set (set m p Ready) p Out ≡ m = rw (set-set, ← stand) (set-get_or m p Stopped) in
    let t = rw back at (sound_taken w.sound p refl ready) in
    rw none (record {
      sound = record {
        run = t.run;
        keeps = t.keeps;
        limit_is = t.limit_is;
        many_bodies = h.many_bodies;
        has_bodies = λ q below not.
            let other : q ≢ p = λ e. not (rw e stand) in
            sym (get_or-set_other (set bodies p (Some i.card)) p q None None other ∙ get_or-set_other bodies p q (Some i.card) None other) ∙ t.has_bodies q below not;
        few = t.few;
        ends = t.ends;
        busy = t.busy;
        idle = t.idle;
        asked = t.asked;
        laid = t.laid;
      };
      goes = record {
        between = machine_view net N F (set m p Ready) None (commits + 1);
        commits = rw none at w.commits;
        appends = rw none at w.appends;
        tells = rw none at w.tells;
        takes = record { ready = ready; card = out.card; live = live; after = rw back refl };
        same = refl;
      };
    })
