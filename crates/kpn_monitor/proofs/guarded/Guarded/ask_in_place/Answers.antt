-- What the answers appended is booked.
use Rattle.std.proofs.Common.{◌≡◌, ◌∙◌, [], Some, ap, arith, refl}
use Rattle.std.proofs.lemmas.Grind.{common_steps}
use Rattle.kpn_model.specs.Network.{family_of}
use Rattle.kpn_monitor.specs.Views.{Shares}
use Rattle.kpn_monitor.proofs.Handing.{rounds_append}
use Rattle.kpn_monitor.proofs.guarded.Guarded.ask_in_place.Goals as goal

pub returns : goal.returns
returns g c =
    let rounds = c.ask_in_place-answers.ensures.rounds in
    let many = rounds_append (family_of g.B.Kinds.Kinds.start g.B.Kinds.Kinds.answer_of) c.self.inside.machine rounds.0 c.ask_in_place-answers.new.self rounds.2 in
    record {
      asks = record {
        went = (
          rounds.0,
          rounds.1,
          omega (arith, ap (λ (s : Shares). s.entries) c.add_entries.ensures.seat, many, c.entries-before.ensures, c.entries.ensures),
          record {
            before = c.self.inside.machine;
            after = c.ask_in_place-answers.new.self;
            network = c.self.invariant.0.network;
            faithful = c.assure_faithful.ensures.faithful;
            rounds = rounds.2;
          },
        );
        parts = ap (λ (s : Shares). s.parts) c.add_entries.ensures.seat;
        on = λ n w is. grind (arith, common_steps);
        nowhere = λ is. absurd (cc);
        found = λ is. absurd (cc);
        over = λ e is. absurd (cc);
        ended = λ e is. absurd (cc);
      };
      machine = rw (← c.self.view_is) c.ask_in_place-answers.ensures.goes;
      rounds = rw (← c.self.view_is) rounds.2;
      stands = λ e is. absurd (cc);
    }

-- no answer was taken
pub returns-in-None : goal.returns-in-None
returns-in-None g c = record {
  asks = record {
    went = (
      [],
      refl,
      grind (arith, common_steps),
      record {
        before = c.self.inside.machine;
        after = c.self.inside.machine;
        network = c.self.invariant.0.network;
        faithful = c.assure_faithful.ensures.faithful;
        rounds = refl;
      },
    );
    parts = ap (λ (s : Shares). s.parts) c.in-None.ensures.nothing;
    on = λ n w is. absurd (cc);
    nowhere = λ is. c.in-None.ensures.nothing;
    found = λ is some. grind (arith, common_steps);
    over = λ e is. absurd (cc);
    ended = λ e is. absurd (cc);
  };
  machine = grind (arith, common_steps);
  rounds = grind (arith, common_steps);
  stands = λ e is. absurd (cc);
}

pub returns-in-Some : goal.returns-in-Some
returns-in-Some g c = record {
  asks = record {
    went = (
      [],
      refl,
      grind (arith, common_steps),
      record {
        before = c.self.inside.machine;
        after = c.self.inside.machine;
        network = c.self.invariant.0.network;
        faithful = c.assure_faithful.ensures.faithful;
        rounds = refl;
      },
    );
    parts = ap (λ (s : Shares). s.parts) c.in-Some.ensures.over.0;
    on = λ n w is. absurd (cc);
    nowhere = λ is. absurd (cc);
    found = λ is. absurd (cc);
    over = λ e is. c.in-Some.ensures.over.0;
    ended = λ e is. let same : c.in-Some.end ≡ e = cc in rw (← same) c.in-Some.ensures.ended;
  };
  machine = grind (arith, common_steps);
  rounds = grind (arith, common_steps);
  stands = λ e is. let same : c.in-Some.end ≡ e = cc in c.in-Some.ensures.over.1 ∙ ap Some same;
}

pub invariant_of-self-2 : goal.invariant_of-self-2
invariant_of-self-2 g c = grind (arith, common_steps)

pub invariant_of-self : goal.invariant_of-self
invariant_of-self g c = grind (arith, common_steps)

pub overflow_sub-more : goal.overflow_sub-more
overflow_sub-more g c = grind (arith, common_steps)
