-- A deed, and the deed that it enables.
use Rattle.std.proofs.Common.{◌≡◌, ◌∷◌, [], arith, length-append, refl, sym, ◌∙◌}
use Rattle.kpn_model.specs.declared.history.Entry.TheVariants.{Did}
use Rattle.kpn_model.specs.Network.{family_of}
use Rattle.kpn_commit.proofs.Waits.{acted_waiting, has_mark, others_blocked}
use Rattle.kpn_commit.proofs.Keeping.{keeps_sparing, keeps_all, keeps_handed}
use Rattle.kpn_commit.proofs.Working.{acted}
use Rattle.kpn_commit.proofs.react.react.Goals as goal

pub returns-then-resume : goal.returns-then-resume
returns-then-resume g c =
    record {
      reacts =
          let r = c.if-resume.ensures.resumes refl in
          let did = c.in-Some.ensures in
          record {
            deed = c.in-Some.deed;
            between = c.advance.new.store;
            standings_between = c.advance.new.standings;
            first = acted _ _ c.args.process c.args.answer c.in-Some.deed c.requires.wants did.is_deed did.entry did.standing;
            other = c.in-Some-partner.other;
            wanted = r.wanted;
            at_other_end = sym c.in-Some-partner.ensures;
            parked = r.parked;
            handed = r.deed;
            second = acted _ _ c.in-Some-partner.other r.wanted r.deed (did.keeps.wanted c.in-Some-partner.other r.wanted r.parked) r.is_deed r.entry r.moves;
          };
      coherent =
          let r = c.if-resume.ensures.resumes refl in
          let did = c.in-Some.ensures in
          record {
            keeps =
                keeps_handed c.requires.coherent.keeps c.args.process c.args.answer c.in-Some.deed c.in-Some-partner.other r.wanted r.deed r.keeps c.requires.process did.is_deed
                (rw did.standing at r.parked) (rw did.entry at r.is_deed) (rw did.standing at r.moves);
            waiting = r.waiting;
          };
    }

pub returns-else-resume : goal.returns-else-resume
returns-else-resume g c =
    record {
      reacts =
          let did = c.in-Some.ensures in
          rw (c.if-resume.ensures.same refl)
          (c.in-Some.deed, acted _ _ c.args.process c.args.answer c.in-Some.deed c.requires.wants did.is_deed did.entry did.standing);
      coherent =
          record {
            keeps =
                rw (c.if-resume.ensures.same refl)
                (keeps_all c.in-Some.ensures.keeps
                (λ q a e at can.
                let is : q ≡ c.in-Some-partner.other = cc (c.in-Some-partner.ensures) in
                c.if-resume.ensures.cannot refl a (rw is at at) (rw is at can)));
            waiting = rw (c.if-resume.ensures.same refl, c.in-Some.ensures.entry, c.in-Some.ensures.standing) (acted_waiting (family_of g.K.Kinds.start g.K.Kinds.answer_of) c.requires.coherent.waiting c.args.process c.args.answer.next c.in-Some.deed c.requires.process c.requires.busy);
          };
    }

pub partner_waits-requires : goal.partner_waits-requires
partner_waits-requires g c = has_mark c.requires.coherent.waiting.marks c.in-Some.deed c.in-Some.ensures.channel

pub returns-in_default-partner : goal.returns-in_default-partner
returns-in_default-partner g c =
    record {
      reacts =
          let did = c.in-Some.ensures in
          (c.in-Some.deed, acted _ _ c.args.process c.args.answer c.in-Some.deed c.requires.wants did.is_deed did.entry did.standing);
      coherent =
          record {
            keeps = rw (← c.in_default-partner.ensures) at c.in-Some.ensures.keeps;
            waiting = rw (c.in-Some.ensures.entry, c.in-Some.ensures.standing) (acted_waiting (family_of g.K.Kinds.start g.K.Kinds.answer_of) c.requires.coherent.waiting c.args.process c.args.answer.next c.in-Some.deed c.requires.process c.requires.busy);
          };
    }

pub returns-then-not-partner_waits : goal.returns-then-not-partner_waits
returns-then-not-partner_waits g c =
    record {
      reacts =
          let did = c.in-Some.ensures in
          (c.in-Some.deed, acted _ _ c.args.process c.args.answer c.in-Some.deed c.requires.wants did.is_deed did.entry did.standing);
      coherent =
          let did = c.in-Some.ensures in
          record {
            keeps =
                keeps_all did.keeps
                (λ q a e at can.
                others_blocked c.requires.coherent.waiting.marks (keeps_sparing c.requires.coherent.keeps c.args.process) c.args.answer c.in-Some.deed c.requires.process did.is_deed (sym c.partner_waits.ensures ∙ c.if-not-partner_waits.true) q a
                (rw did.standing at at) (rw did.entry at can));
            waiting = rw (did.entry, did.standing) (acted_waiting (family_of g.K.Kinds.start g.K.Kinds.answer_of) c.requires.coherent.waiting c.args.process c.args.answer.next c.in-Some.deed c.requires.process c.requires.busy);
          };
    }

pub resume-requires-after_bounds : goal.resume-requires-after_bounds
resume-requires-after_bounds g c κs within =
    record {
      coherent =
          record {
            keeps = rw (← c.in-Some-partner.ensures) at c.in-Some.ensures.keeps;
            waiting = rw (c.in-Some.ensures.entry, c.in-Some.ensures.standing) (acted_waiting (family_of g.K.Kinds.start g.K.Kinds.answer_of) c.requires.coherent.waiting c.args.process c.args.answer.next c.in-Some.deed c.requires.process c.requires.busy);
          };
      room = let more = length-append c.args.core.now.store.history (Did c.args.process c.in-Some.deed ∷ []) in rw c.in-Some.ensures.entry (omega (arith, more, c.requires.room));
    }
