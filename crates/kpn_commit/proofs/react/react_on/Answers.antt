-- A deed, and the deed that it enables, of a process that is left as it stands.
use Rattle.std.proofs.Common.{◌≡◌, ◌<◌, ◌∷◌, [], arith, length, length-append, length-set, refl, sym, ◌∙◌, set, true}
use Rattle.kpn_model.specs.declared.history.Entry.TheVariants.{Did}
use Rattle.kpn_model.specs.Network.{family_of}
use Rattle.kpn_state.specs.declared.standing.Standing.TheVariants.{Ready}
use Rattle.kpn_state.specs.Standings.{standing, standing_after, is_busy}
use Rattle.kpn_state.proofs.Placed.{standing_set_other}
use Rattle.kpn_commit.proofs.Waits.{acted_waiting, busy_waiting, deed_waiting, has_mark, others_blocked}
use Rattle.kpn_commit.proofs.Keeping.{keeps_sparing, keeps_all, keeps_handed, keeps_still, still_parked}
use Rattle.kpn_commit.proofs.Working.{acted}
use Rattle.kpn_commit.proofs.Onward.{keeps_left, apart, stays, swapped}
use Rattle.kpn_commit.proofs.react.react_on.Goals as goal

pub advance_on-requires-after_bounds : goal.advance_on-requires-after_bounds
advance_on-requires-after_bounds g c κs within =
    record {
      keeps = keeps_sparing c.requires.coherent.keeps c.args.process;
      process = c.requires.process;
      wants = c.requires.wants;
      room = let room = c.requires.room in omega arith;
    }

pub partner_waits-requires : goal.partner_waits-requires
partner_waits-requires g c = has_mark c.requires.coherent.waiting.marks c.in_ok-deed.deed c.in_ok-deed.ensures.acts.channel

pub resume-requires-after_bounds : goal.resume-requires-after_bounds
resume-requires-after_bounds g c κs within =
    let did = c.in_ok-deed.ensures.acts in
    record {
      coherent =
          record {
            keeps = keeps_left c.requires.process c.requires.busy (rw (← c.in-Some.ensures, did.ready) at did.keeps);
            waiting = rw c.in_ok-deed.ensures.acts.entry (deed_waiting (family_of g.K.Kinds.start g.K.Kinds.answer_of) c.requires.coherent.waiting c.args.process c.args.answer.next c.in_ok-deed.deed);
          };
      room = let more = length-append c.args.core.now.store.history (Did c.args.process c.in_ok-deed.deed ∷ []) in rw did.entry (omega (arith, more, c.requires.room));
    }

pub returns-then-resume-clause-reacts : goal.returns-then-resume-clause-reacts
returns-then-resume-clause-reacts g c =
    record {
      reacts =
          let l = c.args.core.now.standings in
          let p = c.args.process in
          let did = c.in_ok-deed.ensures.acts in
          let r = c.if-resume.ensures.resumes refl in
          let other = c.in-Some.other in
          let ne = apart c.args.core.now.standings c.args.process c.requires.busy other r.wanted r.parked in
          let fit = keeps_left c.requires.process c.requires.busy (rw (← c.in-Some.ensures, did.ready) at did.keeps) in
          record {
            deed = c.in_ok-deed.deed;
            between = c.advance_on.new.store;
            standings_between = set l p Ready;
            first = acted _ l p c.args.answer c.in_ok-deed.deed c.requires.wants did.is_deed did.entry (rw did.ready refl);
            other = other;
            wanted = r.wanted;
            at_other_end = sym c.in-Some.ensures;
            parked = standing_set_other l p other Ready ne ∙ r.parked;
            handed = r.deed;
            second = acted _ (set l p Ready) other r.wanted r.deed (fit.wanted other r.wanted r.parked) r.is_deed r.entry (rw r.moves (swapped l p other (standing_after r.deed) ne));
          };
      coherent =
          let l = c.args.core.now.standings in
          let p = c.args.process in
          let did = c.in_ok-deed.ensures.acts in
          let r = c.if-resume.ensures.resumes refl in
          let other = c.in-Some.other in
          let ne = apart c.args.core.now.standings c.args.process c.requires.busy other r.wanted r.parked in
          let same = stays l p other (standing_after r.deed) ne in
          let long = length-set l other (standing_after r.deed) in
          let there : p < length (set l other (standing_after r.deed)) = omega (arith, long, c.requires.process) in
          let busy : is_busy (standing (set l other (standing_after r.deed)) p) ≡ true = rw same c.requires.busy in
          record {
            keeps =
                keeps_handed c.requires.coherent.keeps p c.args.answer c.in_ok-deed.deed other r.wanted r.deed (keeps_still r.keeps p Ready (rw r.moves there) (rw r.moves busy) refl) c.requires.process did.is_deed
                (rw did.ready (standing_set_other l p other Ready ne ∙ r.parked)) (rw did.entry at r.is_deed) (rw (did.ready, r.moves) (swapped l p other (standing_after r.deed) ne));
            waiting = busy_waiting r.waiting p Ready (rw r.moves there) (rw r.moves busy) refl;
          };
    }

pub returns-then-resume-clause-standing : goal.returns-then-resume-clause-standing
returns-then-resume-clause-standing g c =
    let r = c.if-resume.ensures.resumes refl in
    let l = c.args.core.now.standings in
    let other = c.in-Some.other in
    record {
      stays = rw r.moves (stays l c.args.process other (standing_after r.deed) (apart l c.args.process c.requires.busy other r.wanted r.parked));
      many = rw r.moves (length-set l other (standing_after r.deed));
    }

pub returns-else-resume-clause-reacts : goal.returns-else-resume-clause-reacts
returns-else-resume-clause-reacts g c =
    record {
      reacts =
          let did = c.in_ok-deed.ensures.acts in
          rw (c.if-resume.ensures.same refl)
          (c.in_ok-deed.deed, acted _ c.args.core.now.standings c.args.process c.args.answer c.in_ok-deed.deed c.requires.wants did.is_deed did.entry (rw did.ready refl));
      coherent =
          let did = c.in_ok-deed.ensures.acts in
          record {
            keeps =
                rw (c.if-resume.ensures.same refl, ← did.ready)
                (keeps_all did.keeps
                (λ q a e at can.
                let is : q ≡ c.in-Some.other = cc (c.in-Some.ensures) in
                c.if-resume.ensures.cannot refl a (rw is at (still_parked c.args.core.now.standings c.args.process c.in_ok-deed.deed a c.requires.process q at).1) (rw is at can)));
            waiting = rw (c.if-resume.ensures.same refl, c.in_ok-deed.ensures.acts.entry, ← c.in_ok-deed.ensures.acts.ready) (acted_waiting (family_of g.K.Kinds.start g.K.Kinds.answer_of) c.requires.coherent.waiting c.args.process c.args.answer.next c.in_ok-deed.deed c.requires.process c.requires.busy);
          };
    }

pub returns-then-not-partner_waits-clause-reacts : goal.returns-then-not-partner_waits-clause-reacts
returns-then-not-partner_waits-clause-reacts g c =
    record {
      reacts =
          let did = c.in_ok-deed.ensures.acts in
          (c.in_ok-deed.deed, acted _ c.args.core.now.standings c.args.process c.args.answer c.in_ok-deed.deed c.requires.wants did.is_deed did.entry (rw did.ready refl));
      coherent =
          let did = c.in_ok-deed.ensures.acts in
          record {
            keeps =
                rw (← did.ready) (keeps_all did.keeps
                (λ q a e at can.
                others_blocked c.requires.coherent.waiting.marks (keeps_sparing c.requires.coherent.keeps c.args.process) c.args.answer c.in_ok-deed.deed c.requires.process did.is_deed (sym c.partner_waits.ensures ∙ c.if-not-partner_waits.true) q a at (rw did.entry at can)));
            waiting = rw (c.in_ok-deed.ensures.acts.entry, ← c.in_ok-deed.ensures.acts.ready) (acted_waiting (family_of g.K.Kinds.start g.K.Kinds.answer_of) c.requires.coherent.waiting c.args.process c.args.answer.next c.in_ok-deed.deed c.requires.process c.requires.busy);
          };
    }

pub returns-in_default-clause-reacts : goal.returns-in_default-clause-reacts
returns-in_default-clause-reacts g c =
    record {
      reacts =
          let did = c.in_ok-deed.ensures.acts in
          (c.in_ok-deed.deed, acted _ c.args.core.now.standings c.args.process c.args.answer c.in_ok-deed.deed c.requires.wants did.is_deed did.entry (rw did.ready refl));
      coherent =
          record {
            keeps = rw (← c.in_default.ensures, c.in_ok-deed.ensures.acts.ready) at c.in_ok-deed.ensures.acts.keeps;
            waiting = rw (c.in_ok-deed.ensures.acts.entry, ← c.in_ok-deed.ensures.acts.ready) (acted_waiting (family_of g.K.Kinds.start g.K.Kinds.answer_of) c.requires.coherent.waiting c.args.process c.args.answer.next c.in_ok-deed.deed c.requires.process c.requires.busy);
          };
    }
