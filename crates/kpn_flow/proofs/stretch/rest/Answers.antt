-- Where no process is ready, the outside can help, or a growth, or nothing.
use Rattle.std.proofs.Common.{arith, refl, rules}
use Rattle.kpn_model.specs.Network.{family_of}
use Rattle.kpn_commit.specs.declared.resolution.Resolution.TheVariants.{Enlarged}
use Rattle.kpn_flow.specs.declared.pause.Pause.TheVariants.{Over}
use Rattle.kpn_flow.proofs.Turning.{alone, resolved_settled, enlarged_turned}
use Rattle.kpn_flow.proofs.Waiting.{awaited_rests, none_can_help, told}
use Rattle.kpn_flow.proofs.stretch.rest.Goals as goal

pub returns-in-Some : goal.returns-in-Some
returns-in-Some g c =
    record {
      settled = c.requires.settled;
      limit = refl;
      run = rw c.requires.emptied refl;
      few = rw c.requires.emptied (omega arith);
      rests = awaited_rests (family_of g.K.Kinds.start g.K.Kinds.answer_of) g.K.Kinds.admits c.args.opened.now.net.now c.args.core.now.store.state c.args.core.now.standings c.requires.settled.fits.keeps c.args.opened.now.inputs.now c.args.opened.now.outputs.now c.requires.idle c.in-Some.pause (rw c.as_slice.ensures.value at c.in-Some.ensures.some);
      none = c.requires.emptied;
      told = told (family_of g.K.Kinds.start g.K.Kinds.answer_of) g.K.Kinds.admits c.args.opened.now.net.now c.args.core.now.store.state c.args.core.now.standings c.requires.settled.fits.keeps c.in-Some.pause c.requires.idle;
      goes = tt;
    }

pub returns-in-Ended : goal.returns-in-Ended
returns-in-Ended g c =
    record {
      settled =
          let resolves = (rw c.in-Ended.is at c.settle.ensures.resolves) in
          record { fits = rw (resolves.1, resolves.2) c.requires.settled.fits; waiting = c.settle.ensures.coherent.waiting };
      limit = rw (rw c.in-Ended.is at c.settle.ensures.resolves).1 refl;
      run = rw ((rw c.in-Ended.is at c.settle.ensures.resolves).1, c.requires.emptied) refl;
      few = rw ((rw c.in-Ended.is at c.settle.ensures.resolves).1, c.requires.emptied) (omega arith);
      rests =
          let kinds = family_of g.K.Kinds.start g.K.Kinds.answer_of in
          let resolves = (rw c.in-Ended.is at c.settle.ensures.resolves) in
          rw resolves.1 (
            resolves.3,
            none_can_help kinds g.K.Kinds.admits c.args.opened.now.net.now c.args.core.now.store.state c.args.core.now.standings c.requires.settled.fits.keeps c.requires.idle c.args.opened.now.inputs.now c.args.opened.now.outputs.now (rw c.as_slice.ensures.value at c.in_default.ensures.not_fed) (rw c.as_slice.ensures.value at c.in_default.ensures.not_drained),
          );
      none = rw (rw c.in-Ended.is at c.settle.ensures.resolves).1 c.requires.emptied;
      told =
          let resolves = (rw c.in-Ended.is at c.settle.ensures.resolves) in
          rw (resolves.1, resolves.2) (told (family_of g.K.Kinds.start g.K.Kinds.answer_of) g.K.Kinds.admits c.args.opened.now.net.now c.args.core.now.store.state c.args.core.now.standings c.requires.settled.fits.keeps (Over c.in-Ended.end) c.requires.idle);
      goes = tt;
    }

pub returns-in-Enlarged : goal.returns-in-Enlarged
returns-in-Enlarged g c =
    record {
      settled =
          record {
            fits =
                resolved_settled (family_of g.K.Kinds.start g.K.Kinds.answer_of) g.K.Kinds.admits c.args.opened.now.net.now c.args.core.now.store c.args.core.now.standings Enlarged c.settle.new.core.store c.settle.new.core.standings c.requires.settled.fits.none_out (rw c.in-Enlarged.is at c.settle.ensures.resolves) c.settle.ensures.coherent.keeps;
            waiting = c.settle.ensures.coherent.waiting;
          };
      limit = search rules;
      run =
          let kinds = family_of g.K.Kinds.start g.K.Kinds.answer_of in
          let none = none_can_help kinds g.K.Kinds.admits c.args.opened.now.net.now c.args.core.now.store.state c.args.core.now.standings c.requires.settled.fits.keeps c.requires.idle c.args.opened.now.inputs.now c.args.opened.now.outputs.now
          (rw c.as_slice.ensures.value at c.in_default.ensures.not_fed) (rw c.as_slice.ensures.value at c.in_default.ensures.not_drained) in
          (alone kinds c.args.opened.now.net.now c.args.opened.now.inputs.now c.args.opened.now.outputs.now c.args.core.now.store c.settle.new.core.store c.args.core.now.standings c.settle.new.core.standings 1 1 c.requires.emptied (enlarged_turned kinds c.args.opened.now.net.now c.args.opened.now.inputs.now c.args.opened.now.outputs.now c.args.core.now.store c.args.core.now.standings c.settle.new.core.store c.settle.new.core.standings none (rw c.in-Enlarged.is at c.settle.ensures.resolves).1)).run;
      few = search rules;
      rests = tt;
      none = tt;
      told = tt;
      goes =
          let kinds = family_of g.K.Kinds.start g.K.Kinds.answer_of in
          let none = none_can_help kinds g.K.Kinds.admits c.args.opened.now.net.now c.args.core.now.store.state c.args.core.now.standings c.requires.settled.fits.keeps c.requires.idle c.args.opened.now.inputs.now c.args.opened.now.outputs.now
          (rw c.as_slice.ensures.value at c.in_default.ensures.not_fed) (rw c.as_slice.ensures.value at c.in_default.ensures.not_drained) in
          (alone kinds c.args.opened.now.net.now c.args.opened.now.inputs.now c.args.opened.now.outputs.now c.args.core.now.store c.settle.new.core.store c.args.core.now.standings c.settle.new.core.standings 1 1 c.requires.emptied (enlarged_turned kinds c.args.opened.now.net.now c.args.opened.now.inputs.now c.args.opened.now.outputs.now c.args.core.now.store c.args.core.now.standings c.settle.new.core.store c.settle.new.core.standings none (rw c.in-Enlarged.is at c.settle.ensures.resolves).1)).goes;
    }
