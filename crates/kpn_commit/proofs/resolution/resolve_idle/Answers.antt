-- If no process is ready or out, the run ends as the definitions say, or the chosen channel grows.
use Rattle.std.proofs.Common.{◌≡◌, ◌+◌, min, sym, ◌∙◌, arith, refl}
use Rattle.kpn_model.specs.Semantics.{capacity}
use Rattle.kpn_state.specs.Standings.{standing}
use Rattle.kpn_commit.proofs.Waits.{waiting_writer}
use Rattle.kpn_commit.proofs.Candidates.{candidate_within, chosen}
use Rattle.kpn_commit.proofs.Idle.{idle_quiet, some_live, all_done, none_blocked, smallest_artificial, smallest_chosen}
use Rattle.kpn_commit.proofs.Enlarging.{growth, grows_and_puts, keeps_enlarged, keeps_after_put, waiting_after_put, put_possible}
use Rattle.kpn_commit.proofs.resolution.resolve_idle.Goals as goal

pub returns-then-all_stopped : goal.returns-then-all_stopped
returns-then-all_stopped g c =
    record {
      resolves =
          let k = c.requires.coherent.keeps in
          (c.requires.idle, refl, refl, (idle_quiet k c.requires.idle, all_done k (sym c.all_stopped.ensures ∙ c.if-all_stopped.true)));
      coherent = c.requires.coherent;
    }

pub returns-in_default : goal.returns-in_default
returns-in_default g c =
    record {
      resolves =
          let k = c.requires.coherent.keeps in (
            c.requires.idle,
            refl,
            refl,
            (
              idle_quiet k c.requires.idle,
              some_live k (sym c.all_stopped.ensures ∙ c.if-all_stopped.false),
              none_blocked k c.requires.idle (chosen c.requires.coherent.waiting.candidates c.in_default.ensures.ordered _ c.in_default.ensures.first),
            ),
          );
      coherent = c.requires.coherent;
    }

pub returns-then-capacity-ceiling : goal.returns-then-capacity-ceiling
returns-then-capacity-ceiling g c =
    record {
      resolves =
          let idle = c.requires.idle in
          let k = c.requires.coherent.keeps in
          let best = chosen c.requires.coherent.waiting.candidates c.in-Some.ensures.ordered _ c.in-Some.ensures.first in
          let most = k.greatest c.in-Some.channel in
          (idle, refl, refl, (smallest_artificial k idle c.in-Some.channel c.in-Some.writer best, (c.in-Some.channel, smallest_chosen k idle c.in-Some.channel c.in-Some.writer best, omega arith)));
      coherent = c.requires.coherent;
    }

pub returns-in_default-grow : goal.returns-in_default-grow
returns-in_default-grow g c =
    record {
      resolves =
          let idle = c.requires.idle in
          let k = c.requires.coherent.keeps in
          let best = chosen c.requires.coherent.waiting.candidates c.in-Some.ensures.ordered _ c.in-Some.ensures.first in
          let parked = rw c.as_slice.ensures.value at c.in-Some-parked.ensures.some in
          let to_is : c.enlarged-to.result ≡ min (capacity c.args.core.now.store.state c.in-Some.channel + c.args.net.now.step) c.args.net.now.ceiling = rw (← c.tokens_and_capacity-capacity.ensures.capacity, ← c.step.ensures, ← c.ceiling-2.ensures) c.enlarged-to.ensures in
          (idle, c.in_default-grow.ensures.err, refl, record { channel = c.in-Some.channel; to = c.enlarged-to.result; next = _; grows = growth k c.in-Some.channel c.in-Some.writer c.enlarged-to.result best.0 c.in-Some-parked.answer parked idle best (omega arith) to_is });
      coherent = rw c.in_default-grow.ensures.err c.requires.coherent;
    }

pub choose-requires-after_bounds : goal.choose-requires-after_bounds
choose-requires-after_bounds g c κs within = candidate_within c.requires.coherent.waiting.candidates

pub unlist-requires : goal.unlist-requires
unlist-requires g c = let l = c.requires.coherent.waiting.marks.each_writer in omega (arith, l, c.in-Some.ensures.channel)

pub unreachable-requires : goal.unreachable-requires
unreachable-requires g c =
    let best = chosen c.requires.coherent.waiting.candidates c.in-Some.ensures.ordered _ c.in-Some.ensures.first in
    let w = waiting_writer c.args.net.now c.in-Some.writer c.in-Some.channel (standing c.args.core.now.standings c.in-Some.writer) best.0 in
    (rw c.as_slice.ensures.value at c.in_default-parked.ensures.none) w.answer w.parked

pub advance-requires-clause-keeps : goal.advance-requires-clause-keeps
advance-requires-clause-keeps g c κs within =
    let best = chosen c.requires.coherent.waiting.candidates c.in-Some.ensures.ordered _ c.in-Some.ensures.first in
    rw c.in-Ok.ensures.ok
    (keeps_enlarged c.requires.coherent.keeps c.in-Some.channel c.in-Some.writer c.enlarged-to.result best.0 (omega (arith, c.enlarged-to.ensures, c.tokens_and_capacity-capacity.ensures.capacity)) (omega (arith, c.enlarged-to.ensures, c.ceiling-2.ensures)))

pub unreachable-requires-in_default-advance : goal.unreachable-requires-in_default-advance
unreachable-requires-in_default-advance g c =
    let best = chosen c.requires.coherent.waiting.candidates c.in-Some.ensures.ordered _ c.in-Some.ensures.first in
    let parked = rw c.as_slice.ensures.value at c.in-Some-parked.ensures.some in
    c.in_default-advance.ensures.cannot
    (rw c.in-Ok.ensures.ok
    (put_possible c.requires.coherent.keeps c.in-Some.channel c.in-Some.writer c.enlarged-to.result best.0 c.in-Some-parked.answer parked
    (omega (arith, c.assure_valid.ensures.valid.some_step, c.enlarged-to.ensures, c.tokens_and_capacity-capacity.ensures.capacity, c.tokens_and_capacity-capacity.ensures.within, c.tokens_and_capacity-capacity.ensures.tokens))))

pub returns : goal.returns
returns g c =
    record {
      resolves =
          let did = c.in-Some-advance.ensures in
          let best = chosen c.requires.coherent.waiting.candidates c.in-Some.ensures.ordered _ c.in-Some.ensures.first in
          let parked = rw c.as_slice.ensures.value at c.in-Some-parked.ensures.some in
          let to_is : c.enlarged-to.result ≡ min (capacity c.args.core.now.store.state c.in-Some.channel + c.args.net.now.step) c.args.net.now.ceiling = rw (← c.tokens_and_capacity-capacity.ensures.capacity, ← c.step.ensures, ← c.ceiling-2.ensures) c.enlarged-to.ensures in (
            c.requires.idle,
            rw (did.entry, did.standing, c.in-Ok.ensures.ok)
                (grows_and_puts c.requires.coherent.keeps c.in-Some.channel c.in-Some.writer c.enlarged-to.result best.0 c.in-Some-parked.answer parked c.requires.idle best (omega arith) to_is c.args.core.now.store.history c.args.core.now.store.limit c.in-Some-advance.field-0 (rw c.in-Ok.ensures.ok at did.is_deed)),
          );
      coherent =
          let did = c.in-Some-advance.ensures in
          let best = chosen c.requires.coherent.waiting.candidates c.in-Some.ensures.ordered _ c.in-Some.ensures.first in
          let parked = rw c.as_slice.ensures.value at c.in-Some-parked.ensures.some in
          record {
            keeps =
                rw (did.entry, did.standing, c.in-Ok.ensures.ok)
                (keeps_after_put c.requires.coherent.keeps c.in-Some.channel c.in-Some.writer c.enlarged-to.result best.0 c.in-Some-parked.answer parked c.requires.coherent.waiting c.in-Some-advance.field-0
                (omega (arith, c.enlarged-to.ensures, c.tokens_and_capacity-capacity.ensures.capacity)) (omega (arith, c.enlarged-to.ensures, c.ceiling-2.ensures)) (rw c.in-Ok.ensures.ok at did.is_deed) (rw (did.entry, did.standing, c.in-Ok.ensures.ok) at did.keeps));
            waiting =
                rw (did.entry, did.standing, c.in-Ok.ensures.ok, c.unlist.ensures.marks)
                (waiting_after_put c.requires.coherent.keeps c.in-Some.channel c.in-Some.writer c.enlarged-to.result best.0 c.in-Some-parked.answer parked c.requires.coherent.waiting c.in-Some-advance.field-0 c.unlist.new.waiting.candidates
                (rw c.tokens_and_capacity-capacity.ensures.capacity at c.unlist.ensures.candidates.pairs) (rw c.tokens_and_capacity-capacity.ensures.capacity at c.unlist.ensures.candidates.many) c.unlist.ensures.candidates.limit);
          };
    }
