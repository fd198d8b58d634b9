use Rattle.std.proofs.Common.{◌+◌, ◌-◌, ◌*◌, ◌^◌, replicate, subst, sym, arith}
use Rattle.kpn_formula.proofs.Runs.{IsRunning, starts_running, keeps_running, has_run, goes_on, ended}
use Rattle.kpn_formula.proofs.running.run_within.Goals as goal

pub loop-stack-init : goal.loop-stack-init
loop-stack-init g c =
    let n = c.args.low + 2 ^ 64 * c.args.middle + 2 ^ 128 * c.args.high in
    subst (λ m. IsRunning g.row.N n c.args.values.now (replicate g.row.N 0) (g.row.N - 1) c.args.values.now 0 m) (sym c.of-cursor.ensures)
    (starts_running g.row.N n c.args.values.now c.requires.some c.requires.short)

pub perform-requires : goal.perform-requires
perform-requires g c = (omega (arith, c.requires.few), (omega (arith, c.code.ensures), c.loop-stack.invariant.stack))

pub loop-stack-preserved : goal.loop-stack-preserved
loop-stack-preserved g c =
    keeps_running g.row.N _ c.args.values.now c.loop-stack.words c.loop-stack.stack.top c.loop-stack.values c.loop-stack.stack.last c.loop-stack.cursor c.loop-stack.invariant c.code.result c.code.ensures
    (goes_on c.code.result c.perform.result c.perform.ensures.goes_on c.loop-stack-test.true)
    c.perform.new.cursor c.perform.new.self.top c.perform.new.self.last c.perform.new.words c.perform.new.values c.perform.ensures.is c.perform.ensures.rest c.perform.ensures.stack

pub returns : goal.returns
returns g c =
    has_run g.row.N _ c.args.values.now c.loop-stack.words c.loop-stack.stack.top c.loop-stack.values c.loop-stack.stack.last c.loop-stack.cursor c.loop-stack.invariant c.code.result c.code.ensures
    (ended c.code.result c.perform.result c.perform.ensures.goes_on c.loop-stack-test.false)
    c.perform.new.self.top c.perform.new.self.last c.perform.new.words c.perform.new.values c.perform.ensures.is
