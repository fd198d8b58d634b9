-- The name in a kind's row means this kind.
use Rattle.std.proofs.Common.{◌≡◌, Some, refl}
use Rattle.kpn_signals.specs.declared.signal.Signal.{Signal}
use Rattle.kpn_signals.specs.declared.signal.Signal.TheVariants.{Input, InputFlags, Drain, DrainFlags, Constant, CountUp, Sub, Mul, Shift, Left, Less, Equal, Not, And, Or, Decimate, Repeat, Hold, Delay, LowPass, Clip, SignedConstant, SignedHold, SignedClip, SignedScale, SignedPrefix, CopyFlags, Min, Max, Abs, Offset, Gain, Div, Mod, Sum, Difference, Average, Counter, Edge, Noise, Gate, SignedOffset, SignedGain}
use Rattle.kpn_signals.specs.Table.{row_of}
use Rattle.kpn_signals.specs.Signatures.{number_named}
use Rattle.kpn_signals.proofs.signal.Signal.row.Goals as goal

means_itself : (kind : Signal) → number_named (row_of kind).name ≡ Some ((row_of kind).number, (row_of kind).arguments)
means_itself Input = refl
means_itself InputFlags = refl
means_itself Drain = refl
means_itself DrainFlags = refl
means_itself Constant = refl
means_itself CountUp = refl
means_itself Sub = refl
means_itself Mul = refl
means_itself Shift = refl
means_itself Left = refl
means_itself Less = refl
means_itself Equal = refl
means_itself Not = refl
means_itself And = refl
means_itself Or = refl
means_itself Decimate = refl
means_itself Repeat = refl
means_itself Hold = refl
means_itself Delay = refl
means_itself LowPass = refl
means_itself Clip = refl
means_itself SignedConstant = refl
means_itself SignedHold = refl
means_itself SignedClip = refl
means_itself SignedScale = refl
means_itself SignedPrefix = refl
means_itself CopyFlags = refl
means_itself Min = refl
means_itself Max = refl
means_itself Abs = refl
means_itself Offset = refl
means_itself Gain = refl
means_itself Div = refl
means_itself Mod = refl
means_itself Sum = refl
means_itself Difference = refl
means_itself Average = refl
means_itself Counter = refl
means_itself Edge = refl
means_itself Noise = refl
means_itself Gate = refl
means_itself SignedOffset = refl
means_itself SignedGain = refl

pub returns-clause-means : goal.returns-clause-means
returns-clause-means c = rw (c.heading-number.ensures.name, c.heading-number.ensures.number, c.heading-number.ensures.arguments, means_itself c.args.self)
