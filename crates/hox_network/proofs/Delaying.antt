-- Channels with their delays, one after another.
use Rattle.std.proofs.Common.{◌≡◌, ℕ, ◌+◌, List, [], ◌∷◌, ◌++◌, length, Option, refl, sym, ap, ◌∙◌, arith}
use Rattle.kpn_model.specs.declared.kinds.Card.{Card}
use Rattle.kpn_model.specs.declared.kinds.Signature.{Signature}
use Rattle.kpn_sketch.specs.declared.sketch.ChannelSketch.{ChannelSketch}
use Rattle.kpn_sketch.specs.declared.sketch.Delay.{Delay}
use Rattle.kpn_sketch.specs.declared.sketch.Sketch.{Sketch}
use Rattle.hox_network.specs.Ports.{sort_by_ports}
use Rattle.hox_network.specs.Delays.{delay_at, delayed, delayed_from}

module _ (named : List ℕ → Option (ℕ × ℕ)) (signature : Card → Option Signature) (delays : List Delay) (sketch : Sketch) where
  pub delayed_length : (n : ℕ) (cs : List ChannelSketch) → length (delayed_from named signature delays sketch n cs) ≡ length cs
  delayed_length n [] = refl
  delayed_length n (c ∷ cs) = rw (delayed_length (n + 1) cs)

  -- one channel more is that of the next number
  pub one_more : (n k : ℕ) (cs : List ChannelSketch) (c : ChannelSketch) → k ≡ n + length cs
      → delayed_from named signature delays sketch n (cs ++ c ∷ []) ≡ delayed_from named signature delays sketch n cs ++ delayed (sort_by_ports named signature sketch c) (delay_at delays k) c ∷ []
  one_more n k [] c e = let same : k ≡ n = omega (arith, e) in rw same
  one_more n k (d ∷ ds) c e = rw (one_more (n + 1) k ds c (omega (arith, e)))

  pub kept : (n : ℕ) (all cs : List ChannelSketch) (c d : ChannelSketch) → all ≡ delayed_from named signature delays sketch 0 cs → n ≡ length all
      → d ≡ delayed (sort_by_ports named signature sketch c) (delay_at delays n) c → all ++ d ∷ [] ≡ delayed_from named signature delays sketch 0 (cs ++ c ∷ [])
  kept n all cs c d so_far number is =
      let same : n ≡ length cs = number ∙ (ap length so_far ∙ delayed_length 0 cs) in
      let count : n ≡ 0 + length cs = omega (arith, same) in
      rw (so_far, is) (sym (one_more 0 n cs c count))
