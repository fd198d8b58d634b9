-- What a program writes of a network of flips.
use Rattle.std.specs.Prelude.{ℕ, List, Option, IfSome, option_map}
use Rattle.std.specs.Borrow.{Bor}
use Rattle.kpn_model.specs.Network.{Network}
use Rattle.kpn_front.specs.Written.{SinkView}
use Rattle.kpn_execute.specs.Execution.{Executes}
use Rattle.example_own_kinds.specs.Flip.{flips}

-- two workers run the network, if there is one, and this is the status
abbrev pub ExecutesFlips : Option Network → Option (Bor (List ℕ)) → SinkView → SinkView → ℕ → Type 0
ExecutesFlips net show before after status =
    IfSome net (λ n. Executes flips n 2 (option_map (λ s. s.now) show) before after status)
