-- The first answers of processes.
use Rattle.std.specs.Prelude.{List, None, map}
use Rattle.kpn_model.specs.declared.kinds.Card.{Card}
use Rattle.kpn_model.specs.declared.kinds.Kinds.{Ghosts as KindsOf}
use Rattle.kpn_model.specs.declared.kinds.Answer.{Answer}
use Rattle.kpn_model.specs.declared.parts.Process.{Process}
use Rattle.kpn_model.specs.Network.{Family}

-- the first answer of each of these processes
abbrev pub answers_at_start : Family → List Process → List Answer
answers_at_start kinds ps = map (λ card. kinds.answer card (kinds.start card) None) (map (λ p. p.card) ps)

-- the first answer of each of these bodies
abbrev pub answers_of_bodies : {X B : Type 0} → KindsOf X → (B → Card) → List B → List Answer
answers_of_bodies kinds card bodies = map (λ b. kinds.answer_of (card b) (kinds.start (card b)) None) bodies
