-- Requests for networks of standard kinds.
use Rattle.std.specs.Prelude.{ℕ, IfSome}
use Rattle.kpn_model.specs.declared.kinds.Card.{Card}
use Rattle.kpn_standard.specs.Standard.{standard}
use Rattle.kpn_body.specs.Calls.{Answers, MayReturn}
use Rattle.kpn_standard.specs.Admitted.{Admitted}
use Rattle.kpn_front.specs.Written.{SinkView}
use Rattle.kpn_execute.specs.declared.standard.CardsRequest.{CardsRequest}
use Rattle.kpn_execute.specs.Execution.{Executes, name_shown}

-- whenever the card admits a call, it returns the card's answer
abbrev pub AnswersAs : Card → MayReturn → Type 0
AnswersAs card returns = Answers (Admitted card) returns (standard.answer card)

-- the requested network, if it is there, is executed
abbrev pub ExecutesRequest : CardsRequest → SinkView → SinkView → ℕ → Type 0
ExecutesRequest request before after number =
    IfSome request.net (λ n. Executes standard n request.workers (name_shown request.show) before after number)
