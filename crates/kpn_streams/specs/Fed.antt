-- What a process of a card writes if its inputs hold certain tokens and get no more.
use Rattle.std.specs.Prelude.{◌≡◌, ℕ, zero, suc, ◌≤◌, nat_lt, if◌then◌else◌, List, [], ◌∷◌, Some, None, length, get_or, set, replicate}
use Rattle.kpn_model.specs.declared.token.Token.{Token}
use Rattle.kpn_model.specs.declared.kinds.Card.{Card}
use Rattle.kpn_model.specs.declared.kinds.Act.{Act}
use Rattle.kpn_model.specs.declared.kinds.Act.TheVariants.{Read, Write, Stop}
use Rattle.kpn_model.specs.declared.kinds.Answer.{Answer}
use Rattle.kpn_model.specs.declared.history.Status.{Status}
use Rattle.kpn_model.specs.declared.history.Status.TheVariants.{Live, Done}
use Rattle.kpn_model.specs.Network.{Family}

abbrev pub nothing : ℕ → List (List Token)
nothing outputs = replicate outputs []

-- puts t before what is on output k
abbrev pub put_first : Token → ℕ → List (List Token) → List (List Token)
put_first t k [] = []
put_first t zero (l ∷ ls) = (t ∷ l) ∷ ls
put_first t (suc k) (l ∷ ls) = l ∷ put_first t k ls

-- the tokens of each port; and what is written from a status on, of those of the inputs
abbrev pub PortTokens : Type 0
PortTokens = List (List Token)

abbrev pub Continuation : Type 0
Continuation = Status → PortTokens → PortTokens

-- after a read of input j, which holds the tokens ts: continues with the first of them, or waits forever
abbrev pub after_read : Continuation → ℕ → List ℕ → PortTokens → ℕ → List Token → PortTokens
after_read go outputs next ins j [] = nothing outputs
after_read go outputs next ins j (t ∷ ts) = go (Live next (Some t)) (set ins j ts)

-- a write to a missing output waits forever too
abbrev pub after_write : Continuation → ℕ → List ℕ → PortTokens → ℕ → Token → PortTokens
after_write go outputs next ins j t =
    if nat_lt j outputs then put_first t j (go (Live next None) ins) else nothing outputs

abbrev pub after_act : Continuation → ℕ → List ℕ → PortTokens → Act → PortTokens
after_act go outputs next ins Stop = nothing outputs
after_act go outputs next ins (Read j) = after_read go outputs next ins j (get_or ins j [])
after_act go outputs next ins (Write j t) = after_write go outputs next ins j t

-- what is written after an answer
abbrev pub written_after : Continuation → ℕ → PortTokens → Answer → PortTokens
written_after go outputs ins answer = after_act go outputs answer.next ins answer.act

module _ (kinds : Family) (card : Card) where
  -- what a process of the card writes to each output in at most n acts, from this status and these inputs
  abbrev pub written_in : ℕ → ℕ → Status → List (List Token) → List (List Token)
  written_in outputs zero s ins = nothing outputs
  written_in outputs (suc n) Done ins = nothing outputs
  written_in outputs (suc n) (Live local last) ins =
      written_after (written_in outputs n) outputs ins (kinds.answer card local last)

  -- from this status it writes these, and never more
  pub record WritesFrom (s : Status) (ins outs : List (List Token)) : Type 0 where
    pub enough : ℕ
    pub written : (n : ℕ) → enough ≤ n → written_in (length outs) n s ins ≡ outs

  -- fed with these tokens and no more, a process of the card writes these and no more
  abbrev pub Writes : List (List Token) → List (List Token) → Type 0
  Writes ins outs = WritesFrom (Live (kinds.start card) None) ins outs
