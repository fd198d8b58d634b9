-- Kinds that read a word and write a word, forever, and keep their local state in between.
use Rattle.std.specs.Prelude.{◌≡◌, ℕ, ◌<◌, ◌^◌, if◌then◌else◌, Bool, true, List, [], ◌∷◌, Option, Some, None}
use Rattle.kpn_model.specs.declared.token.Token.{Token}
use Rattle.kpn_model.specs.declared.token.Token.TheVariants.{Word, Flag}
use Rattle.kpn_model.specs.declared.kinds.Card.{Card}
use Rattle.kpn_model.specs.declared.kinds.Signature.{Signature}
use Rattle.kpn_model.specs.declared.kinds.Act.TheVariants.{Read, Write}
use Rattle.kpn_model.specs.declared.kinds.Answer.{Answer}
use Rattle.kpn_model.specs.Network.{Family}
use Rattle.kpn_compute.specs.KindTable.{one_word}

abbrev pub ports_if : Bool → Option Signature
ports_if accepted = if accepted then Some (record { ins = one_word; outs = one_word }) else None

abbrev pub filter_ports : (Card → Bool) → Card → Option Signature
filter_ports accepts card = ports_if (accepts card)

-- without a word it reads one; with a word it steps and writes
abbrev pub filter_answer : (List ℕ → ℕ → List ℕ × ℕ) → List ℕ → Option Token → Answer
filter_answer step kept (Some (Word w)) = record { next = (step kept w).0; act = Write 0 (Word (step kept w).1) }
filter_answer step kept _ = record { next = kept; act = Read 0 }

abbrev pub filter_family : (Card → List ℕ) → (Card → List ℕ → ℕ → List ℕ × ℕ) → Family
filter_family start step = record { start = start; answer = λ card local last. filter_answer (step card) local last }

abbrev pub IsWord : ℕ → Type 0
IsWord n = n < 2 ^ 64

abbrev pub AreKept : List ℕ → Type 0
AreKept (a ∷ b ∷ c ∷ d ∷ []) = IsWord a × IsWord b × IsWord c × IsWord d
AreKept kept = ⊥

abbrev pub FilterAdmits : List ℕ → Option Token → Type 0
FilterAdmits kept None = AreKept kept
FilterAdmits kept (Some (Word w)) = AreKept kept × IsWord w
FilterAdmits kept (Some (Flag f)) = ⊥

-- P holds of each card of numbers that fit
abbrev pub OfEachCard : (Card → Type 0) → Type 0
OfEachCard P =
    (kind x y z : ℕ)
    → kind < 2 ^ 16 → IsWord x → IsWord y → IsWord z → P (record { kind = kind; args = x ∷ y ∷ z ∷ [] })

-- P holds of whatever may be kept
abbrev pub OfAllKept : (List ℕ → Type 0) → Type 0
OfAllKept P = (a b c d : ℕ) → IsWord a → IsWord b → IsWord c → IsWord d → P (a ∷ b ∷ c ∷ d ∷ [])

-- what is kept, and the word that is written, after this was kept and this word was read
abbrev pub FilterStep : Type 0
FilterStep = List ℕ → ℕ → List ℕ × ℕ

-- after each word four words are kept, and a word is written
abbrev pub StepsToWords : FilterStep → List ℕ → Type 0
StepsToWords step kept = (w : ℕ) → IsWord w → AreKept (step kept w).0 × IsWord (step kept w).1

-- four words are kept at the start and after each word read, and a word is written
pub record KeepWords (accepts : Card → Bool) (start : Card → List ℕ) (step : Card → FilterStep) : Type 0 where
  pub at_start : OfEachCard (λ card. accepts card ≡ true → AreKept (start card))
  pub after_word : OfEachCard (λ card. accepts card ≡ true → OfAllKept (StepsToWords (step card)))
