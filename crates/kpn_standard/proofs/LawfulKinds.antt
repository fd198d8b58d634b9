-- The laws of the standard kinds, for every card.
use Rattle.std.proofs.Common.{ℕ, zero, suc, ◌<◌, List, Option, None, IsSome, sym, arith, ltb-true}
use Rattle.std.proofs.lemmas.Bool.{and_parts}
use Rattle.kpn_model.specs.declared.token.Token.{Token}
use Rattle.kpn_model.specs.declared.kinds.Card.{Card}
use Rattle.kpn_model.specs.Lawful.{CardFits, AreLawful}
use Rattle.kpn_standard.specs.Locals.{at, got, IsLocal, LastFits, one}
use Rattle.kpn_standard.specs.Ends.{CountLine, SinkLine, count_writes, count_stops, sink_reads_first, sink_reads_none}
use Rattle.kpn_standard.specs.Copies.{TakeLine, take_reads, take_stops, copy_reads, prefix_begins}
use Rattle.kpn_standard.specs.Arithmetic.{add_reads_first, scale_reads}
use Rattle.kpn_standard.specs.Merging.{weave_reads_first, merge_reads_first}
use Rattle.kpn_standard.specs.Flags.{divides_reads, switch_reads_flag, select_reads_flag}
use Rattle.kpn_standard.specs.Signatures.{card, signature}
use Rattle.kpn_standard.specs.Standard.{answer_by_number, standard}
use Rattle.kpn_standard.specs.Admitted.{Admitted, HasLine}
use Rattle.kpn_standard.proofs.Laws.{IsLawful, AreArguments, passes, below_or_at}
use Rattle.kpn_standard.proofs.LawfulEnds.{count_lawful, sink_lawful}
use Rattle.kpn_standard.proofs.LawfulCopies.{take_lawful, copy_lawful, prefix_lawful}
use Rattle.kpn_standard.proofs.LawfulArithmetic.{add_lawful, scale_lawful}
use Rattle.kpn_standard.proofs.LawfulMerging.{weave_lawful, merge_lawful}
use Rattle.kpn_standard.proofs.LawfulFlags.{divides_lawful, switch_lawful, select_lawful}

-- what holds of the twelve numbers of kinds, and of all greater ones, holds of every number
by_kind : (P : ℕ → Type 0) → P 0 → P 1 → P 2 → P 3 → P 4 → P 5 → P 6 → P 7 → P 8 → P 9 → P 10 → P 11 → ((k : ℕ) → 11 < k → P k) → (k : ℕ) → P k
by_kind P a b c d e f g h i j k l greater zero = a
by_kind P a b c d e f g h i j k l greater (suc zero) = b
by_kind P a b c d e f g h i j k l greater (suc (suc zero)) = c
by_kind P a b c d e f g h i j k l greater (suc (suc (suc zero))) = d
by_kind P a b c d e f g h i j k l greater (suc (suc (suc (suc zero)))) = e
by_kind P a b c d e f g h i j k l greater (suc (suc (suc (suc (suc zero))))) = f
by_kind P a b c d e f g h i j k l greater (suc (suc (suc (suc (suc (suc zero)))))) = g
by_kind P a b c d e f g h i j k l greater (suc (suc (suc (suc (suc (suc (suc zero))))))) = h
by_kind P a b c d e f g h i j k l greater (suc (suc (suc (suc (suc (suc (suc (suc zero)))))))) = i
by_kind P a b c d e f g h i j k l greater (suc (suc (suc (suc (suc (suc (suc (suc (suc zero))))))))) = j
by_kind P a b c d e f g h i j k l greater (suc (suc (suc (suc (suc (suc (suc (suc (suc (suc zero)))))))))) = k
by_kind P a b c d e f g h i j k l greater (suc (suc (suc (suc (suc (suc (suc (suc (suc (suc (suc zero))))))))))) = l
by_kind P a b c d e f g h i j k l greater (suc (suc (suc (suc (suc (suc (suc (suc (suc (suc (suc (suc n)))))))))))) = greater _ (omega arith)

-- no card of a greater number has a signature
no_signature : (kind : ℕ) (args : List ℕ) → 11 < kind → IsSome (signature (card kind args)) → ⊥
no_signature kind args h signed = grind arith

-- the answers of a kind are lawful in each state that has a line
abbrev AnswerWell : List ℕ → ℕ → Type 0
AnswerWell args kind =
    IsSome (signature (card kind args)) → (local : List ℕ) (last : Option Token) → IsLocal local → LastFits last → HasLine kind args local last → IsLawful (card kind args) (answer_by_number kind args local (got last))

-- an admitted answer is lawful
answers_lawful : (c : Card) (local : List ℕ) (last : Option Token) → AreArguments c.args → IsSome (signature c) → Admitted c local last → IsLawful c (standard.answer c local last)
answers_lawful c local last small signed admitted =
    by_kind (AnswerWell c.args)
    (count_lawful c.args small)
    (sink_lawful c.args small)
    (take_lawful c.args small)
    (copy_lawful c.args small)
    (prefix_lawful c.args small)
    (add_lawful c.args small)
    (scale_lawful c.args small)
    (weave_lawful c.args small)
    (merge_lawful c.args small)
    (divides_lawful c.args small)
    (switch_lawful c.args small)
    (select_lawful c.args small)
    (λ kind h signed. absurd (no_signature kind c.args h signed))
    c.kind signed local last admitted.local_fits admitted.last_fits admitted.line

-- the start has a line
abbrev Starts : List ℕ → ℕ → Type 0
Starts args kind = IsSome (signature (card kind args)) → HasLine kind args (one 0) None

-- the start is admitted
starts_admitted : (c : Card) → IsSome (signature c) → Admitted c (standard.start c) None
starts_admitted c signed =
    record {
      local_fits = omega arith;
      last_fits = tt;
      line =
          by_kind (Starts c.args)
          (λ signed. below_or_at (CountLine (at c.args 1) (one 0) None) 0 (at c.args 1) (omega arith) count_writes count_stops)
          (λ signed. below_or_at (SinkLine (at c.args 0) (one 0) None) 0 (at c.args 0) (omega arith) sink_reads_first (λ same. sink_reads_none (sym same)))
          (λ signed. below_or_at (TakeLine (at c.args 0) (one 0) None) 0 (at c.args 0) (omega arith) take_reads take_stops)
          (λ signed. copy_reads)
          (λ signed. prefix_begins)
          (λ signed. add_reads_first)
          (λ signed. scale_reads)
          (λ signed. weave_reads_first (ltb-true _ _ (and_parts _ _ (and_parts _ _ (passes _ _ _ signed)).1).0))
          (λ signed. merge_reads_first)
          (λ signed. divides_reads)
          (λ signed. switch_reads_flag)
          (λ signed. select_reads_flag)
          (λ kind h signed. absurd (no_signature kind c.args h signed))
          c.kind signed;
    }

-- the arguments of a card
arguments : (c : Card) → CardFits c → AreArguments c.args
arguments c fits = record { first = fits.args 0 0 (omega (arith, fits.three)); second = fits.args 1 0 (omega (arith, fits.three)) }

-- the laws of the standard kinds
pub standard_lawful : AreLawful signature Admitted standard
standard_lawful =
    record {
      names_port = λ card local last fits signed admitted. (answers_lawful card local last (arguments card fits) signed admitted).names_port;
      leads_on = λ card local last token fits signed admitted. (answers_lawful card local last (arguments card fits) signed admitted).leads_on token;
      starts = λ card fits signed. starts_admitted card signed;
    }
