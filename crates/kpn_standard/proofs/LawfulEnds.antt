-- The answers of count and sink are lawful.
use Rattle.std.proofs.Common.{◌≡◌, ℕ, ◌+◌, ◌<◌, ◌≤◌, ◌^◌, List, Option, Some, None, IsSome, refl, arith, ltb-true}
use Rattle.std.proofs.lemmas.Bool.{and_parts}
use Rattle.kpn_model.specs.declared.token.Token.{Token}
use Rattle.kpn_model.specs.declared.token.Token.TheVariants.{Word}
use Rattle.kpn_standard.specs.Locals.{at, got, one, IsLocal, LastFits}
use Rattle.kpn_standard.specs.Ends.{count_answer, sink_answer, CountLine, SinkLine, count_writes, count_stops, sink_reads_first, sink_reads_next, sink_reads_none, sink_stops}
use Rattle.kpn_standard.specs.Table.{no_port, one_word}
use Rattle.kpn_standard.specs.Signatures.{card, signature}
use Rattle.kpn_standard.specs.Admitted.{Admitted}
use Rattle.kpn_standard.proofs.Laws.{IsLawful, AreArguments, passes, has_ports, by_test, below_or_at, stops, reads_word, writes}

module _ (args : List ℕ) (small : AreArguments args) (signed : IsSome (signature (card 0 args))) where
  -- the ports of count, given that its arguments are accepted
  count_ports : signature (card 0 args) ≡ Some (record { ins = no_port; outs = one_word })
  count_ports = has_ports _ _ _ signed

  -- the words that count writes have 64 bits
  count_sum : at args 0 + at args 1 < 2 ^ 64
  count_sum = ltb-true _ _ (and_parts _ _ (passes _ _ _ signed)).1

  -- after i words count is admitted
  count_admitted : (i : ℕ) → i ≤ at args 1 → Admitted (card 0 args) (one i) None
  count_admitted i h =
      record {
        local_fits = omega (arith, small);
        last_fits = tt;
        line = below_or_at (CountLine (at args 1) (one i) None) i (at args 1) h count_writes count_stops;
      }

  -- an answer of count is lawful
  pub count_lawful : (local : List ℕ) (last : Option Token) → IsLocal local → LastFits last → CountLine (at args 1) local last → IsLawful (card 0 args) (count_answer args local (got last))
  count_lawful local last fits last_fits (count_writes {i = i} h) =
      by_test (λ a. IsLawful (card 0 args) a) i (at args 1) _ _
      (λ below. writes _ _ count_ports _ 0 (omega arith) _ refl (omega (arith, count_sum)) (count_admitted (i + 1) (omega arith)))
      (λ above. stops _ _)
  count_lawful local last fits last_fits (count_stops {i = i} h) =
      by_test (λ a. IsLawful (card 0 args) a) i (at args 1) _ _ (λ below. absurd (omega arith)) (λ above. stops _ _)

module _ (args : List ℕ) (small : AreArguments args) (signed : IsSome (signature (card 1 args))) where
  -- the ports of sink, given that its arguments are accepted
  sink_ports : signature (card 1 args) ≡ Some (record { ins = one_word; outs = no_port })
  sink_ports = has_ports _ _ _ signed

  -- after i + 1 reads sink is admitted
  sink_admitted : (i w : ℕ) → i < at args 0 → w < 2 ^ 64 → Admitted (card 1 args) (one (i + 1)) (Some (Word w))
  sink_admitted i w h fits =
      record {
        local_fits = omega (arith, small);
        last_fits = fits;
        line =
            below_or_at (SinkLine (at args 0) (one (i + 1)) (Some (Word w))) (i + 1) (at args 0) (omega arith)
            (λ below. sink_reads_next (omega arith) below) (λ same. sink_stops (omega arith) same);
      }

  -- an answer of sink after i reads is lawful
  sink_reads : (i : ℕ) → IsLawful (card 1 args) (sink_answer args (one i) (Word 0))
  sink_reads i =
      by_test (λ a. IsLawful (card 1 args) a) i (at args 0) _ _
      (λ h. reads_word _ _ sink_ports _ 0 (omega arith) refl (λ w fits. sink_admitted i w h fits))
      (λ above. stops _ _)

  -- an answer of sink is lawful
  pub sink_lawful : (local : List ℕ) (last : Option Token) → IsLocal local → LastFits last → SinkLine (at args 0) local last → IsLawful (card 1 args) (sink_answer args local (got last))
  sink_lawful local last fits last_fits (sink_reads_first h) =
      sink_reads 0
  sink_lawful local last fits last_fits (sink_reads_next {i = i} _ h) =
      sink_reads i
  sink_lawful local last fits last_fits (sink_reads_none h) =
      sink_reads 0
  sink_lawful local last fits last_fits (sink_stops {i = i} _ h) =
      sink_reads i
