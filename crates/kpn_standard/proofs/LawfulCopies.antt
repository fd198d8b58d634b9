-- The answers of take, copy and prefix are lawful.
use Rattle.std.proofs.Common.{◌≡◌, ℕ, ◌+◌, ◌≤◌, List, Option, Some, None, IsSome, refl, arith}
use Rattle.kpn_model.specs.declared.token.Token.{Token}
use Rattle.kpn_standard.specs.Locals.{at, got, two, IsLocal, LastFits}
use Rattle.kpn_standard.specs.Copies.{take_answer, copy_answer, prefix_answer, TakeLine, CopyLine, PrefixLine, take_reads, take_writes, take_stops, copy_reads, copy_writes_first, copy_writes_second, prefix_begins, prefix_reads, prefix_writes}
use Rattle.kpn_standard.specs.Table.{one_word, two_words}
use Rattle.kpn_standard.specs.Signatures.{card, signature}
use Rattle.kpn_standard.specs.Admitted.{Admitted}
use Rattle.kpn_standard.proofs.Laws.{IsLawful, AreArguments, has_ports, by_test, below_or_at, stops, reads_word, writes}

module _ (args : List ℕ) (small : AreArguments args) (signed : IsSome (signature (card 2 args))) where
  -- the ports of take, given that its arguments are accepted
  take_ports : signature (card 2 args) ≡ Some (record { ins = one_word; outs = one_word })
  take_ports = has_ports _ _ _ signed

  -- after i words take is admitted
  take_admitted : (i : ℕ) → i ≤ at args 0 → Admitted (card 2 args) (two 0 i) None
  take_admitted i h =
      record {
        local_fits = omega (arith, small);
        last_fits = tt;
        line = below_or_at (TakeLine (at args 0) (two 0 i) None) i (at args 0) h take_reads take_stops;
      }

  -- an answer of take is lawful
  pub take_lawful : (local : List ℕ) (last : Option Token) → IsLocal local → LastFits last → TakeLine (at args 0) local last → IsLawful (card 2 args) (take_answer args local (got last))
  take_lawful local last fits last_fits (take_reads {i = i} h) =
      by_test (λ a. IsLawful (card 2 args) a) i (at args 0) _ _
      (λ _. reads_word _ _ take_ports _ 0 (omega arith) refl (λ w below. (record { local_fits = omega arith; last_fits = below; line = take_writes h })))
      (λ above. stops _ _)
  take_lawful local last fits last_fits (take_writes {i = i} h) =
      writes _ _ take_ports _ 0 (omega arith) _ refl last_fits (take_admitted (i + 1) (omega arith))
  take_lawful local last fits last_fits (take_stops {i = i} h) =
      by_test (λ a. IsLawful (card 2 args) a) i (at args 0) _ _ (λ below. absurd (omega arith)) (λ above. stops _ _)

module _ (args : List ℕ) (small : AreArguments args) (signed : IsSome (signature (card 3 args))) where
  -- the ports of copy, given that its arguments are accepted
  copy_ports : signature (card 3 args) ≡ Some (record { ins = one_word; outs = two_words })
  copy_ports = has_ports _ _ _ signed

  -- an answer of copy is lawful
  pub copy_lawful : (local : List ℕ) (last : Option Token) → IsLocal local → LastFits last → CopyLine local last → IsLawful (card 3 args) (copy_answer args local (got last))
  copy_lawful local last fits last_fits copy_reads =
      reads_word _ _ copy_ports _ 0 (omega arith) refl (λ w below. (record { local_fits = omega arith; last_fits = below; line = copy_writes_first }))
  copy_lawful local last fits last_fits copy_writes_first =
      writes _ _ copy_ports _ 0 (omega arith) _ refl last_fits (record { local_fits = omega arith; last_fits = tt; line = copy_writes_second })
  copy_lawful local last fits last_fits copy_writes_second =
      writes _ _ copy_ports _ 1 (omega arith) _ refl (omega arith) (record { local_fits = omega arith; last_fits = tt; line = copy_reads })

module _ (args : List ℕ) (small : AreArguments args) (signed : IsSome (signature (card 4 args))) where
  -- the ports of prefix, given that its arguments are accepted
  prefix_ports : signature (card 4 args) ≡ Some (record { ins = one_word; outs = one_word })
  prefix_ports = has_ports _ _ _ signed

  -- an answer of prefix is lawful
  pub prefix_lawful : (local : List ℕ) (last : Option Token) → IsLocal local → LastFits last → PrefixLine local last → IsLawful (card 4 args) (prefix_answer args local (got last))
  prefix_lawful local last fits last_fits prefix_begins =
      writes _ _ prefix_ports _ 0 (omega arith) _ refl (small.first) (record { local_fits = omega arith; last_fits = tt; line = prefix_reads })
  prefix_lawful local last fits last_fits prefix_reads =
      reads_word _ _ prefix_ports _ 0 (omega arith) refl (λ w below. (record { local_fits = omega arith; last_fits = below; line = prefix_writes }))
  prefix_lawful local last fits last_fits prefix_writes =
      writes _ _ prefix_ports _ 0 (omega arith) _ refl last_fits (record { local_fits = omega arith; last_fits = tt; line = prefix_reads })
