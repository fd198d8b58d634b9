-- The answers of divides, switch and select are lawful.
use Rattle.std.proofs.Common.{◌≡◌, ℕ, List, Option, Some, IsSome, refl, arith}
use Rattle.kpn_model.specs.declared.token.Token.{Token}
use Rattle.kpn_standard.specs.Locals.{got, IsLocal, LastFits}
use Rattle.kpn_standard.specs.Flags.{divides_answer, switch_answer, select_answer, DividesLine, SwitchLine, SelectLine, divides_reads, divides_writes, switch_reads_flag, switch_reads_word, switch_writes_first, switch_writes_second, select_reads_flag, select_reads_word, select_writes}
use Rattle.kpn_standard.specs.Table.{one_word, two_words, one_flag, word_and_flag, two_words_and_flag}
use Rattle.kpn_standard.specs.Signatures.{card, signature}
use Rattle.kpn_standard.proofs.Laws.{IsLawful, AreArguments, has_ports, by_flag, reads_word, reads_flag, writes}

module _ (args : List ℕ) (small : AreArguments args) (signed : IsSome (signature (card 9 args))) where
  -- the ports of divides, given that its arguments are accepted
  divides_ports : signature (card 9 args) ≡ Some (record { ins = one_word; outs = one_flag })
  divides_ports = has_ports _ _ _ signed

  -- an answer of divides is lawful
  pub divides_lawful : (local : List ℕ) (last : Option Token) → IsLocal local → LastFits last → DividesLine local last → IsLawful (card 9 args) (divides_answer args local (got last))
  divides_lawful local last fits last_fits divides_reads =
      reads_word _ _ divides_ports _ 0 (omega arith) refl (λ w below. (record { local_fits = omega arith; last_fits = below; line = divides_writes }))
  divides_lawful local last fits last_fits divides_writes =
      writes _ _ divides_ports _ 0 (omega arith) _ refl tt (record { local_fits = omega arith; last_fits = tt; line = divides_reads })

module _ (args : List ℕ) (small : AreArguments args) (signed : IsSome (signature (card 10 args))) where
  -- the ports of switch, given that its arguments are accepted
  switch_ports : signature (card 10 args) ≡ Some (record { ins = word_and_flag; outs = two_words })
  switch_ports = has_ports _ _ _ signed

  -- an answer of switch is lawful
  pub switch_lawful : (local : List ℕ) (last : Option Token) → IsLocal local → LastFits last → SwitchLine local last → IsLawful (card 10 args) (switch_answer args local (got last))
  switch_lawful local last fits last_fits switch_reads_flag =
      reads_flag _ _ switch_ports _ 1 (omega arith) refl (λ f. (record { local_fits = omega arith; last_fits = tt; line = switch_reads_word }))
  switch_lawful local last fits last_fits (switch_reads_word {f = f}) =
      by_flag (λ a. IsLawful (card 10 args) a) f _ _
      (reads_word _ _ switch_ports _ 0 (omega arith) refl (λ w below. (record { local_fits = omega arith; last_fits = below; line = switch_writes_second })))
      (reads_word _ _ switch_ports _ 0 (omega arith) refl (λ w below. (record { local_fits = omega arith; last_fits = below; line = switch_writes_first })))
  switch_lawful local last fits last_fits switch_writes_first =
      writes _ _ switch_ports _ 0 (omega arith) _ refl last_fits (record { local_fits = omega arith; last_fits = tt; line = switch_reads_flag })
  switch_lawful local last fits last_fits switch_writes_second =
      writes _ _ switch_ports _ 1 (omega arith) _ refl last_fits (record { local_fits = omega arith; last_fits = tt; line = switch_reads_flag })

module _ (args : List ℕ) (small : AreArguments args) (signed : IsSome (signature (card 11 args))) where
  -- the ports of select, given that its arguments are accepted
  select_ports : signature (card 11 args) ≡ Some (record { ins = two_words_and_flag; outs = one_word })
  select_ports = has_ports _ _ _ signed

  -- an answer of select is lawful
  pub select_lawful : (local : List ℕ) (last : Option Token) → IsLocal local → LastFits last → SelectLine local last → IsLawful (card 11 args) (select_answer args local (got last))
  select_lawful local last fits last_fits select_reads_flag =
      reads_flag _ _ select_ports _ 2 (omega arith) refl (λ f. (record { local_fits = omega arith; last_fits = tt; line = select_reads_word }))
  select_lawful local last fits last_fits (select_reads_word {f = f}) =
      by_flag (λ a. IsLawful (card 11 args) a) f _ _
      (reads_word _ _ select_ports _ 1 (omega arith) refl (λ w below. (record { local_fits = omega arith; last_fits = below; line = select_writes })))
      (reads_word _ _ select_ports _ 0 (omega arith) refl (λ w below. (record { local_fits = omega arith; last_fits = below; line = select_writes })))
  select_lawful local last fits last_fits select_writes =
      writes _ _ select_ports _ 0 (omega arith) _ refl last_fits (record { local_fits = omega arith; last_fits = tt; line = select_reads_flag })
