-- The answers of add and scale are lawful.
use Rattle.std.proofs.Common.{◌≡◌, ℕ, List, Option, Some, IsSome, refl, arith}
use Rattle.kpn_model.specs.declared.token.Token.{Token}
use Rattle.kpn_standard.specs.Locals.{got, IsLocal, LastFits}
use Rattle.kpn_standard.specs.Arithmetic.{add_answer, scale_answer, AddLine, ScaleLine, add_reads_first, add_reads_second, add_writes, scale_reads, scale_writes}
use Rattle.kpn_standard.specs.Table.{one_word, two_words}
use Rattle.kpn_standard.specs.Signatures.{card, signature}
use Rattle.kpn_standard.proofs.Laws.{IsLawful, AreArguments, has_ports, reads_word, writes}

module _ (args : List ℕ) (small : AreArguments args) (signed : IsSome (signature (card 5 args))) where
  -- the ports of add, given that its arguments are accepted
  add_ports : signature (card 5 args) ≡ Some (record { ins = two_words; outs = one_word })
  add_ports = has_ports _ _ _ signed

  -- an answer of add is lawful
  pub add_lawful : (local : List ℕ) (last : Option Token) → IsLocal local → LastFits last → AddLine local last → IsLawful (card 5 args) (add_answer args local (got last))
  add_lawful local last fits last_fits add_reads_first =
      reads_word _ _ add_ports _ 0 (omega arith) refl (λ w below. (record { local_fits = omega arith; last_fits = below; line = add_reads_second }))
  add_lawful local last fits last_fits add_reads_second =
      reads_word _ _ add_ports _ 1 (omega arith) refl (λ w below. (record { local_fits = omega arith; last_fits = below; line = add_writes }))
  add_lawful local last fits last_fits add_writes =
      writes _ _ add_ports _ 0 (omega arith) _ refl (omega arith) (record { local_fits = omega arith; last_fits = tt; line = add_reads_first })

module _ (args : List ℕ) (small : AreArguments args) (signed : IsSome (signature (card 6 args))) where
  -- the ports of scale, given that its arguments are accepted
  scale_ports : signature (card 6 args) ≡ Some (record { ins = one_word; outs = one_word })
  scale_ports = has_ports _ _ _ signed

  -- an answer of scale is lawful
  pub scale_lawful : (local : List ℕ) (last : Option Token) → IsLocal local → LastFits last → ScaleLine local last → IsLawful (card 6 args) (scale_answer args local (got last))
  scale_lawful local last fits last_fits scale_reads =
      reads_word _ _ scale_ports _ 0 (omega arith) refl (λ w below. (record { local_fits = omega arith; last_fits = below; line = scale_writes }))
  scale_lawful local last fits last_fits scale_writes =
      writes _ _ scale_ports _ 0 (omega arith) _ refl (omega arith) (record { local_fits = omega arith; last_fits = tt; line = scale_reads })
