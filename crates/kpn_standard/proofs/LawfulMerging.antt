-- The answers of weave and merge are lawful.
use Rattle.std.proofs.Common.{◌≡◌, ℕ, ◌+◌, ◌<◌, ◌^◌, ◌&&◌, nat_lt, true, List, Option, Some, IsSome, refl, arith, ltb-true}
use Rattle.std.proofs.lemmas.Bool.{and_parts}
use Rattle.kpn_model.specs.declared.token.Token.{Token}
use Rattle.kpn_model.specs.declared.token.Token.TheVariants.{Word}
use Rattle.kpn_standard.specs.Locals.{at, got, two, IsLocal, LastFits}
use Rattle.kpn_standard.specs.Merging.{emit, weave_answer, merge_answer, WeaveLine, MergeLine, weave_reads_first, weave_writes_first, weave_turns_to_second, weave_reads_second, weave_writes_second, weave_turns_to_first, merge_reads_first, merge_reads_second, merge_has_second, merge_refills_first, merge_refills_second, merge_has_first}
use Rattle.kpn_standard.specs.Table.{one_word, two_words}
use Rattle.kpn_standard.specs.Signatures.{card, signature}
use Rattle.kpn_standard.proofs.Laws.{IsLawful, AreArguments, passes, has_ports, by_test, below_or_at, reads_word, writes}

module _ (args : List ℕ) (small : AreArguments args) (signed : IsSome (signature (card 7 args))) where
  -- the ports of weave, given that its arguments are accepted
  weave_ports : signature (card 7 args) ≡ Some (record { ins = two_words; outs = one_word })
  weave_ports = has_ports _ _ _ signed

  -- weave copies at least one word of each input
  weave_counts : (nat_lt 0 (at args 0) && nat_lt 0 (at args 1)) ≡ true
  weave_counts = (and_parts _ _ (passes _ _ _ signed)).1

  -- it copies at least one of input 0
  weave_first : 0 < at args 0
  weave_first = ltb-true _ _ (and_parts _ _ weave_counts).0

  -- and at least one of input 1
  weave_second : 0 < at args 1
  weave_second = ltb-true _ _ (and_parts _ _ weave_counts).1

  -- an answer of weave is lawful
  pub weave_lawful : (local : List ℕ) (last : Option Token) → IsLocal local → LastFits last → WeaveLine (at args 0) (at args 1) local last → IsLawful (card 7 args) (weave_answer args local (got last))
  weave_lawful local last fits last_fits (weave_reads_first {i = i} h) =
      reads_word _ _ weave_ports _ 0 (omega arith) refl (λ w below. record { local_fits = omega arith; last_fits = below; line = below_or_at (WeaveLine (at args 0) (at args 1) (two 1 i) (Some (Word w))) (i + 1) (at args 0) (omega arith) weave_writes_first weave_turns_to_second })
  weave_lawful local last fits last_fits (weave_writes_first {i = i} h) =
      by_test (λ a. IsLawful (card 7 args) a) (i + 1) (at args 0) _ _
      (λ _. writes _ _ weave_ports _ 0 (omega arith) _ refl last_fits (record { local_fits = omega (arith, small); last_fits = tt; line = weave_reads_first h }))
      (λ above. absurd (omega arith))
  weave_lawful local last fits last_fits (weave_turns_to_second {i = i} h) =
      by_test (λ a. IsLawful (card 7 args) a) (i + 1) (at args 0) _ _
      (λ below. absurd (omega arith))
      (λ above. writes _ _ weave_ports _ 0 (omega arith) _ refl last_fits (record { local_fits = omega arith; last_fits = tt; line = weave_reads_second weave_second }))
  weave_lawful local last fits last_fits (weave_reads_second {i = i} h) =
      reads_word _ _ weave_ports _ 1 (omega arith) refl (λ w below. record { local_fits = omega arith; last_fits = below; line = below_or_at (WeaveLine (at args 0) (at args 1) (two 3 i) (Some (Word w))) (i + 1) (at args 1) (omega arith) weave_writes_second weave_turns_to_first })
  weave_lawful local last fits last_fits (weave_writes_second {i = i} h) =
      by_test (λ a. IsLawful (card 7 args) a) (i + 1) (at args 1) _ _
      (λ _. writes _ _ weave_ports _ 0 (omega arith) _ refl last_fits (record { local_fits = omega (arith, small); last_fits = tt; line = weave_reads_second h }))
      (λ above. absurd (omega arith))
  weave_lawful local last fits last_fits (weave_turns_to_first {i = i} h) =
      by_test (λ a. IsLawful (card 7 args) a) (i + 1) (at args 1) _ _
      (λ below. absurd (omega arith))
      (λ above. writes _ _ weave_ports _ 0 (omega arith) _ refl last_fits (record { local_fits = omega arith; last_fits = tt; line = weave_reads_first weave_first }))

module _ (args : List ℕ) (small : AreArguments args) (signed : IsSome (signature (card 8 args))) where
  -- the ports of merge, given that its arguments are accepted
  merge_ports : signature (card 8 args) ≡ Some (record { ins = two_words; outs = one_word })
  merge_ports = has_ports _ _ _ signed

  -- writing the lesser of two heads is lawful
  emit_lawful : (x y : ℕ) → x < 2 ^ 64 → y < 2 ^ 64 → IsLawful (card 8 args) (emit x y)
  emit_lawful x y x_fits y_fits =
      by_test (λ a. IsLawful (card 8 args) a) x y _ _
      (λ _. writes _ _ merge_ports _ 0 (omega arith) _ refl x_fits (record { local_fits = omega arith; last_fits = tt; line = merge_refills_first }))
      (λ _. by_test (λ a. IsLawful (card 8 args) a) y x _ _
      (λ _. writes _ _ merge_ports _ 0 (omega arith) _ refl y_fits (record { local_fits = omega arith; last_fits = tt; line = merge_refills_second }))
      (λ _. writes _ _ merge_ports _ 0 (omega arith) _ refl x_fits (record { local_fits = omega arith; last_fits = tt; line = merge_reads_first })))

  -- an answer of merge is lawful
  pub merge_lawful : (local : List ℕ) (last : Option Token) → IsLocal local → LastFits last → MergeLine local last → IsLawful (card 8 args) (merge_answer args local (got last))
  merge_lawful local last fits last_fits merge_reads_first =
      reads_word _ _ merge_ports _ 0 (omega arith) refl (λ w below. (record { local_fits = omega arith; last_fits = below; line = merge_reads_second }))
  merge_lawful local last fits last_fits merge_reads_second =
      reads_word _ _ merge_ports _ 1 (omega arith) refl (λ w below. (record { local_fits = omega arith; last_fits = below; line = merge_has_second }))
  merge_lawful local last fits last_fits (merge_has_second {x = x} {y = y}) =
      emit_lawful x y (omega arith) last_fits
  merge_lawful local last fits last_fits merge_refills_first =
      reads_word _ _ merge_ports _ 0 (omega arith) refl (λ w below. (record { local_fits = omega arith; last_fits = below; line = merge_has_first }))
  merge_lawful local last fits last_fits merge_refills_second =
      reads_word _ _ merge_ports _ 1 (omega arith) refl (λ w below. (record { local_fits = omega arith; last_fits = below; line = merge_has_second }))
  merge_lawful local last fits last_fits (merge_has_first {x = x} {y = y}) =
      emit_lawful x y last_fits (omega arith)
