-- The input of a scale is admitted.
use Rattle.std.proofs.Common.{◌≡◌, ℕ, ◌<◌, ◌^◌, List, Some, arith, sym, subst}
use Rattle.kpn_model.specs.declared.kinds.Card.{Card}
use Rattle.kpn_model.specs.declared.token.Token.TheVariants.{Word}
use Rattle.kpn_standard.specs.Signatures.{card}
use Rattle.kpn_standard.specs.Locals.{one}
use Rattle.kpn_standard.specs.Admitted.{Admitted}
use Rattle.kpn_standard.specs.Arithmetic.{scale_writes}

-- a scale that has read a word
pub scale_admitted : (c : Card) (args : List ℕ) (w : ℕ) → c ≡ card 6 args → w < 2 ^ 64 → Admitted c (one 1) (Some (Word w))
scale_admitted c args w e fits = subst (λ (d : Card). Admitted d (one 1) (Some (Word w))) (sym e) (record { local_fits = omega arith; last_fits = fits; line = scale_writes })
