use Rattle.kpn_tokens.proofs.numbers.+append_last_digits.Given as goal

abbrev pub decreases-append_last_digits : goal.decreases-append_last_digits
decreases-append_last_digits l = l.count
