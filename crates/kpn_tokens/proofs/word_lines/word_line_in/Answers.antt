use Rattle.std.proofs.Common.{◌≡◌, ◌<◌, ◌%◌, ◌^◌, ◌∷◌, drop, length, ap, ◌∙◌, subst, arith, rules}
use Rattle.std.proofs.lemmas.List.{drop_more, take_rest}
use Rattle.kpn_tokens.specs.WordLines.{IsNumberLine}
use Rattle.kpn_tokens.proofs.PlainLines.{number_line, number_line_below}
use Rattle.kpn_tokens.proofs.word_lines.word_line_in.Goals as goal

pub returns-then-text-eq45 : goal.returns-then-text-eq45
returns-then-text-eq45 c =
    let text = c.args.text.now in
    let line : IsNumberLine (drop 1 text) c.in_ok-line.line.length c.in_ok-line.line.number = subst (λ l. IsNumberLine l c.in_ok-line.line.length c.in_ok-line.line.number) (take_rest text 1) c.in_ok-line.ensures in
    let some : 0 < length text = search rules in
    let minus : text ≡ 45 ∷ drop 1 text = drop_more text 0 0 some ∙ ap (λ b. b ∷ drop 1 text) c.if-text-eq45.true in
    number_line_below (drop 1 text) c.in_ok-line.line.length c.in_ok-line.line.number line text _ minus (ap (λ n. n % 2 ^ 64) (omega arith))

pub returns : goal.returns
returns c = number_line c.args.text.now c.in_ok-line-2.line.length c.in_ok-line-2.line.number c.in_ok-line-2.ensures
