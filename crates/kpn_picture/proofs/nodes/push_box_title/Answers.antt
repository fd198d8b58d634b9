-- The name of a kind, and what is written of each argument.
use Rattle.std.proofs.Common.{◌≡◌, ◌∙◌, ◌++◌, ℕ, List, [], ◌∷◌, length, string_bytes, refl, sym, ap, arith, rules}
use Rattle.std.proofs.lemmas.Grind.{common_steps}
use Rattle.kpn_model.specs.declared.kinds.Card.{Card}
use Rattle.kpn_picture.specs.Picture.{box_title, kind_text}
use Rattle.kpn_picture.proofs.nodes.push_box_title.Goals as goal

for_no_title : (title : ℕ → List ℕ × ℕ) (card : Card) (text : List ℕ) → length text ≡ 0 → box_title title card text ≡ kind_text title card
for_no_title title card [] none = refl
for_no_title title card (b ∷ bs) none = absurd (omega (arith, none))

pub returns : goal.returns
returns g c =
    let kind : string_bytes c.push_argument-3.new.out ≡ string_bytes c.args.out.now ++ kind_text g.K.Titled.title c.args.card.now = grind (arith, common_steps) in
    let none : length c.args.title.now ≡ 0 = search rules in
    kind ∙ ap (λ text. string_bytes c.args.out.now ++ text) (sym (for_no_title g.K.Titled.title c.args.card.now c.args.title.now none))
