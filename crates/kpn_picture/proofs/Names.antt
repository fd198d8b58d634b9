-- Names have no quote, no backslash and no line feed.
use Rattle.std.proofs.Common.{◌≡◌, ◌≢◌, ℕ, true, false, List, refl}
use Rattle.std.proofs.lemmas.Bool.{and_parts}
use Rattle.std.proofs.lemmas.List.Sums.{AllPass-from_list_all}
use Rattle.kpn_model.specs.texts.NameForm.{is_name, is_name_byte}
use Rattle.kpn_picture.specs.Picture.{IsPlain}

-- a byte that is no byte of a name differs from each byte of a name
other_byte : (b n : ℕ) → is_name_byte b ≡ true → is_name_byte n ≡ false → b ≢ n
other_byte b n is isnt = λ same. let bad : is_name_byte n ≡ true = rw same at is in cc

pub plain_name : (text : List ℕ) → is_name text ≡ true → IsPlain text
plain_name text is =
    λ k d within.
    let byte = AllPass-from_list_all is_name_byte text (and_parts _ _ (and_parts _ _ is).1).1 k d within in
    (other_byte _ 34 byte refl, other_byte _ 92 byte refl, other_byte _ 10 byte refl)
