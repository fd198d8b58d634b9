-- Titles, as they are drawn, have no quote, no backslash and no line feed.
use Rattle.std.proofs.Common.{◌≡◌, ◌≢◌, ℕ, ◌==◌, nat_lt, Bool, true, false, ◌||◌, if◌then◌else◌, List, ◌++◌, get_or, length, map, take, codes, refl, subst, arith}
use Rattle.std.proofs.lemmas.List.Elements.{All-append, All-map}
use Rattle.kpn_picture.specs.Picture.{IsPlain, drawn_byte, title_text}

abbrev IsPlainByte : ℕ → Type 0
IsPlainByte b = (b ≢ 34) × (b ≢ 92) × (b ≢ 10)

-- whether a byte is drawn as a blank
abbrev is_blank : ℕ → Bool
is_blank b = nat_lt b 32 || (nat_lt 126 b || (b == 34 || b == 92))

plain_by : (b : ℕ) (blank : Bool) → is_blank b ≡ blank → IsPlainByte (if blank then 32 else b)
plain_by b true is = (λ e. omega arith, λ e. omega arith, λ e. omega arith)
plain_by b false is =
    let differs : (n : ℕ) → is_blank n ≡ true → b ≢ n = λ n blank same. let bad : is_blank n ≡ false = subst (λ m. is_blank m ≡ false) same is in cc in
    (differs 34 refl, differs 92 refl, differs 10 refl)

plain_byte : (b : ℕ) → IsPlainByte (drawn_byte b)
plain_byte b = plain_by b (is_blank b) refl

plain_bytes : (bytes : List ℕ) → IsPlain (map drawn_byte bytes)
plain_bytes bytes = All-map IsPlainByte drawn_byte bytes (λ k d within. plain_byte (get_or bytes k d))

dots_plain : IsPlain (codes "...")
dots_plain = plain_bytes (codes "...")

drawn_by : (title : List ℕ) (long : Bool) → IsPlain (if long then map drawn_byte (take 37 title) ++ codes "..." else map drawn_byte title)
drawn_by title true = All-append IsPlainByte (map drawn_byte (take 37 title)) (codes "...") (plain_bytes (take 37 title)) dots_plain
drawn_by title false = plain_bytes title

pub plain_title : (title : List ℕ) → IsPlain (title_text title)
plain_title title = drawn_by title (nat_lt 40 (length title))
