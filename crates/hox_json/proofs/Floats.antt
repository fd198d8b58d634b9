-- The JSON of a report has no number with a point.
use Rattle.std.proofs.Common.{◌≡◌, ◌-◌, ◌||◌, ℕ, Bool, true, false, List, [], ◌∷◌, Ordering, Less, Equal, Greater, Option, Some, None, map, codes, length, nat_lt, nat_cmp, refl}
use Rattle.std.specs.Prelude.{slice_index_or}
use Rattle.std.specs.List.{fold}
use Rattle.std.specs.Cmp.Lexicographic.{slice_cmp}
use Rattle.std.specs.Ordering.{match_ordering}
use Rattle.serde_json.specs.Data.{Data, Members, array, boolean, float, member, negative, no_members, null, number, object, put, string, unsigned}
use Rattle.serde_json.specs.Read.{read}
use Rattle.serde_json.specs.View.{items_of}
use Rattle.serde_json.specs.Written.{has_float, items_have_float, members_have_float}
use Rattle.hox_json.specs.Json.{growth_data, growths_data, has, is_cycle, lines, lines_of, named, names_data, plain_or, put_if, put_named, report_data, sizes_data, state_data, text_of, token_data, tokens_data, verdict_text, waits, with_history, with_places, with_rest, with_verdict, word_at, words_after}

neither : (p q : Bool) → p ≡ false → q ≡ false → (p || q) ≡ false
neither false q h i = i
neither true q h i = cc h

placed : (o : Ordering) (k l : List ℕ) (d e : Data) (ms rest : Members) → has_float d ≡ false → has_float e ≡ false → members_have_float ms ≡ false → members_have_float rest ≡ false
    → members_have_float (match_ordering o (member k d (member l e ms)) (member l d ms) (member l e rest)) ≡ false
placed Less k l d e ms rest hd he hm hr = neither (has_float d) _ hd (neither (has_float e) _ he hm)
placed Equal k l d e ms rest hd he hm hr = neither (has_float d) _ hd hm
placed Greater k l d e ms rest hd he hm hr = neither (has_float e) _ he hr

first_of : (p q : Bool) → (p || q) ≡ false → p ≡ false
first_of false q h = refl
first_of true q h = h

second_of : (p q : Bool) → (p || q) ≡ false → q ≡ false
second_of false q h = h
second_of true q h = cc h

put_plain : (k : List ℕ) (d : Data) (ms : Members) → has_float d ≡ false → members_have_float ms ≡ false → members_have_float (put k d ms) ≡ false
put_plain k d no_members hd hm = neither (has_float d) false hd refl
put_plain k d (member l e ms) hd hm =
    let he = first_of (has_float e) (members_have_float ms) hm in
    let hs = second_of (has_float e) (members_have_float ms) hm in
    placed (slice_cmp nat_cmp k l) k l d e ms (put k d ms) hd he hs (put_plain k d ms hd hs)

put_if_plain : (told : Bool) (k : List ℕ) (d : Data) (ms : Members) → has_float d ≡ false → members_have_float ms ≡ false → members_have_float (put_if told k d ms) ≡ false
put_if_plain true k d ms hd hm = put_plain k d ms hd hm
put_if_plain false k d ms hd hm = hm

plain_or_plain : (text : List ℕ) (d : Option Data) → has_float (plain_or text d) ≡ false
plain_or_plain text None = refl
plain_or_plain text (Some null) = refl
plain_or_plain text (Some (boolean b)) = refl
plain_or_plain text (Some (number (unsigned n))) = refl
plain_or_plain text (Some (number (negative z))) = refl
plain_or_plain text (Some (number (float x))) = refl
plain_or_plain text (Some (string s)) = refl
plain_or_plain text (Some (array ds)) = refl
plain_or_plain text (Some (object ms)) = refl

token_plain : (text : List ℕ) → has_float (token_data text) ≡ false
unfolding token_data
token_plain text = plain_or_plain text (read text)

items_plain : {A : Type 0} (f : A → Data) → ((x : A) → has_float (f x) ≡ false) → (xs : List A) → items_have_float (items_of (map f xs)) ≡ false
items_plain f plain [] = refl
items_plain f plain (x ∷ xs) = neither (has_float (f x)) _ (plain x) (items_plain f plain xs)

tokens_plain : (words : List (List ℕ)) → has_float (tokens_data words) ≡ false
tokens_plain words = items_plain token_data token_plain words

names_plain : (words : List (List ℕ)) → has_float (names_data words) ≡ false
names_plain words = items_plain string (λ x. refl) words

state_plain : (words : List (List ℕ)) → has_float (state_data words) ≡ false
state_plain words =
    let state : Members = put (codes "state") (string (word_at words 0)) no_members in
    let waiting : Members = put_if (waits words) (codes "channel") (string (word_at words 1)) state in
    put_if_plain (nat_lt 2 (length words)) (codes "steps") (token_data (word_at words (length words - 1))) waiting (token_plain (word_at words (length words - 1)))
    (put_if_plain (waits words) (codes "channel") (string (word_at words 1)) state refl refl)

sizes_plain : (words : List (List ℕ)) → has_float (sizes_data words) ≡ false
sizes_plain words =
    neither (has_float (token_data (word_at words 5))) _ (token_plain (word_at words 5))
    (neither (has_float (token_data (word_at words 3))) _ (token_plain (word_at words 3)) (neither (has_float (token_data (word_at words 1))) false (token_plain (word_at words 1)) refl))

growth_plain : (words : List (List ℕ)) → has_float (growth_data words) ≡ false
growth_plain words = neither (has_float (token_data (word_at words 1))) _ (token_plain (word_at words 1)) refl

growths_plain : (lines : List (List ℕ)) → has_float (growths_data lines) ≡ false
growths_plain lines = items_plain (λ line. growth_data (words_after line)) (λ line. growth_plain (words_after line)) lines

module _ (value : List (List ℕ) → Data) (plain : (words : List (List ℕ)) → has_float (value words) ≡ false) where
  put_named_plain : (ms : Members) (words : List (List ℕ)) → members_have_float ms ≡ false → members_have_float (put_named value ms words) ≡ false
  put_named_plain ms [] h = h
  put_named_plain ms (name ∷ words) h = put_plain name (value words) ms (plain words) h

  fold_plain : (ms : Members) (lines : List (List ℕ)) → members_have_float ms ≡ false → members_have_float (fold (λ (m : Members) line. put_named value m (words_after line)) ms lines) ≡ false
  fold_plain ms [] h = h
  fold_plain ms (line ∷ lines) h = fold_plain (put_named value ms (words_after line)) lines (put_named_plain ms (words_after line) h)

  named_plain : (lines : List (List ℕ)) → members_have_float (named value lines) ≡ false
  named_plain lines = fold_plain no_members lines refl

module _ (report : List (List ℕ)) where
  verdict_plain : (ms : Members) → members_have_float ms ≡ false → members_have_float (with_verdict report ms) ≡ false
  verdict_plain ms h =
      let end : Members = put (codes "end") (string (text_of report (codes "end"))) ms in
      let ended : Members = put (codes "verdict") (string (verdict_text report)) end in
      put_if_plain (is_cycle report) (codes "cycle") (names_data (words_after (text_of report (codes "verdict")))) ended (names_plain (words_after (text_of report (codes "verdict"))))
      (put_plain (codes "verdict") (string (verdict_text report)) end refl (put_plain (codes "end") (string (text_of report (codes "end"))) ms refl h))

  places_plain : (ms : Members) → members_have_float ms ≡ false → members_have_float (with_places report ms) ≡ false
  places_plain ms h =
      let processes = lines_of (codes "process") report in
      let channels = lines_of (codes "channel") report in
      let states : Members = put_if (has report (codes "process")) (codes "processes") (object (named state_data processes)) ms in
      put_if_plain (has report (codes "channel")) (codes "channels") (object (named sizes_data channels)) states (named_plain sizes_data sizes_plain channels)
      (put_if_plain (has report (codes "process")) (codes "processes") (object (named state_data processes)) ms (named_plain state_data state_plain processes) h)

  history_plain : (ms : Members) → members_have_float ms ≡ false → members_have_float (with_history report ms) ≡ false
  history_plain ms h =
      let ended = has report (codes "entries") in
      let count = text_of report (codes "entries") in
      let grew = lines_of (codes "grew") report in
      let streams = lines_of (codes "stream") report in
      let counted : Members = put_if ended (codes "entries") (token_data count) ms in
      let grown : Members = put_if ended (codes "growths") (growths_data grew) counted in
      put_if_plain ended (codes "streams") (object (named tokens_data streams)) grown (named_plain tokens_data tokens_plain streams)
      (put_if_plain ended (codes "growths") (growths_data grew) counted (growths_plain grew) (put_if_plain ended (codes "entries") (token_data count) ms (token_plain count) h))

  rest_plain : (ms : Members) → members_have_float ms ≡ false → members_have_float (with_rest report ms) ≡ false
  rest_plain ms h =
      let active = words_after (slice_index_or (lines_of (codes "active") report) 0 []) in
      let prefixes = lines_of (codes "prefix") report in
      let named_active : Members = put_if (has report (codes "active")) (codes "active") (names_data active) ms in
      put_if_plain (has report (codes "prefix")) (codes "prefixes") (object (named tokens_data prefixes)) named_active (named_plain tokens_data tokens_plain prefixes)
      (put_if_plain (has report (codes "active")) (codes "active") (names_data active) ms (names_plain active) h)

pub report_plain : (text : List ℕ) → has_float (report_data text) ≡ false
report_plain text =
    let ls = lines text in
    let verdict : Members = with_verdict ls no_members in
    let places : Members = with_places ls verdict in
    let history : Members = with_history ls places in
    rest_plain ls history (history_plain ls places (places_plain ls verdict (verdict_plain ls no_members refl)))
