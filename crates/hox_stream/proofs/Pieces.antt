-- Records of a text that comes in pieces.
use Rattle.std.proofs.Common.{◌≡◌, ◌<◌, ◌+◌, ◌++◌, ◌||◌, inl, inr, ℕ, suc, Bool, true, false, cond, not, List, [], ◌∷◌, Option, Some, None, Ok, length, take, drop, refl, sym, ap, ◌∙◌, subst, arith, append_assoc, append-nil, length-append}
use Rattle.std.proofs.lemmas.Bool.{ne_eqb, leb-true, le-leb}
use Rattle.std.proofs.lemmas.List.{take-append-le, drop-append-le}
use Rattle.std.proofs.lemmas.List.Folds.{prefix_len-append}
use Rattle.std.specs.Io.KnownBytes.{Consumes, IsAtEnd, prepend_known}
use Rattle.std.specs.List.{before_first, after_first, list_any, prefix_len, position_or_len}
use Rattle.kpn_model.specs.declared.token.Token.{Token}
use Rattle.kpn_model.specs.declared.token.Sort.{Sort}
use Rattle.kpn_tokens.specs.declared.layouts.Layout.{Layout}
use Rattle.kpn_tokens.specs.declared.layouts.Layout.TheVariants.{Lines, Fields, Frames}
use Rattle.kpn_tokens.specs.Records.{Begin, Fails, IsEnded, IsWhole, Say, first, later, listed, more, next, record_said, rest}
use Rattle.kpn_tokens.specs.Rows.{is_line_feed}
use Rattle.kpn_tokens.specs.Samples.{frame_size}
use Rattle.hox_stream.specs.declared.cutting.FirstRecord.TheVariants.{Record}
use Rattle.hox_stream.specs.Cutting.{IsFirstRecord, Leads, Passes, has_record}

-- ---- whether a record is there to its end

any_from : (bytes : List ℕ) → position_or_len is_line_feed bytes < length bytes → list_any is_line_feed bytes ≡ true
any_from [] h = absurd (omega (arith, h))
any_from (b ∷ bs) h = by (is_line_feed b) (any_from bs) h
  where
    by : (y : Bool) → (position_or_len is_line_feed bs < length bs → list_any is_line_feed bs ≡ true) → cond (not y) (1 + position_or_len is_line_feed bs) 0 < length (b ∷ bs) → (y || list_any is_line_feed bs) ≡ true
    by true rec k = refl
    by false rec k = rec (omega (arith, k))

from_any : (bytes : List ℕ) → list_any is_line_feed bytes ≡ true → position_or_len is_line_feed bytes < length bytes
from_any [] h = cc
from_any (b ∷ bs) h = by (is_line_feed b) (from_any bs) h
  where
    by : (y : Bool) → (list_any is_line_feed bs ≡ true → position_or_len is_line_feed bs < length bs) → (y || list_any is_line_feed bs) ≡ true → cond (not y) (1 + position_or_len is_line_feed bs) 0 < length (b ∷ bs)
    by true before k = omega arith
    by false before k = let r = before k in omega (arith, r)

pub ended_has : (layout : Layout) (bytes : List ℕ) → IsEnded layout bytes → has_record layout bytes ≡ true
ended_has (Lines decimals) bytes h = any_from bytes h
ended_has (Fields column) bytes h = any_from bytes h
ended_has (Frames frame) bytes h = le-leb (frame_size frame) (length bytes) h

has_ended : (layout : Layout) (bytes : List ℕ) → has_record layout bytes ≡ true → IsEnded layout bytes
has_ended (Lines decimals) bytes h = from_any bytes h
has_ended (Fields column) bytes h = from_any bytes h
has_ended (Frames frame) bytes h = leb-true (frame_size frame) (length bytes) h

pub unended_has : (layout : Layout) (bytes : List ℕ) → (IsEnded layout bytes → ⊥) → has_record layout bytes ≡ false
unended_has layout bytes none = by (has_record layout bytes) refl
  where
    by : (y : Bool) → has_record layout bytes ≡ y → y ≡ false
    by true e = absurd (none (has_ended layout bytes e))
    by false e = refl

-- ---- what comes after a record that is there to its end

abbrev line_length : List ℕ → ℕ
line_length bytes = position_or_len is_line_feed bytes

abbrev in_line : ℕ → Bool
in_line b = not (is_line_feed b)

length_on : (text on : List ℕ) → line_length text < length text → line_length (text ++ on) ≡ line_length text
length_on text on whole = prefix_len-append in_line text on ∙ ap (λ y. cond y (length text + prefix_len in_line on) (line_length text)) (ne_eqb (line_length text) (length text) (λ e. absurd (omega (arith, e, whole))))

before_on : (text on : List ℕ) → line_length text < length text → before_first is_line_feed (text ++ on) ≡ before_first is_line_feed text
before_on text on whole = ap (λ n. take n (text ++ on)) (length_on text on whole) ∙ take-append-le (line_length text) text on (omega arith)

after_on : (text on : List ℕ) → line_length text < length text → after_first is_line_feed (text ++ on) ≡ after_first is_line_feed text ++ on
after_on text on whole = ap (λ n. drop (n + 1) (text ++ on)) (length_on text on whole) ∙ drop-append-le (line_length text + 1) text on (omega arith)

first_on : (layout : Layout) (text on : List ℕ) → IsEnded layout text → first layout (text ++ on) ≡ first layout text
first_on (Lines decimals) text on h = before_on text on h
first_on (Fields column) text on h = before_on text on h
first_on (Frames frame) text on h = take-append-le (frame_size frame) text on h

rest_on : (layout : Layout) (text on : List ℕ) → IsEnded layout text → rest layout (text ++ on) ≡ rest layout text ++ on
rest_on (Lines decimals) text on h = after_on text on h
rest_on (Fields column) text on h = after_on text on h
rest_on (Frames frame) text on h = drop-append-le (frame_size frame) text on h

pub first_whole : (layout : Layout) (text on : List ℕ) (last : Bool) → IsWhole layout text last → (last ≡ true → on ≡ []) → first layout (text ++ on) ≡ first layout text
first_whole layout text on last (inl e) none = ap (λ l. first layout l) (ap (λ l. text ++ l) (none e) ∙ append-nil text)
first_whole layout text on last (inr h) none = first_on layout text on h

pub rest_whole : (layout : Layout) (text on : List ℕ) (last : Bool) → IsWhole layout text last → (last ≡ true → on ≡ []) → rest layout (text ++ on) ≡ rest layout text ++ on
rest_whole layout text on last (inl e) none =
    ap (λ l. rest layout l) (ap (λ l. text ++ l) (none e) ∙ append-nil text) ∙ sym (ap (λ l. rest layout text ++ l) (none e) ∙ append-nil (rest layout text))
rest_whole layout text on last (inr h) none = rest_on layout text on h

module _ (layout : Layout) (sort : Sort) where
  pub leads_none : (text : List ℕ) → Leads layout sort text text [] 0
  leads_none text = record {
    says = λ us h. h;
    begins = λ us h. h;
    fails = λ number fault h. let same : number ≡ 0 + number = omega arith in subst (λ n. Fails layout sort text n fault) same h;
  }

  pub leads_both : (a b c : List ℕ) (ts us : List Token) (m n : ℕ) → Leads layout sort a b ts m → Leads layout sort b c us n → Leads layout sort a c (ts ++ us) (m + n)
  leads_both a b c ts us m n x y = record {
    says = λ vs h. subst (λ l. Say layout sort a l) (sym (append_assoc ts us vs)) (x.says (us ++ vs) (y.says vs h));
    begins = λ vs h. subst (λ l. Begin layout sort a l) (sym (append_assoc ts us vs)) (x.begins (us ++ vs) (y.begins vs h));
    fails = λ number fault h.
        let same : m + (n + number) ≡ (m + n) + number = omega arith in
        subst (λ k. Fails layout sort a k fault) same (x.fails (n + number) fault (y.fails number fault h));
  }

  -- a record was read
  pub leads_record : (text : List ℕ) (said : Option Token) → 0 < length text → record_said layout sort (first layout text) ≡ Ok said → Leads layout sort text (rest layout text) (listed said) 1
  leads_record text said within says = record {
    says = λ us h. next said within says h;
    begins = λ us h. more said within says h;
    fails = λ number fault h. let same : suc number ≡ 1 + number = omega arith in subst (λ k. Fails layout sort text k fault) same (later said within says h);
  }

  pub passes_none : (text : Option (List ℕ)) → Passes layout sort text text [] 0
  passes_none None = tt
  passes_none (Some text) = leads_none text

  pub passes_both : (a b c : Option (List ℕ)) (ts us : List Token) (m n : ℕ) → Passes layout sort a b ts m → Passes layout sort b c us n → Passes layout sort a c (ts ++ us) (m + n)
  passes_both None b c ts us m n x y = tt
  passes_both (Some a) None c ts us m n x y = absurd x
  passes_both (Some a) (Some b) None ts us m n x y = absurd y
  passes_both (Some a) (Some b) (Some c) ts us m n x y = leads_both a b c ts us m n x y

  -- the next record was taken of what was kept
  pub passes_record :
      (kept : List ℕ) (remaining : Option (List ℕ)) (last : Bool) (said : Option Token) (used : ℕ) → IsFirstRecord layout sort kept last (Record said used) → (last ≡ true → IsAtEnd remaining)
      → Passes layout sort (prepend_known kept remaining) (prepend_known (drop used kept) remaining) (listed said) 1
  passes_record kept None last said used is end = tt
  passes_record kept (Some left) last said used is end =
      let within : 0 < length (kept ++ left) = omega (arith, length-append kept left, is.1) in
      let says : record_said layout sort (first layout (kept ++ left)) ≡ Ok said = ap (λ l. record_said layout sort l) (first_whole layout kept left last is.4 end) ∙ is.0 in
      subst (λ l. Leads layout sort (kept ++ left) l (listed said) 1) (rest_whole layout kept left last is.4 end ∙ ap (λ l. l ++ left) (sym is.2)) (leads_record (kept ++ left) said within says)

  -- bytes were read
  pub passes_read : (kept bytes : List ℕ) (a b : Option (List ℕ)) → Consumes a b bytes → Passes layout sort (prepend_known kept a) (prepend_known (kept ++ bytes) b) [] 0
  passes_read kept bytes None b c = tt
  passes_read kept bytes (Some x) None c = absurd c
  passes_read kept bytes (Some x) (Some y) c =
      subst (λ l. Leads layout sort (kept ++ x) l [] 0) (ap (λ l. kept ++ l) c ∙ sym (append_assoc kept bytes y)) (leads_none (kept ++ x))
