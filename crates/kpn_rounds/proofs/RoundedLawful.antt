-- The laws of kinds that go in rounds.
use Rattle.std.proofs.Common.{◌≡◌, ℕ, zero, suc, ◌-◌, ◌<◌, ◌≤◌, ◌==◌, nat_lt, if◌then◌else◌, Bool, true, false, List, [], ◌∷◌, ◌++◌, length, take, Option, Some, None, IsSome, option_and_then, refl, sym, subst, ltb-true, arith}
use Rattle.std.specs.Option.{option_map_or}
use Rattle.std.specs.Prelude.{IfSome}
use Rattle.std.specs.List.{AllByRecursion}
use Rattle.kpn_model.specs.declared.token.Token.{Token}
use Rattle.kpn_model.specs.declared.token.Token.TheVariants.{Word, Flag}
use Rattle.kpn_model.specs.declared.token.Sort.{Sort}
use Rattle.kpn_model.specs.declared.token.Sort.TheVariants.{Words, Flags}
use Rattle.kpn_model.specs.declared.kinds.Card.{Card}
use Rattle.kpn_model.specs.declared.kinds.Signature.{Signature}
use Rattle.kpn_model.specs.declared.kinds.Act.TheVariants.{Read, Write, Stop}
use Rattle.kpn_model.specs.declared.kinds.Answer.{Answer}
use Rattle.kpn_model.specs.Lawful.{sort_of, Fits, CardFits, port_at, NamesPort, LeadsOn, AreLawful}
use Rattle.kpn_standard.specs.Locals.{at, LastFits}
use Rattle.kpn_compute.specs.Filters.{IsWord, AreKept, OfAllKept}
use Rattle.kpn_compute.proofs.FilteredLawful.{each_card, all_kept}
use Rattle.kpn_rounds.specs.declared.turns.TheConstants.{ONE_READ, TWO_READ, ONE_LEFT, TWO_LEFT}
use Rattle.kpn_rounds.specs.Steps.{count, AreMade, MakesWords, StepWords}
use Rattle.kpn_rounds.specs.Rounds.{number_of, token_of, token_at, latest, three_of, packed, held, is_narrow, is_wide, carried, with_inputs, with_outputs, read_in, left_in, write_answer, made_by, read_answer, next_answer, round_answer, IsWithinRound, rounds_family, RoundsAdmit}

-- a word that is kept fits
kept_word : (kept : List ℕ) (k : ℕ) → k < 4 → AreKept kept → IsWord (at kept k)
kept_word kept k small words = all_kept (λ l. IsWord (at l k)) (at_place k small) kept words
  where
    at_place : (k : ℕ) → k < 4 → OfAllKept (λ l. IsWord (at l k))
    at_place zero small a b c d p q r s = p
    at_place (suc zero) small a b c d p q r s = q
    at_place (suc (suc zero)) small a b c d p q r s = r
    at_place (suc (suc (suc zero))) small a b c d p q r s = s
    at_place (suc (suc (suc (suc k)))) small a b c d p q r s = absurd (omega arith)

-- the words of a list fit
abbrev AreWords : List ℕ → Type 0
AreWords xs = AllByRecursion IsWord xs

word_at : (xs : List ℕ) (k : ℕ) → AreWords xs → IsWord (at xs k)
word_at [] k words = omega arith
word_at (x ∷ xs) zero words = words.0
word_at (x ∷ xs) (suc k) words = word_at xs k words.1

words_append : (xs ys : List ℕ) → AreWords xs → AreWords ys → AreWords (xs ++ ys)
words_append [] ys words more = more
words_append (x ∷ xs) ys words more = (words.0, words_append xs ys words.1 more)

number_fits : (t : Token) → Fits t → IsWord (number_of t)
number_fits (Word n) fits = fits
number_fits (Flag true) fits = omega arith
number_fits (Flag false) fits = omega arith

latest_fits : (last : Option Token) → LastFits last → AreWords (latest last)
latest_fits None fits = tt
latest_fits (Some t) fits = (number_fits t fits, tt)

-- the first of the words that were made
first_made : (n x y z : ℕ) → IsWord x → IsWord y → IsWord z → AreWords (take n (x ∷ y ∷ z ∷ [])) × (length (take n (x ∷ y ∷ z ∷ [])) ≤ n)
first_made zero x y z p q r = (tt, omega arith)
first_made (suc zero) x y z p q r = ((p, tt), omega arith)
first_made (suc (suc zero)) x y z p q r = ((p, (q, tt)), omega arith)
first_made (suc (suc (suc zero))) x y z p q r = ((p, (q, (r, tt))), omega arith)
first_made (suc (suc (suc (suc n)))) x y z p q r = ((p, (q, (r, tt))), omega arith)

made_words : (n : ℕ) (made : List ℕ) → AreMade made → AreWords (take n (three_of made)) × (length (take n (three_of made)) ≤ n)
made_words n [] words = absurd words
made_words n (a ∷ []) words = absurd words
made_words n (a ∷ b ∷ []) words = absurd words
made_words n (a ∷ b ∷ c ∷ []) words = first_made n a b c words.0 words.1 words.2
made_words n (a ∷ b ∷ c ∷ d ∷ ds) words = absurd words

-- the ports that are counted exist
port_named : (ports : List (Option Sort)) (k : ℕ) → k < count ports → (k < 3) × IsSome (port_at ports k)
port_named [] k below = absurd (omega arith)
port_named (None ∷ ports) k below = absurd (omega arith)
port_named (Some a ∷ ports) zero below = (omega arith, refl)
port_named (Some a ∷ []) (suc k) below = absurd (omega arith)
port_named (Some a ∷ None ∷ ports) (suc k) below = absurd (omega arith)
port_named (Some a ∷ Some b ∷ ports) (suc zero) below = (omega arith, refl)
port_named (Some a ∷ Some b ∷ []) (suc (suc k)) below = absurd (omega arith)
port_named (Some a ∷ Some b ∷ None ∷ ports) (suc (suc k)) below = absurd (omega arith)
port_named (Some a ∷ Some b ∷ Some c ∷ ports) (suc (suc zero)) below = (omega arith, refl)
port_named (Some a ∷ Some b ∷ Some c ∷ ports) (suc (suc (suc k))) below = absurd (omega arith)

-- a number on a port that exists is a token of its sort
of_sort : (o : Option Sort) (n : ℕ) → IsSome o → IsWord n → Fits (option_map_or (λ sort. token_of sort n) o (Word n)) × (o ≡ Some (sort_of (option_map_or (λ sort. token_of sort n) o (Word n))))
of_sort None n some word = cc
of_sort (Some Words) n some word = (word, refl)
of_sort (Some Flags) n some word = (tt, refl)

-- what a local state packs fits
packed_fits : (one_held two_held : ℕ) (kept xs : List ℕ) → IsWord one_held → IsWord two_held → AreKept kept → AreWords xs → AreKept (packed one_held two_held kept xs)
packed_fits one_held two_held kept [] p q words more = (kept_word kept 0 (omega arith) words, kept_word kept 1 (omega arith) words, omega arith, omega arith)
packed_fits one_held two_held kept (x ∷ []) p q words more = (kept_word kept 0 (omega arith) words, kept_word kept 1 (omega arith) words, more.0, p)
packed_fits one_held two_held kept (x ∷ y ∷ ys) p q words more = (kept_word kept 0 (omega arith) words, more.1.0, more.0, q)

-- and so does what it holds
held_fits : (one_held two_held : ℕ) (local : List ℕ) → AreKept local → AreWords (held one_held two_held local)
held_fits one_held two_held local words = go (at local 3 == one_held) (at local 3 == two_held)
  where
    go : (a b : Bool) → AreWords (if a then at local 2 ∷ [] else if b then at local 2 ∷ at local 1 ∷ [] else [])
    go true b = (kept_word local 2 (omega arith) words, tt)
    go false true = (kept_word local 2 (omega arith) words, (kept_word local 1 (omega arith) words, tt))
    go false false = tt

chosen : (P : List ℕ → Type 0) (b : Bool) (xs ys : List ℕ) → P xs → P ys → P (if b then xs else ys)
chosen P true xs ys p q = p
chosen P false xs ys p q = q

-- where inputs are held no output is left
none_left : (narrow : Bool) (kept xs : List ℕ) → length (if narrow then [] else held ONE_LEFT TWO_LEFT (if narrow then kept else packed ONE_READ TWO_READ kept xs)) ≡ 0
none_left true kept xs = refl
none_left false kept [] = refl
none_left false kept (x ∷ []) = refl
none_left false kept (x ∷ y ∷ ys) = refl

-- no more are left than are held
few_left : (narrow : Bool) (kept ws : List ℕ) → length (if narrow then [] else held ONE_LEFT TWO_LEFT (if narrow then kept else packed ONE_LEFT TWO_LEFT kept ws)) ≤ length ws
few_left true kept ws = omega arith
few_left false kept [] = omega arith
few_left false kept (x ∷ []) = omega arith
few_left false kept (x ∷ y ∷ ys) = omega arith

module _ (s : Signature) where
  carried_fits : (kept : List ℕ) → AreKept kept → AreKept (carried s kept)
  carried_fits kept words =
      let first = kept_word kept 0 (omega arith) words in
      chosen AreKept (is_narrow s) kept _ words
      (chosen AreKept (is_wide s) _ _ (first, omega arith, omega arith, omega arith) (first, kept_word kept 1 (omega arith) words, omega arith, omega arith))

  -- the local states with inputs and with outputs may follow
  inputs_within : (kept xs : List ℕ) (last : Option Token) → AreKept kept → AreWords xs → LastFits last → IsWithinRound s (with_inputs s kept xs) last
  inputs_within kept xs last words more fits =
      record {
        kept = chosen AreKept (is_narrow s) kept _ words (packed_fits ONE_READ TWO_READ kept xs (omega arith) (omega arith) words more);
        last_fits = fits;
        left = omega (arith, none_left (is_narrow s) kept xs);
      }

  outputs_within : (kept ws : List ℕ) (last : Option Token) → AreKept kept → AreWords ws → length ws ≤ count s.outs → LastFits last → IsWithinRound s (with_outputs s kept ws) last
  outputs_within kept ws last words more few fits =
      record {
        kept = chosen AreKept (is_narrow s) kept _ words (packed_fits ONE_LEFT TWO_LEFT kept ws (omega arith) (omega arith) words more);
        last_fits = fits;
        left = omega (arith, few_left (is_narrow s) kept ws);
      }

module _ (ports : Card → Option Signature) where
  -- the answer names a port of the card, and what follows it is admitted
  record IsLawful (card : Card) (answer : Answer) : Type 0 where
    names_port : NamesPort ports card answer.act
    leads_on : (token : Token) → LeadsOn ports (RoundsAdmit ports) card answer token

  module _ (card : Card) (s : Signature) (is : ports card ≡ Some s) where
    admit : (next : List ℕ) (last : Option Token) → IsWithinRound s next last → RoundsAdmit ports card next last
    admit next last within = subst (λ (o : Option Signature). IfSome o (λ s. IsWithinRound s next last)) (sym is) within

    read_lawful : (next : List ℕ) (k : ℕ) → k < count s.ins → ((last : Option Token) → LastFits last → IsWithinRound s next last) → IsLawful card (record { next = next; act = Read k })
    read_lawful next k below within =
        record {
          names_port = (
            (port_named s.ins k below).0,
            subst (λ (o : Option Signature). IsSome (option_and_then (λ p. port_at p.ins k) o)) (sym is) (port_named s.ins k below).1,
          );
          leads_on = λ token sort fits. admit next (Some token) (within (Some token) fits);
        }

    write_lawful : (next : List ℕ) (k w : ℕ) → k < count s.outs → IsWord w → IsWithinRound s next None → IsLawful card (record { next = next; act = Write k (token_at s.outs k w) })
    write_lawful next k w below word within =
        let port = of_sort (port_at s.outs k) w (port_named s.outs k below).1 word in
        record {
          names_port = (
            (port_named s.outs k below).0,
            port.0,
            subst (λ (o : Option Signature). option_and_then (λ p. port_at p.outs k) o ≡ Some (sort_of (token_at s.outs k w))) (sym is) port.1,
          );
          leads_on = λ token. admit next None within;
        }

    -- the writes of outputs are lawful
    writes_lawful : (kept ws : List ℕ) → AreKept kept → AreWords ws → length ws ≤ count s.outs → IsLawful card (write_answer s kept ws)
    writes_lawful kept [] words more few = go (nat_lt 0 (count s.ins)) refl
      where
        go : (b : Bool) → nat_lt 0 (count s.ins) ≡ b → IsLawful card (record { next = with_outputs s kept []; act = if b then Read 0 else Stop })
        go true e = read_lawful _ 0 (ltb-true 0 (count s.ins) e) (λ last fits. outputs_within s kept [] last words tt (omega arith) fits)
        go false e = record { names_port = tt; leads_on = λ token. tt }
    writes_lawful kept (w ∷ ws) words more few =
        write_lawful (with_outputs s kept ws) (count s.outs - length (w ∷ ws)) w (omega arith) more.0 (outputs_within s kept ws None words more.1 (omega arith) tt)

    module _ (step : List ℕ → List ℕ → List ℕ × List ℕ) (law : OfAllKept (MakesWords step)) where
      -- so are the reads of inputs, and what follows the last
      reads_lawful : (kept inputs : List ℕ) → AreKept kept → AreWords inputs → IsLawful card (read_answer s step kept inputs)
      reads_lawful kept inputs words more = go (nat_lt (length inputs) (count s.ins)) refl
        where
          made : AreKept (step (carried s kept) (three_of inputs)).0 × AreMade (step (carried s kept) (three_of inputs)).1
          made =
              all_kept (MakesWords step)
              law (carried s kept) (carried_fits s kept words) (at inputs 0) (at inputs 1) (at inputs 2) (word_at inputs 0 more) (word_at inputs 1 more) (word_at inputs 2 more)

          go : (b : Bool) → nat_lt (length inputs) (count s.ins) ≡ b
              → IsLawful card (if b then record { next = with_inputs s kept inputs; act = Read (length inputs) } else write_answer s (made_by s step kept inputs).0 (made_by s step kept inputs).1)
          go true e = read_lawful (with_inputs s kept inputs) (length inputs) (ltb-true (length inputs) (count s.ins) e) (λ last fits. inputs_within s kept inputs last words more fits)
          go false e =
              let outputs = made_words (count s.outs) (step (carried s kept) (three_of inputs)).1 made.1 in
              writes_lawful (made_by s step kept inputs).0 (made_by s step kept inputs).1 made.0 outputs.0 outputs.1

      next_lawful : (local inputs ws : List ℕ) → AreKept local → AreWords inputs → AreWords ws → length ws ≤ count s.outs → IsLawful card (next_answer s step local inputs ws)
      next_lawful local inputs [] words read more few = reads_lawful local inputs words read
      next_lawful local inputs (w ∷ ws) words read more few = writes_lawful local (w ∷ ws) words more few

      round_lawful : (local : List ℕ) (last : Option Token) → IsWithinRound s local last → IsLawful card (round_answer s step local last)
      round_lawful local last within =
          next_lawful local (read_in s local ++ latest last) (left_in s local) within.kept
          (words_append (read_in s local) (latest last) (chosen AreWords (is_narrow s) [] _ tt (held_fits ONE_READ TWO_READ local within.kept)) (latest_fits last within.last_fits))
          (chosen AreWords (is_narrow s) [] _ tt (held_fits ONE_LEFT TWO_LEFT local within.kept))
          within.left

module _ (ports : Card → Option Signature) (start : Card → List ℕ) (step : Card → List ℕ → List ℕ → List ℕ × List ℕ) (law : StepWords ports start step) where
  answers_lawful : (card : Card) (local : List ℕ) (last : Option Token) → CardFits card → IsSome (ports card) → RoundsAdmit ports card local last → IsLawful ports card ((rounds_family ports start step).answer card local last)
  answers_lawful card local last fits signed admitted = go (ports card) refl admitted
    where
      go : (o : Option Signature) → ports card ≡ o → IfSome o (λ s. IsWithinRound s local last)
          → IsLawful ports card (option_map_or (λ s. round_answer s (step card) local last) o (record { next = local; act = Stop }))
      go None e within = record { names_port = tt; leads_on = λ token. tt }
      go (Some s) e within = round_lawful ports card s e (step card) (each_card (λ c. IsSome (ports c) → OfAllKept (MakesWords (step c))) law.after_step card fits signed) local last within

  starts : (card : Card) → CardFits card → IsSome (ports card) → RoundsAdmit ports card ((rounds_family ports start step).start card) None
  starts card fits signed = go (ports card)
    where
      kept : AreKept (start card)
      kept = each_card (λ c. IsSome (ports c) → AreKept (start c)) law.at_start card fits signed

      go : (o : Option Signature) → IfSome o (λ s. IsWithinRound s (option_map_or (λ s. with_inputs s (start card) []) o (start card)) None)
      go None = tt
      go (Some s) = inputs_within s (start card) [] None kept tt tt

  -- kinds whose steps make words of words are lawful
  pub rounded_lawful : AreLawful ports (RoundsAdmit ports) (rounds_family ports start step)
  rounded_lawful =
      record {
        names_port = λ card local last fits signed admitted. (answers_lawful card local last fits signed admitted).names_port;
        leads_on = λ card local last token fits signed admitted. (answers_lawful card local last fits signed admitted).leads_on token;
        starts = starts;
      }
