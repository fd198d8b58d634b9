-- How it is shown, act by act, what a process writes that is fed with certain tokens.
use Rattle.std.proofs.Common.{◌≡◌, ◌+◌, ◌≤◌, ℕ, zero, suc, Bool, true, false, List, [], ◌∷◌, length, refl, sym, ap, ◌∙◌, arith, Option, Some, None, get_or, set, nat_lt, if◌then◌else◌}
use Rattle.kpn_model.specs.declared.token.Token.{Token}
use Rattle.kpn_model.specs.declared.kinds.Card.{Card}
use Rattle.kpn_model.specs.declared.kinds.Act.{Act}
use Rattle.kpn_model.specs.declared.kinds.Act.TheVariants.{Read, Write, Stop}
use Rattle.kpn_model.specs.declared.kinds.Answer.{Answer}
use Rattle.kpn_model.specs.declared.history.Status.{Status}
use Rattle.kpn_model.specs.declared.history.Status.TheVariants.{Live}
use Rattle.kpn_model.specs.Network.{Family}
use Rattle.kpn_streams.specs.Fed.{nothing, put_first, after_read, after_act, written_in, WritesFrom}

-- what a test chooses that comes out true
pub chosen : {A : Type 0} (test : Bool) (a b : A) → test ≡ true → (if test then a else b) ≡ a
chosen test a b e = ap (λ (x : Bool). if x then a else b) e

-- and if it comes out false
pub chosen_else : {A : Type 0} (test : Bool) (a b : A) → test ≡ false → (if test then a else b) ≡ b
chosen_else test a b e = ap (λ (x : Bool). if x then a else b) e

-- a token more leaves as many lists
pub length-put_first : (t : Token) (k : ℕ) (ls : List (List Token)) → length (put_first t k ls) ≡ length ls
length-put_first t k [] = refl
length-put_first t zero (l ∷ ls) = refl
length-put_first t (suc k) (l ∷ ls) = ap suc (length-put_first t k ls)

module _ (kinds : Family) (card : Card) where
  -- what it writes to as many outputs is the same each time
  pub one_writing :
      (s : Status) (ins outs others : List (List Token)) → length outs ≡ length others → WritesFrom kinds card s ins outs
      → WritesFrom kinds card s ins others → outs ≡ others
  one_writing s ins outs others same v w =
      let n = v.enough + w.enough in
      sym (v.written n (omega arith)) ∙ ap (λ k. written_in kinds card k n s ins) same ∙ w.written n (omega arith)

  -- a process that does nothing more writes nothing
  at_rest :
      (s : Status) (ins outs : List (List Token)) → nothing (length outs) ≡ outs
      → ((n : ℕ) → written_in kinds card (length outs) (suc n) s ins ≡ nothing (length outs)) → WritesFrom kinds card s ins outs
  at_rest s ins outs none h = record { enough = 0; written = λ n few. all n }
    where
      all : (n : ℕ) → written_in kinds card (length outs) n s ins ≡ outs
      all zero = none
      all (suc n) = h n ∙ none

  -- what is written in one act more, by what the process answers
  one_more :
      (local : List ℕ) (last : Option Token) (ins : List (List Token)) (next : List ℕ) (act : Act)
      → kinds.answer card local last ≡ record { next = next; act = act } → (outputs n : ℕ)
      → written_in kinds card outputs (suc n) (Live local last) ins ≡ after_act (written_in kinds card outputs n) outputs next ins act
  one_more local last ins next act is outputs n = ap (λ (a : Answer). after_act (written_in kinds card outputs n) outputs a.next ins a.act) is

  module _ {local : List ℕ} {last : Option Token} {ins : List (List Token)} (next : List ℕ) where
    -- it stops
    pub stops : {outs : List (List Token)} → kinds.answer card local last ≡ record { next = next; act = Stop } → nothing (length outs) ≡ outs → WritesFrom kinds card (Live local last) ins outs
    stops {outs} is none = at_rest (Live local last) ins outs none (λ n. one_more local last ins next Stop is (length outs) n)

    -- it waits for a token of input j, and there is none
    pub waits :
        {outs : List (List Token)} (j : ℕ) → kinds.answer card local last ≡ record { next = next; act = Read j } → get_or ins j [] ≡ []
        → nothing (length outs) ≡ outs → WritesFrom kinds card (Live local last) ins outs
    waits {outs} j is empty none =
        at_rest (Live local last) ins outs none
        (λ n. one_more local last ins next (Read j) is (length outs) n ∙ ap (λ l. after_read (written_in kinds card (length outs) n) (length outs) next ins j l) empty)

    -- it reads the first token of input j, and goes on
    pub reads :
        {outs : List (List Token)} (j : ℕ) (t : Token) (ts : List Token) → kinds.answer card local last ≡ record { next = next; act = Read j }
        → get_or ins j [] ≡ t ∷ ts → WritesFrom kinds card (Live next (Some t)) (set ins j ts) outs → WritesFrom kinds card (Live local last) ins outs
    reads {outs} j t ts is has w = record { enough = suc w.enough; written = later }
      where
        later : (n : ℕ) → suc w.enough ≤ n → written_in kinds card (length outs) n (Live local last) ins ≡ outs
        later zero h = absurd (omega arith)
        later (suc n) h =
            one_more local last ins next (Read j) is (length outs) n
            ∙ ap (λ l. after_read (written_in kinds card (length outs) n) (length outs) next ins j l) has
            ∙ w.written n (omega arith)

    -- it writes t to output k, and goes on
    pub writes :
        {outs : List (List Token)} (rest : List (List Token)) (k : ℕ) (t : Token) → kinds.answer card local last ≡ record { next = next; act = Write k t }
        → put_first t k rest ≡ outs → length outs ≡ length rest → nat_lt k (length rest) ≡ true
        → WritesFrom kinds card (Live next None) ins rest → WritesFrom kinds card (Live local last) ins outs
    writes {outs} rest k t is all same within w = record { enough = suc w.enough; written = later }
      where
        later : (n : ℕ) → suc w.enough ≤ n → written_in kinds card (length outs) n (Live local last) ins ≡ outs
        later zero h = absurd (omega arith)
        later (suc n) h =
            one_more local last ins next (Write k t) is (length outs) n
            ∙ ap (λ m. if nat_lt k m then put_first t k (written_in kinds card m n (Live next None) ins) else nothing m) same
            ∙ ap (λ b. if b then put_first t k (written_in kinds card (length rest) n (Live next None) ins) else nothing (length rest)) within
            ∙ ap (λ l. put_first t k l) (w.written n (omega arith))
            ∙ all

    -- it writes t to its one output, and goes on
    pub puts :
        {ts : List Token} (t : Token) → kinds.answer card local last ≡ record { next = next; act = Write 0 t }
        → WritesFrom kinds card (Live next None) ins (ts ∷ []) → WritesFrom kinds card (Live local last) ins ((t ∷ ts) ∷ [])
    puts {ts} t is w = writes (ts ∷ []) 0 t is refl refl refl w
