-- A run in one piece keeps ahead of a run that is fed.
use Rattle.std.proofs.Common.{◌≡◌, ◌≢◌, ⊎_elim, List, [], ◌∷◌, ◌++◌, append_assoc, append-nil, length, length-set, refl, sym, ap, ◌∙◌, arith, ℕ, ◌+◌, ◌<◌, ◌≤◌, Bool, true, false, cond, Some, None, set, drop, subst}
use Rattle.std.proofs.lemmas.Bool.{cases_eq, ne_eqb}
use Rattle.kpn_model.specs.declared.token.Token.{Token}
use Rattle.kpn_model.specs.declared.kinds.Answer.{Answer}
use Rattle.kpn_model.specs.declared.history.Deed.TheVariants.{Took, Put, Stopped}
use Rattle.kpn_model.specs.declared.history.Entry.TheVariants.{Did, Grew}
use Rattle.kpn_model.specs.declared.history.Status.TheVariants.{Live, Done}
use Rattle.kpn_model.specs.Network.{Network, Family}
use Rattle.kpn_model.specs.Semantics.{State, status, tokens, capacity, with_status, with_channel, answered, wants, IsDeed, after_deed, Does, Grows}
use Rattle.kpn_model.specs.History.{put_on}
use Rattle.kpn_laws.proofs.States.{out_of-writer, tokens_set_same, tokens_set_other, holds_within}
use Rattle.kpn_laws.proofs.Transitions.{took_read, put_write, stopped_stop, capacity_after}
use Rattle.kpn_flow.specs.Events.{Event, Went, Fed, Drained, entries_of, fed}

-- only the outside writes to the inputs, and only to them; only the outside reads from the outputs, and only from them
abbrev pub Respects : (ℕ → Bool) → (ℕ → Bool) → List Event → Type 0
Respects ins outs [] = Unit {0}
Respects ins outs (Went (Did p (Put c t)) ∷ xs) = (ins c ≡ false) × Respects ins outs xs
Respects ins outs (Went (Did p (Took c t)) ∷ xs) = (outs c ≡ false) × Respects ins outs xs
Respects ins outs (Went (Did p Stopped) ∷ xs) = Respects ins outs xs
Respects ins outs (Went (Grew c to) ∷ xs) = Respects ins outs xs
Respects ins outs (Fed c t ∷ xs) = (ins c ≡ true) × Respects ins outs xs
Respects ins outs (Drained c t ∷ xs) = (outs c ≡ true) × Respects ins outs xs

pub true_false : (b : Bool) → b ≡ true → b ≡ false → ⊥
true_false b x y = cc

-- nothing is fed into a channel that is no input
pub fed_none : (ins outs : ℕ → Bool) (xs : List Event) (c : ℕ) → Respects ins outs xs → ins c ≡ false → fed xs c ≡ []
fed_none ins outs [] c r e = refl
fed_none ins outs (Went (Did p (Put b t)) ∷ xs) c r e = fed_none ins outs xs c r.1 e
fed_none ins outs (Went (Did p (Took b t)) ∷ xs) c r e = fed_none ins outs xs c r.1 e
fed_none ins outs (Went (Did p Stopped) ∷ xs) c r e = fed_none ins outs xs c r e
fed_none ins outs (Went (Grew b to) ∷ xs) c r e = fed_none ins outs xs c r e
fed_none ins outs (Fed b t ∷ xs) c r e = ap (λ x. cond x (t ∷ fed xs c) (fed xs c)) (ne_eqb b c (λ s. true_false (ins c) (ap ins (sym s) ∙ r.0) e)) ∙ fed_none ins outs xs c r.1 e
fed_none ins outs (Drained b t ∷ xs) c r e = fed_none ins outs xs c r.1 e

module _ (kinds : Family) (net : Network) where
  -- N is ahead of M: it holds what went out of M, and what is still to come
  pub record Ahead (M N : State) (out todo : ℕ → List Token) : Type 0 where
    pub processes : N.processes ≡ M.processes
    pub many : length M.channels ≡ length net.channels
    pub as_many : length N.channels ≡ length net.channels
    pub tokens_are : (c : ℕ) → tokens N c ≡ (out c ++ tokens M c) ++ todo c

  -- there is room for what is there, and for what will be put
  abbrev pub HasRoomFor : State → List Event → Type 0
  HasRoomFor N xs = (c : ℕ) → c < length net.channels → length (tokens N c) + length (put_on (entries_of xs) c) ≤ capacity N c

  wants_too : (M N : State) (p : ℕ) (a : Answer) → N.processes ≡ M.processes → wants kinds net M p ≡ Some a → wants kinds net N p ≡ Some a
  wants_too M N p a same w = ap (λ ps. answered kinds net p (status (record M { processes = ps }) p)) same ∙ w

  -- the channel of a put is one of the network's
  pub put_within : (M : State) (p b : ℕ) (t : Token) (mid : State) → Does kinds net M p (Put b t) mid → b < length net.channels
  put_within M p b t mid s = let r = put_write kinds net M p b t s.answer.act s.is_deed in (out_of-writer net p r.0 b r.2).0

  -- a growth changes no token
  grown_tokens : (M : State) (b to c : ℕ) → b < length M.channels → tokens (with_channel M b (tokens M b) to) c ≡ tokens M c
  grown_tokens M b to c within =
      ⊎_elim (λ (e : c ≡ b). ap (λ x. tokens (with_channel M b (tokens M b) to) x) e ∙ tokens_set_same M b (tokens M b) to within ∙ ap (λ x. tokens M x) (sym e)) (λ ne. tokens_set_other M b c (tokens M b) to ne) (cases_eq c b)

  module _ (out todo : ℕ → List Token) (M N : State) (a : Ahead M N out todo) where
    pub ahead_grown : (b to : ℕ) (mid : State) → Grows kinds net M b to mid → Ahead mid N out todo
    ahead_grown b to mid g =
        let at = out_of-writer net g.chosen.writer g.chosen.blocked.port b g.chosen.blocked.at in
        let within : b < length M.channels = let m = a.many in let w = at.0 in omega arith in
        record {
          processes = a.processes ∙ sym (ap (λ (x : State). x.processes) g.leaves);
          many = ap (λ (x : State). length x.channels) g.leaves ∙ length-set M.channels b _ ∙ a.many;
          as_many = a.as_many;
          tokens_are = λ c. a.tokens_are c ∙ ap (λ l. (out c ++ l) ++ todo c) (sym (ap (λ (x : State). tokens x c) g.leaves ∙ grown_tokens M b to c within));
        }

    -- a stop is done there too
    pub does_stop : (p : ℕ) (mid : State) → Does kinds net M p Stopped mid → (N1 : State) × Does kinds net N p Stopped N1 × Ahead mid N1 out todo × ((c : ℕ) → tokens N1 c ≡ tokens N c) × ((c : ℕ) → capacity N1 c ≡ capacity N c)
    does_stop p mid s = (
      with_status N p Done,
      record { answer = s.answer; wanted = wants_too M N p s.answer a.processes s.wanted; is_deed = subst (λ x. IsDeed kinds net N p x Stopped) (sym (stopped_stop kinds net M p s.answer.act s.is_deed)) tt; leaves = refl },
      record {
        processes = ap (λ ps. set ps p Done) a.processes ∙ sym (ap (λ (x : State). x.processes) s.leaves);
        many = ap (λ (x : State). length x.channels) s.leaves ∙ a.many;
        as_many = a.as_many;
        tokens_are = λ c. a.tokens_are c ∙ ap (λ l. (out c ++ l) ++ todo c) (sym (ap (λ (x : State). tokens x c) s.leaves));
      },
      λ c. refl,
      λ c. refl,
    )

    -- a take too, if nothing went out of the channel
    pub does_take :
        (p b : ℕ) (t : Token) (mid : State) → out b ≡ [] → Does kinds net M p (Took b t) mid
        → (N1 : State) × Does kinds net N p (Took b t) N1 × Ahead mid N1 out todo × ((c : ℕ) → length (tokens N1 c) ≤ length (tokens N c)) × ((c : ℕ) → capacity N1 c ≡ capacity N c)
    does_take p b t mid none s =
        let r = took_read kinds net M p b t s.answer.act s.is_deed in
        let rest = r.3.0 in
        let there : tokens N b ≡ t ∷ (rest ++ todo b) = a.tokens_are b ∙ ap (λ l. (l ++ tokens M b) ++ todo b) none ∙ ap (λ l. l ++ todo b) r.3.1 in
        let within : b < length M.channels = holds_within M b t rest r.3.1 in
        let within_too : b < length N.channels = let m = a.many in let n = a.as_many in omega arith in
        let P = with_status N p (Live s.answer.next (Some t)) in
        let Q = with_status M p (Live s.answer.next (Some t)) in
        let N1 = after_deed kinds net N p s.answer.next (Took b t) in
        let here : tokens N1 b ≡ rest ++ todo b = tokens_set_same P b (drop 1 (tokens N b)) (capacity N b) within_too ∙ ap (λ (l : List Token). drop 1 l) there in
        let mid_here : tokens mid b ≡ rest = ap (λ (x : State). tokens x b) s.leaves ∙ tokens_set_same Q b (drop 1 (tokens M b)) (capacity M b) within ∙ ap (λ (l : List Token). drop 1 l) r.3.1 in
        let other : (c : ℕ) → c ≢ b → tokens N1 c ≡ tokens N c = λ c ne. tokens_set_other P b c (drop 1 (tokens N b)) (capacity N b) ne in (
          N1,
          record { answer = s.answer; wanted = wants_too M N p s.answer a.processes s.wanted; is_deed = subst (λ x. IsDeed kinds net N p x (Took b t)) (sym r.1) (r.2, (rest ++ todo b, there)); leaves = refl },
          record {
            processes = ap (λ ps. set ps p (Live s.answer.next (Some t))) a.processes ∙ sym (ap (λ (x : State). x.processes) s.leaves);
            many = ap (λ (x : State). length x.channels) s.leaves ∙ length-set M.channels b _ ∙ a.many;
            as_many = length-set N.channels b _ ∙ a.as_many;
            tokens_are = λ c. ⊎_elim
                (λ (e : c ≡ b). ap (λ x. tokens N1 x) e ∙ here ∙ ap (λ l. l ++ todo b) (sym mid_here) ∙ ap (λ l. (l ++ tokens mid b) ++ todo b) (sym none) ∙ ap (λ x. (out x ++ tokens mid x) ++ todo x) (sym e))
                (λ ne. other c ne ∙ a.tokens_are c ∙ ap (λ l. (out c ++ l) ++ todo c) (sym (ap (λ (x : State). tokens x c) s.leaves ∙ tokens_set_other Q b c (drop 1 (tokens M b)) (capacity M b) ne)))
                (cases_eq c b);
          },
          λ c. ⊎_elim
              (λ (e : c ≡ b).
              let now = ap (λ (l : List Token). length l) (ap (λ x. tokens N1 x) e ∙ here) in
              let was = ap (λ (l : List Token). length l) (ap (λ x. tokens N x) e ∙ there) in
              omega arith)
              (λ ne. let same = ap (λ (l : List Token). length l) (other c ne) in omega arith) (cases_eq c b),
          λ c. capacity_after kinds net N p c s.answer.next (Took b t),
        )

    -- a put too, if nothing is still to come into the channel
    pub does_put :
        (p b : ℕ) (t : Token) (mid : State) → todo b ≡ [] → length (tokens N b) < capacity N b → Does kinds net M p (Put b t) mid
        → (N1 : State) × Does kinds net N p (Put b t) N1 × Ahead mid N1 out todo × ((c : ℕ) → c ≢ b → tokens N1 c ≡ tokens N c) × (tokens N1 b ≡ tokens N b ++ t ∷ []) × ((c : ℕ) → capacity N1 c ≡ capacity N c)
    does_put p b t mid none room s =
        let r = put_write kinds net M p b t s.answer.act s.is_deed in
        let at = (out_of-writer net p r.0 b r.2).0 in
        let within : b < length M.channels = let m = a.many in omega arith in
        let within_too : b < length N.channels = let n = a.as_many in omega arith in
        let P = with_status N p (Live s.answer.next None) in
        let Q = with_status M p (Live s.answer.next None) in
        let N1 = after_deed kinds net N p s.answer.next (Put b t) in
        let here : tokens N1 b ≡ tokens N b ++ t ∷ [] = tokens_set_same P b (tokens N b ++ t ∷ []) (capacity N b) within_too in
        let mid_here : tokens mid b ≡ tokens M b ++ t ∷ [] = ap (λ (x : State). tokens x b) s.leaves ∙ tokens_set_same Q b (tokens M b ++ t ∷ []) (capacity M b) within in
        let other : (c : ℕ) → c ≢ b → tokens N1 c ≡ tokens N c = λ c ne. tokens_set_other P b c (tokens N b ++ t ∷ []) (capacity N b) ne in
        let plain : tokens N b ≡ out b ++ tokens M b = a.tokens_are b ∙ ap (λ l. (out b ++ tokens M b) ++ l) none ∙ append-nil (out b ++ tokens M b) in
        let longer : tokens N1 b ≡ (out b ++ tokens mid b) ++ todo b =
        here ∙ ap (λ l. l ++ t ∷ []) plain ∙ append_assoc (out b) (tokens M b) (t ∷ []) ∙ ap (λ l. out b ++ l) (sym mid_here) ∙ sym (append-nil (out b ++ tokens mid b)) ∙ ap (λ l. (out b ++ tokens mid b) ++ l) (sym none) in (
          N1,
          record { answer = s.answer; wanted = wants_too M N p s.answer a.processes s.wanted; is_deed = subst (λ x. IsDeed kinds net N p x (Put b t)) (sym r.1) (r.2, refl, room); leaves = refl },
          record {
            processes = ap (λ ps. set ps p (Live s.answer.next None)) a.processes ∙ sym (ap (λ (x : State). x.processes) s.leaves);
            many = ap (λ (x : State). length x.channels) s.leaves ∙ length-set M.channels b _ ∙ a.many;
            as_many = length-set N.channels b _ ∙ a.as_many;
            tokens_are = λ c. ⊎_elim
                (λ (e : c ≡ b). ap (λ x. tokens N1 x) e ∙ longer ∙ ap (λ x. (out x ++ tokens mid x) ++ todo x) (sym e))
                (λ ne. other c ne ∙ a.tokens_are c ∙ ap (λ l. (out c ++ l) ++ todo c) (sym (ap (λ (x : State). tokens x c) s.leaves ∙ tokens_set_other Q b c (tokens M b ++ t ∷ []) (capacity M b) ne)))
                (cases_eq c b);
          },
          other,
          here,
          λ c. capacity_after kinds net N p c s.answer.next (Put b t),
        )
