-- Feeding in pieces is having had all from the start.
use Rattle.std.proofs.Common.{◌≡◌, ⊎_elim, List, [], ◌∷◌, ◌++◌, append_assoc, append-nil, length, length-append, length-set, refl, sym, ap, ◌∙◌, arith, ℕ, ◌+◌, ◌<◌, ◌≤◌, ◌==◌, Bool, true, false, cond, drop, subst, if◌then◌else◌}
use Rattle.std.proofs.lemmas.Bool.{cases_eq, cases_lt, eq-eqb, ne_eqb}
use Rattle.std.proofs.lemmas.List.{get_or_past}
use Rattle.kpn_model.specs.declared.token.Token.{Token}
use Rattle.kpn_model.specs.declared.parts.Channel.{Channel}
use Rattle.kpn_model.specs.declared.history.Deed.TheVariants.{Took, Put, Stopped}
use Rattle.kpn_model.specs.declared.history.Entry.TheVariants.{Did, Grew}
use Rattle.kpn_model.specs.Network.{Network, Family, channel_of, no_channel}
use Rattle.kpn_model.specs.Semantics.{State, tokens, capacity, with_channel, Run, start}
use Rattle.kpn_model.specs.History.{put_on}
use Rattle.kpn_laws.proofs.Kept.{fresh_start}
use Rattle.kpn_laws.proofs.States.{tokens_set_same, tokens_set_other, holds_within}
use Rattle.kpn_laws.proofs.Wiring.{run_alike}
use Rattle.kpn_machine.proofs.Opened.{capacity_start}
use Rattle.kpn_flow.specs.Events.{Event, Went, Fed, Drained, Flows, entries_of, fed, drained}
use Rattle.kpn_flow.specs.Preloaded.{preloaded, without_growths, all_fed, FeedingIsPreloading}
use Rattle.kpn_flow.proofs.Wired.{preload-length, preload-tokens, preload-capacity, wired_preloaded}
use Rattle.kpn_flow.proofs.Mute.{respects, still_start}
use Rattle.kpn_flow.proofs.Ahead.{Respects, Ahead, HasRoomFor, true_false, fed_none, ahead_grown, does_stop, does_take, does_put, put_within}

module _ (kinds : Family) (net : Network) (ins outs : ℕ → Bool) (later : ℕ → List Token) (later_ins : (c : ℕ) → ins c ≡ false → later c ≡ []) where
  -- what is still to come into each channel
  abbrev todo : List Event → ℕ → List Token
  todo xs c = fed xs c ++ later c

  -- what went out, and then goes out
  abbrev gone : (ℕ → List Token) → List Event → ℕ → List Token
  gone out xs c = out c ++ drained xs c

  abbrev one_more : (ℕ → List Token) → ℕ → Token → ℕ → List Token
  one_more out b t c = if b == c then out c ++ t ∷ [] else out c

  pub record Reaches (M N : State) (xs : List Event) (out : ℕ → List Token) : Type 0 where
    pub state : State
    pub run : Run kinds net N (without_growths (entries_of xs)) state
    pub ahead : Ahead kinds net M state (gone out xs) later

  none_to_come : (xs : List Event) (c : ℕ) → Respects ins outs xs → ins c ≡ false → todo xs c ≡ []
  none_to_come xs c r e = ap (λ l. l ++ later c) (fed_none ins outs xs c r e) ∙ later_ins c e

  same_ahead : (M N : State) (out out2 more more2 : ℕ → List Token) → ((c : ℕ) → out c ≡ out2 c) → ((c : ℕ) → more c ≡ more2 c) → Ahead kinds net M N out more → Ahead kinds net M N out2 more2
  same_ahead M N out out2 more more2 e f a =
      record { processes = a.processes; many = a.many; as_many = a.as_many; tokens_are = λ c. a.tokens_are c ∙ ap (λ l. (l ++ tokens M c) ++ more c) (e c) ∙ ap (λ l. (out2 c ++ tokens M c) ++ l) (f c) }

  -- a token that comes in was still to come
  ahead_fed : (M N mid : State) (b : ℕ) (t : Token) (xs : List Event) (out : ℕ → List Token) → b < length M.channels → mid ≡ with_channel M b (tokens M b ++ t ∷ []) (capacity M b) → Ahead kinds net M N out (todo (Fed b t ∷ xs)) → Ahead kinds net mid N out (todo xs)
  ahead_fed M N mid b t xs out within leaves a =
      let here : tokens mid b ≡ tokens M b ++ t ∷ [] = ap (λ (x : State). tokens x b) leaves ∙ tokens_set_same M b (tokens M b ++ t ∷ []) (capacity M b) within in
      record {
        processes = a.processes ∙ sym (ap (λ (x : State). x.processes) leaves);
        many = ap (λ (x : State). length x.channels) leaves ∙ length-set M.channels b _ ∙ a.many;
        as_many = a.as_many;
        tokens_are = λ c. ⊎_elim
            (λ (e : b ≡ c). subst (λ x. tokens N x ≡ (out x ++ tokens mid x) ++ todo xs x) e
            (a.tokens_are b ∙ ap (λ y. (out b ++ tokens M b) ++ (cond y (t ∷ fed xs b) (fed xs b) ++ later b)) (eq-eqb b b refl)
            ∙ sym (append_assoc (out b ++ tokens M b) (t ∷ []) (todo xs b)) ∙ ap (λ l. l ++ todo xs b) (append_assoc (out b) (tokens M b) (t ∷ []) ∙ ap (λ l. out b ++ l) (sym here))))
            (λ ne. a.tokens_are c ∙ ap (λ y. (out c ++ tokens M c) ++ (cond y (t ∷ fed xs c) (fed xs c) ++ later c)) (ne_eqb b c ne)
            ∙ ap (λ l. (out c ++ l) ++ todo xs c) (sym (ap (λ (x : State). tokens x c) leaves ∙ tokens_set_other M b c (tokens M b ++ t ∷ []) (capacity M b) (λ e. ne (sym e)))))
            (cases_eq b c);
      }

  -- a token that goes out stays there
  ahead_drained : (M N mid : State) (b : ℕ) (t : Token) (rest : List Token) (more out : ℕ → List Token) → b < length M.channels → tokens M b ≡ t ∷ rest → mid ≡ with_channel M b (drop 1 (tokens M b)) (capacity M b) → Ahead kinds net M N out more → Ahead kinds net mid N (one_more out b t) more
  ahead_drained M N mid b t rest more out within first leaves a =
      let here : tokens mid b ≡ rest = ap (λ (x : State). tokens x b) leaves ∙ tokens_set_same M b (drop 1 (tokens M b)) (capacity M b) within ∙ ap (λ (l : List Token). drop 1 l) first in
      record {
        processes = a.processes ∙ sym (ap (λ (x : State). x.processes) leaves);
        many = ap (λ (x : State). length x.channels) leaves ∙ length-set M.channels b _ ∙ a.many;
        as_many = a.as_many;
        tokens_are = λ c. ⊎_elim
            (λ (e : b ≡ c). subst (λ x. tokens N x ≡ (one_more out b t x ++ tokens mid x) ++ more x) e
            (a.tokens_are b ∙ ap (λ l. l ++ more b)
            (ap (λ l. out b ++ l) first ∙ sym (append_assoc (out b) (t ∷ []) rest) ∙ ap (λ l. (out b ++ t ∷ []) ++ l) (sym here) ∙ ap (λ y. cond y (out b ++ t ∷ []) (out b) ++ tokens mid b) (sym (eq-eqb b b refl)))))
            (λ ne. a.tokens_are c ∙ ap (λ l. (out c ++ l) ++ more c) (sym (ap (λ (x : State). tokens x c) leaves ∙ tokens_set_other M b c (drop 1 (tokens M b)) (capacity M b) (λ e. ne (sym e))))
            ∙ ap (λ y. (cond y (out c ++ t ∷ []) (out c) ++ tokens mid c) ++ more c) (sym (ne_eqb b c ne)))
            (cases_eq b c);
      }

  gone_more : (out : ℕ → List Token) (b : ℕ) (t : Token) (xs : List Event) (c : ℕ) → gone (one_more out b t) xs c ≡ gone out (Drained b t ∷ xs) c
  gone_more out b t xs c = by_test (b == c)
    where
      by_test : (y : Bool) → cond y (out c ++ t ∷ []) (out c) ++ drained xs c ≡ out c ++ cond y (t ∷ drained xs c) (drained xs c)
      by_test true = append_assoc (out c) (t ∷ []) (drained xs c)
      by_test false = refl

  none_more : (out : ℕ → List Token) (b : ℕ) (t : Token) → outs b ≡ true → ((c : ℕ) → outs c ≡ false → out c ≡ []) → (c : ℕ) → outs c ≡ false → one_more out b t c ≡ []
  none_more out b t is none c e = ap (λ y. cond y (out c ++ t ∷ []) (out c)) (ne_eqb b c (λ s. true_false (outs c) (ap outs (sym s) ∙ is) e)) ∙ none c e

  goes :
      (xs : List Event) (M N L : State) (out : ℕ → List Token) → Flows kinds net M xs L → Respects ins outs xs → Ahead kinds net M N out (todo xs) → ((c : ℕ) → outs c ≡ false → out c ≡ []) → HasRoomFor kinds net N xs
      → Reaches L N xs out
  goes [] M N L out f r a none room =
      record { state = N; run = refl; ahead = subst (λ (x : State). Ahead kinds net x N (gone out []) later) (sym f) (same_ahead M N out (gone out []) (todo []) later (λ c. sym (append-nil (out c))) (λ c. refl) a) }
  goes (Went (Grew b to) ∷ xs) M N L out f r a none room =
      let g = goes xs f.0 N L out f.2 r (ahead_grown kinds net out (todo xs) M N a b to f.0 f.1) none room in
      record { state = g.state; run = g.run; ahead = g.ahead }
  goes (Went (Did p Stopped) ∷ xs) M N L out f r a none room =
      let x = does_stop kinds net out (todo xs) M N a p f.0 f.1 in
      let g = goes xs f.0 x.0 L out f.2 r x.2 none
      (λ c h. let now = ap (λ (l : List Token). length l) (x.3 c) in let size = x.4 c in let was = room c h in omega arith) in
      record { state = g.state; run = (x.0, x.1, g.run); ahead = g.ahead }
  goes (Went (Did p (Took b t)) ∷ xs) M N L out f r a none room =
      let x = does_take kinds net out (todo xs) M N a p b t f.0 (none b r.0) f.1 in
      let g = goes xs f.0 x.0 L out f.2 r.1 x.2 none
      (λ c h. let now = x.3 c in let size = x.4 c in let was = room c h in omega arith) in
      record { state = g.state; run = (x.0, x.1, g.run); ahead = g.ahead }
  goes (Went (Did p (Put b t)) ∷ xs) M N L out f r a none room =
      let at = put_within kinds net M p b t f.0 f.1 in
      let one : length (put_on (entries_of (Went (Did p (Put b t)) ∷ xs)) b) ≡ length (put_on (entries_of xs) b) + 1 = ap (λ y. length (cond y (t ∷ []) [] ++ put_on (entries_of xs) b)) (eq-eqb b b refl) ∙ (omega arith) in
      let x = does_put kinds net out (todo xs) M N a p b t f.0 (none_to_come xs b r.1 r.0) (let was = room b at in omega arith) f.1 in
      let g = goes xs f.0 x.0 L out f.2 r.1 x.2 none
      (λ c h. ⊎_elim
      (λ (e : c ≡ b). subst (λ y. length (tokens x.0 y) + length (put_on (entries_of xs) y) ≤ capacity x.0 y) (sym e)
      (let now = ap (λ (l : List Token). length l) x.4 ∙ length-append (tokens N b) (t ∷ []) in let size = x.5 b in let was = room b at in omega arith))
      (λ ne.
      let now = ap (λ (l : List Token). length l) (x.3 c ne) in
      let size = x.5 c in
      let was = room c h in
      let same : length (put_on (entries_of (Went (Did p (Put b t)) ∷ xs)) c) ≡ length (put_on (entries_of xs) c) = ap (λ y. length (cond y (t ∷ []) [] ++ put_on (entries_of xs) c)) (ne_eqb b c (λ s. ne (sym s))) in
      omega arith) (cases_eq c b)) in
      record { state = g.state; run = (x.0, x.1, g.run); ahead = g.ahead }
  goes (Fed b t ∷ xs) M N L out f r a none room =
      let g = goes xs f.0 N L out f.2 r.1 (ahead_fed M N f.0 b t xs out f.1.0 f.1.2 a) none room in
      record { state = g.state; run = g.run; ahead = g.ahead }
  goes (Drained b t ∷ xs) M N L out f r a none room =
      let within = holds_within M b t f.1.0.0 f.1.0.1 in
      let g = goes xs f.0 N L (one_more out b t) f.2 r.1 (ahead_drained M N f.0 b t f.1.0.0 (todo xs) out within f.1.0.1 f.1.1 a) (none_more out b t r.0 none) room in
      record { state = g.state; run = g.run; ahead = same_ahead L g.state (gone (one_more out b t) xs) (gone out (Drained b t ∷ xs)) later later (gone_more out b t xs) (λ c. refl) g.ahead }

-- the deeds of a run that is fed and drained are a run of the network that held all from the start
pub feeding_is_preloading : (kinds : Family) → FeedingIsPreloading kinds
feeding_is_preloading kinds net xs M later sizes f o =
    let more = all_fed xs later in
    let other = preloaded net more sizes in
    let S = start kinds net in
    let T = start kinds other in
    let same = preload-length net.channels more sizes in
    let at_start : (c : ℕ) → tokens S c ≡ (channel_of net c).tokens = (fresh_start kinds net).tokens_are in
    let at_other : (c : ℕ) → tokens T c ≡ (channel_of other c).tokens = (fresh_start kinds other).tokens_are in
    let ahead : Ahead kinds net S T (λ c. []) more =
    record {
      processes = refl;
      many = (fresh_start kinds net).channels;
      as_many = (fresh_start kinds other).channels ∙ same;
      tokens_are = λ c. at_other c ∙ ⊎_elim (λ (h : c < length net.channels). preload-tokens net.channels more sizes c h ∙ ap (λ l. l ++ more c) (sym (at_start c)))
          (λ (h : length net.channels ≤ c).
          let none : more c ≡ [] = past c h in
          ap (λ (l : Channel). l.tokens) (get_or_past other.channels c no_channel (omega arith)) ∙ ap (λ (l : Channel). l.tokens) (sym (get_or_past net.channels c no_channel h)) ∙ sym (at_start c) ∙ sym (append-nil (tokens S c)) ∙ ap (λ l. tokens S c ++ l) (sym none))
          (cases_lt c (length net.channels));
    } in
    let room : HasRoomFor kinds net T xs =
    λ c h.
    let have = ap (λ (l : List Token). length l) (at_other c ∙ preload-tokens net.channels more sizes c h) ∙ length-append (channel_of net c).tokens (more c) in
    let size = capacity_start other.channels c ∙ preload-capacity net.channels more sizes c h in
    let most = o.room c h in
    omega arith in
    let g = goes kinds net o.ins o.outs later o.later_inputs xs S T M (λ c. []) f keeps_to_ends ahead (λ c e. refl) room in
    record {
      state = g.state;
      run = run_alike kinds net other (wired_preloaded net more sizes) T (without_growths (entries_of xs)) g.state g.run;
      processes = g.ahead.processes;
      tokens_are = g.ahead.tokens_are;
    }
  where
    keeps_to_ends : Respects o.ins o.outs xs
    keeps_to_ends = respects kinds net o.ins o.outs (λ c e. (o.inputs c e).1) o.outputs xs (start kinds net) M f (still_start kinds net) o.at_ends

    past : (c : ℕ) → length net.channels ≤ c → all_fed xs later c ≡ []
    past c h = by_test (o.ins c) refl
      where
        by_test : (y : Bool) → o.ins c ≡ y → all_fed xs later c ≡ []
        by_test true e = let i = (o.inputs c e).0 in absurd (omega arith)
        by_test false e = ap (λ l. l ++ later c) (fed_none o.ins o.outs xs c keeps_to_ends e) ∙ o.later_inputs c e
