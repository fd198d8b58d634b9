-- Two ways that are fed the same and are exhausted have given the same.
use Rattle.std.proofs.Common.{◌≡◌, ⊎_elim, List, [], ◌∷◌, ◌++◌, append-nil, length, refl, sym, ap, ◌∙◌, arith, ℕ, ◌+◌, ◌<◌, ◌≤◌, Bool, true, false, cond, subst, Some}
use Rattle.std.proofs.lemmas.Bool.{cases_lt, ne_eqb}
use Rattle.kpn_model.specs.declared.token.Token.{Token}
use Rattle.kpn_model.specs.declared.parts.Channel.{Channel}
use Rattle.kpn_model.specs.declared.kinds.Act.{Act}
use Rattle.kpn_model.specs.declared.kinds.Act.TheVariants.{Read, Write, Stop}
use Rattle.kpn_model.specs.declared.kinds.Answer.{Answer}
use Rattle.kpn_model.specs.declared.history.Entry.{Entry}
use Rattle.kpn_model.specs.declared.history.Status.{Status}
use Rattle.kpn_model.specs.Network.{Network, Family, channel_of, in_of, out_of}
use Rattle.kpn_model.specs.Semantics.{State, status, tokens, capacity, wants, answered, start, Run, IsQuiet, IsBlocked, IsPossible, IsRun}
use Rattle.kpn_model.specs.History.{deeds, put_on, stream, IsPrefixOf}
use Rattle.kpn_laws.specs.Alone.{puts}
use Rattle.kpn_laws.proofs.Lists.{same_from_prefixes}
use Rattle.kpn_laws.proofs.Follows.{status_by}
use Rattle.kpn_laws.proofs.Kept.{fresh_start}
use Rattle.kpn_laws.proofs.KeptByRuns.{kept_run}
use Rattle.kpn_laws.proofs.Domination.{dominated}
use Rattle.kpn_laws.proofs.Streams.{put_on_deeds}
use Rattle.kpn_laws.proofs.States.{in_of-reader}
use Rattle.kpn_flow.specs.Events.{Event, Went, Fed, Drained, Flows, entries_of, fed, drained}
use Rattle.kpn_flow.specs.Flows.{is_among, AreEnds}
use Rattle.kpn_flow.specs.Preloaded.{IsAtEnds, StopsAtOnce, preloaded, without_growths, all_fed}
use Rattle.kpn_flow.specs.Pieces.{IsOneRunWithStreams, IsExhausted, ExhaustedAreTheSame}
use Rattle.kpn_flow.proofs.Ahead.{true_false}
use Rattle.kpn_flow.proofs.Compared.{preload_same}
use Rattle.kpn_flow.proofs.Mute.{still_at_end, still_wants, still_start, read_stop}
use Rattle.kpn_flow.proofs.Untaken.{one_run}
use Rattle.kpn_flow.proofs.Wired.{wired_preloaded}

-- nothing goes out of a channel that is no output
pub drained_none : (ins outs : ℕ → Bool) (xs : List Event) (c : ℕ) → IsAtEnds ins outs xs → outs c ≡ false → drained xs c ≡ []
drained_none ins outs [] c h e = refl
drained_none ins outs (Went x ∷ xs) c h e = drained_none ins outs xs c h e
drained_none ins outs (Fed b t ∷ xs) c h e = drained_none ins outs xs c h.1 e
drained_none ins outs (Drained b t ∷ xs) c h e = ap (λ x. cond x (t ∷ drained xs c) (drained xs c)) (ne_eqb b c (λ s. true_false (outs c) (ap outs (sym s) ∙ h.0) e)) ∙ drained_none ins outs xs c h.1 e

abbrev pub nothing_later : ℕ → List Token
nothing_later c = []

-- room for all that ever is on a channel in either
abbrev room_for_both : Network → List Event → List Event → ℕ → ℕ
room_for_both net xs ys c = (length (channel_of net c).tokens + length (all_fed xs nothing_later c) + length (put_on (entries_of xs) c)) + (length (channel_of net c).tokens + length (all_fed ys nothing_later c) + length (put_on (entries_of ys) c))

module _ (kinds : Family) (net : Network) (inputs outputs : List ℕ) (ends : AreEnds kinds net inputs outputs) where
  module _ (xs : List Event) (M : State) (flows : Flows kinds net (start kinds net) xs M) (at : IsAtEnds (is_among inputs) (is_among outputs) xs) (done : IsExhausted kinds net M) where
    abbrev Whole : (ℕ → ℕ) → Type 0
    Whole sizes = IsOneRunWithStreams kinds net outputs xs M nothing_later sizes

    module _ (sizes : ℕ → ℕ) (r : Whole sizes) where
      abbrev one : Network
      one = preloaded net (all_fed xs nothing_later) sizes

      -- a process that has stopped at the end of that run has stopped here
      same_status : (p : ℕ) → status r.one.state p ≡ status M p
      same_status p = ap (λ (ps : List Status). status (record M { processes = ps }) p) r.one.processes

      same_wants : (p : ℕ) → wants kinds one r.one.state p ≡ wants kinds net M p
      same_wants p = ap (λ (s : Status). answered kinds net p s) (same_status p)

      -- a reader finds there what it finds here, since nothing went out of its channel
      same_tokens : (p k c : ℕ) (a : Answer) → wants kinds net M p ≡ Some a → a.act ≡ Read k → in_of net p k ≡ Some c → tokens r.one.state c ≡ tokens M c
      same_tokens p k c a w reads there = by_test (is_among outputs c) refl
        where
          by_test : (b : Bool) → is_among outputs c ≡ b → tokens r.one.state c ≡ tokens M c
          by_test false e = r.one.tokens_are c ∙ append-nil (drained xs c ++ tokens M c) ∙ ap (λ l. l ++ tokens M c) (drained_none (is_among inputs) (is_among outputs) xs c at e)
          by_test true e =
              let stops : StopsAtOnce kinds net p = subst (λ x. StopsAtOnce kinds net x) (in_of-reader net p k c there).1 (ends.only_drained c e).1 in
              absurd (read_stop k (sym reads ∙ still_wants kinds net M p a stops (still_at_end kinds net xs (start kinds net) M flows (still_start kinds net) p stops) w))

      -- no process wants to write here
      writes_not : (p k c : ℕ) (t : Token) (a : Answer) → wants kinds net M p ≡ Some a → a.act ≡ Write k t → out_of net p k ≡ Some c → ⊥
      writes_not p k c t a w e there =
          ⊎_elim
          (λ (room : length (tokens M c) < capacity M c). done.quiet p (record { answer = a; wanted = w; possible = subst (λ x. IsPossible kinds net M p x) (sym e) (c, there, room) }))
          (λ (full : capacity M c ≤ length (tokens M c)). done.none_blocked p c (record { answer = a; wanted = w; port = k; token = t; act = e; at = there; full = full }))
          (cases_lt (length (tokens M c)) (capacity M c))

      -- so nothing goes on at the end of that run
      possible_here : (p : ℕ) (a : Answer) (x : Act) → wants kinds net M p ≡ Some a → a.act ≡ x → IsPossible kinds one r.one.state p x → ⊥
      possible_here p a Stop w e h = done.quiet p (record { answer = a; wanted = w; possible = subst (λ x. IsPossible kinds net M p x) (sym e) tt })
      possible_here p a (Read k) w e h =
          let there : in_of net p k ≡ Some h.0 = (wired_preloaded net (all_fed xs nothing_later) sizes).ins p k ∙ h.1 in
          done.quiet p (record { answer = a; wanted = w; possible = subst (λ x. IsPossible kinds net M p x) (sym e) (h.0, there, λ none. h.2 (same_tokens p k h.0 a w e there ∙ none)) })
      possible_here p a (Write k t) w e h = writes_not p k h.0 t a w e ((wired_preloaded net (all_fed xs nothing_later) sizes).outs p k ∙ h.1)

      quiet_there : IsQuiet kinds one r.one.state
      quiet_there p e = possible_here p e.answer e.answer.act (sym (same_wants p) ∙ e.wanted) refl e.possible

      -- and none waits there for room
      none_blocked_there : (p c : ℕ) → IsBlocked kinds one r.one.state p c → ⊥
      none_blocked_there p c b = writes_not p b.port c b.token b.answer (sym (same_wants p) ∙ b.wanted) b.act ((wired_preloaded net (all_fed xs nothing_later) sizes).outs p b.port ∙ b.at)

-- in one network a run that is exhausted has all that is done in any other
does_all :
    (kinds : Family) (net : Network) (E F : List Entry) (M N : State) → Run kinds net (start kinds net) E M → IsQuiet kinds net M → ((p c : ℕ) → IsBlocked kinds net M p c → ⊥) → Run kinds net (start kinds net) F N
    → (p : ℕ) → IsPrefixOf (deeds F p) (deeds E p)
does_all kinds net E F M N run quiet free other =
    dominated kinds net (λ _. Unit {0}) (λ _ _ _. tt) (start kinds net) (start kinds net) (fresh_start kinds net) (fresh_start kinds net) E M run quiet (λ H K p c _ _ b. absurd (free p c b)) F N other tt

pub exhausted_are_the_same : (kinds : Family) → ExhaustedAreTheSame kinds
exhausted_are_the_same kinds net inputs outputs ends xs ys M N f at m g too n fed =
    let sizes = room_for_both net xs ys in
    let x = one_run kinds net inputs outputs M ends xs nothing_later sizes f at (λ c e. refl) (λ c h. omega arith) in
    let y = one_run kinds net inputs outputs N ends ys nothing_later sizes g too (λ c e. refl) (λ c h. omega arith) in
    let E = without_growths (entries_of xs) in
    let F = without_growths (entries_of ys) in
    let first = preloaded net (all_fed xs nothing_later) sizes in
    let second = preloaded net (all_fed ys nothing_later) sizes in
    let same : second ≡ first = ap (λ (ls : List Channel). record net { channels = ls }) (preload_same net.channels (all_fed ys nothing_later) (all_fed xs nothing_later) sizes (λ c. ap (λ l. l ++ []) (sym (fed c)))) in
    let other : IsRun kinds first F y.one.state = subst (λ (k : Network). IsRun kinds k F y.one.state) same y.one.run in
    let quiet : IsQuiet kinds first y.one.state = subst (λ (k : Network). IsQuiet kinds k y.one.state) same (quiet_there kinds net inputs outputs ends ys N g too n sizes y) in
    let free : (p c : ℕ) → IsBlocked kinds first y.one.state p c → ⊥ = subst (λ (k : Network). (p c : ℕ) → IsBlocked kinds k y.one.state p c → ⊥) same (none_blocked_there kinds net inputs outputs ends ys N g too n sizes y) in
    let did : (p : ℕ) → deeds E p ≡ deeds F p = λ p. same_from_prefixes _ _
    (does_all kinds first F E y.one.state x.one.state other quiet free x.one.run p)
    (does_all kinds first E F x.one.state y.one.state x.one.run (quiet_there kinds net inputs outputs ends xs M f at m sizes x) (none_blocked_there kinds net inputs outputs ends xs M f at m sizes x) other p) in
    let S = start kinds first in
    let j = kept_run kinds first S (fresh_start kinds first) E x.one.state x.one.run in
    let k = kept_run kinds first S (fresh_start kinds first) F y.one.state other in
    let put : (c : ℕ) → put_on E c ≡ put_on F c = λ c. put_on_deeds kinds first S E x.one.state x.one.run c ∙ ap (λ l. puts l c) (did (channel_of first c).writer) ∙ sym (put_on_deeds kinds first S F y.one.state other c) in
    record {
      outputs_are = λ c output.
          sym (append-nil (drained xs c ++ tokens M c)) ∙ sym (x.outputs_are c output) ∙ ap (λ l. (channel_of first c).tokens ++ l) (put c)
          ∙ ap (λ (k : Network). stream k F c) (sym same) ∙ y.outputs_are c output ∙ append-nil (drained ys c ++ tokens N c);
      statuses = λ p.
          sym (same_status kinds net inputs outputs ends xs M f at m sizes x p) ∙ j.statuses p ∙ ap (λ l. status_by kinds first p l) (did p) ∙ sym (k.statuses p)
          ∙ same_status kinds net inputs outputs ends ys N g too n sizes y p;
    }
