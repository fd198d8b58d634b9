-- What a dry process has done is all that it does in any run.
use Rattle.std.proofs.Common.{◌≡◌, inl, ⊎_elim, List, [], ◌∷◌, ◌++◌, length, refl, sym, ap, ◌∙◌, arith, append_assoc, append-nil, length-append, ℕ, Some, subst}
use Rattle.std.proofs.lemmas.List.{append_cancel_left}
use Rattle.kpn_model.specs.declared.kinds.Act.TheVariants.{Read}
use Rattle.kpn_model.specs.declared.kinds.Answer.{Answer}
use Rattle.kpn_model.specs.declared.history.Deed.{Deed}
use Rattle.kpn_model.specs.declared.history.Deed.TheVariants.{Took, Put, Stopped}
use Rattle.kpn_model.specs.declared.history.Entry.{Entry}
use Rattle.kpn_model.specs.declared.history.Status.TheVariants.{Done}
use Rattle.kpn_model.specs.Network.{Family, Network, channel_of, in_of, resized}
use Rattle.kpn_model.specs.Semantics.{State, answered, start, status, tokens, wants, IsRun}
use Rattle.kpn_model.specs.History.{deeds, put_on, stream, ArePrefixComparable, IsPrefixOf}
use Rattle.kpn_laws.specs.Alone.{puts, took}
use Rattle.kpn_laws.proofs.Lists.{prefix-length, prefix_cases}
use Rattle.kpn_laws.proofs.Views.{deeds-append, puts_prefix}
use Rattle.kpn_laws.proofs.States.{in_of-reader}
use Rattle.kpn_laws.proofs.Transitions.{done_wants_none}
use Rattle.kpn_laws.proofs.Follows.{Follows, status_by, wants_by}
use Rattle.kpn_laws.proofs.Kept.{Kept, fresh_start}
use Rattle.kpn_laws.proofs.KeptByRuns.{kept_run}
use Rattle.kpn_laws.proofs.Comparable.{runs_comparable}
use Rattle.kpn_laws.proofs.Resized.{fresh_resized, resize-tokens, run_resized}
use Rattle.kpn_laws.proofs.Streams.{put_on_deeds}
use Rattle.kpn_dry.specs.Dry.{CompleteIsWhole, DryHasDoneAll, DryStaysDry, IsComplete, IsDry, stopped, waits}

-- a list with nothing after it but a prefix of itself has nothing after it
nothing_more : {X : Type 0} (xs ys : List X) → IsPrefixOf (xs ++ ys) xs → ys ≡ []
nothing_more xs [] below = refl
nothing_more xs (y ∷ ys) below =
    let few = prefix-length (xs ++ y ∷ ys) xs below in
    absurd (omega (arith, length-append xs (y ∷ ys)))

same_answer : (x y : Answer) → Some x ≡ Some y → x ≡ y
same_answer x y h = cc

module _ (kinds : Family) (net : Network) where
  -- whatever a process does after these deeds, it wants something
  wants_some : (D : ℕ → List Deed) (p : ℕ) (ds : List Deed) (d : Deed) → Follows kinds net D p ds d → (a : Answer) × (wants_by kinds net p ds ≡ Some a)
  wants_some D p ds (Took c t) f = (f.answer, f.wanted)
  wants_some D p ds (Put c t) f = (f.answer, f.wanted)
  wants_some D p ds Stopped f = (f.answer, f.wanted)

  module _ (S S' : State) (E F : List Entry) (M N : State) (e : Kept kinds net S E M) (f : Kept kinds net S' F N) (line : (p : ℕ) → ArePrefixComparable (deeds E p) (deeds F p)) where
    -- what p wants after its deeds it wants in the state to which they lead
    wanted_now : (p : ℕ) → wants_by kinds net p (deeds E p) ≡ wants kinds net M p
    wanted_now p = ap (λ s. answered kinds net p s) (sym (e.statuses p))

    -- a process does no more in F than in E, if it can't go on there
    at_most : (p : ℕ) → ((d : Deed) → Follows kinds net (deeds F) p (deeds E p) d → ⊥) → IsPrefixOf (deeds F p) (deeds E p)
    at_most p none =
        ⊎_elim
        (λ (a : IsPrefixOf (deeds E p) (deeds F p)). ⊎_elim
        (λ (same : deeds E p ≡ deeds F p). ([], append-nil (deeds F p) ∙ sym same))
        (λ more. absurd (none more.0 (f.follows p (deeds E p) more.0 more.1.0 more.1.1)))
        (prefix_cases (deeds E p) (deeds F p) a))
        (λ b. b)
        (line p)

    -- one that has stopped can't
    not_stopped : (p : ℕ) → status M p ≡ Done → (d : Deed) → Follows kinds net (deeds F) p (deeds E p) d → ⊥
    not_stopped p done d next =
        let want = wants_some (deeds F) p (deeds E p) d next in
        done_wants_none kinds net p (status M p) want.0 done (sym (wanted_now p) ∙ want.1)

    -- nor one that waits for a token of a writer that does no more
    not_waiting :
        (p : ℕ) (answer : Answer) (port c : ℕ) → wants kinds net M p ≡ Some answer → answer.act ≡ Read port → in_of net p port ≡ Some c → tokens M c ≡ []
        → IsPrefixOf (deeds F (channel_of net c).writer) (deeds E (channel_of net c).writer) → (d : Deed) → Follows kinds net (deeds F) p (deeds E p) d → ⊥
    not_waiting p answer port c wanted act at empty below (Put b t) next =
        let same : next.answer ≡ answer = same_answer next.answer answer (sym next.wanted ∙ wanted_now p ∙ wanted) in
        let reads = ap (λ (a : Answer). a.act) same ∙ act in
        let writes = next.act in
        cc
    not_waiting p answer port c wanted act at empty below Stopped next =
        let same : next.answer ≡ answer = same_answer next.answer answer (sym next.wanted ∙ wanted_now p ∙ wanted) in
        let reads = ap (λ (a : Answer). a.act) same ∙ act in
        let stops = next.act in
        cc
    not_waiting p answer port c wanted act at empty below (Took b t) next =
        let same : next.answer ≡ answer = same_answer next.answer answer (sym next.wanted ∙ wanted_now p ∙ wanted) in
        let ports : next.port ≡ port = read_same next.port port (sym next.act ∙ ap (λ (a : Answer). a.act) same ∙ act) in
        let here : b ≡ c = channel_same b c (sym next.at ∙ ap (λ k. in_of net p k) ports ∙ at) in
        let w = (channel_of net c).writer in
        let taken : (channel_of net c).tokens ++ puts (deeds F w) c ≡ took (deeds E p) c ++ t ∷ next.rest =
        subst (λ x. (channel_of net x).tokens ++ puts (deeds F (channel_of net x).writer) x ≡ took (deeds E p) x ++ t ∷ next.rest) here next.next in
        let whole : (channel_of net c).tokens ++ puts (deeds E w) c ≡ took (deeds E p) c ++ [] =
        e.fifo c ∙ ap (λ q. took (deeds E q) c ++ tokens M c) (in_of-reader net p port c at).1 ∙ ap (λ l. took (deeds E p) c ++ l) empty in
        let few = prefix-length (puts (deeds F w) c) (puts (deeds E w) c) (puts_prefix (deeds F w) (deeds E w) c below) in
        let many = ap length taken in
        let all = ap length whole in
        omega (
          arith,
          few,
          many,
          all,
          length-append (channel_of net c).tokens (puts (deeds F w) c),
          length-append (channel_of net c).tokens (puts (deeds E w) c),
          length-append (took (deeds E p) c) (t ∷ next.rest),
          length-append (took (deeds E p) c) [],
        )
      where
        read_same : (x y : ℕ) → Read x ≡ Read y → x ≡ y
        read_same x y h = cc

        channel_same : (x y : ℕ) → Some x ≡ Some y → x ≡ y
        channel_same x y h = cc

    -- so a process that is dry in M does no more in F
    pub dry_below : (p : ℕ) → IsDry kinds net M p → IsPrefixOf (deeds F p) (deeds E p)
    dry_below p (stopped done) = at_most p (not_stopped p done)
    dry_below p (waits answer port c wanted act at empty dry) =
        at_most p (not_waiting p answer port c wanted act at empty (dry_below (channel_of net c).writer dry))

    -- and what is put on a channel that it writes begins with what is put there in F
    pub puts_below : (c : ℕ) → IsComplete kinds net M c → IsPrefixOf (puts (deeds F (channel_of net c).writer) c) (puts (deeds E (channel_of net c).writer) c)
    puts_below c dry = puts_prefix (deeds F (channel_of net c).writer) (deeds E (channel_of net c).writer) c (dry_below (channel_of net c).writer dry)

    -- if F goes on from E, it is dry after F too
    module _ (goes_on : (p : ℕ) → IsPrefixOf (deeds E p) (deeds F p)) where
      same_deeds : (p : ℕ) → IsDry kinds net M p → deeds F p ≡ deeds E p
      same_deeds p dry =
          let a = goes_on p in
          let none : a.0 ≡ [] = nothing_more (deeds E p) a.0 (subst (λ l. IsPrefixOf l (deeds E p)) (sym a.1) (dry_below p dry)) in
          sym a.1 ∙ ap (λ l. deeds E p ++ l) none ∙ append-nil (deeds E p)

      same_status : (p : ℕ) → IsDry kinds net M p → status N p ≡ status M p
      same_status p dry = f.statuses p ∙ ap (λ l. status_by kinds net p l) (same_deeds p dry) ∙ sym (e.statuses p)

      same_tokens : (p port c : ℕ) → in_of net p port ≡ Some c → IsDry kinds net M p → IsDry kinds net M (channel_of net c).writer → tokens N c ≡ tokens M c
      same_tokens p port c at reader writer =
          let w = (channel_of net c).writer in
          let r : (channel_of net c).reader ≡ p = (in_of-reader net p port c at).1 in
          append_cancel_left (took (deeds E p) c) _ _
          (ap (λ l. took l c ++ tokens N c) (sym (same_deeds p reader)) ∙ ap (λ q. took (deeds F q) c ++ tokens N c) (sym r) ∙ sym (f.fifo c)
          ∙ ap (λ l. (channel_of net c).tokens ++ puts l c) (same_deeds w writer) ∙ e.fifo c ∙ ap (λ q. took (deeds E q) c ++ tokens M c) r)

      pub stays : (p : ℕ) → IsDry kinds net M p → IsDry kinds net N p
      stays p (stopped done) = stopped (same_status p (stopped done) ∙ done)
      stays p (waits answer port c wanted act at empty dry) =
          let here : IsDry kinds net M p = waits answer port c wanted act at empty dry in
          waits answer port c (ap (λ s. answered kinds net p s) (same_status p here) ∙ wanted) act at (same_tokens p port c at here dry ∙ empty) (stays (channel_of net c).writer dry)

  -- of a longer run
  module _ (E F : List Entry) (M N : State) (run : IsRun kinds net E M) (longer : IsRun kinds net (E ++ F) N) where
    before : Kept kinds net (start kinds net) E M
    before = kept_run kinds net (start kinds net) (fresh_start kinds net) E M run

    after : Kept kinds net (start kinds net) (E ++ F) N
    after = kept_run kinds net (start kinds net) (fresh_start kinds net) (E ++ F) N longer

    goes_on_here : (p : ℕ) → IsPrefixOf (deeds E p) (deeds (E ++ F) p)
    goes_on_here p = (deeds F p, sym (deeds-append E F p))

    pub stays_dry : (p : ℕ) → IsDry kinds net M p → IsDry kinds net N p × (deeds F p ≡ [])
    stays_dry p dry =
        let below = dry_below (start kinds net) (start kinds net) E (E ++ F) M N before after (λ q. inl (goes_on_here q)) p dry in (
          stays (start kinds net) (start kinds net) E (E ++ F) M N before after (λ q. inl (goes_on_here q)) goes_on_here p dry,
          nothing_more (deeds E p) (deeds F p) (subst (λ l. IsPrefixOf l (deeds E p)) (deeds-append E F p) below),
        )

    pub stays_whole : (c : ℕ) → IsComplete kinds net M c → stream net (E ++ F) c ≡ stream net E c
    stays_whole c dry =
        let w = (channel_of net c).writer in
        let none = (stays_dry w dry).1 in
        ap (λ l. (channel_of net c).tokens ++ l)
        (put_on_deeds kinds net (start kinds net) (E ++ F) N longer c ∙ ap (λ l. puts l c) (deeds-append E F w ∙ ap (λ l. deeds E w ++ l) none ∙ append-nil (deeds E w))
        ∙ sym (put_on_deeds kinds net (start kinds net) E M run c))

  -- of any other run
  module _ (sizes : ℕ → ℕ) (E F : List Entry) (M N : State) (run : IsRun kinds net E M) (other : IsRun kinds (resized net sizes) F N) where
    from_start : Kept kinds net (start kinds net) E M
    from_start = kept_run kinds net (start kinds net) (fresh_start kinds net) E M run

    there : Kept kinds net (start kinds (resized net sizes)) F N
    there = kept_run kinds net (start kinds (resized net sizes)) (fresh_resized kinds net sizes) F N (run_resized kinds net sizes F N other)

    alike : (p : ℕ) → ArePrefixComparable (deeds E p) (deeds F p)
    alike =
        runs_comparable kinds net (start kinds net) (start kinds (resized net sizes)) (fresh_start kinds net) (fresh_resized kinds net sizes) F N
        (run_resized kinds net sizes F N other) E M run

    pub has_done_all : (p : ℕ) → IsDry kinds net M p → IsPrefixOf (deeds F p) (deeds E p)
    has_done_all = dry_below (start kinds net) (start kinds (resized net sizes)) E F M N from_start there alike

    pub begins_with_others : (c : ℕ) → IsComplete kinds net M c → IsPrefixOf (stream (resized net sizes) F c) (stream net E c)
    begins_with_others c dry =
        let below = puts_below (start kinds net) (start kinds (resized net sizes)) E F M N from_start there alike c dry in
        let put : put_on F c ≡ puts (deeds F (channel_of net c).writer) c = put_on_deeds kinds net (start kinds (resized net sizes)) F N (run_resized kinds net sizes F N other) c in
        let put_here : put_on E c ≡ puts (deeds E (channel_of net c).writer) c = put_on_deeds kinds net (start kinds net) E M run c in
        let first = (channel_of net c).tokens in (
          below.0,
          ap (λ l. (l ++ put_on F c) ++ below.0) (resize-tokens net.channels sizes c) ∙ append_assoc first (put_on F c) below.0
              ∙ ap (λ l. first ++ (l ++ below.0)) put ∙ ap (λ l. first ++ l) (below.1 ∙ sym put_here),
        )

-- what is dry stays dry
pub dry_stays_dry : (kinds : Family) → DryStaysDry kinds
dry_stays_dry kinds net E F M N p run longer dry = stays_dry kinds net E F M N run longer p dry

-- and has done all
pub dry_has_done_all : (kinds : Family) → DryHasDoneAll kinds
dry_has_done_all kinds net sizes E F M N p run other dry = has_done_all kinds net sizes E F M N run other p dry

-- a complete channel's stream is whole
pub complete_is_whole : (kinds : Family) → CompleteIsWhole kinds
complete_is_whole kinds net E M c run dry =
    record {
      longer = λ F N longer. stays_whole kinds net E F M N run longer c dry;
      others = λ sizes F N other. begins_with_others kinds net sizes E F M N run other c dry;
    }
