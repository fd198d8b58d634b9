-- What one more entry adds to what is counted and kept of a history; and no count is greater than the number of entries.
use Rattle.std.proofs.Common.{◌≡◌, ◌≢◌, ◌<◌, ◌≤◌, ◌+◌, ◌==◌, Bool, suc, ℕ, true, false, cond, List, [], ◌∷◌, ◌++◌, length, get_or, set, take, drop, refl, sym, ap, ◌∙◌, arith, append-nil, append_assoc, length-append, add-zero, eq-eqb, ne_eqb}
use Rattle.std.proofs.lemmas.List.{take_more}
use Rattle.std.proofs.lemmas.List.FromFn.{fill_by_all}
use Rattle.kpn_model.specs.declared.token.Token.{Token}
use Rattle.kpn_model.specs.declared.history.End.{End}
use Rattle.kpn_model.specs.declared.history.Deed.TheVariants.{Took, Put, Stopped}
use Rattle.kpn_model.specs.declared.history.Entry.{Entry}
use Rattle.kpn_model.specs.declared.history.Entry.TheVariants.{Did, Grew}
use Rattle.kpn_model.specs.Network.{Network, Family, channel_of}
use Rattle.kpn_model.specs.Semantics.{State, wants}
use Rattle.kpn_model.specs.History.{each_channel, deeds, put_on, stream, taken, growths, each_process, place_of, grown, digest}
use Rattle.kpn_laws.proofs.Views.{deeds_push_same, deeds_push_other, deeds_push_grew, put_on-append, taken-append, growths-append, grown_push}
use Rattle.kpn_laws.proofs.Together.{deeds-length}
use Rattle.kpn_report.specs.declared.channel_counts.ChannelCounts.{ChannelCounts}
use Rattle.kpn_report.specs.declared.detail.Detail.{Detail}
use Rattle.kpn_report.specs.Reported.{digest_with}
use Rattle.kpn_report.specs.Tally.{counts_of, no_counts, counts_at, Tabulates, CountsSteps, KeepsCounts, KeepsStreams, steps_after, counts_after, streams_after}
use Rattle.kpn_report.proofs.Tables.{changed, unchanged, at_most}

-- what is read off a history with one more entry
pub ruleset pushes = (put_on-append, taken-append, growths-append, grown_push, length-append, append_assoc, append-nil, add-zero)

pub flip : (b c : ℕ) → b ≢ c → (c == b) ≡ false
flip b c ne = ne_eqb c b (λ e. ne (sym e))

pub same : (c : ℕ) → (c == c) ≡ true
same c = eq-eqb c c refl

-- the number of deeds of each of n processes
pub steps_kept : (E : List Entry) (n : ℕ) (steps : List ℕ) → Tabulates 0 n (λ q. length (deeds E q)) steps → (e : Entry) → Tabulates 0 n (λ q. length (deeds (E ++ e ∷ []) q)) (steps_after steps e)
steps_kept E n steps k (Did p d) = changed 0 n (λ q. length (deeds E q)) steps k (λ q. length (deeds (E ++ Did p d ∷ []) q)) p (get_or steps p 0 + 1) (λ l. rw (k.each p l, deeds_push_same E p d, length-append)) (λ q ne. ap length (deeds_push_other E p q d (flip q p ne)))
steps_kept E n steps k (Grew c to) = unchanged 0 n (λ q. length (deeds E q)) steps k (λ q. length (deeds (E ++ Grew c to ∷ []) q)) (λ q. ap length (deeds_push_grew E c to q))

module _ (net : Network) (E : List Entry) where
  module _ (channel_counts : List ChannelCounts) (k : KeepsCounts net E channel_counts) where
    set_to : (e : Entry) (c : ℕ) (x : ChannelCounts) → (c < length net.channels → x ≡ counts_of net (E ++ e ∷ []) c) → ((b : ℕ) → b ≢ c → counts_of net (E ++ e ∷ []) b ≡ counts_of net E b) → KeepsCounts net (E ++ e ∷ []) (set channel_counts c x)
    set_to e c x = changed no_counts (length net.channels) (counts_of net E) channel_counts k (counts_of net (E ++ e ∷ [])) c x

    counts_kept : (e : Entry) → KeepsCounts net (E ++ e ∷ []) (counts_after channel_counts e)
    counts_kept (Did p (Put c t)) = set_to (Did p (Put c t)) c _ (λ l. rw (k.each c l) (simp (pushes, same c))) (λ b ne. simp (pushes, flip b c ne))
    counts_kept (Did p (Took c t)) = set_to (Did p (Took c t)) c _ (λ l. rw (k.each c l) (simp (pushes, same c))) (λ b ne. simp (pushes, flip b c ne))
    counts_kept (Did p Stopped) = unchanged no_counts (length net.channels) (counts_of net E) channel_counts k (counts_of net (E ++ Did p Stopped ∷ [])) (λ b. simp pushes)
    counts_kept (Grew c to) = set_to (Grew c to) c _ (λ l. rw (k.each c l) (simp (pushes, same c))) (λ b ne. simp (pushes, flip b c ne))

  module _ (streams : List (List Token)) (k : KeepsStreams net E streams) where
    as_before : (e : Entry) → ((b : ℕ) → stream net (E ++ e ∷ []) b ≡ stream net E b) → KeepsStreams net (E ++ e ∷ []) streams
    as_before e = unchanged [] (length net.channels) (stream net E) streams k (stream net (E ++ e ∷ []))

    streams_kept : (e : Entry) → KeepsStreams net (E ++ e ∷ []) (streams_after streams e)
    streams_kept (Did p (Put c t)) = changed [] (length net.channels) (stream net E) streams k (stream net (E ++ Did p (Put c t) ∷ [])) c (get_or streams c [] ++ t ∷ []) (λ l. rw (k.each c l) (simp (pushes, same c))) (λ b ne. simp (pushes, flip b c ne))
    streams_kept (Did p (Took c t)) = as_before (Did p (Took c t)) (λ b. simp pushes)
    streams_kept (Did p Stopped) = as_before (Did p Stopped) (λ b. simp pushes)
    streams_kept (Grew c to) = as_before (Grew c to) (λ b. simp pushes)

    -- what is left of them
    pub rests_listed :
        (channel_counts : List ChannelCounts) (rests : List (List Token)) → KeepsCounts net E channel_counts → Tabulates [] (length streams) (λ c. drop (counts_at channel_counts c).taken (get_or streams c [])) rests
        → rests ≡ each_channel net (λ c. drop (length (taken E c)) (stream net E c))
    rests_listed channel_counts rests a r = fill_by_all (λ c. drop (length (taken E c)) (stream net E c)) rests (length net.channels) [] (r.count ∙ k.count) (λ c l. r.each c (omega (arith, k.count)) ∙ rw (a.each c l, k.each c l))

fewer_of_choice : {X : Type 0} (b : Bool) (x : X) (xs : List X) (n : ℕ) → length xs ≤ n → length (cond b (x ∷ []) [] ++ xs) ≤ suc n
fewer_of_choice true x xs n h = omega arith
fewer_of_choice false x xs n h = omega arith

-- at most as many tokens are taken from a channel as there are entries
pub taken_fewer : (E : List Entry) (c : ℕ) → length (taken E c) ≤ length E
taken_fewer [] c = omega arith
taken_fewer (Did p (Took b t) ∷ es) c = fewer_of_choice (b == c) t (taken es c) (length es) (taken_fewer es c)
taken_fewer (Did p (Put b t) ∷ es) c = omega (arith, taken_fewer es c)
taken_fewer (Did p Stopped ∷ es) c = omega (arith, taken_fewer es c)
taken_fewer (Grew b to ∷ es) c = omega (arith, taken_fewer es c)

-- and at most as many are put on it
pub put_fewer : (E : List Entry) (c : ℕ) → length (put_on E c) ≤ length E
put_fewer [] c = omega arith
put_fewer (Did p (Put b t) ∷ es) c = fewer_of_choice (b == c) t (put_on es c) (length es) (put_fewer es c)
put_fewer (Did p (Took b t) ∷ es) c = omega (arith, put_fewer es c)
put_fewer (Did p Stopped ∷ es) c = omega (arith, put_fewer es c)
put_fewer (Grew b to ∷ es) c = omega (arith, put_fewer es c)

module _ (net : Network) (E : List Entry) where
  pub few_deeds : (steps : List ℕ) → CountsSteps net E steps → (p : ℕ) → get_or steps p 0 ≤ length E
  few_deeds steps k = at_most 0 (length net.processes) (λ q. length (deeds E q)) steps k (λ n. n) (length E) refl (deeds-length E)

  module _ (channel_counts : List ChannelCounts) (k : KeepsCounts net E channel_counts) where
    pub few_taken : (c : ℕ) → (counts_at channel_counts c).taken ≤ length E
    few_taken = at_most no_counts (length net.channels) (counts_of net E) channel_counts k (λ a. a.taken) (length E) refl (taken_fewer E)

    pub few_put : (c : ℕ) → (counts_at channel_counts c).put ≤ length E
    few_put = at_most no_counts (length net.channels) (counts_of net E) channel_counts k (λ a. a.put) (length E) refl (put_fewer E)

-- the next entry of a history
module _ (net : Network) (history : List Entry) (i : ℕ) (d : Entry) (within : i < length history) where
  pub steps_next : (old new : List ℕ) → CountsSteps net (take i history) old → new ≡ steps_after old (get_or history i d) → CountsSteps net (take (i + 1) history) new
  steps_next old new k is = rw (take_more history i d within, is) (steps_kept (take i history) (length net.processes) old k (get_or history i d))

  pub counts_next : (old new : List ChannelCounts) → KeepsCounts net (take i history) old → new ≡ counts_after old (get_or history i d) → KeepsCounts net (take (i + 1) history) new
  counts_next old new k is = rw (take_more history i d within, is) (counts_kept net (take i history) old k (get_or history i d))

  pub growths_next : (old new : List (ℕ × ℕ)) → old ≡ growths (take i history) → new ≡ old ++ growths (get_or history i d ∷ []) → new ≡ growths (take (i + 1) history)
  growths_next old new e is = rw (take_more history i d within, is, e) (simp growths-append)

  pub streams_next : (old new : List (List Token)) → KeepsStreams net (take i history) old → new ≡ streams_after old (get_or history i d) → KeepsStreams net (take (i + 1) history) new
  streams_next old new k is = rw (take_more history i d within, is) (streams_kept net (take i history) old k (get_or history i d))

pub put_next :
    (history : List Entry) (i : ℕ) (d : Entry) → i < length history → (c : ℕ) (first old new : List Token) → old ≡ first ++ put_on (take i history) c
    → new ≡ old ++ put_on (get_or history i d ∷ []) c → new ≡ first ++ put_on (take (i + 1) history) c
put_next history i d within c first old new e is = rw (take_more history i d within, is, e) (simp pushes)

-- a detail of which each part is that of the digest
pub digest_of :
    (kinds : Family) (net : Network) (cause : End) (E : List Entry) (M : State) {d : Detail} → d.places ≡ each_process net (λ p. place_of net p (wants kinds net M p))
    → d.steps ≡ each_process net (λ p. length (deeds E p)) → d.capacities ≡ each_channel net (λ c. grown (channel_of net c).capacity (growths E) c)
    → d.streams ≡ each_channel net (λ c. stream net E c) → d.rests ≡ each_channel net (λ c. drop (length (taken E c)) (stream net E c)) → d.growths ≡ growths E
    → d.entries ≡ length E → digest_with cause d ≡ digest kinds net cause E M
digest_of kinds net cause E M p s c t r g e = rw (p, s, c, t, r, g, e) refl
