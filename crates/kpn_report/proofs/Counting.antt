-- What one more entry adds to what is counted while entries are kept.
use Rattle.std.proofs.Common.{◌≡◌, ◌≤◌, ◌+◌, ℕ, Bool, false, List, [], ◌∷◌, ◌++◌, length, get_or, replicate, refl}
use Rattle.std.proofs.lemmas.List.{length-replicate, get_or-replicate}
use Rattle.kpn_model.specs.declared.limits.TheConstants.{MOST_PROCESSES, MOST_CHANNELS}
use Rattle.kpn_model.specs.declared.history.Deed.TheVariants.{Took, Put, Stopped}
use Rattle.kpn_model.specs.declared.history.Entry.{Entry}
use Rattle.kpn_model.specs.declared.history.Entry.TheVariants.{Did, Grew}
use Rattle.kpn_model.specs.History.{deeds, put_on, taken, growths}
use Rattle.kpn_laws.proofs.Views.{growths-append}
use Rattle.kpn_laws.proofs.Together.{deeds-length}
use Rattle.kpn_report.specs.Tally.{Tabulates, steps_after}
use Rattle.kpn_report.specs.Tallied.{AreCounts, puts_after, takes_after, grew_after}
use Rattle.kpn_report.proofs.Tables.{changed, unchanged, at_most}
use Rattle.kpn_report.proofs.Tallies.{pushes, flip, same, steps_kept, put_fewer, taken_fewer}

module _ (E : List Entry) where
  puts_kept : (n : ℕ) (puts : List ℕ) → Tabulates 0 n (λ c. length (put_on E c)) puts → (e : Entry) → Tabulates 0 n (λ c. length (put_on (E ++ e ∷ []) c)) (puts_after puts e)
  puts_kept n puts k (Did p (Put c t)) = changed 0 n (λ b. length (put_on E b)) puts k (λ b. length (put_on (E ++ Did p (Put c t) ∷ []) b)) c (get_or puts c 0 + 1) (λ l. rw (k.each c l) (simp (pushes, same c))) (λ b ne. simp (pushes, flip b c ne))
  puts_kept n puts k (Did p (Took c t)) = unchanged 0 n (λ b. length (put_on E b)) puts k (λ b. length (put_on (E ++ Did p (Took c t) ∷ []) b)) (λ b. simp pushes)
  puts_kept n puts k (Did p Stopped) = unchanged 0 n (λ b. length (put_on E b)) puts k (λ b. length (put_on (E ++ Did p Stopped ∷ []) b)) (λ b. simp pushes)
  puts_kept n puts k (Grew c to) = unchanged 0 n (λ b. length (put_on E b)) puts k (λ b. length (put_on (E ++ Grew c to ∷ []) b)) (λ b. simp pushes)

  takes_kept : (n : ℕ) (takes : List ℕ) → Tabulates 0 n (λ c. length (taken E c)) takes → (e : Entry) → Tabulates 0 n (λ c. length (taken (E ++ e ∷ []) c)) (takes_after takes e)
  takes_kept n takes k (Did p (Took c t)) = changed 0 n (λ b. length (taken E b)) takes k (λ b. length (taken (E ++ Did p (Took c t) ∷ []) b)) c (get_or takes c 0 + 1) (λ l. rw (k.each c l) (simp (pushes, same c))) (λ b ne. simp (pushes, flip b c ne))
  takes_kept n takes k (Did p (Put c t)) = unchanged 0 n (λ b. length (taken E b)) takes k (λ b. length (taken (E ++ Did p (Put c t) ∷ []) b)) (λ b. simp pushes)
  takes_kept n takes k (Did p Stopped) = unchanged 0 n (λ b. length (taken E b)) takes k (λ b. length (taken (E ++ Did p Stopped ∷ []) b)) (λ b. simp pushes)
  takes_kept n takes k (Grew c to) = unchanged 0 n (λ b. length (taken E b)) takes k (λ b. length (taken (E ++ Grew c to ∷ []) b)) (λ b. simp pushes)

  grew_kept : (grew : Bool) → (grew ≡ false → growths E ≡ []) → (e : Entry) → grew_after grew e ≡ false → growths (E ++ e ∷ []) ≡ []
  grew_kept grew k (Grew c to) none = cc
  grew_kept grew k (Did p d) none = rw (growths-append, k none)

  -- what is counted with one more entry
  pub counted_more : (steps puts takes : List ℕ) (grew : Bool) → AreCounts E steps puts takes grew → (e : Entry) → AreCounts (E ++ e ∷ []) (steps_after steps e) (puts_after puts e) (takes_after takes e) (grew_after grew e)
  counted_more steps puts takes grew k e = record {
    of_steps = steps_kept E MOST_PROCESSES steps k.of_steps e;
    of_puts = puts_kept MOST_CHANNELS puts k.of_puts e;
    of_takes = takes_kept MOST_CHANNELS takes k.of_takes e;
    of_growths = grew_kept grew k.of_growths e;
  }

  module _ (steps puts takes : List ℕ) (grew : Bool) (k : AreCounts E steps puts takes grew) where
    pub few_steps : (p : ℕ) → get_or steps p 0 ≤ length E
    few_steps = at_most 0 MOST_PROCESSES (λ p. length (deeds E p)) steps k.of_steps (λ n. n) (length E) refl (deeds-length E)

    pub few_puts : (c : ℕ) → get_or puts c 0 ≤ length E
    few_puts = at_most 0 MOST_CHANNELS (λ c. length (put_on E c)) puts k.of_puts (λ n. n) (length E) refl (put_fewer E)

    pub few_takes : (c : ℕ) → get_or takes c 0 ≤ length E
    few_takes = at_most 0 MOST_CHANNELS (λ c. length (taken E c)) takes k.of_takes (λ n. n) (length E) refl (taken_fewer E)

zeros : (n : ℕ) (counts : List ℕ) → counts ≡ replicate n 0 → Tabulates 0 n (λ i. 0) counts
zeros n counts is = record { count = rw is (length-replicate {A = ℕ} n 0); each = λ i l. rw is (get_or-replicate n i 0 0 l) }

-- before any entry
pub counted_none : (steps puts takes : List ℕ) → steps ≡ replicate MOST_PROCESSES 0 → puts ≡ replicate MOST_CHANNELS 0 → takes ≡ replicate MOST_CHANNELS 0 → AreCounts [] steps puts takes false
counted_none steps puts takes s p t = record {
  of_steps = zeros MOST_PROCESSES steps s;
  of_puts = zeros MOST_CHANNELS puts p;
  of_takes = zeros MOST_CHANNELS takes t;
  of_growths = λ _. refl;
}
