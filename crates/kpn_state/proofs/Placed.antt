-- The standings of the processes when one is moved and the others stay.
use Rattle.std.proofs.Common.{◌≡◌, ◌≢◌, ⊎_elim, List, [], ◌∷◌, length, refl, sym, ◌∙◌, ℕ, zero, suc, ◌<◌, Bool, true, false, set, get_or-set_same, get_or-set_other}
use Rattle.std.proofs.lemmas.Bool.{cases_lt, and_parts, or_parts}
use Rattle.std.proofs.lemmas.List.{get_or_past}
use Rattle.std.specs.List.{list_any, list_all}
use Rattle.kpn_model.specs.declared.kinds.Answer.{Answer}
use Rattle.kpn_model.specs.declared.history.Deed.{Deed}
use Rattle.kpn_model.specs.declared.history.Deed.TheVariants.{Took, Put, Stopped as DidStop}
use Rattle.kpn_state.specs.declared.standing.Standing.{Standing}
use Rattle.kpn_state.specs.declared.standing.Standing.TheVariants.{Ready, Out, Parked, Stopped}
use Rattle.kpn_state.specs.Standings.{standing, is_busy, is_ready, has_stopped, standing_after}
use Rattle.kpn_state.proofs.Contradictions.{true_false}

-- the process that is moved has its new standing
pub standing_set_same : (standings : List Standing) (p : ℕ) (x : Standing) → p < length standings → standing (set standings p x) p ≡ x
standing_set_same standings p x h = get_or-set_same standings p x Stopped h

-- and each other its old one
pub standing_set_other : (standings : List Standing) (p q : ℕ) (x : Standing) → q ≢ p → standing (set standings p x) q ≡ standing standings q
standing_set_other standings p q x h = get_or-set_other standings p q x Stopped h

-- a process that has not stopped is one of the list
pub standing_within : (standings : List Standing) (p : ℕ) → standing standings p ≢ Stopped → p < length standings
standing_within standings p h = ⊎_elim (λ within. within) (λ past. absurd (h (get_or_past standings p Stopped past))) (cases_lt p (length standings))

-- what no process of the list has, none has
pub none_past : (standings : List Standing) (p : ℕ) (x : Standing) → x ≢ Stopped → ((q : ℕ) → q < length standings → standing standings q ≢ x) → standing standings p ≢ x
none_past standings p x other h e = h p (standing_within standings p (λ f. other (sym e ∙ f))) e

pub ready_not_ended : Ready ≢ Stopped
ready_not_ended e = cc

pub out_not_ended : Out ≢ Stopped
out_not_ended e = cc

pub parked_not_ended : (a : Answer) → Parked a ≢ Stopped
parked_not_ended a e = cc

-- after its deed a process isn't parked
pub acted_not_parked : (d : Deed) (a : Answer) → standing_after d ≢ Parked a
acted_not_parked (Took c t) a e = cc
acted_not_parked (Put c t) a e = cc
acted_not_parked DidStop a e = cc

-- nor out
pub acted_not_out : (d : Deed) → standing_after d ≢ Out
acted_not_out (Took c t) e = cc
acted_not_out (Put c t) e = cc
acted_not_out DidStop e = cc

-- the answer of a parked process is determined by its standing
pub parked_same : (a b : Answer) → Parked a ≡ Parked b → a ≡ b
parked_same a b e = cc

-- if no process is busy, this one isn't
pub idle_at : (standings : List Standing) (p : ℕ) → list_any is_busy standings ≡ false → is_busy (standing standings p) ≡ false
idle_at [] p h = refl
idle_at (x ∷ xs) zero h = (or_parts (is_busy x) _ h).0
idle_at (x ∷ xs) (suc p) h = idle_at xs p (or_parts (is_busy x) _ h).1

-- if this process is busy, some is
pub busy_at : (standings : List Standing) (p : ℕ) → is_busy (standing standings p) ≡ true → list_any is_busy standings ≡ true
busy_at standings p h = by_cases _ refl
  where
    by_cases : (b : Bool) → list_any is_busy standings ≡ b → list_any is_busy standings ≡ true
    by_cases true e = e
    by_cases false e = absurd (true_false _ h (idle_at standings p e))

-- if all have stopped, this one has
pub stopped_at : (standings : List Standing) (p : ℕ) → list_all has_stopped standings ≡ true → standing standings p ≡ Stopped
stopped_at [] p h = refl
stopped_at (x ∷ xs) zero h = ended x (and_parts (has_stopped x) _ h).0
  where
    ended : (x : Standing) → has_stopped x ≡ true → x ≡ Stopped
    ended Ready e = cc
    ended Out e = cc
    ended (Parked a) e = cc
    ended Stopped e = refl
stopped_at (x ∷ xs) (suc p) h = stopped_at xs p (and_parts (has_stopped x) _ h).1

-- if all are ready, this one isn't out
pub ready_not_out_at : (standings : List Standing) (p : ℕ) → list_all is_ready standings ≡ true → standing standings p ≢ Out
ready_not_out_at [] p h e = cc
ready_not_out_at (x ∷ xs) zero h e = not_out x (and_parts (is_ready x) _ h).0 e
  where
    not_out : (x : Standing) → is_ready x ≡ true → x ≢ Out
    not_out Ready h e = cc
    not_out Out h e = cc
    not_out (Parked a) h e = cc
    not_out Stopped h e = cc
ready_not_out_at (x ∷ xs) (suc p) h e = ready_not_out_at xs p (and_parts (is_ready x) _ h).1 e

-- if not all have stopped, some has not
pub one_live : (standings : List Standing) → list_all has_stopped standings ≡ false → (p : ℕ) × (standing standings p ≢ Stopped)
one_live [] h = cc
one_live (Ready ∷ xs) h = (zero, λ e. cc)
one_live (Out ∷ xs) h = (zero, λ e. cc)
one_live (Parked a ∷ xs) h = (zero, λ e. cc)
one_live (Stopped ∷ xs) h = let r = one_live xs h in (suc r.0, r.1)
