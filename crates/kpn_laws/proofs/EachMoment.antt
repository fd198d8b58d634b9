-- What holds at each moment of a run.
use Rattle.std.proofs.Common.{◌≡◌, List, [], ◌∷◌, ◌++◌, length, refl, sym, ap, ◌∙◌, arith, ℕ, Some, get_or, drop, subst, suc, zero, map, drop_at}
use Rattle.kpn_model.specs.declared.token.Token.{Token}
use Rattle.kpn_model.specs.declared.history.Deed.{Deed}
use Rattle.kpn_model.specs.declared.history.Deed.TheVariants.{Took, Put, Stopped}
use Rattle.kpn_model.specs.declared.history.Entry.{Entry}
use Rattle.kpn_model.specs.History.{taken, growths, grown, stream}
use Rattle.kpn_model.specs.declared.parts.Channel.{Channel}
use Rattle.kpn_model.specs.Network.{Network, no_channel, channel_of, Family}
use Rattle.kpn_model.specs.Semantics.{State, nothing_held, tokens, capacity, wants, IsDeed, after_deed, start, IsPossible, Does, IsRun}
use Rattle.kpn_model.specs.declared.kinds.Act.{Act}
use Rattle.kpn_model.specs.declared.kinds.Act.TheVariants.{Read, Write, Stop}
use Rattle.kpn_model.specs.declared.kinds.Answer.{Answer}
use Rattle.kpn_model.specs.declared.history.End.TheVariants.{Budget}
use Rattle.kpn_model.specs.Moments.{OneState, PrefixesAreRuns, HistoryTellsState, BudgetSuffices, EnabledCanDo, OneCause}
use Rattle.kpn_model.specs.Endings.{MayEnd}
use Rattle.kpn_laws.proofs.Runs.{run_one, run_split}
use Rattle.kpn_laws.proofs.Kept.{fresh_start}
use Rattle.kpn_laws.proofs.KeptByRuns.{kept_run}
use Rattle.kpn_laws.proofs.Causes.{cause_same}
use Rattle.kpn_laws.proofs.Streams.{put_on_deeds, taken_deeds}
use Rattle.kpn_laws.proofs.Digests.{no_longer}

module _ (kinds : Family) (net : Network) where
  -- a channel's capacity at the start is the network's
  pub starts_with :
      (ls : List Channel) (c : ℕ)
      → (get_or ls c no_channel).capacity ≡ (get_or (map (λ (l : Channel). record { tokens = l.tokens; capacity = l.capacity }) ls) c nothing_held).capacity
  starts_with [] c = refl
  starts_with (l ∷ ls) zero = refl
  starts_with (l ∷ ls) (suc c) = starts_with ls c

  -- each capacity is the last growth's, or the starting one
  grown_run : (E : List Entry) (M : State) → IsRun kinds net E M → (c : ℕ) → grown (channel_of net c).capacity (growths E) c ≡ capacity M c
  grown_run E M run c =
      ap (λ n. grown n (growths E) c) (starts_with net.channels c) ∙ sym ((kept_run kinds net (start kinds net) (fresh_start kinds net) E M run).capacities c)

  -- the history determines what each channel holds, and its capacity
  told_run :
      (E : List Entry) (M : State) → IsRun kinds net E M → (c : ℕ)
      → (stream net E c ≡ taken E c ++ tokens M c) × (drop (length (taken E c)) (stream net E c) ≡ tokens M c) × (grown (channel_of net c).capacity (growths E) c ≡ capacity M c)
  told_run E M run c =
      let S = start kinds net in
      let k = kept_run kinds net S (fresh_start kinds net) E M run in
      let flow : stream net E c ≡ taken E c ++ tokens M c = ap (λ l. (channel_of net c).tokens ++ l) (put_on_deeds kinds net S E M run c) ∙ k.fifo c
      ∙ ap (λ l. l ++ tokens M c) (sym (taken_deeds kinds net S E M run c)) in
      (flow, ap (λ l. drop (length (taken E c)) l) flow ∙ drop_at (taken E c) (tokens M c) _ refl, grown_run E M run c)

  -- an act that can be done comes to a deed
  can_do :
      (M : State) (p : ℕ) (a : Answer) → wants kinds net M p ≡ Some a → (x : Act) → a.act ≡ x → IsPossible kinds net M p x
      → (d : Deed) × ((N : State) × Does kinds net M p d N)
  can_do M p a w Stop e h = (Stopped, (after_deed kinds net M p a.next Stopped, record { answer = a; wanted = w; is_deed = subst (λ x. IsDeed kinds net M p x Stopped) (sym e) tt; leaves = refl }))
  can_do M p a w (Read k) e h = first (tokens M h.0) refl
    where
      first : (ts : List Token) → tokens M h.0 ≡ ts → (d : Deed) × ((N : State) × Does kinds net M p d N)
      first [] g = absurd (h.2 g)
      first (t ∷ ts) g =
          (Took h.0 t, (after_deed kinds net M p a.next (Took h.0 t), record { answer = a; wanted = w; is_deed = subst (λ x. IsDeed kinds net M p x (Took h.0 t)) (sym e) (h.1, (ts, g)); leaves = refl }))
  can_do M p a w (Write k t) e h =
      (Put h.0 t, (after_deed kinds net M p a.next (Put h.0 t), record { answer = a; wanted = w; is_deed = subst (λ x. IsDeed kinds net M p x (Put h.0 t)) (sym e) (h.1, refl, h.2); leaves = refl }))

  -- an act that comes to a deed can be done
  pub deed_possible : (M : State) (p : ℕ) (x : Act) (d : Deed) → IsDeed kinds net M p x d → IsPossible kinds net M p x
  deed_possible M p Stop Stopped h = tt
  deed_possible M p (Read k) (Took c t) h = (c, h.0, λ (e : tokens M c ≡ []). let g = h.1.1 in cc)
  deed_possible M p (Write k u) (Put c t) h = (c, h.0, h.2)
  deed_possible M p x d h = absurd h

-- a process is enabled exactly when it can do a deed
pub enabled_can_do : (kinds : Family) → EnabledCanDo kinds
enabled_can_do kinds net M p = (
  λ e. can_do kinds net M p e.answer e.wanted e.answer.act refl e.possible,
  λ s. record { answer = s.1.1.answer; wanted = s.1.1.wanted; possible = deed_possible kinds net M p s.1.1.answer.act s.0 s.1.1.is_deed },
)

-- a run is over for at most one cause
pub one_cause : (kinds : Family) → OneCause kinds
one_cause kinds net M a b = cause_same kinds net M a b

-- a history leads to one state
pub one_state : (kinds : Family) → OneState kinds
one_state kinds net S M N E = run_one kinds net E S M N

-- a prefix of a run is a run
pub prefixes : (kinds : Family) → PrefixesAreRuns kinds
prefixes kinds net S N E F = run_split kinds net E F S N

-- the history determines what each channel holds
pub history_tells_state : (kinds : Family) → HistoryTellsState kinds
history_tells_state kinds net E M = told_run kinds net E M

-- no run is longer than one that is over, so none reaches a budget that is above its length
pub budget_suffices : (kinds : Family) → BudgetSuffices kinds
budget_suffices kinds net E F M N a b run bound final small e =
    let n = no_longer kinds net F E N M b final run in
    let full : MayEnd kinds net E M Budget = subst (λ x. MayEnd kinds net E M x) e bound in
    let many = full.0 in
    absurd (omega arith)
