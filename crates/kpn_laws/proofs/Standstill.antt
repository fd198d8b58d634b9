-- Two runs to quiet states with the same growths end in the same state.
use Rattle.std.proofs.Common.{◌≡◌, List, [], ◌++◌, sym, ap, ◌∙◌, append-nil, ℕ}
use Rattle.std.proofs.lemmas.List.{append_cancel_left, ext_get_or}
use Rattle.kpn_model.specs.declared.history.Entry.{Entry}
use Rattle.kpn_model.specs.History.{deeds, growths, grown}
use Rattle.kpn_model.specs.Network.{Network, channel_of, Family}
use Rattle.kpn_model.specs.declared.history.Status.TheVariants.{Done}
use Rattle.kpn_model.specs.Semantics.{Held, State, nothing_held, status, tokens, capacity, Run, IsQuiet}
use Rattle.kpn_laws.proofs.Lists.{same_from_prefixes}
use Rattle.kpn_laws.specs.Alone.{puts, took}
use Rattle.kpn_laws.proofs.Follows.{status_by}
use Rattle.kpn_laws.proofs.Kept.{IsFresh, Kept}
use Rattle.kpn_laws.proofs.KeptByRuns.{kept_run}
use Rattle.kpn_laws.proofs.Domination.{dominated_by_growths}

module _ (kinds : Family) (net : Network) where
  -- a channel's state is determined by its tokens and its capacity
  held_same : (x y : Held) → x.tokens ≡ y.tokens → x.capacity ≡ y.capacity → x ≡ y
  held_same x y a b = λ i. record { tokens = a i; capacity = b i }

  -- a state is determined by its processes and its channels
  state_same : (x y : State) → x.processes ≡ y.processes → x.channels ≡ y.channels → x ≡ y
  state_same x y a b = λ i. record { processes = a i; channels = b i }

  -- the deeds and the growths determine the state
  pub same_state :
      (S : State) (E F : List Entry) (M N : State) → Kept kinds net S E M → Kept kinds net S F N → ((p : ℕ) → deeds E p ≡ deeds F p)
      → growths E ≡ growths F → M ≡ N
  same_state S E F M N k j same grew =
      let st : (p : ℕ) → status M p ≡ status N p = λ p. k.statuses p ∙ ap (λ l. status_by kinds net p l) (same p) ∙ sym (j.statuses p) in
      let tk : (c : ℕ) → tokens M c ≡ tokens N c = λ c. append_cancel_left (took (deeds E (channel_of net c).reader) c) _ _
      (sym (k.fifo c) ∙ ap (λ l. (channel_of net c).tokens ++ puts l c) (same (channel_of net c).writer) ∙ j.fifo c ∙ ap (λ l. took l c ++ tokens N c) (sym (same (channel_of net c).reader))) in
      let cp : (c : ℕ) → capacity M c ≡ capacity N c = λ c. k.capacities c ∙ ap (λ g. grown (capacity S c) g c) grew ∙ sym (j.capacities c) in
      state_same M N
      (ext_get_or Done M.processes N.processes (k.processes ∙ sym j.processes) (λ i _. st i))
      (ext_get_or nothing_held M.channels N.channels (k.channels ∙ sym j.channels) (λ i _. held_same _ _ (tk i) (cp i)))

  -- in two runs to quiet states with the same growths each process has done the same
  pub same_deeds :
      (S : State) → IsFresh kinds net S → (E F : List Entry) (M N : State) → Run kinds net S E M → IsQuiet kinds net M → Run kinds net S F N
      → IsQuiet kinds net N → growths E ≡ growths F → (p : ℕ) → deeds E p ≡ deeds F p
  same_deeds S fresh E F M N run quiet run' quiet' grew p =
      same_from_prefixes _ _
      (dominated_by_growths kinds net S fresh F N run' quiet' E M run ([], append-nil _ ∙ grew) p)
      (dominated_by_growths kinds net S fresh E M run quiet F N run' ([], append-nil _ ∙ sym grew) p)

  -- and they end in one state
  pub same_stand :
      (S : State) → IsFresh kinds net S → (E F : List Entry) (M N : State) → Run kinds net S E M → IsQuiet kinds net M → Run kinds net S F N
      → IsQuiet kinds net N → growths E ≡ growths F → M ≡ N
  same_stand S fresh E F M N run quiet run' quiet' grew =
      same_state S E F M N (kept_run kinds net S fresh E M run) (kept_run kinds net S fresh F N run') (same_deeds S fresh E F M N run quiet run' quiet' grew) grew
