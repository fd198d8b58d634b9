-- A growth keeps the invariant of every run.
use Rattle.std.proofs.Common.{◌≡◌, ◌≤◌, ⊎_elim, List, [], ◌∷◌, ◌++◌, length, sym, ap, ◌∙◌, arith, ℕ, ◌==◌, if◌then◌else◌, eq-eqb, ◌<◌, length-set, subst, ne_eqb}
use Rattle.std.proofs.lemmas.Bool.{cases_eq}
use Rattle.kpn_model.specs.History.{IsPrefixOf, deeds, growths, grown}
use Rattle.kpn_model.specs.declared.history.Entry.{Entry}
use Rattle.kpn_model.specs.declared.history.Entry.TheVariants.{Grew}
use Rattle.kpn_model.specs.Network.{Network, channel_of, Family}
use Rattle.kpn_model.specs.Semantics.{State, tokens, capacity, with_channel, IsBlocked}
use Rattle.kpn_laws.proofs.Lists.{prefix_push_cases}
use Rattle.kpn_laws.specs.Alone.{puts, took}
use Rattle.kpn_laws.proofs.Views.{deeds_push_grew, growths_push_grew, grown_push}
use Rattle.kpn_laws.proofs.States.{out_of-writer, tokens_set_same, tokens_set_other, capacity_set_same, capacity_set_other}
use Rattle.kpn_laws.proofs.Follows.{status_by, follows_more}
use Rattle.kpn_laws.proofs.Kept.{Kept}
use Rattle.kpn_laws.proofs.KeptByDeeds.{deeds_more}

module _ (kinds : Family) (net : Network) where
  module _ (S : State) (H : List Entry) (M : State) (k : Kept kinds net S H M) where
    -- a channel with a blocked writer is one of the network's
    pub blocked_within : (p c : ℕ) → IsBlocked kinds net M p c → c < length M.channels
    blocked_within p c b = let at = out_of-writer net p b.port c b.at in omega (arith, at.0, k.channels)

    -- a growth gives that channel its new capacity, and leaves those of the others
    capacity_grew : (c to : ℕ) → c < length M.channels → (b : ℕ) → capacity (with_channel M c (tokens M c) to) b ≡ (if c == b then to else capacity M b)
    capacity_grew c to within b =
        ⊎_elim
        (λ (e : b ≡ c). ap (λ x. capacity (with_channel M c (tokens M c) to) x) e ∙ capacity_set_same M c _ _ within ∙ ap (λ x. if x then to else capacity M b) (sym (eq-eqb c b (sym e))))
        (λ (ne : b ≡ c → ⊥). capacity_set_other M c b _ _ ne ∙ ap (λ x. if x then to else capacity M b) (sym (ne_eqb c b (λ e. ne (sym e)))))
        (cases_eq b c)

    -- each capacity is still that of the channel's last growth, or the starting one
    capacities_grew :
        (c to : ℕ) → c < length M.channels → (b : ℕ)
        → capacity (with_channel M c (tokens M c) to) b ≡ grown (capacity S b) (growths (H ++ Grew c to ∷ [])) b
    capacities_grew c to within b =
        capacity_grew c to within b ∙ ap (λ n. if c == b then to else n) (k.capacities b)
        ∙ sym (ap (λ gs. grown (capacity S b) gs b) (growths_push_grew H c to) ∙ grown_push (growths H) (capacity S b) c to b)

    -- a growth makes no capacity smaller
    no_less : (c to : ℕ) → c < length M.channels → capacity M c ≤ to → (b : ℕ) → capacity M b ≤ capacity (with_channel M c (tokens M c) to) b
    no_less c to within more b =
        let now = capacity_grew c to within b in
        ⊎_elim
        (λ (e : c ≡ b). let x : capacity M b ≤ to = subst (λ y. capacity M y ≤ to) e more in let y = ap (λ z. if z then to else capacity M b) (eq-eqb c b e) in omega arith)
        (λ ne. let y = ap (λ z. if z then to else capacity M b) (ne_eqb c b ne) in omega arith)
        (cases_eq c b)

    -- no capacity was greater before
    rising_grew :
        (c to : ℕ) → c < length M.channels → capacity M c ≤ to → (gs : List (ℕ × ℕ)) → IsPrefixOf gs (growths (H ++ Grew c to ∷ [])) → (b : ℕ)
        → grown (capacity S b) gs b ≤ capacity (with_channel M c (tokens M c) to) b
    rising_grew c to within more gs f b =
        ⊎_elim
        (λ (e : gs ≡ growths H ++ (c, to) ∷ []).
        let all = capacities_grew c to within b in
        let same = ap (λ x. grown (capacity S b) x b) (e ∙ sym (growths_push_grew H c to)) in
        omega arith)
        (λ (g : IsPrefixOf gs (growths H)). let before = k.rising gs g b in let more' = no_less c to within more b in omega arith)
        (prefix_push_cases gs (growths H) (c, to) (subst (λ x. IsPrefixOf gs x) (growths_push_grew H c to) f))

    -- a growth leaves each channel's tokens
    pub tokens_grew : (c to : ℕ) → c < length M.channels → (b : ℕ) → tokens (with_channel M c (tokens M c) to) b ≡ tokens M b
    tokens_grew c to within b =
        ⊎_elim
        (λ (e : b ≡ c). ap (λ x. tokens (with_channel M c (tokens M c) to) x) e ∙ tokens_set_same M c _ _ within ∙ ap (λ x. tokens M x) (sym e))
        (λ (ne : b ≡ c → ⊥). tokens_set_other M c b _ _ ne)
        (cases_eq b c)

    -- a growth keeps the whole invariant
    pub kept_grown : (c to : ℕ) → c < length M.channels → capacity M c ≤ to → Kept kinds net S (H ++ Grew c to ∷ []) (with_channel M c (tokens M c) to)
    kept_grown c to within more =
        let same = deeds_push_grew H c to in
        record {
          statuses = λ p. k.statuses p ∙ ap (λ l. status_by kinds net p l) (sym (same p));
          fifo = λ b.
              ap (λ l. (channel_of net b).tokens ++ puts l b) (same (channel_of net b).writer) ∙ k.fifo b
              ∙ ap (λ l. took l b ++ tokens M b) (sym (same (channel_of net b).reader))
              ∙ ap (λ l. took (deeds (H ++ Grew c to ∷ []) (channel_of net b).reader) b ++ l) (sym (tokens_grew c to within b));
          follows = λ p ds d rest e. follows_more kinds net (deeds H) (deeds (H ++ Grew c to ∷ [])) p ds d (deeds_more kinds net H (Grew c to)) (k.follows p ds d rest (sym (same p) ∙ e));
          capacities = capacities_grew c to within;
          rising = rising_grew c to within more;
          processes = k.processes;
          channels = length-set _ _ _ ∙ k.channels;
        }
