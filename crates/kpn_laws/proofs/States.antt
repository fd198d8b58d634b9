-- The channels at ports, and states with one status or one channel changed.
use Rattle.std.proofs.Common.{◌≡◌, ◌≤◌, ⊎_elim, List, ◌∷◌, length, refl, sym, ap, ◌∙◌, ℕ, ◌==◌, Bool, true, false, ◌≢◌, ◌<◌, ◌&&◌, Some, get_or, eqb-true, get_or-set_same, get_or-set_other}
use Rattle.std.proofs.lemmas.Bool.{cases_lt, cases_eq}
use Rattle.std.proofs.lemmas.List.{get_or_past, set_past}
use Rattle.std.proofs.lemmas.List.Quantifiers.{position-Some}
use Rattle.kpn_model.specs.declared.token.Token.{Token}
use Rattle.kpn_model.specs.declared.parts.Channel.{Channel}
use Rattle.kpn_model.specs.Network.{Network, no_channel, channel_of, in_of, out_of}
use Rattle.kpn_model.specs.declared.history.Status.{Status}
use Rattle.kpn_model.specs.declared.history.Status.TheVariants.{Done}
use Rattle.kpn_model.specs.Semantics.{Held, State, nothing_held, status, tokens, capacity, with_status, with_channel}

-- if both hold, the first does
left_true : (a b : Bool) → (a && b) ≡ true → a ≡ true
left_true true b e = refl
left_true false b e = e

-- if both hold, the second does
right_true : (a b : Bool) → (a && b) ≡ true → b ≡ true
right_true true b e = e
right_true false b e = cc

-- the channel at an input of p is one of the network's, and p is its reader
pub in_of-reader : (net : Network) (p k c : ℕ) → in_of net p k ≡ Some c → (c < length net.channels) × ((channel_of net c).reader ≡ p)
in_of-reader net p k c e =
    let h = position-Some (λ (l : Channel). (l.reader == p) && (l.input == k)) net.channels c no_channel e in
    (h.0, eqb-true _ _ (left_true _ _ h.1))

-- the channel at an output of p is one of the network's, and p is its writer
pub out_of-writer : (net : Network) (p k c : ℕ) → out_of net p k ≡ Some c → (c < length net.channels) × ((channel_of net c).writer ≡ p)
out_of-writer net p k c e =
    let h = position-Some (λ (l : Channel). (l.writer == p) && (l.out == k)) net.channels c no_channel e in
    (h.0, eqb-true _ _ (left_true _ _ h.1))

-- the channel at input k of p leads to input k
pub in_of-input : (net : Network) (p k c : ℕ) → in_of net p k ≡ Some c → (channel_of net c).input ≡ k
in_of-input net p k c e = eqb-true _ _ (right_true _ _ (position-Some (λ (l : Channel). (l.reader == p) && (l.input == k)) net.channels c no_channel e).1)

-- the channel at output k of p leads from output k
pub out_of-out : (net : Network) (p k c : ℕ) → out_of net p k ≡ Some c → (channel_of net c).out ≡ k
out_of-out net p k c e = eqb-true _ _ (right_true _ _ (position-Some (λ (l : Channel). (l.writer == p) && (l.out == k)) net.channels c no_channel e).1)

-- a channel that holds a token is one of the state's
pub holds_within : (M : State) (c : ℕ) (t : Token) (rest : List Token) → tokens M c ≡ t ∷ rest → c < length M.channels
holds_within M c t rest e =
    ⊎_elim (λ h. h) (λ past. let g = ap (λ (x : Held). x.tokens) (get_or_past M.channels c nothing_held past) in cc) (cases_lt c (length M.channels))

-- a status that is set is what it was set to
pub status_set_same : (M : State) (p : ℕ) (s : Status) → p < length M.processes → status (with_status M p s) p ≡ s
status_set_same M p s h = get_or-set_same M.processes p s Done h

-- and the others stay
pub status_set_other : (M : State) (p q : ℕ) (s : Status) → q ≢ p → status (with_status M p s) q ≡ status M q
status_set_other M p q s h = get_or-set_other M.processes p q s Done h

-- a channel that is set holds what it was set to
pub tokens_set_same : (M : State) (c : ℕ) (ts : List Token) (n : ℕ) → c < length M.channels → tokens (with_channel M c ts n) c ≡ ts
tokens_set_same M c ts n h = ap (λ (x : Held). x.tokens) (get_or-set_same M.channels c (record { tokens = ts; capacity = n }) nothing_held h)

-- and each other holds what it held
pub tokens_set_other : (M : State) (c b : ℕ) (ts : List Token) (n : ℕ) → b ≢ c → tokens (with_channel M c ts n) b ≡ tokens M b
tokens_set_other M c b ts n h = ap (λ (x : Held). x.tokens) (get_or-set_other M.channels c b (record { tokens = ts; capacity = n }) nothing_held h)

-- a channel that is set has the capacity that it was set to
pub capacity_set_same : (M : State) (c : ℕ) (ts : List Token) (n : ℕ) → c < length M.channels → capacity (with_channel M c ts n) c ≡ n
capacity_set_same M c ts n h = ap (λ (x : Held). x.capacity) (get_or-set_same M.channels c (record { tokens = ts; capacity = n }) nothing_held h)

-- and each other what it had
pub capacity_set_other : (M : State) (c b : ℕ) (ts : List Token) (n : ℕ) → b ≢ c → capacity (with_channel M c ts n) b ≡ capacity M b
capacity_set_other M c b ts n h = ap (λ (x : Held). x.capacity) (get_or-set_other M.channels c b (record { tokens = ts; capacity = n }) nothing_held h)

-- a channel keeps its capacity if only its tokens change
pub capacity_kept : (M : State) (c b : ℕ) (ts : List Token) → capacity (with_channel M c ts (capacity M c)) b ≡ capacity M b
capacity_kept M c b ts =
    ⊎_elim
    (λ (e : b ≡ c). ⊎_elim
    (λ (h : c < length M.channels). ap (λ x. capacity (with_channel M c ts (capacity M c)) x) e ∙ capacity_set_same M c ts _ h ∙ ap (λ x. capacity M x) (sym e))
    (λ (h : length M.channels ≤ c). ap (λ (l : List Held). (get_or l b nothing_held).capacity) (set_past M.channels c (record { tokens = ts; capacity = capacity M c }) h))
    (cases_lt c (length M.channels)))
    (λ ne. capacity_set_other M c b ts _ ne) (cases_eq b c)
