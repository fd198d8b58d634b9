-- A valid network of which one channel holds other tokens at first is valid.
use Rattle.std.proofs.Common.{◌≡◌, ◌≢◌, ◌<◌, ◌≤◌, ℕ, zero, suc, true, List, [], ◌∷◌, length, set, get_or, Option, refl, sym, subst, arith}
use Rattle.std.proofs.lemmas.List.{length-set, get_or_default}
use Rattle.std.proofs.lemmas.List.Elements.{All-set, All-weaker}
use Rattle.std.specs.List.{All, Any, AllPairs, AllByRecursion}
use Rattle.kpn_model.specs.declared.token.Token.{Token}
use Rattle.kpn_model.specs.declared.kinds.Card.{Card}
use Rattle.kpn_model.specs.declared.kinds.Signature.{Signature}
use Rattle.kpn_model.specs.declared.parts.Channel.{Channel}
use Rattle.kpn_model.specs.texts.NameForm.{is_name}
use Rattle.kpn_model.specs.Network.{Network, no_channel, channel_of}
use Rattle.kpn_model.specs.Valid.{HasEnds, IsOfSort, IsValid, JustOne}
use Rattle.hox_network.specs.Presets.{holding, with_tokens}

-- a list of which one item is another, of which f reads the same
module _ {X Y : Type 0} (f : X → Y) where
  pub kept : (xs : List X) (c : ℕ) (x e : X) → f x ≡ f (get_or xs c e) → (i : ℕ) (d : X) → f (get_or (set xs c x) i d) ≡ f (get_or xs i d)
  kept [] c x e same i d = refl
  kept (y ∷ ys) zero x e same zero d = same
  kept (y ∷ ys) zero x e same (suc i) d = refl
  kept (y ∷ ys) (suc c) x e same zero d = refl
  kept (y ∷ ys) (suc c) x e same (suc i) d = kept ys c x e same i d

  pub All-kept : (Q : Y → Type 0) (xs : List X) (c : ℕ) (x e : X) → f x ≡ f (get_or xs c e) → All (λ y. Q (f y)) xs → All (λ y. Q (f y)) (set xs c x)
  All-kept Q xs c x e same all k d l =
      let within : k < length xs = omega (arith, length-set xs c x) in
      subst Q (sym (kept xs c x e same k d)) (all k d within)

  pub AllPairs-kept : (R : Y → Y → Type 0) (xs : List X) (c : ℕ) (x e : X) → f x ≡ f (get_or xs c e) → AllPairs (λ y z. R (f y) (f z)) xs → AllPairs (λ y z. R (f y) (f z)) (set xs c x)
  AllPairs-kept R xs c x e same all i j d l m =
      let within : j < length xs = omega (arith, length-set xs c x) in
      subst (λ y. R y (f (get_or (set xs c x) j d))) (sym (kept xs c x e same i d)) (subst (λ z. R (f (get_or xs i d)) z) (sym (kept xs c x e same j d)) (all i j d l within))

  pub Any-kept : (Q : Y → Type 0) (xs : List X) (c : ℕ) (x e : X) → f x ≡ f (get_or xs c e) → Any (λ y. Q (f y)) xs → Any (λ y. Q (f y)) (set xs c x)
  Any-kept Q xs c x e same (k, y, l, at, q) =
      let within : k < length (set xs c x) = omega (arith, length-set xs c x) in
      let z : X = get_or (set xs c x) k y in
      (k, z, within, get_or_default (set xs c x) k z y within, subst Q (sym (kept xs c x e same k y)) (subst (λ w. Q (f w)) (sym at) q))

  pub JustOne-kept : (Q : Y → Type 0) (xs : List X) (c : ℕ) (x e : X) → f x ≡ f (get_or xs c e) → JustOne (λ y. Q (f y)) xs → JustOne (λ y. Q (f y)) (set xs c x)
  JustOne-kept Q xs c x e same (one, others) = (Any-kept Q xs c x e same one, AllPairs-kept (λ y z. Q y → Q z → ⊥) xs c x e same others)

module _ (signature : Card → Option Signature) (net : Network) (c : ℕ) (tokens : List Token) where
  abbrev other : Network
  other = with_tokens net c tokens

  abbrev held : Channel
  held = holding tokens (channel_of net c)

  same_ends : (x : Channel) → HasEnds signature net x → HasEnds signature other x
  same_ends x e = record { writer = e.writer; out = e.out; reader = e.reader; input = e.input }

  pub held_valid : IsValid signature net → c < length net.channels → AllByRecursion (IsOfSort (channel_of net c).sort) tokens → length tokens ≤ net.ceiling → IsValid signature other
  held_valid v within sorts few =
      let capacity = v.capacities c no_channel within in
      let ends = v.ends c no_channel within in
      record {
        some_process = v.some_process;
        few_processes = v.few_processes;
        few_channels = rw length-set v.few_channels;
        process_names = v.process_names;
        channel_names = All-kept (λ (x : Channel). x.name) (λ n. is_name n ≡ true) net.channels c held no_channel refl v.channel_names;
        processes_apart = v.processes_apart;
        channels_apart = AllPairs-kept (λ (x : Channel). x.name) (λ n m. n ≢ m) net.channels c held no_channel refl v.channels_apart;
        cards = v.cards;
        signed = v.signed;
        ends = All-set (HasEnds signature other) net.channels c held (record { writer = ends.writer; out = ends.out; reader = ends.reader; input = ends.input })
            (All-weaker (HasEnds signature net) (HasEnds signature other) same_ends net.channels v.ends);
        writers = λ p k l m some. JustOne-kept {Y = ℕ × ℕ} (λ (x : Channel). (x.writer, x.out)) (λ w. (w.0 ≡ p) × (w.1 ≡ k)) net.channels c held no_channel refl (v.writers p k l m some);
        readers = λ p k l m some. JustOne-kept {Y = ℕ × ℕ} (λ (x : Channel). (x.reader, x.input)) (λ w. (w.0 ≡ p) × (w.1 ≡ k)) net.channels c held no_channel refl (v.readers p k l m some);
        capacities = All-set (λ (x : Channel). (1 ≤ x.capacity) × (x.capacity ≤ net.ceiling)) net.channels c held (omega arith, omega arith) v.capacities;
        start_tokens = All-set (λ (x : Channel). AllByRecursion (IsOfSort x.sort) x.tokens) net.channels c held sorts v.start_tokens;
        start_fits = All-set (λ (x : Channel). length x.tokens ≤ x.capacity) net.channels c held (omega arith) v.start_fits;
        some_step = v.some_step;
        small_step = v.small_step;
        small_ceiling = v.small_ceiling;
        some_budget = v.some_budget;
        small_budget = v.small_budget;
        smaller_budget = v.smaller_budget;
      }
