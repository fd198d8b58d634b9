-- A network with further start tokens and other capacities is wired alike.
use Rattle.std.proofs.Common.{◌≡◌, List, [], ◌∷◌, ◌++◌, append-nil, length, refl, sym, ap, ◌∙◌, arith, ℕ, ◌==◌, Bool, ◌&&◌, Some, get_or, None, ◌+◌, ◌<◌, suc, zero, cond, nat_lt, not, position}
use Rattle.std.specs.List.{prefix_len}
use Rattle.kpn_model.specs.declared.token.Token.{Token}
use Rattle.kpn_model.specs.declared.parts.Channel.{Channel}
use Rattle.kpn_model.specs.Network.{Network, no_channel}
use Rattle.kpn_laws.proofs.Wiring.{AreWiredAlike}
use Rattle.kpn_flow.specs.Preloaded.{preload, preloaded}

pub preload-length : (ls : List Channel) (more : ℕ → List Token) (sizes : ℕ → ℕ) → length (preload ls more sizes) ≡ length ls
preload-length [] more sizes = refl
preload-length (l ∷ ls) more sizes = ap suc (preload-length ls (λ c. more (c + 1)) (λ c. sizes (c + 1)))

-- a test that looks at neither tokens nor capacities passes over as many channels
preload-prefix :
    (test : Channel → Bool) → ((l : Channel) (ts : List Token) (n : ℕ) → test (record l { tokens = ts; capacity = n }) ≡ test l) → (ls : List Channel) (more : ℕ → List Token) (sizes : ℕ → ℕ)
    → prefix_len test (preload ls more sizes) ≡ prefix_len test ls
preload-prefix test blind [] more sizes = refl
preload-prefix test blind (l ∷ ls) more sizes =
    ap (λ x. cond x (1 + prefix_len test (preload ls (λ c. more (c + 1)) (λ c. sizes (c + 1)))) 0) (blind l (l.tokens ++ more 0) (sizes 0))
    ∙ ap (λ n. cond (test l) (1 + n) 0) (preload-prefix test blind ls (λ c. more (c + 1)) (λ c. sizes (c + 1)))

preload-position :
    (test : Channel → Bool) → ((l : Channel) (ts : List Token) (n : ℕ) → test (record l { tokens = ts; capacity = n }) ≡ test l) → (ls : List Channel) (more : ℕ → List Token) (sizes : ℕ → ℕ)
    → position test (preload ls more sizes) ≡ position test ls
preload-position test blind ls more sizes =
    ap (λ n. cond (nat_lt n (length (preload ls more sizes))) (Some n) None) (preload-prefix (λ l. not (test l)) (λ l ts n. ap not (blind l ts n)) ls more sizes)
    ∙ ap (λ m. let n = prefix_len (λ l. not (test l)) ls in cond (nat_lt n m) (Some n) None) (preload-length ls more sizes)

pub preload-tokens : (ls : List Channel) (more : ℕ → List Token) (sizes : ℕ → ℕ) (c : ℕ) → c < length ls → (get_or (preload ls more sizes) c no_channel).tokens ≡ (get_or ls c no_channel).tokens ++ more c
preload-tokens [] more sizes c h = absurd (omega arith)
preload-tokens (l ∷ ls) more sizes zero h = refl
preload-tokens (l ∷ ls) more sizes (suc c) h = preload-tokens ls (λ n. more (n + 1)) (λ n. sizes (n + 1)) c (omega arith) ∙ ap (λ n. (get_or ls c no_channel).tokens ++ more n) (next c)
  where
    next : (c : ℕ) → c + 1 ≡ suc c
    next c = omega arith

pub preload-capacity : (ls : List Channel) (more : ℕ → List Token) (sizes : ℕ → ℕ) (c : ℕ) → c < length ls → (get_or (preload ls more sizes) c no_channel).capacity ≡ sizes c
preload-capacity [] more sizes c h = absurd (omega arith)
preload-capacity (l ∷ ls) more sizes zero h = refl
preload-capacity (l ∷ ls) more sizes (suc c) h = preload-capacity ls (λ n. more (n + 1)) (λ n. sizes (n + 1)) c (omega arith) ∙ ap sizes (next c)
  where
    next : (c : ℕ) → c + 1 ≡ suc c
    next c = omega arith

-- a channel without further tokens has the same
pub preload-unfed :
    (ls : List Channel) (more : ℕ → List Token) (sizes : ℕ → ℕ) (c : ℕ) → more c ≡ []
    → (get_or (preload ls more sizes) c no_channel).tokens ≡ (get_or ls c no_channel).tokens
preload-unfed [] more sizes c e = refl
preload-unfed (l ∷ ls) more sizes zero e = ap (λ ts. l.tokens ++ ts) e ∙ append-nil l.tokens
preload-unfed (l ∷ ls) more sizes (suc c) e = preload-unfed ls (λ n. more (n + 1)) (λ n. sizes (n + 1)) c (ap more (next c) ∙ e)
  where
    next : (c : ℕ) → c + 1 ≡ suc c
    next c = omega arith

pub preload-writer :
    (ls : List Channel) (more : ℕ → List Token) (sizes : ℕ → ℕ) (c : ℕ)
    → (get_or (preload ls more sizes) c no_channel).writer ≡ (get_or ls c no_channel).writer
preload-writer [] more sizes c = refl
preload-writer (l ∷ ls) more sizes zero = refl
preload-writer (l ∷ ls) more sizes (suc c) = preload-writer ls (λ n. more (n + 1)) (λ n. sizes (n + 1)) c

pub wired_preloaded : (net : Network) (more : ℕ → List Token) (sizes : ℕ → ℕ) → AreWiredAlike net (preloaded net more sizes)
wired_preloaded net more sizes =
    record {
      cards = λ p. refl;
      ins = λ p k. sym (preload-position (λ l. (l.reader == p) && (l.input == k)) (λ l ts n. refl) net.channels more sizes);
      outs = λ p k. sym (preload-position (λ l. (l.writer == p) && (l.out == k)) (λ l ts n. refl) net.channels more sizes);
      steps = refl;
      ceilings = refl;
    }
