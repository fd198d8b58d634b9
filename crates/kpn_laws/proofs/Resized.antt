-- A network with other starting capacities is wired alike, and its start is fresh too.
use Rattle.std.proofs.Common.{◌≡◌, List, [], ◌∷◌, length, refl, ap, ◌∙◌, ℕ, ◌==◌, Bool, ◌&&◌, Some, get_or, None, ◌+◌, suc, zero, cond, nat_lt, not, position}
use Rattle.std.specs.List.{prefix_len}
use Rattle.kpn_model.specs.declared.history.Entry.{Entry}
use Rattle.kpn_model.specs.declared.parts.Channel.{Channel}
use Rattle.kpn_model.specs.Network.{Network, no_channel, Family, resize, resized}
use Rattle.kpn_model.specs.Semantics.{State, start, Run, IsRun}
use Rattle.kpn_laws.proofs.Kept.{IsFresh, fresh_start}
use Rattle.kpn_laws.proofs.Wiring.{AreWiredAlike, run_alike}

-- as many channels
resize-length : (ls : List Channel) (sizes : ℕ → ℕ) → length (resize ls sizes) ≡ length ls
resize-length [] sizes = refl
resize-length (l ∷ ls) sizes = ap suc (resize-length ls (λ c. sizes (c + 1)))

-- a test that does not look at capacities passes over as many channels
resize-prefix :
    (test : Channel → Bool) → ((l : Channel) (n : ℕ) → test (record l { capacity = n }) ≡ test l) → (ls : List Channel) (sizes : ℕ → ℕ)
    → prefix_len test (resize ls sizes) ≡ prefix_len test ls
resize-prefix test blind [] sizes = refl
resize-prefix test blind (l ∷ ls) sizes =
    ap (λ x. cond x (1 + prefix_len test (resize ls (λ c. sizes (c + 1)))) 0) (blind l (sizes 0))
    ∙ ap (λ n. cond (test l) (1 + n) 0) (resize-prefix test blind ls (λ c. sizes (c + 1)))

-- a test that does not look at capacities finds the same channel
resize-position :
    (test : Channel → Bool) → ((l : Channel) (n : ℕ) → test (record l { capacity = n }) ≡ test l) → (ls : List Channel) (sizes : ℕ → ℕ)
    → position test (resize ls sizes) ≡ position test ls
resize-position test blind ls sizes =
    ap (λ n. cond (nat_lt n (length (resize ls sizes))) (Some n) None) (resize-prefix (λ l. not (test l)) (λ l n. ap not (blind l n)) ls sizes)
    ∙ ap (λ m. let n = prefix_len (λ l. not (test l)) ls in cond (nat_lt n m) (Some n) None) (resize-length ls sizes)

-- the same start tokens
pub resize-tokens : (ls : List Channel) (sizes : ℕ → ℕ) (c : ℕ) → (get_or (resize ls sizes) c no_channel).tokens ≡ (get_or ls c no_channel).tokens
resize-tokens [] sizes c = refl
resize-tokens (l ∷ ls) sizes zero = refl
resize-tokens (l ∷ ls) sizes (suc c) = resize-tokens ls (λ n. sizes (n + 1)) c

-- a network with other starting capacities is wired alike
pub wired_resized : (net : Network) (sizes : ℕ → ℕ) → AreWiredAlike (resized net sizes) net
wired_resized net sizes =
    record {
      cards = λ p. refl;
      ins = λ p k. resize-position (λ l. (l.reader == p) && (l.input == k)) (λ l n. refl) net.channels sizes;
      steps = refl;
      ceilings = refl;
      outs = λ p k. resize-position (λ l. (l.writer == p) && (l.out == k)) (λ l n. refl) net.channels sizes;
    }

module _ (kinds : Family) (net : Network) (sizes : ℕ → ℕ) where
  -- nothing has happened at its start
  pub fresh_resized : IsFresh kinds net (start kinds (resized net sizes))
  fresh_resized =
      let f = fresh_start kinds (resized net sizes) in
      record { statuses = λ p. refl; tokens_are = λ c. f.tokens_are c ∙ resize-tokens net.channels sizes c; processes = f.processes; channels = f.channels ∙ resize-length net.channels sizes }

  -- its runs are runs of the network from that start
  pub run_resized : (F : List Entry) (N : State) → IsRun kinds (resized net sizes) F N → Run kinds net (start kinds (resized net sizes)) F N
  run_resized F N r = run_alike kinds (resized net sizes) net (wired_resized net sizes) (start kinds (resized net sizes)) F N r
