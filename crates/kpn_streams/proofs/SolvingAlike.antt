-- What a network computes doesn't depend on names, sorts and capacities.
use Rattle.std.proofs.Common.{◌≡◌, ℕ, zero, suc, ◌+◌, ◌==◌, ◌&&◌, Bool, not, cond, nat_lt, List, [], ◌∷◌, ◌++◌, length, refl, sym, ap, ◌∙◌, subst, Some, None, get_or, map, position, slice_get}
use Rattle.std.specs.List.{prefix_len}
use Rattle.std.proofs.lemmas.List.{length-map}
use Rattle.kpn_model.specs.declared.token.Sort.TheVariants.{Words}
use Rattle.kpn_model.specs.declared.kinds.Act.{Act}
use Rattle.kpn_model.specs.declared.kinds.Act.TheVariants.{Read, Write, Stop}
use Rattle.kpn_model.specs.declared.parts.Process.{Process}
use Rattle.kpn_model.specs.declared.parts.Channel.{Channel}
use Rattle.kpn_model.specs.declared.history.Deed.{Deed}
use Rattle.kpn_model.specs.declared.history.Deed.TheVariants.{Took, Put, Stopped}
use Rattle.kpn_model.specs.declared.history.Status.{Status}
use Rattle.kpn_model.specs.declared.history.Status.TheVariants.{Live, Done}
use Rattle.kpn_model.specs.Network.{Family, Network, no_process, no_channel, card_of, channel_of, in_of, out_of}
use Rattle.kpn_model.specs.Semantics.{status, start, answered}
use Rattle.kpn_laws.specs.Alone.{Streams, BeginsWith, puts, after_answer, IsDeedAlone, GoesOnAlone, DoesAlone}
use Rattle.kpn_laws.specs.Equations.{written, Obeys, IsLeastSolution}
use Rattle.kpn_streams.specs.Solving.{as_streams, bare, AlikeComputeTheSame}
use Rattle.kpn_streams.proofs.SolvingRuns.{has_streams}

abbrev bare_process : Process → Process
bare_process p = record { name = []; card = p.card }

abbrev bare_channel : Channel → Channel
bare_channel l = record l { name = []; sort = Words; capacity = 0 }

-- the cards of processes
same_card : (ps : List Process) (p : ℕ) → (get_or ps p no_process).card ≡ (get_or (map bare_process ps) p no_process).card
same_card [] p = refl
same_card (x ∷ ps) zero = refl
same_card (x ∷ ps) (suc p) = same_card ps p

-- how they begin
same_start :
    (kinds : Family) (ps : List Process) (p : ℕ)
    → get_or (map (λ (x : Process). Live (kinds.start x.card) None) ps) p Done ≡ get_or (map (λ (x : Process). Live (kinds.start x.card) None) (map bare_process ps)) p Done
same_start kinds [] p = refl
same_start kinds (x ∷ ps) zero = refl
same_start kinds (x ∷ ps) (suc p) = same_start kinds ps p

-- the writers and the start tokens of channels
same_writer : (ls : List Channel) (c : ℕ) → (get_or ls c no_channel).writer ≡ (get_or (map bare_channel ls) c no_channel).writer
same_writer [] c = refl
same_writer (l ∷ ls) zero = refl
same_writer (l ∷ ls) (suc c) = same_writer ls c

same_tokens : (ls : List Channel) (c : ℕ) → (get_or ls c no_channel).tokens ≡ (get_or (map bare_channel ls) c no_channel).tokens
same_tokens [] c = refl
same_tokens (l ∷ ls) zero = refl
same_tokens (l ∷ ls) (suc c) = same_tokens ls c

-- a test that doesn't look at what goes passes over as many channels
same_prefix : (test : Channel → Bool) → ((l : Channel) → test (bare_channel l) ≡ test l) → (ls : List Channel) → prefix_len test (map bare_channel ls) ≡ prefix_len test ls
same_prefix test blind [] = refl
same_prefix test blind (l ∷ ls) =
    ap (λ x. cond x (1 + prefix_len test (map bare_channel ls)) 0) (blind l) ∙ ap (λ n. cond (test l) (1 + n) 0) (same_prefix test blind ls)

-- so it finds the same one
same_position : (test : Channel → Bool) → ((l : Channel) → test (bare_channel l) ≡ test l) → (ls : List Channel) → position test (map bare_channel ls) ≡ position test ls
same_position test blind ls =
    ap (λ n. cond (nat_lt n (length (map bare_channel ls))) (Some n) None) (same_prefix (λ l. not (test l)) (λ l. ap not (blind l)) ls)
    ∙ ap (λ m. let n = prefix_len (λ l. not (test l)) ls in cond (nat_lt n m) (Some n) None) (length-map ls bare_channel)

-- what a process alone sees of two networks is the same
record AreSame (kinds : Family) (a b : Network) : Type 0 where
  cards : (p : ℕ) → card_of a p ≡ card_of b p
  starts : (p : ℕ) → status (start kinds a) p ≡ status (start kinds b) p
  ins : (p k : ℕ) → in_of a p k ≡ in_of b p k
  outs : (p k : ℕ) → out_of a p k ≡ out_of b p k
  writers : (c : ℕ) → (channel_of a c).writer ≡ (channel_of b c).writer
  tokens : (c : ℕ) → (channel_of a c).tokens ≡ (channel_of b c).tokens

same_sym : (kinds : Family) (a b : Network) → AreSame kinds a b → AreSame kinds b a
same_sym kinds a b s =
    record {
      cards = λ p. sym (s.cards p);
      starts = λ p. sym (s.starts p);
      ins = λ p k. sym (s.ins p k);
      outs = λ p k. sym (s.outs p k);
      writers = λ c. sym (s.writers c);
      tokens = λ c. sym (s.tokens c);
    }

same_bare : (kinds : Family) (net : Network) → AreSame kinds net (bare net)
same_bare kinds net =
    record {
      cards = λ p. same_card net.processes p;
      starts = λ p. same_start kinds net.processes p;
      ins = λ p k. sym (same_position (λ l. (l.reader == p) && (l.input == k)) (λ l. refl) net.channels);
      outs = λ p k. sym (same_position (λ l. (l.writer == p) && (l.out == k)) (λ l. refl) net.channels);
      writers = λ c. same_writer net.channels c;
      tokens = λ c. same_tokens net.channels c;
    }

module _ (kinds : Family) (a b : Network) (same : AreSame kinds a b) where
  same_answer : (p : ℕ) (s : Status) → answered kinds a p s ≡ answered kinds b p s
  same_answer p Done = refl
  same_answer p (Live local last) = ap (λ card. Some (kinds.answer card local last)) (same.cards p)

  same_deed : (U : Streams) (p : ℕ) (before : List Deed) (x : Act) (d : Deed) → IsDeedAlone kinds a U p before x d → IsDeedAlone kinds b U p before x d
  same_deed U p before Stop Stopped h = tt
  same_deed U p before (Read k) (Took c t) h = (sym (same.ins p k) ∙ h.0, h.1)
  same_deed U p before (Write k w) (Put c t) h = (sym (same.outs p k) ∙ h.0, h.1)
  same_deed U p before Stop (Took c t) h = absurd h
  same_deed U p before Stop (Put c t) h = absurd h
  same_deed U p before (Read k) Stopped h = absurd h
  same_deed U p before (Read k) (Put c t) h = absurd h
  same_deed U p before (Write k w) Stopped h = absurd h
  same_deed U p before (Write k w) (Took c t) h = absurd h

  same_going : (U : Streams) (p : ℕ) (ds : List Deed) (s : Status) (before : List Deed) → GoesOnAlone kinds a U p s before ds → GoesOnAlone kinds b U p s before ds
  same_going U p [] s before g = tt
  same_going U p (d ∷ ds) s before g =
      (g.0, sym (same_answer p s) ∙ g.1, same_deed U p before g.0.act d g.2, same_going U p ds (after_answer g.0 d) (before ++ d ∷ []) g.3)

  -- a process alone does the same
  same_alone : (U : Streams) (p q : ℕ) → p ≡ q → (ds : List Deed) → DoesAlone kinds a U p ds → DoesAlone kinds b U q ds
  same_alone U p q e ds g =
      subst (λ x. DoesAlone kinds b U x ds) e
      (subst (λ s. GoesOnAlone kinds b U p s [] ds) (same.starts p) (same_going U p ds (status (start kinds a) p) [] g))

  same_written : (c : ℕ) (ds : List Deed) → written a c ds ≡ written b c ds
  same_written c ds = ap (λ ts. ts ++ puts ds c) (same.tokens c)

-- so streams that obey the equations of one obey those of the other
obeys_same : (kinds : Family) (a b : Network) → AreSame kinds a b → (U : Streams) → Obeys kinds a U → Obeys kinds b U
obeys_same kinds a b same U obeys c ds g =
    subst (λ l. BeginsWith (U c) l) (same_written kinds a b same c ds)
    (obeys c ds (same_alone kinds b a (same_sym kinds a b same) U (channel_of b c).writer (channel_of a c).writer (sym (same.writers c)) ds g))

least_same : (kinds : Family) (a b : Network) → AreSame kinds a b → (T : Streams) → IsLeastSolution kinds a T → IsLeastSolution kinds b T
least_same kinds a b same T x =
    record {
      solution = record {
        obeys = obeys_same kinds a b same T x.solution.obeys;
        no_more = λ c n t e.
            let y = x.solution.no_more c n t e in (
              y.0,
              same_alone kinds a b same T (channel_of a c).writer (channel_of b c).writer (same.writers c) y.0 y.1,
              ap (λ l. slice_get l n) (sym (same_written kinds a b same c y.0)) ∙ y.2,
            );
      };
      least = λ U obeys c n t e. x.least U (obeys_same kinds b a (same_sym kinds a b same) U obeys) c n t e;
    }

-- so networks of which the same is left compute the same
pub alike_compute_the_same : (kinds : Family) → AlikeComputeTheSame kinds
alike_compute_the_same kinds net other X alike s =
    let one = least_same kinds net (bare net) (same_bare kinds net) (as_streams X) s.least in
    let two = subst (λ n. IsLeastSolution kinds n (as_streams X)) alike one in
    has_streams kinds other X (least_same kinds (bare other) other (same_sym kinds other (bare other) (same_bare kinds other)) (as_streams X) two)
