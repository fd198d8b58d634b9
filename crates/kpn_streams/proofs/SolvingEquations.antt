-- An equation of a network, by what its writer writes that is fed.
use Rattle.std.proofs.Common.{◌≡◌, ◌≤◌, ◌⊎◌, inl, inr, ⊎_elim, ℕ, ◌==◌, false, List, [], ◌∷◌, ◌++◌, length, refl, sym, ap, ◌∙◌, subst, arith, append_assoc, append-nil, Option, Some, None, get_or, if◌then◌else◌, slice_get, eq-eqb, ne_eqb}
use Rattle.std.specs.Option.{option_map_or}
use Rattle.std.proofs.lemmas.Bool.{cases_eq}
use Rattle.std.proofs.lemmas.List.{get_or_past}
use Rattle.std.proofs.lemmas.Option.{same_Some}
use Rattle.kpn_model.specs.declared.token.Token.{Token}
use Rattle.kpn_model.specs.declared.parts.Channel.{Channel}
use Rattle.kpn_model.specs.declared.history.Deed.{Deed}
use Rattle.kpn_model.specs.declared.history.Deed.TheVariants.{Took, Put, Stopped}
use Rattle.kpn_model.specs.declared.history.Status.{Status}
use Rattle.kpn_model.specs.Network.{Family, Network, no_channel, channel_of, in_of, out_of}
use Rattle.kpn_model.specs.Semantics.{status, start}
use Rattle.kpn_model.specs.History.{IsPrefixOf}
use Rattle.kpn_laws.specs.Alone.{Streams, BeginsWith, puts, after_answer, GoesOnAlone, DoesAlone}
use Rattle.kpn_laws.specs.Equations.{written}
use Rattle.kpn_laws.proofs.States.{out_of-writer, out_of-out}
use Rattle.kpn_laws.proofs.Sequences.{get_begins, get_prefix}
use Rattle.kpn_laws.proofs.Alone.{alone_put}
use Rattle.kpn_streams.specs.Solving.{as_streams, written_to, HasEquation, StepIsBelow}
use Rattle.kpn_streams.proofs.SolvingFed.{fed_is_alone, fed_is_all}
use Rattle.kpn_streams.proofs.SolvingPorts.{begins_fed, ends_fed}

-- a channel is the first at its output or it isn't, and what it gets goes by that
first_or_not :
    (net : Network) (c : ℕ) (outs : List (List Token))
    → ((out_of net (channel_of net c).writer (channel_of net c).out ≡ Some c) × (written_to net c outs ≡ get_or outs (channel_of net c).out []))
    ⊎ ((out_of net (channel_of net c).writer (channel_of net c).out ≡ Some c → ⊥) × (written_to net c outs ≡ []))
first_or_not net c outs = of_first (out_of net (channel_of net c).writer (channel_of net c).out)
  where
    of_first :
        (o : Option ℕ)
        → ((o ≡ Some c) × ((if option_map_or (λ b. b == c) o false then get_or outs (channel_of net c).out [] else []) ≡ get_or outs (channel_of net c).out []))
        ⊎ ((o ≡ Some c → ⊥) × ((if option_map_or (λ b. b == c) o false then get_or outs (channel_of net c).out [] else []) ≡ []))
    of_first None = inr ((λ (e : None ≡ Some c). cc), refl)
    of_first (Some b) =
        ⊎_elim
        (λ (e : b ≡ c). inl (ap (λ x. Some x) e, ap (λ x. if x then get_or outs (channel_of net c).out [] else []) (eq-eqb b c e)))
        (λ (ne : b ≡ c → ⊥). inr ((λ (e : Some b ≡ Some c). ne (same_Some b c e)), ap (λ x. if x then get_or outs (channel_of net c).out [] else []) (ne_eqb b c ne)))
        (cases_eq b c)

module _ (kinds : Family) (net : Network) where
  -- a process alone puts nothing on a channel to which no output of it leads
  puts_elsewhere :
      (U : Streams) (p c : ℕ) → ((k : ℕ) → out_of net p k ≡ Some c → ⊥) → (ds : List Deed) (s : Status) (before : List Deed)
      → GoesOnAlone kinds net U p s before ds → puts ds c ≡ []
  puts_elsewhere U p c none [] s before g = refl
  puts_elsewhere U p c none (Took b t ∷ ds) s before g = puts_elsewhere U p c none ds (after_answer g.0 (Took b t)) (before ++ Took b t ∷ []) g.3
  puts_elsewhere U p c none (Stopped ∷ ds) s before g = puts_elsewhere U p c none ds (after_answer g.0 Stopped) (before ++ Stopped ∷ []) g.3
  puts_elsewhere U p c none (Put b t ∷ ds) s before g =
      let r = alone_put kinds net U p before b t g.0.act g.2 in
      let apart : b ≡ c → ⊥ = λ (e : b ≡ c). none r.0 (r.2 ∙ ap (λ x. Some x) e) in
      ap (λ x. (if x then t ∷ [] else []) ++ puts ds c) (ne_eqb b c apart) ∙ puts_elsewhere U p c none ds (after_answer g.0 (Put b t)) (before ++ Put b t ∷ []) g.3

  -- what c's writer alone puts on a channel that isn't the first at its output
  puts_unless_first :
      (U : Streams) (c : ℕ) → (out_of net (channel_of net c).writer (channel_of net c).out ≡ Some c → ⊥) → (ds : List Deed)
      → DoesAlone kinds net U (channel_of net c).writer ds → puts ds c ≡ []
  puts_unless_first U c other ds g =
      let w = (channel_of net c).writer in
      puts_elsewhere U w c (λ k at. other (ap (λ x. out_of net w x) (out_of-out net w k c at) ∙ at)) ds (status (start kinds net) w) [] g

  -- nothing is written on a channel that the network doesn't have
  pub written_past :
      (U : Streams) (c : ℕ) → length net.channels ≤ c → (ds : List Deed) → DoesAlone kinds net U (channel_of net c).writer ds → written net c ds ≡ []
  written_past U c past ds g =
      let w = (channel_of net c).writer in
      let none = puts_elsewhere U w c (λ k at. let r = out_of-writer net w k c at in let within = r.0 in absurd (omega arith)) ds (status (start kinds net) w) [] g in
      ap (λ (l : Channel). l.tokens ++ puts ds c) (get_or_past net.channels c no_channel past) ∙ none

  -- if those that the writer of c reads begin with X, it writes what the equation says
  pub equation_written :
      (X : ℕ → List Token) (U : Streams) (c : ℕ) (ts : List Token) → ((k b : ℕ) → in_of net (channel_of net c).writer k ≡ Some b → BeginsWith (U b) (X b))
      → HasEquation kinds net X c ts → (ds : List Deed) × DoesAlone kinds net U (channel_of net c).writer ds × (written net c ds ≡ ts)
  equation_written X U c ts begins e =
      let w = (channel_of net c).writer in
      let r = fed_is_alone kinds net U w _ e.outs e.ports.process e.ports.outs e.writes (begins_fed net X U w e.inputs (length e.outs) e.ports begins) in
      let same : puts r.0 c ≡ written_to net c e.outs =
      ⊎_elim
      (λ (x : (out_of net w (channel_of net c).out ≡ Some c) × (written_to net c e.outs ≡ get_or e.outs (channel_of net c).out [])). r.2 (channel_of net c).out c x.0 ∙ sym x.1)
      (λ (x : (out_of net w (channel_of net c).out ≡ Some c → ⊥) × (written_to net c e.outs ≡ [])). puts_unless_first U c x.0 r.0 r.1 ∙ sym x.1)
      (first_or_not net c e.outs) in
      (r.0, r.1, ap (λ l. (channel_of net c).tokens ++ l) same ∙ sym e.is)

  -- for streams that have no tokens but X it writes no more
  pub equation_bounds :
      (X : ℕ → List Token) (U : Streams) (c : ℕ) (ts : List Token) → ((b n : ℕ) (t : Token) → U b n ≡ Some t → slice_get (X b) n ≡ Some t)
      → HasEquation kinds net X c ts → (ds : List Deed) → DoesAlone kinds net U (channel_of net c).writer ds → IsPrefixOf (written net c ds) ts
  equation_bounds X U c ts ends e ds g =
      let w = (channel_of net c).writer in
      let l = channel_of net c in
      ⊎_elim
      (λ (x : (out_of net w l.out ≡ Some c) × (written_to net c e.outs ≡ get_or e.outs l.out [])).
      let front = fed_is_all kinds net U w _ e.outs e.ports.process e.ports.outs e.writes (ends_fed net X U w e.inputs (length e.outs) e.ports ends) ds g l.out c x.0 in
      (front.0, append_assoc l.tokens (puts ds c) front.0 ∙ ap (λ y. l.tokens ++ y) (front.1 ∙ sym x.1) ∙ sym e.is))
      (λ (x : (out_of net w l.out ≡ Some c → ⊥) × (written_to net c e.outs ≡ [])).
      ([], append-nil (written net c ds) ∙ ap (λ y. l.tokens ++ y) (puts_unless_first U c x.0 ds g ∙ sym x.1) ∙ sym e.is))
      (first_or_not net c e.outs)

-- tokens, as streams, begin with each first part of them
pub begins_as_streams : (X : ℕ → List Token) (c : ℕ) (xs : List Token) → IsPrefixOf xs (X c) → BeginsWith (as_streams X c) xs
begins_as_streams X c xs front = get_begins (as_streams X c) xs (λ n t e. get_prefix xs (X c) n t front e)

-- one step
pub step_is_below : (kinds : Family) → StepIsBelow kinds
step_is_below kinds net X U c ts obeys begins e =
    let r = equation_written kinds net X U c ts (λ k b at. begins b) e in
    subst (λ l. BeginsWith (U c) l) r.2 (obeys c r.0 r.1)

-- an equation makes no less of more
pub equation_rises :
    (kinds : Family) (net : Network) (X Y : ℕ → List Token) (c : ℕ) (ts us : List Token) → ((b : ℕ) → IsPrefixOf (X b) (Y b))
    → HasEquation kinds net X c ts → HasEquation kinds net Y c us → IsPrefixOf ts us
equation_rises kinds net X Y c ts us more e f =
    let r = equation_written kinds net X (as_streams Y) c ts (λ k b at. begins_as_streams Y b (X b) (more b)) e in
    let front = equation_bounds kinds net Y (as_streams Y) c us (λ b n t h. h) f r.0 r.1 in
    subst (λ l. IsPrefixOf l us) r.2 front
