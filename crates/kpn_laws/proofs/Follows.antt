-- What a process does next is determined by what it has done and by what was put for it.
use Rattle.std.proofs.Common.{◌≡◌, List, [], ◌∷◌, ◌++◌, refl, sym, ap, ◌∙◌, append_assoc, ℕ, Some, Option, subst}
use Rattle.kpn_model.specs.History.{IsPrefixOf, ArePrefixComparable}
use Rattle.kpn_model.specs.declared.token.Token.{Token}
use Rattle.kpn_model.specs.declared.history.Deed.{Deed}
use Rattle.kpn_model.specs.declared.history.Deed.TheVariants.{Took, Put, Stopped}
use Rattle.kpn_model.specs.Network.{Network, channel_of, in_of, out_of, Family}
use Rattle.kpn_model.specs.declared.history.Status.{Status}
use Rattle.kpn_model.specs.Semantics.{status, answered, start}
use Rattle.kpn_model.specs.declared.kinds.Act.TheVariants.{Read, Write, Stop}
use Rattle.kpn_model.specs.declared.kinds.Answer.{Answer}
use Rattle.kpn_laws.proofs.Lists.{same_next, comparable_after}
use Rattle.kpn_laws.specs.Alone.{puts, took}
use Rattle.kpn_laws.proofs.Views.{puts_comparable, puts_prefix}
use Rattle.kpn_laws.proofs.Transitions.{after}

module _ (kinds : Family) (net : Network) where
  -- the status that these deeds of p lead to
  abbrev pub replay : ℕ → Status → List Deed → Status
  replay p s [] = s
  replay p s (d ∷ ds) = replay p (after (answered kinds net p s) d) ds

  -- one more deed leads on from where the others led
  pub replay_push : (p : ℕ) (s : Status) (ds : List Deed) (d : Deed) → replay p s (ds ++ d ∷ []) ≡ after (answered kinds net p (replay p s ds)) d
  replay_push p s [] d = refl
  replay_push p s (e ∷ ds) d = replay_push p (after (answered kinds net p s) e) ds d

  -- p's status after these deeds of its own, from the start
  abbrev pub status_by : ℕ → List Deed → Status
  status_by p ds = replay p (status (start kinds net) p) ds

  -- what p wants after these deeds
  abbrev pub wants_by : ℕ → List Deed → Option Answer
  wants_by p ds = answered kinds net p (status_by p ds)

  -- after ds, p takes from c the first token that it has not taken
  pub record Takes (D : ℕ → List Deed) (p : ℕ) (ds : List Deed) (c : ℕ) (t : Token) : Type 0 where
    pub answer : Answer
    pub wanted : wants_by p ds ≡ Some answer
    pub port : ℕ
    pub act : answer.act ≡ Read port
    pub at : in_of net p port ≡ Some c
    pub rest : List Token
    pub next : (channel_of net c).tokens ++ puts (D (channel_of net c).writer) c ≡ took ds c ++ t ∷ rest

  -- after ds, p writes t to the channel c
  pub record Writes (p : ℕ) (ds : List Deed) (c : ℕ) (t : Token) : Type 0 where
    pub answer : Answer
    pub wanted : wants_by p ds ≡ Some answer
    pub port : ℕ
    pub act : answer.act ≡ Write port t
    pub at : out_of net p port ≡ Some c

  -- after ds, p stops
  pub record Ends (p : ℕ) (ds : List Deed) : Type 0 where
    pub answer : Answer
    pub wanted : wants_by p ds ≡ Some answer
    pub act : answer.act ≡ Stop

  -- given that every process has done D, d is what p does after ds
  abbrev pub Follows : (ℕ → List Deed) → ℕ → List Deed → Deed → Type 0
  Follows D p ds (Took c t) = Takes D p ds c t
  Follows D p ds (Put c t) = Writes p ds c t
  Follows D p ds Stopped = Ends p ds

  -- it remains so as all processes go on
  pub follows_more : (D D' : ℕ → List Deed) (p : ℕ) (ds : List Deed) (d : Deed) → ((q : ℕ) → IsPrefixOf (D q) (D' q)) → Follows D p ds d → Follows D' p ds d
  follows_more D D' p ds (Took c t) more f =
      let w = (channel_of net c).writer in
      let x = puts_prefix (D w) (D' w) c (more w) in
      record {
        answer = f.answer;
        wanted = f.wanted;
        port = f.port;
        act = f.act;
        at = f.at;
        rest = f.rest ++ x.0;
        next = ap (λ l. (channel_of net c).tokens ++ l) (sym x.1) ∙ sym (append_assoc (channel_of net c).tokens (puts (D w) c) x.0)
            ∙ ap (λ l. l ++ x.0) f.next ∙ append_assoc (took ds c) (t ∷ f.rest) x.0;
      }
  follows_more D D' p ds (Put c t) more f = f
  follows_more D D' p ds Stopped more f = f

  -- both take the same token: what was put for them is prefix-comparable, and they have taken as many
  same_take :
      (D D' : ℕ → List Deed) (p : ℕ) (ds : List Deed) (c b : ℕ) (t u : Token) → ((q : ℕ) → ArePrefixComparable (D q) (D' q)) → Takes D p ds c t
      → Takes D' p ds b u → Took c t ≡ Took b u
  same_take D D' p ds c b t u line f g =
      let a : f.answer ≡ g.answer = cc in
      let k : f.port ≡ g.port = cc in
      let e : c ≡ b = cc in
      let w = (channel_of net c).writer in
      let g' : (channel_of net c).tokens ++ puts (D' w) c ≡ took ds c ++ u ∷ g.rest = subst (λ x. (channel_of net x).tokens ++ puts (D' (channel_of net x).writer) x ≡ took ds x ++ u ∷ g.rest) (sym e) g.next in
      let h = same_next ((channel_of net c).tokens ++ puts (D w) c) ((channel_of net c).tokens ++ puts (D' w) c) (took ds c) f.rest g.rest t u (comparable_after (channel_of net c).tokens _ _ (puts_comparable (D w) (D' w) c (line w))) f.next g' in
      cc

  -- if a process has done the same in two runs, and the deeds of the others are prefix-comparable, it does the same next in both
  pub follows_same :
      (D D' : ℕ → List Deed) (p : ℕ) (ds : List Deed) (d e : Deed) → ((q : ℕ) → ArePrefixComparable (D q) (D' q)) → Follows D p ds d → Follows D' p ds e → d ≡ e
  follows_same D D' p ds (Took c t) (Took b u) line f g = same_take D D' p ds c b t u line f g
  follows_same D D' p ds (Took c t) (Put b u) line f g = let a : f.answer ≡ g.answer = cc in cc
  follows_same D D' p ds (Took c t) Stopped line f g = let a : f.answer ≡ g.answer = cc in cc
  follows_same D D' p ds (Put c t) (Took b u) line f g = let a : f.answer ≡ g.answer = cc in cc
  follows_same D D' p ds (Put c t) (Put b u) line f g = let a : f.answer ≡ g.answer = cc in cc
  follows_same D D' p ds (Put c t) Stopped line f g = let a : f.answer ≡ g.answer = cc in cc
  follows_same D D' p ds Stopped (Took b u) line f g = let a : f.answer ≡ g.answer = cc in cc
  follows_same D D' p ds Stopped (Put b u) line f g = let a : f.answer ≡ g.answer = cc in cc
  follows_same D D' p ds Stopped Stopped line f g = refl
