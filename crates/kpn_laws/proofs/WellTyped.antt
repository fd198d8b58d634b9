-- Runs of valid networks of lawful kinds: each token has its channel's sort, each local state is admitted.
use Rattle.std.proofs.Common.{◌≡◌, List, sym, arith, ℕ, ◌<◌, Some, Option, subst, length, IsSome}
use Rattle.std.specs.List.{AllByRecursion}
use Rattle.kpn_model.specs.declared.token.Token.{Token}
use Rattle.kpn_model.specs.declared.history.Entry.{Entry}
use Rattle.kpn_model.specs.declared.history.Entry.TheVariants.{Did, Grew}
use Rattle.kpn_model.specs.declared.kinds.Answer.{Answer}
use Rattle.kpn_model.specs.declared.kinds.Card.{Card}
use Rattle.kpn_model.specs.declared.kinds.Signature.{Signature}
use Rattle.kpn_model.specs.Network.{Network, channel_of, Family, card_of, no_process, Admits}
use Rattle.kpn_model.specs.Semantics.{State, status, wants, start, Transition, IsRun}
use Rattle.kpn_model.specs.Lawful.{read_by, CardFits, NamesPort, LeadsOn, AreLawful}
use Rattle.kpn_model.specs.Valid.{IsValid, IsOfSort, IsWellTyped, StaysWellTyped}
use Rattle.kpn_laws.proofs.Transitions.{live_within}
use Rattle.kpn_laws.proofs.Runs.{run_induction}
use Rattle.kpn_laws.proofs.Kept.{Kept, fresh_start}
use Rattle.kpn_laws.proofs.KeptByGrowths.{blocked_within, tokens_grew}
use Rattle.kpn_laws.proofs.KeptByRuns.{kept_run}
use Rattle.kpn_laws.proofs.WellTypedDeeds.{live_of, sorted_deed, sorted_start}

module _ (signature : Card → Option Signature) (admits : Admits) (kinds : Family) (net : Network) (valid : IsValid signature net) (laws : AreLawful signature admits kinds) where
  -- a process of the network has a card with a signature, whose numbers fit
  signed_at : (p : ℕ) → p < length net.processes → CardFits (card_of net p) × IsSome (signature (card_of net p))
  signed_at p within = (valid.cards p no_process within, valid.signed p no_process within)

  module _ (M : State) (well_typed : IsWellTyped admits net M) (p : ℕ) (a : Answer) (w : wants kinds net M p ≡ Some a) (signed : CardFits (card_of net p) × IsSome (signature (card_of net p))) where
    -- what a process wants in a well-typed state names a port of it
    names : NamesPort signature (card_of net p) a.act
    names =
        let l = live_of kinds net p (status M p) a w in
        subst (λ (x : Answer). NamesPort signature (card_of net p) x.act) l.1.2 (laws.names_port (card_of net p) l.0 l.1.0 signed.0 signed.1 (well_typed.locals p l.0 l.1.0 l.1.1))

    -- and what follows it is admitted
    leads : (t : Token) → LeadsOn signature admits (card_of net p) a t
    leads t =
        let l = live_of kinds net p (status M p) a w in
        subst (λ (x : Answer). LeadsOn signature admits (card_of net p) x t) l.1.2 (laws.leads_on (card_of net p) l.0 l.1.0 t signed.0 signed.1 (well_typed.locals p l.0 l.1.0 l.1.1))

  -- each step leaves the state well-typed
  sorted_step : (H : List Entry) (M : State) (e : Entry) (N : State) → Kept kinds net (start kinds net) H M → IsWellTyped admits net M → Transition kinds net M e N → IsWellTyped admits net N
  sorted_step H M (Did p d) N k well_typed s =
      let within = live_within kinds net M p s.answer s.wanted in
      let signed = signed_at p (omega (arith, k.processes)) in
      subst (λ x. IsWellTyped admits net x) (sym s.leaves) (sorted_deed signature admits kinds net valid M well_typed p s.answer s.wanted (names M well_typed p s.answer s.wanted signed) d s.is_deed (leads M well_typed p s.answer s.wanted signed (read_by d)) k.channels)
  sorted_step H M (Grew c to) N k well_typed s =
      subst (λ x. IsWellTyped admits net x) (sym s.leaves)
      (record {
        tokens = λ b. subst (λ l. AllByRecursion (IsOfSort (channel_of net b).sort) l) (sym (tokens_grew kinds net (start kinds net) H M k c to (blocked_within kinds net (start kinds net) H M k s.chosen.writer c s.chosen.blocked) b)) (well_typed.tokens b);
        locals = well_typed.locals;
      })

  -- so is each state that a run leads to
  sorted_run : (E : List Entry) (M : State) → IsRun kinds net E M → IsWellTyped admits net M
  sorted_run =
      run_induction kinds net (λ _ M. IsWellTyped admits net M) (start kinds net)
      (sorted_start signature admits kinds net valid (λ p within. let s = signed_at p within in laws.starts (card_of net p) s.0 s.1))
      (λ H M e N before ih s. sorted_step H M e N (kept_run kinds net (start kinds net) (fresh_start kinds net) H M before) ih s)

-- each run of a valid network of lawful kinds is well-typed at each moment
pub always_sorted : (signature : Card → Option Signature) (admits : Admits) (kinds : Family) → AreLawful signature admits kinds → StaysWellTyped signature admits kinds
always_sorted signature admits kinds laws net valid E M run = sorted_run signature admits kinds net valid laws E M run
