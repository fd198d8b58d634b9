-- What holds of each flow is kept.
use Rattle.std.proofs.Common.{◌≡◌, ◌≢◌, ⊎_elim, List, [], ◌∷◌, length, replicate, refl, sym, ap, ◌∙◌, ℕ, ◌<◌, None, Option}
use Rattle.std.proofs.lemmas.Bool.{cases_lt}
use Rattle.kpn_model.specs.declared.kinds.Card.{Card}
use Rattle.kpn_model.specs.declared.kinds.Signature.{Signature}
use Rattle.kpn_model.specs.declared.history.Entry.{Entry}
use Rattle.kpn_model.specs.Network.{Network, Family, card_of, Admits}
use Rattle.kpn_model.specs.Semantics.{State, start}
use Rattle.kpn_model.specs.Valid.{IsValid}
use Rattle.kpn_state.specs.declared.standing.Standing.{Standing}
use Rattle.kpn_state.specs.declared.standing.Standing.TheVariants.{Ready, Out, Stopped}
use Rattle.kpn_machine.proofs.Opened.{keeps_start, ready_at, ended_past}
use Rattle.kpn_flow.specs.declared.counts.Counts.{Counts}
use Rattle.kpn_flow.specs.Events.{Event, Happens, entries_of}
use Rattle.kpn_flow.specs.Flows.{flow_view, is_among, counted, nothing_counted, AreEnds, HasAllBodies, IsFlowing, IsSettledIn}
use Rattle.kpn_flow.specs.Pauses.{OpenRun}
use Rattle.kpn_flow.specs.Preloaded.{IsAtEnds}
use Rattle.kpn_flow.proofs.Stretches.{reached_on, reached_by}

ready_out : Ready ≢ Out
ready_out e = cc

ended_out : Stopped ≢ Out
ended_out e = cc

module _ (kinds : Family) (admits : Admits) (net : Network) (inputs unended outputs : List ℕ) where
  -- an event at an end leads on
  pub flowing_on :
      (M N : State) (standings moved : List Standing) (bodies : List (Option Card)) (limit left : ℕ) (counts : Counts) (x : Event) → IsFlowing kinds admits (flow_view net M standings inputs unended outputs counts) bodies limit
      → Happens kinds net M x N → IsAtEnds (is_among inputs) (is_among outputs) (x ∷ []) → entries_of (x ∷ []) ≡ [] → IsSettledIn kinds admits net N moved → left ≡ limit → IsFlowing kinds admits (flow_view net N moved inputs unended outputs counts) bodies left
  flowing_on M N standings moved bodies limit left counts x f h e none s same =
      record { ends = f.ends; unended = f.unended; reached = reached_by kinds net inputs outputs counts M N x f.reached h e none; fits = s; seated = f.seated; limit_is = same ∙ f.limit_is }

  -- and so do entries
  pub flowing_run :
      (ins outs : List ℕ) (M N : State) (standings moved : List Standing) (bodies : List (Option Card)) (limit left : ℕ) (before after : Counts) (E : List Entry) → IsFlowing kinds admits (flow_view net M standings inputs unended outputs before) bodies limit
      → OpenRun kinds net ins outs M E N → after ≡ counted before E → IsSettledIn kinds admits net N moved → left ≡ limit → IsFlowing kinds admits (flow_view net N moved inputs unended outputs after) bodies left
  flowing_run ins outs M N standings moved bodies limit left before after E f h count s same =
      record { ends = f.ends; unended = f.unended; reached = reached_on kinds net inputs outputs ins outs before after M N E f.reached h count; fits = s; seated = f.seated; limit_is = same ∙ f.limit_is }

  -- a flow that was just opened
  pub flowing_start :
      (signature : Card → Option Signature) (bodies : List (Option Card)) → IsValid signature net → ((p : ℕ) → p < length net.processes → admits (card_of net p) (kinds.start (card_of net p)) None) → HasAllBodies net bodies
      → AreEnds kinds net inputs outputs → unended ≡ inputs → IsFlowing kinds admits (flow_view net (start kinds net) (replicate (length net.processes) Ready) inputs unended outputs nothing_counted) bodies 1048576
  flowing_start signature bodies valid starts seated ends all =
      let n = length net.processes in
      record {
        ends = ends;
        unended = λ c e. ap (λ (l : List ℕ). is_among l c) (sym all) ∙ e;
        reached = record { events = []; flows = refl; at_ends = tt; counts_are = refl };
        fits = record {
          keeps = keeps_start signature admits kinds net valid starts;
          none_out = λ p e. ⊎_elim (λ within. ready_out (sym (ready_at n p within) ∙ e)) (λ past. ended_out (sym (ended_past n p past) ∙ e)) (cases_lt p n);
        };
        seated = seated;
        limit_is = refl;
      }
