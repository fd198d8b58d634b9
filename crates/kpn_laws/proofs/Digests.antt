-- Two runs that are over have one digest, and no run is longer.
use Rattle.std.proofs.Common.{◌≡◌, ◌≤◌, List, ◌++◌, length, sym, ap, ◌∙◌, arith, ℕ, drop, subst, ◌+◌}
use mathlib.Core.Path.{fun_ext}
use Rattle.kpn_model.specs.declared.history.Entry.{Entry}
use Rattle.kpn_model.specs.History.{deeds, taken, growths, grown, stream, digest, each_process, each_channel, place_of}
use Rattle.kpn_model.specs.Network.{Network, channel_of, Family}
use Rattle.kpn_model.specs.Semantics.{State, wants, start, Run}
use Rattle.kpn_model.specs.Endings.{IsOver}
use Rattle.kpn_model.specs.declared.history.End.{End}
use Rattle.kpn_model.specs.Determinacy.{OneDigest, NoneLonger}
use Rattle.kpn_laws.proofs.Lists.{same_from_prefixes, prefix-length}
use Rattle.kpn_laws.specs.Alone.{puts, took}
use Rattle.kpn_laws.proofs.Kept.{fresh_start}
use Rattle.kpn_laws.proofs.Domination.{dominated_by_growths}
use Rattle.kpn_laws.proofs.Standstill.{same_deeds, same_stand}
use Rattle.kpn_laws.proofs.Causes.{over_quiet, cause_same}
use Rattle.kpn_laws.proofs.Growths.{growths_prefix}
use Rattle.kpn_laws.proofs.Streams.{put_on_deeds, taken_deeds}
use Rattle.kpn_laws.proofs.Totals.{total, total_le, entries_total}

module _ (kinds : Family) (net : Network) where
  -- two runs with equal growths have equal deeds and one state, and so equal digests
  digest_same :
      (E F : List Entry) (M N : State) (a b : End) → Run kinds net (start kinds net) E M → IsOver kinds net M a → Run kinds net (start kinds net) F N
      → IsOver kinds net N b → digest kinds net a E M ≡ digest kinds net b F N
  digest_same E F M N a b run over run' over' =
      let S = start kinds net in
      let quiet = over_quiet kinds net M a over in
      let quiet' = over_quiet kinds net N b over' in
      let grew : growths E ≡ growths F = same_from_prefixes _ _ (growths_prefix kinds net S (fresh_start kinds net) F N b run' over' E M run) (growths_prefix kinds net S (fresh_start kinds net) E M a run over F N run') in
      let state : M ≡ N = same_stand kinds net S (fresh_start kinds net) E F M N run quiet run' quiet' grew in
      let did : (p : ℕ) → deeds E p ≡ deeds F p = same_deeds kinds net S (fresh_start kinds net) E F M N run quiet run' quiet' grew in
      let cause : a ≡ b = cause_same kinds net N a b (subst (λ x. IsOver kinds net x a) state over) over' in
      let put : (c : ℕ) → stream net E c ≡ stream net F c = λ c. ap (λ l. (channel_of net c).tokens ++ l) (put_on_deeds kinds net S E M run c ∙ ap (λ l. puts l c) (did (channel_of net c).writer) ∙ sym (put_on_deeds kinds net S F N run' c)) in
      let took' : (c : ℕ) → taken E c ≡ taken F c = λ c. taken_deeds kinds net S E M run c ∙ ap (λ l. took l c) (did (channel_of net c).reader)
      ∙ sym (taken_deeds kinds net S F N run' c) in
      let steps : (λ (p : ℕ). length (deeds E p)) ≡ (λ (p : ℕ). length (deeds F p)) = fun_ext (λ p. ap length (did p)) in
      let streams : (λ (c : ℕ). stream net E c) ≡ (λ (c : ℕ). stream net F c) = fun_ext put in
      let rests : (λ (c : ℕ). drop (length (taken E c)) (stream net E c)) ≡ (λ (c : ℕ). drop (length (taken F c)) (stream net F c)) = fun_ext (λ c. ap (λ l. drop (length l) (stream net E c)) (took' c) ∙ ap (λ l. drop (length (taken F c)) l) (put c)) in
      let entries : length E ≡ length F =
      entries_total kinds net S (fresh_start kinds net) E M run ∙ ap (λ f. total kinds net (length net.processes) f + length (growths E)) steps
      ∙ ap (λ g. total kinds net (length net.processes) (λ p. length (deeds F p)) + length g) grew
      ∙ sym (entries_total kinds net S (fresh_start kinds net) F N run') in
      λ i.
      record {
        cause = cause i;
        places = each_process net (λ p. place_of net p (wants kinds net (state i) p));
        steps = each_process net (steps i);
        capacities = each_channel net (λ c. grown (channel_of net c).capacity (grew i) c);
        streams = each_channel net (streams i);
        rests = each_channel net (rests i);
        growths = grew i;
        entries = entries i;
      }

  -- each process has done no more, and no more channels have grown, so no run is longer
  none_longer :
      (E F : List Entry) (M N : State) (a : End) → Run kinds net (start kinds net) E M → IsOver kinds net M a → Run kinds net (start kinds net) F N
      → length F ≤ length E
  none_longer E F M N a run over run' =
      let S = start kinds net in
      let front = growths_prefix kinds net S (fresh_start kinds net) E M a run over F N run' in
      let g = prefix-length _ _ front in
      let d = total_le kinds net (length net.processes) (λ p. length (deeds F p)) (λ p. length (deeds E p)) (λ p. prefix-length _ _ (dominated_by_growths kinds net S (fresh_start kinds net) E M run (over_quiet kinds net M a over) F N run' front p)) in
      let e = entries_total kinds net S (fresh_start kinds net) E M run in
      let f = entries_total kinds net S (fresh_start kinds net) F N run' in
      omega arith

-- two runs that are over have one digest
pub one_digest : (kinds : Family) → OneDigest kinds
one_digest kinds net E F M N a b x y = digest_same kinds net E F M N a b x.run x.over y.run y.over

-- no run is longer than one that is over
pub no_longer : (kinds : Family) → NoneLonger kinds
no_longer kinds net E F M N a x run = none_longer kinds net E F M N a x.run x.over run
