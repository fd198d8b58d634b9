-- A network that is prepared of a valid one is valid.
use Rattle.std.proofs.Common.{◌<◌, ◌≤◌, ℕ, inl, inr, List, length, min, nat_le, Option, Some, None, bytes_eq, sym, subst, arith}
use Rattle.std.proofs.lemmas.Bool.{cases_Bool, leb-false}
use Rattle.std.proofs.lemmas.List.Elements.{All-weaker}
use Rattle.kpn_model.specs.declared.kinds.Card.{Card}
use Rattle.kpn_model.specs.declared.kinds.Signature.{Signature}
use Rattle.kpn_model.specs.declared.parts.Channel.{Channel}
use Rattle.kpn_model.specs.declared.limits.TheConstants.{CEILING, GREATEST_BUDGET, GREATEST_HIGH_BUDGET}
use Rattle.kpn_model.specs.Network.{Network}
use Rattle.kpn_model.specs.Valid.{HasEnds, IsValid}
use Rattle.kpn_network.proofs.PortsWithin.{found_within}
use Rattle.hox_network.specs.declared.request.Request.{Request}
use Rattle.hox_network.specs.declared.request.TokenFile.{TokenFile}
use Rattle.hox_network.specs.Presets.{PresetAll, greatest_budget, with_budget, none, one}
use Rattle.hox_network.specs.Preparing.{MayHaveBudget, Prepares}
use Rattle.hox_network.proofs.Held.{held_valid}

small : (ceiling n : ℕ) → n ≤ greatest_budget ceiling → (n ≤ GREATEST_HIGH_BUDGET) × (ceiling ≤ CEILING → n ≤ GREATEST_BUDGET)
small ceiling n h = elim (cases_Bool (nat_le ceiling CEILING)) [
  | inl e ↦ let few : n ≤ GREATEST_BUDGET = rw e at h in (omega (arith, few), λ l. few)
  | inr e ↦ let few : n ≤ GREATEST_HIGH_BUDGET = rw e at h in (few, λ l. absurd (omega (arith, l, leb-false ceiling CEILING e)))
]

module _ (signature : Card → Option Signature) where
  preset_valid : {files : List TokenFile} {net other : Network} → PresetAll files net other → IsValid signature net → IsValid signature other
  preset_valid {files} {net} {other} none v = v
  preset_valid {files} {net} {other} (one {file = file} c tokens p rest) v =
      let within : c < length net.channels = found_within (λ (l : Channel). bytes_eq l.name file.channel) net.channels (Some c) (sym p.channel) in
      let most : length tokens ≤ min net.ceiling 1000000 = p.few in
      preset_valid rest (held_valid signature net c tokens v within p.sorted (omega arith))

  budget_valid : (net : Network) (budget : Option ℕ) → MayHaveBudget net budget → IsValid signature net → IsValid signature (with_budget budget net)
  budget_valid net None may v = v
  budget_valid net (Some n) may v =
      let other = with_budget (Some n) net in
      let few = small net.ceiling n may.1 in
      record {
        some_process = v.some_process;
        few_processes = v.few_processes;
        few_channels = v.few_channels;
        process_names = v.process_names;
        channel_names = v.channel_names;
        processes_apart = v.processes_apart;
        channels_apart = v.channels_apart;
        cards = v.cards;
        signed = v.signed;
        ends = All-weaker (HasEnds signature net) (HasEnds signature other) (λ x e. record { writer = e.writer; out = e.out; reader = e.reader; input = e.input }) net.channels v.ends;
        writers = v.writers;
        readers = v.readers;
        capacities = v.capacities;
        start_tokens = v.start_tokens;
        start_fits = v.start_fits;
        some_step = v.some_step;
        small_step = v.small_step;
        small_ceiling = v.small_ceiling;
        some_budget = may.0;
        small_budget = few.0;
        smaller_budget = few.1;
      }

  pub prepared_valid : (request : Request) (net other : Network) → IsValid signature net → Prepares request net other → IsValid signature other
  prepared_valid request net other v p = subst (IsValid signature) (sym p.is) (budget_valid p.preset request.budget p.may (preset_valid p.presets v))
