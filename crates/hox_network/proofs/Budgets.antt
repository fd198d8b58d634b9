-- A valid network with another budget is valid.
use Rattle.std.proofs.Common.{◌≤◌, ℕ, Option, arith}
use Rattle.std.proofs.lemmas.List.Elements.{All-weaker}
use Rattle.std.proofs.lemmas.Bool.Decides.{nat_tests}
use Rattle.kpn_model.specs.declared.kinds.Card.{Card}
use Rattle.kpn_model.specs.declared.kinds.Signature.{Signature}
use Rattle.kpn_model.specs.declared.parts.Channel.{Channel}
use Rattle.kpn_model.specs.declared.limits.TheConstants.{CEILING, GREATEST_BUDGET, GREATEST_HIGH_BUDGET}
use Rattle.kpn_model.specs.Network.{Network}
use Rattle.kpn_model.specs.Valid.{HasEnds, IsValid}
use Rattle.hox_network.specs.Presets.{greatest_budget}

small : (ceiling budget : ℕ) → budget ≤ greatest_budget ceiling → budget ≤ GREATEST_HIGH_BUDGET
small ceiling budget few = grind (arith, nat_tests)

smaller : (ceiling budget : ℕ) → budget ≤ greatest_budget ceiling → ceiling ≤ CEILING → budget ≤ GREATEST_BUDGET
smaller ceiling budget few low = grind (arith, nat_tests)

module _ (signature : Card → Option Signature) (net : Network) (budget : ℕ) where
  abbrev other : Network
  other = record net { budget = budget }

  same_ends : (x : Channel) → HasEnds signature net x → HasEnds signature other x
  same_ends x e = record { writer = e.writer; out = e.out; reader = e.reader; input = e.input }

  pub budget_valid : IsValid signature net → 1 ≤ budget → budget ≤ greatest_budget net.ceiling → IsValid signature other
  budget_valid v some few =
      record {
        some_process = v.some_process;
        few_processes = v.few_processes;
        few_channels = v.few_channels;
        process_names = v.process_names;
        channel_names = v.channel_names;
        processes_apart = v.processes_apart;
        channels_apart = v.channels_apart;
        cards = v.cards;
        signed = v.signed;
        ends = All-weaker (HasEnds signature net) (HasEnds signature other) same_ends net.channels v.ends;
        writers = v.writers;
        readers = v.readers;
        capacities = v.capacities;
        start_tokens = v.start_tokens;
        start_fits = v.start_fits;
        some_step = v.some_step;
        small_step = v.small_step;
        small_ceiling = v.small_ceiling;
        some_budget = some;
        small_budget = small net.ceiling budget few;
        smaller_budget = smaller net.ceiling budget few;
      }
