-- The network of a sketch without a fault is valid.
use Rattle.std.proofs.Common.{◌≡◌, ◌≢◌, ◌<◌, ◌≤◌, ℕ, ℤ, pos, negsuc, zero, suc, Bool, true, false, not, ◌||◌, ◌&&◌, nat_lt, List, [], ◌∷◌, length, get_or, map, Option, Some, None, IsSome, is_some, is_none, option_map, option_and_then, slice_get, unwrap_or, refl, arith, lit<, lit≤}
use Rattle.std.proofs.lemmas.Bool.{or_parts, both_ways, not-false}
use Rattle.std.proofs.lemmas.Bool.Decides.{nat_tests}
use Rattle.std.proofs.lemmas.List.{length-map}
use Rattle.std.proofs.lemmas.List.Elements.{All-map}
use Rattle.std.proofs.lemmas.Option.{slice_get-map}
use Rattle.std.proofs.lemmas.Slice.Eq.{bytes_eq-Decides}
use Rattle.std.specs.List.{find, list_any, All, AllPairs, AllByRecursion}
use Rattle.std.specs.Prelude.{unsigned_abs, int_lt, if◌then◌else◌}
use Rattle.std.specs.Ordering.{int_eq}
use Rattle.std.specs.Str.{bytes_eq}
use Rattle.kpn_sketch.specs.declared.fault.NetFault.{NetFault}
use Rattle.kpn_sketch.specs.declared.fault.NetFault.TheVariants.{Version, Counts, Name, Kind, Args, NoEnd, Twice, Unused, Sorts, Capacity, Budget, Tokens, Step}
use Rattle.kpn_model.specs.declared.limits.TheConstants.{MOST_PROCESSES, MOST_CHANNELS, CEILING, HIGH_CEILING, GREATEST_BUDGET, GREATEST_HIGH_BUDGET, GREATEST_STEP}
use Rattle.kpn_model.specs.declared.token.Sort.{Sort}
use Rattle.kpn_model.specs.declared.token.Sort.TheVariants.{Words, Flags}
use Rattle.kpn_sketch.specs.declared.sketch.ProcessSketch.{ProcessSketch}
use Rattle.kpn_sketch.specs.declared.sketch.ChannelSketch.{ChannelSketch}
use Rattle.kpn_sketch.specs.declared.sketch.Sketch.{Sketch}
use Rattle.kpn_model.specs.declared.parts.Process.{Process}
use Rattle.kpn_model.specs.declared.parts.Channel.{Channel}
use Rattle.kpn_model.specs.declared.kinds.Card.{Card}
use Rattle.kpn_model.specs.declared.kinds.Signature.{Signature}
use Rattle.kpn_model.specs.texts.NameForm.{is_name}
use Rattle.kpn_model.specs.Lawful.{CardFits, Fits, port_at, in_sort, out_sort}
use Rattle.kpn_net.specs.Faults.{any_pair, is_outside, is_sort, same_process, same_channel, port_sort, card_with, signature_of, has_wrong_args, takes_other_count, sketched_out_sort, sketched_in_sort, is_unused, is_unused_out, is_unused_in, has_unused_port, has_unknown_kind, same_out, same_in, is_token, has_wrong_tokens, has_fault, first_fault}
use Rattle.kpn_model.specs.texts.Version.{is_two, greatest_budget_in}
use Rattle.kpn_model.specs.Network.{Network, no_process, card_of}
use Rattle.kpn_net.specs.Sketched.{net_of, process_in, token_in, channel_in, index_of}
use Rattle.kpn_model.specs.Valid.{HasEnds, JustOne, IsValid, IsOfSort}
use Rattle.kpn_net.proofs.SketchLists.{none_passes, no_pair_passes, none_found, All-unmap, AllPairs-map, found_index, none_passes_get, JustOne-map}
use Rattle.kpn_net.proofs.ValidEnds.{just_one}
use Rattle.kpn_net.proofs.ValidTokens.{tokens_of_sort, no_more_than}

differ : (a b : List ℕ) → bytes_eq a b ≡ false → a ≢ b
differ a b h e = both_ways (bytes_eq a b) h ((bytes_eq-Decides a b).1 e)

inside : (low high : ℕ) (z : ℤ) → is_outside (pos low) (pos high) z ≡ false → (low ≤ unsigned_abs z) × (unsigned_abs z ≤ high)
inside low high (pos n) h = let parts = or_parts (nat_lt n low) (nat_lt high n) h in (grind (arith, nat_tests), grind (arith, nat_tests))
inside low high (negsuc n) h = cc

-- the greatest budget goes with the ceiling of the version
budget_by_ceiling : (two : Bool) (n : ℕ) → n ≤ (if two then GREATEST_HIGH_BUDGET else GREATEST_BUDGET) → (n ≤ GREATEST_HIGH_BUDGET) × ((if two then HIGH_CEILING else CEILING) ≤ CEILING → n ≤ GREATEST_BUDGET)
budget_by_ceiling true n h = (h, λ low. omega (arith, low))
budget_by_ceiling false n h = (omega (arith, h), λ low. h)

ceiling_small : (two : Bool) → (if two then HIGH_CEILING else CEILING) ≤ HIGH_CEILING
ceiling_small true = lit≤ tt
ceiling_small false = lit≤ tt

some_from : {A : Type 0} (o : Option A) → is_none o ≡ false → IsSome o
some_from None h = cc
some_from (Some x) h = refl

sort_is : (w : Sort) (o : Option Sort) → not (is_sort w o) ≡ false → o ≡ Some w
sort_is Words None h = cc
sort_is Flags None h = cc
sort_is Words (Some Words) h = refl
sort_is Words (Some Flags) h = cc
sort_is Flags (Some Words) h = cc
sort_is Flags (Some Flags) h = refl

three : (u : ℕ → Bool) → (u 0 || (u 1 || u 2)) ≡ false → (k : ℕ) → k < 3 → u k ≡ false
three u h zero l = (or_parts (u 0) (u 1 || u 2) h).0
three u h (suc zero) l = (or_parts (u 1) (u 2) (or_parts (u 0) (u 1 || u 2) h).1).0
three u h (suc (suc zero)) l = (or_parts (u 1) (u 2) (or_parts (u 0) (u 1 || u 2) h).1).1
three u h (suc (suc (suc n))) l = absurd (omega arith)

has_end : (a b : Bool) → a ≡ true → (a && not b) ≡ false → b ≡ true
has_end true true e h = refl
has_end true false e h = cc
has_end false b e h = cc

port_abs : (ports : List (Option Sort)) (z : ℤ) (w : Sort) → port_sort ports z ≡ Some w → port_sort ports (pos (unsigned_abs z)) ≡ Some w
port_abs ports (pos k) w h = h
port_abs ports (negsuc k) w h = cc

-- the sort of port k of process p
module _ (signature : Card → Option Signature) (ports : Signature → List (Option Sort)) (k : ℕ) where
  abbrev port_placed : List Process → ℕ → Option Sort
  port_placed xs p = option_and_then (λ g. port_at (ports g) k) (option_and_then (λ x. signature x.card) (slice_get xs p))

  abbrev port_numbered : List Process → ℕ → Option Sort
  port_numbered xs p = option_and_then (λ g. port_at (ports g) k) (signature (get_or xs p no_process).card)

  numbered : (w : Sort) (xs : List Process) (p : ℕ) → port_placed xs p ≡ Some w → (p < length xs) × (port_numbered xs p ≡ Some w)
  numbered w [] p h = cc
  numbered w (x ∷ xs) zero h = (omega arith, h)
  numbered w (x ∷ xs) (suc p) h = let r = numbered w xs p h in (omega arith, r.1)

  placed : (xs : List Process) (p : ℕ) → p < length xs → IsSome (port_numbered xs p) → IsSome (port_placed xs p)
  placed [] p l h = absurd (omega arith)
  placed (x ∷ xs) zero l h = h
  placed (x ∷ xs) (suc p) l h = placed xs p (omega arith) h

module _ (named : List ℕ → Option (ℕ × ℕ)) (signature : Card → Option Signature) where
  card_known : (o : Option (ℕ × ℕ)) (args : List ℤ) → is_none (option_and_then (λ kind. signature (card_with kind.0 args)) o) ≡ false → IsSome (signature (card_with (unwrap_or o (0, 0)).0 args))
  card_known None args h = cc
  card_known (Some kind) args h = some_from (signature (card_with kind.0 args)) h

  card_same : (o : Option (ℕ × ℕ)) (args : List ℤ) (g : Signature) → option_and_then (λ kind. signature (card_with kind.0 args)) o ≡ Some g → signature (card_with (unwrap_or o (0, 0)).0 args) ≡ Some g
  card_same None args g h = cc
  card_same (Some kind) args g h = h

  card_back : (o : Option (ℕ × ℕ)) (args : List ℤ) (g : Signature) → is_none o ≡ false → signature (card_with (unwrap_or o (0, 0)).0 args) ≡ Some g → option_and_then (λ kind. signature (card_with kind.0 args)) o ≡ Some g
  card_back None args g k h = cc
  card_back (Some kind) args g k h = h

  module _ (ports : Signature → List (Option Sort)) (z : ℤ) (w : Sort) where
    end_of_signature : (o : Option Signature) (p : ProcessSketch) → signature_of named signature p ≡ o
        → option_and_then (λ g. port_sort (ports g) z) o ≡ Some w → option_and_then (λ g. port_sort (ports g) (pos (unsigned_abs z))) (signature (process_in named p).card) ≡ Some w
    end_of_signature None p e h = cc
    end_of_signature (Some g) p e h = rw (card_same (named p.kind) p.args g e) (port_abs (ports g) z w h)

    end_of_found : (ps : List ProcessSketch) (name : List ℕ) (o : Option ProcessSketch) → find (λ p. bytes_eq p.name name) ps ≡ o
        → option_and_then (λ g. port_sort (ports g) z) (option_and_then (signature_of named signature) o) ≡ Some w
        → option_and_then (λ g. port_sort (ports g) (pos (unsigned_abs z))) (option_and_then (λ x. signature x.card) (slice_get (map (process_in named) ps) (index_of ps name))) ≡ Some w
    end_of_found ps name None e h = cc
    end_of_found ps name (Some p) e h =
        rw (slice_get-map (process_in named) ps (index_of ps name), found_index (λ p. bytes_eq p.name name) ps p e) (end_of_signature (signature_of named signature p) p refl h)

  module _ (s : Sketch) (fine : first_fault named signature s ≡ None) where
    abbrev tests : NetFault → Bool
    tests = has_fault named signature s

    abbrev faults : List NetFault
    faults = Version ∷ Counts ∷ Name ∷ Kind ∷ Args ∷ NoEnd ∷ Twice ∷ Unused ∷ Sorts ∷ Capacity ∷ Budget ∷ Tokens ∷ Step ∷ []

    no_fault : list_any tests faults ≡ false
    no_fault = none_found tests faults fine

    counts_fine : tests Counts ≡ false
    counts_fine = none_passes tests faults no_fault 1 Version (lit< tt)

    names_fine : tests Name ≡ false
    names_fine = none_passes tests faults no_fault 2 Version (lit< tt)

    args_fine : tests Args ≡ false
    args_fine = none_passes tests faults no_fault 4 Version (lit< tt)

    sorts_fine : tests Sorts ≡ false
    sorts_fine = none_passes tests faults no_fault 8 Version (lit< tt)

    capacities_fine : tests Capacity ≡ false
    capacities_fine = none_passes tests faults no_fault 9 Version (lit< tt)

    budget_fine : tests Budget ≡ false
    budget_fine = none_passes tests faults no_fault 10 Version (lit< tt)

    tokens_fine : tests Tokens ≡ false
    tokens_fine = none_passes tests faults no_fault 11 Version (lit< tt)

    step_fine : tests Step ≡ false
    step_fine = none_passes tests faults no_fault 12 Version (lit< tt)

    abbrev net : Network
    net = net_of named s

    -- what holds of the process of each sketch without this fault, and of the channel
    each_process : (P : Process → Type 0) (bad : ProcessSketch → Bool) → list_any bad s.processes ≡ false → ((p : ProcessSketch) → bad p ≡ false → P (process_in named p)) → All P net.processes
    each_process P bad none fine = All-map P (process_in named) s.processes (λ k d l. fine (get_or s.processes k d) (none_passes bad s.processes none k d l))

    each_channel : (P : Channel → Type 0) (bad : ChannelSketch → Bool) → list_any bad s.channels ≡ false → ((c : ChannelSketch) → bad c ≡ false → P (channel_in s.processes c)) → All P net.channels
    each_channel P bad none fine = All-map P (channel_in s.processes) s.channels (λ k d l. fine (get_or s.channels k d) (none_passes bad s.channels none k d l))

    counts : (1 ≤ length net.processes) × (length net.processes ≤ MOST_PROCESSES) × (length net.channels ≤ MOST_CHANNELS)
    counts =
        let first = or_parts _ (nat_lt MOST_PROCESSES (length s.processes) || nat_lt MOST_CHANNELS (length s.channels)) counts_fine in
        let others = or_parts (nat_lt MOST_PROCESSES (length s.processes)) (nat_lt MOST_CHANNELS (length s.channels)) first.1 in
        rw (length-map s.processes (process_in named), length-map s.channels (channel_in s.processes)) (grind (arith, nat_tests, first.0), grind (arith, nat_tests, others.0), grind (arith, nat_tests, others.1))

    abbrev bad_process : Bool
    bad_process = list_any (λ p. not (is_name p.name)) s.processes

    abbrev bad_channel : Bool
    bad_channel = list_any (λ c. not (is_name c.name)) s.channels

    forms : (bad_process || bad_channel) ≡ false
    forms = (or_parts (bad_process || bad_channel) (any_pair same_process s.processes || any_pair same_channel s.channels) names_fine).0

    doubles : (any_pair same_process s.processes || any_pair same_channel s.channels) ≡ false
    doubles = (or_parts (bad_process || bad_channel) (any_pair same_process s.processes || any_pair same_channel s.channels) names_fine).1

    process_names : All (λ p. is_name p.name ≡ true) net.processes
    process_names = each_process (λ p. is_name p.name ≡ true) (λ p. not (is_name p.name)) (or_parts bad_process bad_channel forms).0 (λ p. not-false (is_name p.name))

    channel_names : All (λ c. is_name c.name ≡ true) net.channels
    channel_names = each_channel (λ c. is_name c.name ≡ true) (λ c. not (is_name c.name)) (or_parts bad_process bad_channel forms).1 (λ c. not-false (is_name c.name))

    processes_apart : AllPairs (λ p q. p.name ≢ q.name) net.processes
    processes_apart = AllPairs-map (process_in named) (λ p q. p.name ≢ q.name) s.processes
        (λ i j d l m. differ _ _ (no_pair_passes same_process s.processes (or_parts (any_pair same_process s.processes) (any_pair same_channel s.channels) doubles).0 i j d l m))

    channels_apart : AllPairs (λ c d. c.name ≢ d.name) net.channels
    channels_apart = AllPairs-map (channel_in s.processes) (λ c d. c.name ≢ d.name) s.channels
        (λ i j d l m. differ _ _ (no_pair_passes same_channel s.channels (or_parts (any_pair same_process s.processes) (any_pair same_channel s.channels) doubles).1 i j d l m))

    signed : All (λ p. IsSome (signature p.card)) net.processes
    signed = each_process (λ p. IsSome (signature p.card)) (has_wrong_args named signature) args_fine (λ p a.
        let rest = (or_parts (takes_other_count named signature p) _ a).1 in
        let more = (or_parts (nat_lt 3 (length p.args)) _ rest).1 in
        card_known (named p.kind) p.args (or_parts (list_any (λ z. int_lt z (pos 0)) p.args) _ more).1)

    abbrev wrong_sort : ChannelSketch → Bool
    wrong_sort c = not (is_sort c.sort (sketched_out_sort named signature s c)) || not (is_sort c.sort (sketched_in_sort named signature s c))

    sorts_at : (c : ChannelSketch) → wrong_sort c ≡ false → (sketched_out_sort named signature s c ≡ Some c.sort) × (sketched_in_sort named signature s c ≡ Some c.sort)
    sorts_at c h =
        let parts = or_parts (not (is_sort c.sort (sketched_out_sort named signature s c))) (not (is_sort c.sort (sketched_in_sort named signature s c))) h in
        (sort_is c.sort _ parts.0, sort_is c.sort _ parts.1)

    ends_at : (c : ChannelSketch) → wrong_sort c ≡ false → HasEnds signature net (channel_in s.processes c)
    ends_at c h =
        let sorts = sorts_at c h in
        let from = end_of_found (λ g. g.outs) c.out c.sort s.processes c.from _ refl sorts.0 in
        let to = end_of_found (λ g. g.ins) c.input c.sort s.processes c.to _ refl sorts.1 in
        let writer = numbered signature (λ g. g.outs) (unsigned_abs c.out) c.sort net.processes (index_of s.processes c.from) from in
        let reader = numbered signature (λ g. g.ins) (unsigned_abs c.input) c.sort net.processes (index_of s.processes c.to) to in
        record { writer = writer.0; out = writer.1; reader = reader.0; input = reader.1 }

    capacities : All (λ c. (1 ≤ c.capacity) × (c.capacity ≤ net.ceiling)) net.channels
    capacities = each_channel (λ c. (1 ≤ c.capacity) × (c.capacity ≤ net.ceiling)) (λ c. is_outside (pos 1) (pos net.ceiling) c.capacity) capacities_fine (λ c. inside 1 net.ceiling c.capacity)

    budget : (1 ≤ net.budget) × (net.budget ≤ greatest_budget_in s.version)
    budget = inside 1 (greatest_budget_in s.version) s.budget budget_fine

    small_budget : (net.budget ≤ GREATEST_HIGH_BUDGET) × (net.ceiling ≤ CEILING → net.budget ≤ GREATEST_BUDGET)
    small_budget = budget_by_ceiling (is_two s.version) net.budget budget.1

    step : (1 ≤ net.step) × (net.step ≤ GREATEST_STEP)
    step = inside 1 GREATEST_STEP s.step step_fine

    kinds_fine : tests Kind ≡ false
    kinds_fine = none_passes tests faults no_fault 3 Version (lit< tt)

    shared_fine : tests Twice ≡ false
    shared_fine = none_passes tests faults no_fault 6 Version (lit< tt)

    unused_fine : tests Unused ≡ false
    unused_fine = none_passes tests faults no_fault 7 Version (lit< tt)

    sorts_known : All (λ c. (sketched_out_sort named signature s c ≡ Some c.sort) × (sketched_in_sort named signature s c ≡ Some c.sort)) s.channels
    sorts_known k d l = sorts_at (get_or s.channels k d) (none_passes wrong_sort s.channels sorts_fine k d l)

    -- the process of a port, with its signature
    abbrev HasPort : (Signature → List (Option Sort)) → ℕ → ℕ → Type 0
    HasPort ports p k = (x : ProcessSketch) × (g : Signature) × (slice_get s.processes p ≡ Some x) × (signature_of named signature x ≡ Some g) × IsSome (port_sort (ports g) (pos k))

    port_by_card : (ports : Signature → List (Option Sort)) (p k : ℕ) (x : ProcessSketch) (o : Option Signature) → slice_get s.processes p ≡ Some x → signature (process_in named x).card ≡ o
        → IsSome (option_and_then (λ g. port_sort (ports g) (pos k)) o) → HasPort ports p k
    port_by_card ports p k x None at e h = cc
    port_by_card ports p k x (Some g) at e h =
        (x, g, at, card_back (named x.kind) x.args g (none_passes_get (has_unknown_kind named signature) s.processes p x kinds_fine at) e, h)

    port_by_place : (ports : Signature → List (Option Sort)) (p k : ℕ) (o : Option ProcessSketch) → slice_get s.processes p ≡ o
        → IsSome (option_and_then (λ g. port_sort (ports g) (pos k)) (option_and_then (λ y. signature y.card) (option_map (process_in named) o))) → HasPort ports p k
    port_by_place ports p k None e h = cc
    port_by_place ports p k (Some x) e h = port_by_card ports p k x (signature (process_in named x).card) e refl h

    port_is : (ports : Signature → List (Option Sort)) (p k : ℕ) → IsSome (option_and_then (λ g. port_sort (ports g) (pos k)) (option_and_then (λ y. signature y.card) (slice_get net.processes p))) → HasPort ports p k
    port_is ports p k h = port_by_place ports p k (slice_get s.processes p) refl (rw (slice_get-map (process_in named) s.processes p) at h)

    used_at : (x : ProcessSketch) (g : Signature) (p k : ℕ) → k < 3 → slice_get s.processes p ≡ Some x → signature_of named signature x ≡ Some g → is_unused named signature s x.name g (pos k) ≡ false
    used_at x g p k l at e =
        let fine_here : has_unused_port named signature s x ≡ false = none_passes_get (has_unused_port named signature s) s.processes p x unused_fine at in
        three (λ n. is_unused named signature s x.name g (pos n)) (rw e at fine_here) k l

    writers : (p k : ℕ) → p < length net.processes → k < 3 → IsSome (out_sort signature (card_of net p) k) → JustOne (λ (c : Channel). (c.writer ≡ p) × (c.out ≡ k)) net.channels
    writers p k within l h =
        let (x, g, at, e, here) = port_is (λ g. g.outs) p k (placed signature (λ g. g.outs) k net.processes p within h) in
        let unused : is_unused_out named signature s x.name g (pos k) ≡ false = (or_parts (is_unused_out named signature s x.name g (pos k)) (is_unused_in named signature s x.name g (pos k)) (used_at x g p k l at e)).0 in
        let leads = has_end (is_some (port_sort g.outs (pos k))) (list_any (λ c. bytes_eq c.from x.name && int_eq c.out (pos k)) s.channels) here unused in
        JustOne-map (channel_in s.processes) (λ c. (c.writer ≡ p) × (c.out ≡ k)) s.channels
        (just_one named signature (λ g. g.outs) s.processes (or_parts (any_pair same_process s.processes) (any_pair same_channel s.channels) doubles).0 (λ c. c.from) (λ c. c.out) (λ c. c.sort) s.channels p k x
        (λ i d m. (sorts_known i d m).0) (or_parts (any_pair same_out s.channels) (any_pair same_in s.channels) shared_fine).0 at leads)

    readers : (p k : ℕ) → p < length net.processes → k < 3 → IsSome (in_sort signature (card_of net p) k) → JustOne (λ (c : Channel). (c.reader ≡ p) × (c.input ≡ k)) net.channels
    readers p k within l h =
        let (x, g, at, e, here) = port_is (λ g. g.ins) p k (placed signature (λ g. g.ins) k net.processes p within h) in
        let unused : is_unused_in named signature s x.name g (pos k) ≡ false = (or_parts (is_unused_out named signature s x.name g (pos k)) (is_unused_in named signature s x.name g (pos k)) (used_at x g p k l at e)).1 in
        let leads = has_end (is_some (port_sort g.ins (pos k))) (list_any (λ c. bytes_eq c.to x.name && int_eq c.input (pos k)) s.channels) here unused in
        JustOne-map (channel_in s.processes) (λ c. (c.reader ≡ p) × (c.input ≡ k)) s.channels
        (just_one named signature (λ g. g.ins) s.processes (or_parts (any_pair same_process s.processes) (any_pair same_channel s.channels) doubles).0 (λ c. c.to) (λ c. c.input) (λ c. c.sort) s.channels p k x
        (λ i d m. (sorts_known i d m).1) (or_parts (any_pair same_out s.channels) (any_pair same_in s.channels) shared_fine).1 at leads)

    -- the tokens of a channel: all of its sort, and no more than its capacity
    tokens_at : (c : ChannelSketch) → has_wrong_tokens c ≡ false → (list_any (λ t. not (is_token c.sort t)) c.tokens ≡ false) × (int_lt c.capacity (pos (length c.tokens)) ≡ false)
    tokens_at c h = or_parts (list_any (λ t. not (is_token c.sort t)) c.tokens) (int_lt c.capacity (pos (length c.tokens))) h

    start_tokens : All (λ c. All Fits c.tokens) net.channels → All (λ c. AllByRecursion (IsOfSort c.sort) c.tokens) net.channels
    start_tokens fit =
        let fits = All-unmap (channel_in s.processes) (λ c. All Fits c.tokens) s.channels fit in
        All-map (λ c. AllByRecursion (IsOfSort c.sort) c.tokens) (channel_in s.processes) s.channels (λ k d l.
        let c = get_or s.channels k d in
        tokens_of_sort c.sort c.tokens (tokens_at c (none_passes has_wrong_tokens s.channels tokens_fine k d l)).0 (fits k d l))

    start_fits : All (λ c. length c.tokens ≤ c.capacity) net.channels
    start_fits = each_channel (λ c. length c.tokens ≤ c.capacity) has_wrong_tokens tokens_fine (λ c h. rw (length-map c.tokens token_in) (no_more_than c.capacity (length c.tokens) (tokens_at c h).1))

    pub valid : All (λ p. CardFits p.card) net.processes → All (λ c. All Fits c.tokens) net.channels → IsValid signature net
    valid cards tokens = record {
      some_process = counts.0;
      few_processes = counts.1;
      few_channels = counts.2;
      process_names = process_names;
      channel_names = channel_names;
      processes_apart = processes_apart;
      channels_apart = channels_apart;
      cards = cards;
      signed = signed;
      ends = each_channel (HasEnds signature net) wrong_sort sorts_fine ends_at;
      writers = writers;
      readers = readers;
      capacities = capacities;
      start_tokens = start_tokens tokens;
      start_fits = start_fits;
      some_step = step.0;
      small_step = step.1;
      small_ceiling = ceiling_small (is_two s.version);
      some_budget = budget.0;
      small_budget = small_budget.0;
      smaller_budget = small_budget.1;
    }
