-- The worked networks' digests, each computed from one schedule.
use Rattle.std.proofs.Common.{[], ◌∷◌, refl}
use Rattle.kpn_standard.specs.Standard.{standard}
use Rattle.test_laws.specs.WorkedEnds.{counter_into_sink, counter_into_sink_digest, CounterIntoSink, sink_waits_for_one_more, sink_waits_for_one_more_digest, SinkWaitsForOneMore, sink_stops_early, sink_stops_early_digest, SinkStopsEarly, nothing_to_count, nothing_to_count_digest, NothingToCount, dead_from_the_start, dead_from_the_start_digest, DeadFromTheStart, start_tokens, start_tokens_digest, StartTokens}
use Rattle.test_laws.specs.Growing.{counter_outlives_sink, counter_outlives_sink_digest, CounterOutlivesSink, equal_capacities, equal_capacities_digest, EqualCapacities, smallest_full_channel_grows, smallest_full_channel_grows_digest, SmallestFullChannelGrows, full_channel_of_stopped_writer, full_channel_of_stopped_writer_digest, FullChannelOfStoppedWriter, growth_step, growth_step_digest, GrowthStep, ceiling_reached, ceiling_reached_digest, CeilingReached, parks_case, parks_case_digest, ParksCase}
use Rattle.test_laws.specs.Computing.{products_wrap, products_wrap_digest, ProductsWrap, switched_by_flags, switched_by_flags_digest, SwitchedByFlags, running_sums, running_sums_digest, RunningSums, merged_in_order, merged_in_order_digest, MergedInOrder}
use Rattle.test_laws.proofs.Schedule.{Go, Grow}
use Rattle.test_laws.proofs.Replay.{digest_from_schedule}

-- CounterIntoSink, by this schedule
pub has_counter_into_sink : CounterIntoSink
has_counter_into_sink = digest_from_schedule standard counter_into_sink (Go 0 ∷ Go 1 ∷ Go 0 ∷ Go 1 ∷ Go 0 ∷ Go 1 ∷ Go 0 ∷ Go 1 ∷ []) counter_into_sink_digest refl

-- SinkWaitsForOneMore, by this schedule
pub has_sink_waits_for_one_more : SinkWaitsForOneMore
has_sink_waits_for_one_more = digest_from_schedule standard sink_waits_for_one_more (Go 0 ∷ Go 1 ∷ Go 0 ∷ Go 1 ∷ Go 0 ∷ Go 1 ∷ Go 0 ∷ []) sink_waits_for_one_more_digest refl

-- SinkStopsEarly, by this schedule
pub has_sink_stops_early : SinkStopsEarly
has_sink_stops_early = digest_from_schedule standard sink_stops_early (Go 0 ∷ Go 1 ∷ Go 0 ∷ Go 1 ∷ Go 0 ∷ Go 1 ∷ Go 0 ∷ []) sink_stops_early_digest refl

-- NothingToCount, by this schedule
pub has_nothing_to_count : NothingToCount
has_nothing_to_count = digest_from_schedule standard nothing_to_count (Go 0 ∷ Go 1 ∷ []) nothing_to_count_digest refl

-- DeadFromTheStart, by this schedule
pub has_dead_from_the_start : DeadFromTheStart
has_dead_from_the_start = digest_from_schedule standard dead_from_the_start ([]) dead_from_the_start_digest refl

-- StartTokens, by this schedule
pub has_start_tokens : StartTokens
has_start_tokens = digest_from_schedule standard start_tokens (Go 0 ∷ Go 0 ∷ Go 0 ∷ Go 0 ∷ Go 0 ∷ []) start_tokens_digest refl

-- CounterOutlivesSink, by this schedule
pub has_counter_outlives_sink : CounterOutlivesSink
has_counter_outlives_sink = digest_from_schedule standard counter_outlives_sink (Go 0 ∷ Go 1 ∷ Go 0 ∷ Go 1 ∷ Grow 0 ∷ Go 0 ∷ Go 0 ∷ []) counter_outlives_sink_digest refl

-- EqualCapacities, by this schedule
pub has_equal_capacities : EqualCapacities
has_equal_capacities = digest_from_schedule standard equal_capacities (Go 0 ∷ Go 1 ∷ Go 2 ∷ Go 3 ∷ Grow 0 ∷ Go 0 ∷ Go 0 ∷ Grow 1 ∷ Go 1 ∷ Go 1 ∷ []) equal_capacities_digest refl

-- SmallestFullChannelGrows, by this schedule
pub has_smallest_full_channel_grows : SmallestFullChannelGrows
has_smallest_full_channel_grows = digest_from_schedule standard smallest_full_channel_grows (Go 0 ∷ Go 1 ∷ Go 2 ∷ Go 3 ∷ Go 0 ∷ Grow 1 ∷ Go 1 ∷ Grow 0 ∷ Go 0 ∷ Go 0 ∷ Grow 1 ∷ Go 1 ∷ Go 1 ∷ []) smallest_full_channel_grows_digest refl

-- FullChannelOfStoppedWriter, by this schedule
pub has_full_channel_of_stopped_writer : FullChannelOfStoppedWriter
has_full_channel_of_stopped_writer = digest_from_schedule standard full_channel_of_stopped_writer (Go 0 ∷ Go 1 ∷ Go 2 ∷ Go 3 ∷ Go 0 ∷ Go 1 ∷ Grow 1 ∷ Go 1 ∷ Go 1 ∷ []) full_channel_of_stopped_writer_digest refl

-- GrowthStep, by this schedule
pub has_growth_step : GrowthStep
has_growth_step = digest_from_schedule standard growth_step (Go 0 ∷ Go 1 ∷ Go 2 ∷ Go 3 ∷ Go 0 ∷ Grow 1 ∷ Go 1 ∷ Go 1 ∷ Go 1 ∷ Grow 0 ∷ Go 0 ∷ Go 0 ∷ []) growth_step_digest refl

-- CeilingReached, by this schedule
pub has_ceiling_reached : CeilingReached
has_ceiling_reached = digest_from_schedule standard ceiling_reached (Go 0 ∷ Go 1 ∷ Grow 0 ∷ Go 0 ∷ []) ceiling_reached_digest refl

-- ParksCase, by this schedule
pub has_parks_case : ParksCase
has_parks_case = digest_from_schedule standard parks_case (Go 0 ∷ Go 1 ∷ Go 0 ∷ Go 1 ∷ Go 2 ∷ Go 1 ∷ Go 2 ∷ Go 3 ∷ Go 1 ∷ Go 0 ∷ Go 1 ∷ Go 2 ∷ Go 0 ∷ Go 2 ∷ Go 3 ∷ Grow 1 ∷ Go 1 ∷ Go 1 ∷ Go 1 ∷ Go 2 ∷ Go 2 ∷ Go 3 ∷ Go 2 ∷ Go 1 ∷ Go 2 ∷ Go 3 ∷ Go 2 ∷ Go 2 ∷ Go 3 ∷ Go 2 ∷ Go 2 ∷ Go 3 ∷ Go 3 ∷ []) parks_case_digest refl

-- ProductsWrap, by this schedule
pub has_products_wrap : ProductsWrap
has_products_wrap = digest_from_schedule standard products_wrap (Go 0 ∷ Go 1 ∷ Go 2 ∷ Go 0 ∷ Go 1 ∷ Go 2 ∷ Go 3 ∷ Go 3 ∷ Go 3 ∷ Go 4 ∷ Go 4 ∷ []) products_wrap_digest refl

-- SwitchedByFlags, by this schedule
pub has_switched_by_flags : SwitchedByFlags
has_switched_by_flags = digest_from_schedule standard switched_by_flags (Go 0 ∷ Go 1 ∷ Go 0 ∷ Go 1 ∷ Go 2 ∷ Go 1 ∷ Go 2 ∷ Go 3 ∷ Go 1 ∷ Go 3 ∷ Go 0 ∷ Go 1 ∷ Go 2 ∷ Go 3 ∷ Go 4 ∷ Go 1 ∷ Go 2 ∷ Go 3 ∷ Go 1 ∷ Go 3 ∷ Go 0 ∷ Go 1 ∷ Go 2 ∷ Go 3 ∷ Go 5 ∷ Go 1 ∷ Go 2 ∷ Go 3 ∷ Go 1 ∷ Go 3 ∷ Go 0 ∷ Go 1 ∷ Go 2 ∷ Go 3 ∷ Go 4 ∷ Go 1 ∷ Go 2 ∷ Go 3 ∷ Go 1 ∷ Go 3 ∷ Go 0 ∷ Go 1 ∷ Go 2 ∷ Go 3 ∷ Go 5 ∷ Go 0 ∷ Go 1 ∷ Go 2 ∷ Go 3 ∷ Go 1 ∷ Go 3 ∷ Go 1 ∷ Go 2 ∷ Go 3 ∷ Go 4 ∷ Go 1 ∷ Go 2 ∷ Go 3 ∷ Go 4 ∷ Go 3 ∷ Go 3 ∷ Go 5 ∷ Go 5 ∷ []) switched_by_flags_digest refl

-- RunningSums, by this schedule
pub has_running_sums : RunningSums
has_running_sums = digest_from_schedule standard running_sums (Go 0 ∷ Go 1 ∷ Go 0 ∷ Go 1 ∷ Go 1 ∷ Go 2 ∷ Go 1 ∷ Go 2 ∷ Go 0 ∷ Go 1 ∷ Go 2 ∷ Go 3 ∷ Go 0 ∷ Go 1 ∷ Go 2 ∷ Go 1 ∷ Go 2 ∷ Go 1 ∷ Go 2 ∷ Go 3 ∷ Go 1 ∷ Go 2 ∷ Go 2 ∷ Go 2 ∷ Go 3 ∷ Go 3 ∷ []) running_sums_digest refl

-- MergedInOrder, by this schedule
pub has_merged_in_order : MergedInOrder
has_merged_in_order = digest_from_schedule standard merged_in_order (Go 0 ∷ Go 1 ∷ Go 2 ∷ Go 2 ∷ Go 2 ∷ Go 0 ∷ Go 1 ∷ Go 3 ∷ Go 2 ∷ Go 2 ∷ Go 0 ∷ Go 1 ∷ Go 0 ∷ Go 3 ∷ Go 2 ∷ Go 2 ∷ Go 2 ∷ Go 3 ∷ Go 3 ∷ []) merged_in_order_digest refl
