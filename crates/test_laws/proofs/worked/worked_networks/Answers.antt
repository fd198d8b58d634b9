-- The worked networks.
use Rattle.test_laws.proofs.WorkedNetworks.{has_counter_into_sink, has_sink_waits_for_one_more, has_sink_stops_early, has_nothing_to_count, has_dead_from_the_start, has_start_tokens, has_counter_outlives_sink, has_equal_capacities, has_smallest_full_channel_grows, has_full_channel_of_stopped_writer, has_growth_step, has_ceiling_reached, has_parks_case, has_products_wrap, has_switched_by_flags, has_running_sums, has_merged_in_order}
use Rattle.test_laws.proofs.worked.worked_networks.Goals as goal

pub returns-clause-counter_into_sink : goal.returns-clause-counter_into_sink
returns-clause-counter_into_sink c = has_counter_into_sink

pub returns-clause-sink_waits_for_one_more : goal.returns-clause-sink_waits_for_one_more
returns-clause-sink_waits_for_one_more c = has_sink_waits_for_one_more

pub returns-clause-sink_stops_early : goal.returns-clause-sink_stops_early
returns-clause-sink_stops_early c = has_sink_stops_early

pub returns-clause-nothing_to_count : goal.returns-clause-nothing_to_count
returns-clause-nothing_to_count c = has_nothing_to_count

pub returns-clause-dead_from_the_start : goal.returns-clause-dead_from_the_start
returns-clause-dead_from_the_start c = has_dead_from_the_start

pub returns-clause-start_tokens : goal.returns-clause-start_tokens
returns-clause-start_tokens c = has_start_tokens

pub returns-clause-counter_outlives_sink : goal.returns-clause-counter_outlives_sink
returns-clause-counter_outlives_sink c = has_counter_outlives_sink

pub returns-clause-equal_capacities : goal.returns-clause-equal_capacities
returns-clause-equal_capacities c = has_equal_capacities

pub returns-clause-smallest_full_channel_grows : goal.returns-clause-smallest_full_channel_grows
returns-clause-smallest_full_channel_grows c = has_smallest_full_channel_grows

pub returns-clause-full_channel_of_stopped_writer : goal.returns-clause-full_channel_of_stopped_writer
returns-clause-full_channel_of_stopped_writer c = has_full_channel_of_stopped_writer

pub returns-clause-growth_step : goal.returns-clause-growth_step
returns-clause-growth_step c = has_growth_step

pub returns-clause-ceiling_reached : goal.returns-clause-ceiling_reached
returns-clause-ceiling_reached c = has_ceiling_reached

pub returns-clause-parks_case : goal.returns-clause-parks_case
returns-clause-parks_case c = has_parks_case

pub returns-clause-products_wrap : goal.returns-clause-products_wrap
returns-clause-products_wrap c = has_products_wrap

pub returns-clause-switched_by_flags : goal.returns-clause-switched_by_flags
returns-clause-switched_by_flags c = has_switched_by_flags

pub returns-clause-running_sums : goal.returns-clause-running_sums
returns-clause-running_sums c = has_running_sums

pub returns-clause-merged_in_order : goal.returns-clause-merged_in_order
returns-clause-merged_in_order c = has_merged_in_order
