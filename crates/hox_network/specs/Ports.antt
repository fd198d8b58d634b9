-- The sorts of channels by their ports.
use Rattle.std.specs.Prelude.{Option, Some, map}
use Rattle.kpn_model.specs.declared.token.Sort.{Sort}
use Rattle.kpn_model.specs.declared.token.Sort.TheVariants.{Words, Flags}
use Rattle.kpn_front.specs.Names.{KindNames, Signatures}
use Rattle.kpn_sketch.specs.declared.sketch.ChannelSketch.{ChannelSketch}
use Rattle.kpn_sketch.specs.declared.sketch.Sketch.{Sketch}
use Rattle.kpn_net.specs.Faults.{sketched_out_sort, sketched_in_sort}

-- the sort of two ports if they agree, else the given one
abbrev pub agreed : Option Sort → Option Sort → Sort → Sort
agreed (Some Words) (Some Words) sort = Words
agreed (Some Flags) (Some Flags) sort = Flags
agreed _ _ sort = sort

module _ (named : KindNames) (signature : Signatures) where
  -- the sort that a channel's writer writes, if it exists
  abbrev sort_written : Sketch → ChannelSketch → Option Sort
  sort_written sketch c = sketched_out_sort named signature sketch c

  -- the sort that its reader reads
  abbrev sort_read : Sketch → ChannelSketch → Option Sort
  sort_read sketch c = sketched_in_sort named signature sketch c

  abbrev pub sort_by_ports : Sketch → ChannelSketch → Sort
  sort_by_ports sketch c = agreed (sort_written sketch c) (sort_read sketch c) c.sort

  abbrev pub channel_by_ports : Sketch → ChannelSketch → ChannelSketch
  channel_by_ports sketch c = record c { sort = sort_by_ports sketch c }

  -- a sketch whose channels have the sorts of their ports, where these agree
  abbrev pub by_ports : Sketch → Sketch
  by_ports sketch = record sketch { channels = map (channel_by_ports sketch) sketch.channels }
