-- Processes with negative arguments get kinds that take them; negative start tokens become words.
use Rattle.std.specs.Prelude.{ℕ, ℤ, pos, negsuc, ◌-ℤ◌, int_lt, Bool, not, ◌&&◌, if◌then◌else◌, codes, List, [], ◌∷◌, ◌++◌, map, slice_index_or}
use Rattle.kpn_front.specs.Names.{KindNames, Signatures}
use Rattle.kpn_signals.specs.Words.{word_of}
use Rattle.kpn_sketch.specs.declared.sketch.TokenSketch.{TokenSketch}
use Rattle.kpn_sketch.specs.declared.sketch.TokenSketch.TheVariants.{Integer, Boolean, Word}
use Rattle.kpn_sketch.specs.declared.sketch.ProcessSketch.{ProcessSketch}
use Rattle.kpn_sketch.specs.declared.sketch.ChannelSketch.{ChannelSketch}
use Rattle.kpn_sketch.specs.declared.sketch.Sketch.{Sketch}
use Rattle.kpn_net.specs.Faults.{has_wrong_args}

-- the kind that takes negative arguments, for a kind that takes the same from 0 on
abbrev pub signed_kind : List ℕ → List ℕ
signed_kind kind = kind ++ codes ", signed"

-- argument k exists and is negative
abbrev pub is_below : List ℤ → ℕ → Bool
is_below args k = int_lt (slice_index_or args k (pos 0)) (pos 0)

-- such a kind gets n for -1 - n
abbrev pub carried : ℤ → ℤ
carried z = if int_lt z (pos 0) then negsuc 0 -ℤ z else z

-- how many of the first two arguments are negative, if the first is
abbrev pub count_below : List ℤ → ℤ
count_below args = if is_below args 1 then pos 2 else pos 1

-- the arguments of such a kind, if the first of these is negative
abbrev pub signed_args : List ℤ → List ℤ
signed_args args = map carried args ++ count_below args ∷ []

-- a process with no name, of such a kind
abbrev pub signed_form : ProcessSketch → ProcessSketch
signed_form p = record { name = []; kind = signed_kind p.kind; args = signed_args p.args }

-- the process, as one of such a kind
abbrev pub as_signed : ProcessSketch → ProcessSketch
as_signed p = record p { kind = signed_kind p.kind; args = signed_args p.args }

-- a negative start token is read as two's complement
abbrev pub signed_token : TokenSketch → TokenSketch
signed_token (Integer z) = if int_lt z (pos 0) then Word (word_of z) else Integer z
signed_token (Boolean b) = Boolean b
signed_token (Word w) = Word w

abbrev pub signed_channel : ChannelSketch → ChannelSketch
signed_channel c = record c { tokens = map signed_token c.tokens }

abbrev pub all_signed_channels : Sketch → List ChannelSketch
all_signed_channels sketch = map signed_channel sketch.channels

module _ (named : KindNames) (signature : Signatures) where
  -- a kind of this name takes these arguments
  abbrev pub takes : List ℕ → List ℤ → Bool
  takes kind args = not (has_wrong_args named signature (record { name = []; kind = kind; args = args }))

  -- there is such a kind, and it takes the process's arguments
  abbrev takes_signed : ProcessSketch → Bool
  takes_signed p = takes (signed_kind p.kind) (signed_args p.args)

  -- a process with a negative first argument gets such a kind, if that takes its arguments
  abbrev pub signed_process : ProcessSketch → ProcessSketch
  signed_process p = if is_below p.args 0 && takes_signed p then as_signed p else p

  abbrev all_signed_processes : Sketch → List ProcessSketch
  all_signed_processes sketch = map signed_process sketch.processes

  abbrev pub with_signs : Sketch → Sketch
  with_signs sketch = record sketch { processes = all_signed_processes sketch; channels = all_signed_channels sketch }
