-- Tables, one behind the other, at their channels.
use Rattle.std.proofs.Common.{◌≡◌, ◌<◌, ◌+◌, ◌∙◌, ◌++◌, ℕ, zero, suc, List, [], ◌∷◌, drop, get_or, length, length-drop, map, refl, sym, ap, subst, arith}
use Rattle.std.specs.List.{zip}
use Rattle.kpn_front.specs.Written.{SinkView}
use Rattle.hox_stream.specs.declared.serving.LaidTable.{LaidTable}
use Rattle.hox_stream.specs.Serves.{new_table, new_tables}
use Rattle.hox_stream.specs.Lanes.{new_lane}
use Rattle.hox_stream.specs.Streams.{channel_at, table_at}
use Rattle.hox_stream.specs.Views.{LaneView, no_lane}
use Rattle.hox_stream.proofs.Paired.{made_at}

module _ {X : Type 0} where
  -- the channels that are left behind those of tables
  abbrev pub channels_behind : List ℕ → List (LaidTable X) → List ℕ
  channels_behind channels [] = channels
  channels_behind channels (laid ∷ more) = channels_behind (drop (length laid.columns.items) channels) more

  -- a table more
  pub behind_more : (channels : List ℕ) (tables : List (LaidTable X)) (laid : LaidTable X) → channels_behind channels (tables ++ laid ∷ []) ≡ drop (length laid.columns.items) (channels_behind channels tables)
  behind_more channels [] laid = refl
  behind_more channels (t ∷ ts) laid = behind_more (drop (length t.columns.items) channels) ts laid

  pub tables_more : (seen : X → SinkView) (channels : List ℕ) (tables : List (LaidTable X)) (laid : LaidTable X)
      → new_tables seen channels (tables ++ laid ∷ []) ≡ new_tables seen channels tables ++ new_table seen (channels_behind channels tables) laid ∷ []
  tables_more seen channels [] laid = refl
  tables_more seen channels (t ∷ ts) laid = ap (λ l. new_table seen channels t ∷ l) (tables_more seen (drop (length t.columns.items) channels) ts laid)

  -- how many columns stand before a table
  abbrev pub before : List (LaidTable X) → ℕ → ℕ
  before [] k = 0
  before (t ∷ ts) zero = 0
  before (t ∷ ts) (suc k) = length t.columns.items + before ts k

  abbrev pub width : List (LaidTable X) → ℕ → ℕ
  width [] k = 0
  width (t ∷ ts) zero = length t.columns.items
  width (t ∷ ts) (suc k) = width ts k

-- ---- where the channel of a column stands

at_drop : (n : ℕ) (xs : List ℕ) (k : ℕ) → get_or (drop n xs) k 0 ≡ get_or xs (n + k) 0
at_drop zero xs k = let none : 0 + k ≡ k = omega arith in ap (λ m. get_or xs m 0) (sym none)
at_drop (suc n) [] k = refl
at_drop (suc n) (x ∷ xs) k = let one : suc n + k ≡ suc (n + k) = omega arith in at_drop n xs k ∙ ap (λ m. get_or (x ∷ xs) m 0) (sym one)

pub made_within : {K X V : Type 0} (make : K × X → V) (ks : List K) (xs : List X) (j : ℕ) → j < length (map make (zip ks xs)) → j < length xs
made_within make [] xs j h = absurd (omega (arith, h))
made_within make (k ∷ ks) [] j h = absurd (omega (arith, h))
made_within make (k ∷ ks) (x ∷ xs) zero h = omega arith
made_within make (k ∷ ks) (x ∷ xs) (suc j) h = let more = made_within make ks xs j (omega (arith, h)) in omega (arith, more)

module _ {X : Type 0} (seen : X → SinkView) where
  -- the channel of a column stands behind those of the columns before it
  pub column_channel : (channels : List ℕ) (tables : List (LaidTable X)) (k i : ℕ) → k < length (new_tables seen channels tables) → i < length (table_at (new_tables seen channels tables) k).lanes
      → (channel_at (table_at (new_tables seen channels tables) k) i ≡ get_or channels (before tables k + i) 0) × (before tables k + i < length channels) × (i < width tables k)
  column_channel channels [] k i h hi = absurd (omega (arith, h))
  column_channel channels (t ∷ ts) zero i h hi =
      let at = made_at (λ (l : LaneView). l.head.channel) no_lane (λ p. new_lane t.table p.0 p.1) (λ p. refl) channels t.columns.items i hi in
      let none : 0 + i ≡ i = omega arith in
      (at.1 ∙ ap (λ m. get_or channels m 0) (sym none), subst (λ m. m < length channels) (sym none) at.0, made_within (λ p. new_lane t.table p.0 p.1) channels t.columns.items i hi)
  column_channel channels (t ∷ ts) (suc k) i h hi =
      let n = length t.columns.items in
      let more = column_channel (drop n channels) ts k i (omega (arith, h)) hi in
      let sum : n + (before ts k + i) ≡ n + before ts k + i = omega arith in
      (more.0 ∙ at_drop n channels (before ts k + i) ∙ ap (λ m. get_or channels m 0) sum, omega (arith, more.1, length-drop n channels), more.2)

  -- and no two stand at one place
  pub columns_apart : (tables : List (LaidTable X)) (j k h i : ℕ) → h < width tables j → i < width tables k → before tables j + h ≡ before tables k + i → (j ≡ k) × (h ≡ i)
  columns_apart [] j k h i hh hi e = absurd (omega (arith, hh))
  columns_apart (t ∷ ts) zero zero h i hh hi e = (refl, omega (arith, e))
  columns_apart (t ∷ ts) zero (suc k) h i hh hi e = absurd (omega (arith, hh, e))
  columns_apart (t ∷ ts) (suc j) zero h i hh hi e = absurd (omega (arith, hi, e))
  columns_apart (t ∷ ts) (suc j) (suc k) h i hh hi e =
      let more = columns_apart ts j k h i hh hi (omega (arith, e)) in
      (ap (λ m. suc m) more.0, more.1)

  -- behind so many channels
  pub column_behind : (n : ℕ) (channels : List ℕ) (tables : List (LaidTable X)) (k i : ℕ) → k < length (new_tables seen (drop n channels) tables) → i < length (table_at (new_tables seen (drop n channels) tables) k).lanes
      → (channel_at (table_at (new_tables seen (drop n channels) tables) k) i ≡ get_or channels (n + (before tables k + i)) 0) × (n + (before tables k + i) < length channels) × (i < width tables k)
  column_behind n channels tables k i h hi =
      let at = column_channel (drop n channels) tables k i h hi in
      (at.0 ∙ at_drop n channels (before tables k + i), omega (arith, at.1, length-drop n channels), at.2)
