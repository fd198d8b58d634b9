-- The sources and the sinks of a stream, from the files that were opened.
use Rattle.std.proofs.Common.{◌≡◌, ℕ, Bool, false, List, [], ◌∷◌, drop, length, map, Option, refl, ap, ap₂, sym, ◌∙◌}
use Rattle.std.proofs.lemmas.List.{length-map}
use Rattle.std.specs.List.{AllZip}
use Rattle.kpn_model.specs.Network.{Network}
use Rattle.kpn_front.specs.Written.{SinkView}
use Rattle.hox_format.specs.declared.resuming.Begun.{Begun}
use Rattle.hox_stream.specs.declared.serving.LaidOut.{LaidOut}
use Rattle.hox_stream.specs.declared.serving.LaidTable.{LaidTable}
use Rattle.hox_stream.specs.Serves.{new_inlet, new_inlets, new_outlet, new_outlets, new_outs, new_table, new_tables}
use Rattle.hox_stream.specs.Views.{InletView, OutletView, TableView, outs}
use Rattle.hox_files.specs.declared.pairs.Pair.{Pair}
use Rattle.hox_files.specs.Pairs.{Group, channels_of}
use Rattle.hox_execute.specs.Reports.{first_rate}
use Rattle.hox_execute.specs.Streaming.{IsCreated, IsHeaded, IsOpened, IsOpening, IsTabled, Opening, laid_source, opening_of, rate_in, source_at}

module _ {X : Type 0} (left : X → Option (List ℕ)) (has_failed : X → Bool) (contents : List ℕ → Option (List ℕ)) where
  pub same_sources : (net : Network) (channels : List ℕ) (pairs : List Pair) (files : List (Begun X)) → AllZip (IsOpened left has_failed contents) pairs files
      → new_inlets left has_failed net channels (map laid_source files) ≡ new_inlets (λ (o : Option (List ℕ)). o) (λ _. false) net channels (map source_at (map (opening_of left) files))
  same_sources net [] pairs files all = refl
  same_sources net (c ∷ cs) [] [] all = refl
  same_sources net (c ∷ cs) [] (x ∷ xs) all = absurd all
  same_sources net (c ∷ cs) (p ∷ ps) [] all = absurd all
  same_sources net (c ∷ cs) (p ∷ ps) (x ∷ xs) (here, rest) =
      let later = same_sources net cs ps xs rest in
      let first : new_inlet net c x.layout (left x.source) (has_failed x.source) ≡ new_inlet net c x.layout (left x.source) false = ap (new_inlet net c x.layout (left x.source)) here.unfailed in
      ap (λ (v : InletView). v ∷ new_inlets left has_failed net cs (map laid_source xs)) first ∙ ap (λ l. new_inlet net c x.layout (left x.source) false ∷ l) later

  pub all_opened : (pairs : List Pair) (files : List (Begun X)) → AllZip (IsOpened left has_failed contents) pairs files → AllZip (IsOpening contents) pairs (map (opening_of left) files)
  all_opened [] [] all = tt
  all_opened [] (x ∷ xs) all = absurd all
  all_opened (p ∷ ps) [] all = absurd all
  all_opened (p ∷ ps) (x ∷ xs) (here, rest) = (here.opening, all_opened ps xs rest)

  rates : (files : List (Begun X)) → map (λ (b : Begun X). b.rate) files ≡ map (λ (o : Opening). o.rate) (map (opening_of left) files)
  rates [] = refl
  rates (x ∷ xs) = ap (λ l. x.rate ∷ l) (rates xs)

  pub same_rate : (files : List (Begun X)) → first_rate (map (λ (b : Begun X). b.rate) files) ≡ rate_in (map (opening_of left) files)
  same_rate files = ap first_rate (rates files)

module _ {X : Type 0} (seen : X → SinkView) where
  -- what contracts see of a sink that was opened
  abbrev pub seen_in : LaidOut X → LaidOut SinkView
  seen_in sink = record { stream = seen sink.stream; layout = sink.layout }

  abbrev pub seen_table : LaidTable X → LaidTable SinkView
  seen_table laid = record { stream = seen laid.stream; table = laid.table; columns = laid.columns }

  same_sinks : (channels : List ℕ) (sinks : List (LaidOut X)) → new_outlets seen channels sinks ≡ new_outlets (λ (v : SinkView). v) channels (map seen_in sinks)
  same_sinks [] sinks = refl
  same_sinks (c ∷ cs) [] = refl
  same_sinks (c ∷ cs) (x ∷ xs) = ap (λ (l : List OutletView). new_outlet c x.layout (seen x.stream).contents ∷ l) (same_sinks cs xs)

  same_tables : (channels : List ℕ) (tables : List (LaidTable X)) → new_tables seen channels tables ≡ new_tables (λ (v : SinkView). v) channels (map seen_table tables)
  same_tables channels [] = refl
  same_tables channels (x ∷ xs) = ap (λ (l : List TableView). new_table seen channels x ∷ l) (same_tables (drop (length x.columns.items) channels) xs)

  pub same_outs : (channels : List ℕ) (sinks : List (LaidOut X)) (tables : List (LaidTable X)) → new_outs seen channels sinks tables ≡ new_outs (λ (v : SinkView). v) channels (map seen_in sinks) (map seen_table tables)
  same_outs channels sinks tables =
      ap₂ outs (same_sinks channels sinks)
      (same_tables (drop (length sinks) channels) tables ∙ ap (λ (n : ℕ). new_tables (λ (v : SinkView). v) (drop n channels) (map seen_table tables)) (sym (length-map sinks seen_in)))

  headed_seen : (rate : ℕ) (pair : Pair) (names : List (List ℕ)) (stream : X) → IsHeaded seen rate pair names stream → IsHeaded (λ (v : SinkView). v) rate pair names (seen stream)
  headed_seen rate pair names stream h = record { created = h.created; empty = h.empty; headed = h.headed }

  pub all_tabled : (rate : ℕ) (groups : List Group) (tables : List (LaidTable X)) → AllZip (IsTabled seen rate) groups tables → AllZip (IsTabled (λ (v : SinkView). v) rate) groups (map seen_table tables)
  all_tabled rate [] [] all = tt
  all_tabled rate [] (x ∷ xs) all = absurd all
  all_tabled rate (p ∷ ps) [] all = absurd all
  all_tabled rate (p ∷ ps) (x ∷ xs) (here, rest) = (record { table = here.table; columns = here.columns; headed = headed_seen rate p.first (channels_of p.pairs) x.stream here.headed }, all_tabled rate ps xs rest)

  pub all_created : (rate : ℕ) (pairs : List Pair) (sinks : List (LaidOut X)) → AllZip (IsCreated seen rate) pairs sinks
      → AllZip (IsCreated (λ (v : SinkView). v) rate) pairs (map seen_in sinks)
  all_created rate [] [] all = tt
  all_created rate [] (x ∷ xs) all = absurd all
  all_created rate (p ∷ ps) [] all = absurd all
  all_created rate (p ∷ ps) (x ∷ xs) (here, rest) = (record { layout = here.layout; headed = headed_seen rate p (p.channel.now ∷ []) x.stream here.headed }, all_created rate ps xs rest)
