-- The text of a picture, in the language of Graphviz.
use Rattle.std.specs.Prelude.{◌≢◌, All, ℕ, ◌+◌, ◌/◌, ◌==◌, nat_lt, nat_le, ◌&&◌, ◌||◌, zero, suc, Bool, true, false, not, if◌then◌else◌, codes, decimal, List, [], ◌∷◌, ◌++◌, length, map, take, slice_get, slice_index_or, Option, Some, None}
use Rattle.std.specs.List.{count_by}
use Rattle.std.specs.Option.{option_map_or}
use Rattle.std.specs.Str.{bytes_eq}
use Rattle.kpn_model.specs.declared.token.Token.{Token}
use Rattle.kpn_model.specs.declared.token.Sort.{Sort}
use Rattle.kpn_model.specs.declared.token.Sort.TheVariants.{Words, Flags}
use Rattle.kpn_model.specs.declared.kinds.Card.{Card}
use Rattle.kpn_model.specs.declared.parts.Channel.{Channel}
use Rattle.kpn_model.specs.declared.history.Place.{Place}
use Rattle.kpn_model.specs.declared.history.Place.TheVariants.{Stopped, Reads, Writes}
use Rattle.kpn_model.specs.declared.history.End.{End}
use Rattle.kpn_model.specs.Network.{Network, card_of, channel_of, in_of, out_of}
use Rattle.kpn_model.specs.texts.Names.{process_name, channel_name}
use Rattle.kpn_model.specs.texts.Reports.{lines_upto}
use Rattle.kpn_model.specs.Waits.{is_on_cycle, is_jammed}
use Rattle.kpn_standard.specs.Locals.{at}
use Rattle.kpn_picture.specs.declared.edges.EdgeForm.{EdgeForm}
use Rattle.kpn_picture.specs.declared.looks.Direction.{Direction}
use Rattle.kpn_picture.specs.declared.looks.Direction.TheVariants.{Right, Down}
use Rattle.kpn_picture.specs.Titles.{below, KindTitles}
use Rattle.kpn_picture.specs.Caption.{caption}

abbrev pub rankdir : Direction → List ℕ
rankdir Right = codes "LR"
rankdir Down = codes "TB"

-- how the graph, its nodes and its edges look
abbrev pub graph_look : List ℕ
graph_look = codes ", nodesep=0.4, ranksep=0.6, labelloc=t, fontname=\"Helvetica\", fontsize=16];\n"

abbrev pub node_look : List ℕ
node_look =
    codes "  node [shape=box, style=\"rounded,filled\", fillcolor=\"#eef3fa\", color=\"#44546a\""
    ++ codes ", fontname=\"Helvetica\"];\n"

abbrev pub every_edge_look : List ℕ
every_edge_look =
    codes "  edge [color=\"#44546a\", fontcolor=\"#44546a\", fontname=\"Helvetica\", fontsize=11"
    ++ codes ", labelfontsize=9, labeldistance=1.5, labelangle=25];\n"

abbrev pub head : Direction → List ℕ
head direction =
    codes "digraph kpn {\n  graph [rankdir=" ++ rankdir direction ++ graph_look ++ node_look ++ every_edge_look

-- a text that needs no escapes between quotes
abbrev pub IsPlain : List ℕ → Type 0
IsPlain text = All (λ b. (b ≢ 34) × (b ≢ 92) × (b ≢ 10)) text

-- an argument below 0
abbrev pub negative_part : Card → ℕ → List ℕ
negative_part card k = codes " -" ++ decimal (at card.args k + 1)

-- argument k of a card, if its title has it; for an argument -1 - n below 0 the card has n
abbrev pub argument_part : ℕ → Card → ℕ → List ℕ
argument_part arity card k =
    if nat_le arity k then [] else
    if nat_lt k (below card arity) then negative_part card k else codes " " ++ decimal (at card.args k)

-- a sort other than words; and a capacity that was not 1 or has grown
abbrev pub sort_part : Sort → List ℕ
sort_part Words = []
sort_part Flags = codes "\\nflags"

-- both capacities
abbrev pub grown_text : ℕ → ℕ → List ℕ
grown_text at_first last = decimal at_first ++ codes " -> " ++ decimal last

abbrev pub capacity_text : ℕ → ℕ → List ℕ
capacity_text at_first last = if at_first == last then decimal last else grown_text at_first last

-- the line of a label that says the capacity
abbrev pub capacity_line : ℕ → ℕ → List ℕ
capacity_line at_first last = codes "\\ncapacity " ++ capacity_text at_first last

abbrev pub capacity_part : ℕ → ℕ → List ℕ
capacity_part at_first last = if (at_first == 1) && (last == 1) then [] else capacity_line at_first last

abbrev pub held_part : ℕ → List ℕ
held_part zero = []
held_part (suc n) = codes "\\nholds " ++ decimal (suc n)

-- red and bold on a cycle of waits; blue, or with blue text, if it grew
abbrev pub edge_look : Bool → Bool → List ℕ
edge_look true true = codes ", color=\"#c0392b\", fontcolor=\"#1f6fb4\", penwidth=3"
edge_look true false = codes ", color=\"#c0392b\", fontcolor=\"#c0392b\", penwidth=3"
edge_look false true = codes ", color=\"#1f6fb4\", fontcolor=\"#1f6fb4\", penwidth=2"
edge_look false false = []

-- with a red frame on a cycle of waits, grey if it has stopped
abbrev pub process_look : Bool → Option Place → List ℕ
process_look true place = codes ", color=\"#c0392b\", penwidth=2"
process_look false (Some Stopped) = codes ", fillcolor=\"#e3e3e3\""
process_look false _ = []

-- only if the process has a second port
abbrev pub port_part : List ℕ → ℕ → Option ℕ → List ℕ
port_part end port None = []
port_part end port (Some second) = codes ", " ++ end ++ codes "label=\"" ++ decimal port ++ codes "\""

-- the line of a channel up to its label
abbrev pub arrow : List ℕ → List ℕ → List ℕ
arrow writer reader = codes "  \"" ++ writer ++ codes "\" -> \"" ++ reader ++ codes "\" [label=\""

-- the line of a process up to its kind, and after its label
abbrev pub box_opening : List ℕ → List ℕ
box_opening name = codes "  \"" ++ name ++ codes "\" [label=\"" ++ name ++ codes "\\n"

abbrev pub closing : List ℕ → List ℕ
closing look = codes "\"" ++ look ++ codes "];\n"

-- the line of a point, up to its look
abbrev pub point_opening : List ℕ → List ℕ
point_opening name = codes "  \"" ++ name ++ codes "\" [shape=point, width=0.08, label=\""

abbrev pub point_line : List ℕ → List ℕ → List ℕ
point_line name look = point_opening name ++ closing look

abbrev pub is_copy : List ℕ → Bool
is_copy kind = bytes_eq kind (codes "copy") || bytes_eq kind (codes "copy_flags")

-- from a point, or not; and to one: then without an arrowhead, and in one rank with the point before
abbrev pub link_part : Bool → Bool → List ℕ
link_part from false = []
link_part false true = codes ", arrowhead=none"
link_part true true = codes ", arrowhead=none, minlen=0"

-- a kind, with its arguments
abbrev pub kind_text : (ℕ → List ℕ × ℕ) → Card → List ℕ
kind_text title card =
    let t = title card.kind in
    t.0 ++ argument_part t.1 card 0 ++ argument_part t.1 card 1 ++ argument_part t.1 card 2

-- a byte of a title, as it is drawn: a blank, unless it is printable ASCII and no quote and no backslash
abbrev pub drawn_byte : ℕ → ℕ
drawn_byte b = if nat_lt b 32 || (nat_lt 126 b || (b == 34 || b == 92)) then 32 else b

-- the first 37 bytes of a title and `...`
abbrev pub shortened_title : List ℕ → List ℕ
shortened_title title = map drawn_byte (take 37 title) ++ codes "..."

-- a title, as it is drawn: if it has more than 40 bytes, the first 37 and `...`
abbrev pub title_text : List ℕ → List ℕ
title_text title = if nat_lt 40 (length title) then shortened_title title else map drawn_byte title

-- what stands in a box below the name: the title of the process, or if that is empty, its kind
abbrev pub box_title : (ℕ → List ℕ × ℕ) → Card → List ℕ → List ℕ
box_title title card [] = kind_text title card
box_title title card (b ∷ bs) = title_text (b ∷ bs)

-- a row has eight processes, in order; a channel stays in a row if both its ends are in it
abbrev pub are_in_a_row : ℕ → ℕ → Bool
are_in_a_row p q = p / 8 == q / 8

abbrev pub stays : Channel → Bool
stays l = are_in_a_row l.writer l.reader

-- a channel is a branch if it leads from or to another port than the first
abbrev pub is_branch : Channel → Bool
is_branch l = nat_lt 0 l.out || nat_lt 0 l.input

-- more than half of the channels stay in a row
abbrev pub mostly_stays : Network → Bool
mostly_stays net = nat_lt (length net.channels / 2) (count_by stays net.channels)

-- a chain of more than twelve processes has rows, if more than half of its channels stay in a row
abbrev pub has_rows : Network → Bool
has_rows net =
    nat_lt 12 (length net.processes) && count_by is_branch net.channels == 0 && mostly_stays net

-- a channel to another row does not affect the layout
abbrev pub row_part : Bool → Bool → List ℕ
row_part rows staying = if rows && not staying then codes ", constraint=false" else []

-- what channel c holds, and its capacity: at the end, if known, otherwise at first
abbrev pub held_tokens : List (List Token) → ℕ → List Token → ℕ
held_tokens rests c at_first = length (option_map_or (λ rest. rest) (slice_get rests c) at_first)

abbrev pub last_capacity : List ℕ → ℕ → ℕ → ℕ
last_capacity capacities c at_first = option_map_or (λ n. n) (slice_get capacities c) at_first

-- its capacity at the end, if known, beside that at first
abbrev pub last_capacity_part : List ℕ → ℕ → ℕ → List ℕ
last_capacity_part capacities c at_first = capacity_part at_first (last_capacity capacities c at_first)

module _ (net : Network) where
  -- the place in which a run left a process
  abbrev pub place_label : Place → List ℕ
  place_label Stopped = codes "\\nended"
  place_label (Reads c) = codes "\\nwaits to read " ++ channel_name net c
  place_label (Writes c) = codes "\\nwaits to write " ++ channel_name net c

  abbrev pub has_name_of : ℕ → ℕ → Bool
  has_name_of p c = bytes_eq (process_name net p) (channel_name net c)

  -- its place, if known
  abbrev pub place_part : Option Place → List ℕ
  place_part place = option_map_or place_label place []

  -- the channel, if there is one, has its name
  abbrev pub has_name_if : ℕ → Option ℕ → Bool
  has_name_if p channel = option_map_or (has_name_of p) channel false

  -- how process p looks
  abbrev pub look_at : List Place → ℕ → List ℕ
  look_at places p = process_look (is_on_cycle net places p) (slice_get places p)

  -- the channel that a process reads, or the first that it writes, has its name
  abbrev pub names_channel : ℕ → Bool
  names_channel p = has_name_if p (in_of net p 0) || has_name_if p (out_of net p 0)

  module _ (title : ℕ → List ℕ × ℕ) where
    -- a copy that has the name of a channel at its first ports, as fan-out makes them, is drawn as a point
    abbrev pub is_point : ℕ → Bool
    is_point p = is_copy (title (card_of net p).kind).0 && names_channel p

    -- what stands in the box of process p below its name
    abbrev pub box_title_at : List (List ℕ) → ℕ → List ℕ
    box_title_at titles p = box_title title (card_of net p) (slice_index_or titles p [])

    -- process p, as a box: its name, its title or its kind, and its place, if known
    abbrev pub box_line : List (List ℕ) → List Place → ℕ → List ℕ
    box_line titles places p =
        box_opening (process_name net p) ++ box_title_at titles p ++ place_part (slice_get places p)
        ++ closing (look_at places p)

    abbrev pub node_line : List (List ℕ) → List Place → ℕ → List ℕ
    node_line titles places p =
        if is_point p then point_line (process_name net p) (look_at places p) else box_line titles places p

    -- all processes, a line each
    abbrev pub nodes : List (List ℕ) → List Place → List ℕ
    nodes titles places = lines_upto (node_line titles places) (length net.processes)

  -- the numbers of the ports at its ends, from 0, if the process has several; none at a point that it leads from
  abbrev pub tail_part : Bool → ℕ → List ℕ
  tail_part from_point c =
      let l = channel_of net c in
      port_part (codes "tail") l.out (if from_point then None else out_of net l.writer 1)

  abbrev pub head_part : ℕ → List ℕ
  head_part c = let l = channel_of net c in port_part (codes "head") l.input (in_of net l.reader 1)

  -- channel c has the name of the point that it leads from or to
  abbrev pub has_name_of_point : (ℕ → List ℕ × ℕ) → ℕ → Bool
  has_name_of_point title c =
      let l = channel_of net c in
      (is_point title l.writer && has_name_of l.writer c) || (is_point title l.reader && has_name_of l.reader c)

  -- whether there are rows, whether channel c leads from a point, and to one, and whether it has a label
  abbrev pub form_of : (ℕ → List ℕ × ℕ) → Bool → ℕ → EdgeForm
  form_of title rows c =
      let l = channel_of net c in
      record {
        has_rows = rows;
        from_point = is_point title l.writer;
        to_point = is_point title l.reader;
        has_label = not (has_name_of_point title c);
      }

  -- the label of channel c: its name, and its sort, capacity and tokens if unusual
  abbrev pub edge_label : List ℕ → List (List Token) → ℕ → List ℕ
  edge_label capacities rests c =
      let l = channel_of net c in
      channel_name net c ++ sort_part l.sort ++ last_capacity_part capacities c l.capacity
      ++ held_part (held_tokens rests c l.tokens)

  -- none if it has the name of a point
  abbrev pub label_part : List ℕ → List (List Token) → Bool → ℕ → List ℕ
  label_part capacities rests has_label c = if has_label then edge_label capacities rests c else []

  abbrev pub has_grown : List ℕ → ℕ → Bool
  has_grown capacities c = let n = (channel_of net c).capacity in not (n == last_capacity capacities c n)

  -- what follows its label: its look, and its ports
  abbrev pub edge_attributes : List Place → List ℕ → EdgeForm → ℕ → List ℕ
  edge_attributes places capacities form c =
      edge_look (is_jammed net places c) (has_grown capacities c) ++ tail_part form.from_point c ++ head_part c
      ++ link_part form.from_point form.to_point ++ row_part form.has_rows (stays (channel_of net c))

  -- its line up to its label
  abbrev pub arrow_of : Channel → List ℕ
  arrow_of l = arrow (process_name net l.writer) (process_name net l.reader)

  abbrev pub formed_line : List Place → List ℕ → List (List Token) → EdgeForm → ℕ → List ℕ
  formed_line places capacities rests form c =
      let l = channel_of net c in
      arrow_of l ++ label_part capacities rests form.has_label c ++ codes "\""
      ++ edge_attributes places capacities form c ++ codes "];\n"

  -- channel c, as an edge from its writer to its reader
  abbrev pub edge_line : List Place → List ℕ → List (List Token) → (ℕ → List ℕ × ℕ) → Bool → ℕ → List ℕ
  edge_line places capacities rests title rows c = formed_line places capacities rests (form_of title rows c) c

-- all channels, a line each
abbrev pub edge_lines : Network → KindTitles → List Place → List ℕ → List (List Token) → List ℕ
edge_lines net title places capacities rests =
    lines_upto (edge_line net places capacities rests title (has_rows net)) (length net.channels)

module _ (direction : Direction) (titles : List (List ℕ)) (title : KindTitles) (net : Network) (end : Option End) where
  -- the picture of a network, whose processes may have titles, or of a run that ended like this
  abbrev pub picture : List Place → List ℕ → List (List Token) → List ℕ
  picture places capacities rests =
      head direction ++ caption net places end ++ nodes net title titles places
      ++ edge_lines net title places capacities rests ++ codes "}\n"
