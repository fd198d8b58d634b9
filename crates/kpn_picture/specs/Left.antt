-- Texts of what a run left, as the code has it.
use Rattle.std.specs.Prelude.{ℕ, Bool, List, Option}
use Rattle.kpn_model.specs.declared.history.End.{End}
use Rattle.kpn_model.specs.Network.{Network}
use Rattle.kpn_picture.specs.declared.edges.EdgeForm.{EdgeForm}
use Rattle.kpn_picture.specs.declared.picture.Left.{Left}
use Rattle.kpn_picture.specs.declared.styles.Style.{Style}
use Rattle.kpn_picture.specs.Edges.{EdgeView}
use Rattle.kpn_picture.specs.Picture.{edge_attributes, edge_line, edge_lines, label_part, picture}
use Rattle.kpn_picture.specs.Titles.{KindTitles}

-- the picture in a style
abbrev pub styled_picture : Style → KindTitles → Network → Option End → Left → List ℕ
styled_picture style title net end left =
    picture style.direction style.titles.now title net end left.places.now left.capacities.now left.rests.now

-- the label of a channel, what follows it, and the whole line
abbrev pub label_in : EdgeView → Bool → List ℕ
label_in edge has_label = label_part edge.net edge.capacities edge.rests has_label edge.channel

abbrev pub attributes_in : EdgeView → EdgeForm → List ℕ
attributes_in edge form = edge_attributes edge.net edge.places edge.capacities form edge.channel

abbrev pub line_in : EdgeView → KindTitles → Bool → List ℕ
line_in edge title rows = edge_line edge.net edge.places edge.capacities edge.rests title rows edge.channel

-- the lines of all channels
abbrev pub lines_left : Network → KindTitles → Left → List ℕ
lines_left net title left = edge_lines net title left.places.now left.capacities.now left.rests.now
