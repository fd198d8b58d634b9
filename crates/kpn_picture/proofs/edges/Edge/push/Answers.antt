-- The form is that of the channel.
use Rattle.std.proofs.Common.{codes, string_bytes}
use Rattle.kpn_picture.specs.Picture.{arrow, edge_attributes, label_part}
use Rattle.kpn_picture.proofs.Parts.{pushed_five}
use Rattle.kpn_picture.proofs.edges.Edge.push.Goals as goal

pub returns : goal.returns
returns g c =
    let net = c.self.inside.net.now in
    let left = c.self.inside.left in
    let labelled = rw (← c.self.view_is) at c.in_ok-push_label.ensures in
    let attributed = rw (← c.self.view_is) at c.in_ok-push_attributes.ensures in
    let form = rw (← c.self.view_is) at c.form-form.ensures in
    let pushed = pushed_five (string_bytes c.args.out.now) (string_bytes c.push_arrow.new.out) (string_bytes c.push_label.new.out) (string_bytes c.push_str.new.self) (string_bytes c.push_attributes.new.out) (string_bytes c.push_str-2.new.self)
    (arrow c.process_name-writer.result.now c.process_name-reader.result.now) (label_part net left.capacities.now left.rests.now c.form-form.result.has_label c.self.inside.channel) (codes "\"")
    (edge_attributes net left.places.now left.capacities.now c.form-form.result c.self.inside.channel) (codes "];\n")
    c.in_ok-push_arrow.ensures labelled c.in_ok-push_str.ensures.bytes attributed c.in_ok-push_str-2.ensures.bytes in
    rw (← c.self.view_is) (rw (c.process_name-writer.ensures, c.process_name-reader.ensures, c.ends-ends.ensures.writer, c.ends-ends.ensures.reader, form) at pushed)
