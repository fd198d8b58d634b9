-- The network is that of the edge.
use Rattle.std.proofs.Common.{codes, string_bytes}
use Rattle.kpn_picture.specs.Picture.{port_part}
use Rattle.kpn_picture.proofs.Parts.{pushed_five}
use Rattle.kpn_picture.proofs.edges.Edge.push_attributes.Goals as goal

pub returns : goal.returns
returns g c =
    let ends = c.ends-ends.ensures in
    let pushed = pushed_five (string_bytes c.args.out.now) (string_bytes c.push_str.new.self) (string_bytes c.push_port.new.out) (string_bytes c.push_port-2.new.out) (string_bytes c.push_str-2.new.self) (string_bytes c.push_str-3.new.self)
    c.edge_look.result.now (port_part (codes "tail") c.ends-ends.result.out c.second_output-second.result) (port_part (codes "head") c.ends-ends.result.input c.in_of.result) c.link_part.result.now c.row_part.result.now
    c.in_ok-push_str.ensures.bytes c.in_ok-push_port.ensures c.in_ok-push_port-2.ensures c.in_ok-push_str-2.ensures.bytes c.in_ok-push_str-3.ensures.bytes in
    let told = rw (c.edge_look.ensures, c.is_jammed.ensures, c.last_capacity.ensures, c.capacity-at_first.ensures, c.second_output-second.ensures, c.in_of.ensures.is, c.link_part.ensures, c.row_part.ensures, c.stays.ensures, ends.writer, ends.out, ends.reader, ends.input) at pushed in
    rw (← c.self.view_is) told
