-- What was held comes first, and then what the source has.
use Rattle.std.proofs.Common.{◌≡◌, ◌++◌, ◌-◌, ◌<◌, ◌≤◌, ℕ, List, length, length-append, length-drop, drop, min, take, ap, ◌∙◌, arith}
use Rattle.std.proofs.lemmas.List.{length-take-le}
use Rattle.kpn_tokens.proofs.Lefts.{all_left}
use Rattle.hox_format.proofs.Resumes.{held_read, most, most_le, source_read}
use Rattle.hox_format.proofs.resumed.ResumedSource.read.Goals as goal

pub returns-then-self-len-clause-bytes : goal.returns-then-self-len-clause-bytes
returns-then-self-len-clause-bytes g c =
    let left = c.args.self.now.left in
    let held = c.args.self.now.held.items in
    let next = c.args.self.now.next in
    let buffer = c.args.buf.now in
    let room = c.most_of-most.result in
    let bytes : List ℕ = take (length c.deref.result.now - next) (drop next c.deref.result.now) in
    let written = c.copy_front-n.new.buf in
    let is : room ≡ most left (length buffer) = c.most_of-most.ensures in
    let few : room ≤ length buffer = omega (arith, is, most_le left (length buffer)) in
    let front = length-take-le room buffer few in
    let long = c.copy_front-n.auto.buf ∙ front ∙ is in
    let count = c.copy_front-n.ensures.count ∙ ap (min (length bytes)) (front ∙ is) in
    let bytes_are = all_left c.deref.result.now next ∙ ap (drop next) c.deref.ensures.value in
    let some : next < length held = omega (arith, c.if-self-len.true, c.len.ensures) in
    let size : length (written ++ drop room buffer) ≡ length buffer = omega (arith, length-append written (drop room buffer), length-drop room buffer, long, is, few) in
    let read = held_read left held next (g.S.Source.remaining c.args.self.now.source) c.copy_front-n.result (length buffer) bytes written (drop room buffer) bytes_are some count long c.copy_front-n.ensures.copied in
    rw c.less-self.ensures (read.0, λ nothing r. read.1 nothing (omega (arith, r, size)))

pub returns-clause-bytes : goal.returns-clause-bytes
returns-clause-bytes g c =
    let left = c.args.self.now.left in
    let held = c.args.self.now.held.items in
    let next = c.args.self.now.next in
    let buffer = c.args.buf.now in
    let room = c.most_of-most.result in
    let written = c.read.new.buf in
    let is : room ≡ most left (length buffer) = c.most_of-most.ensures in
    let few : room ≤ length buffer = omega (arith, is, most_le left (length buffer)) in
    let long = c.read.auto.buf ∙ length-take-le room buffer few ∙ is in
    let past : length held ≤ next = omega (arith, c.if-self-len.false, c.len.ensures) in
    let size : length (written ++ drop room buffer) ≡ length buffer = omega (arith, length-append written (drop room buffer), length-drop room buffer, long, is, few) in
    let within : c.in_ok-n.n ≤ length written = omega (arith, c.in_ok-n.ensures.bound) in
    let read = source_read left held next (g.S.Source.remaining c.args.self.now.source) (g.S.Source.remaining c.read.new.self) c.in_ok-n.n (length buffer) written (drop room buffer) past within long c.in_ok-n.ensures.bytes.0 c.in_ok-n.ensures.bytes.1 in
    rw c.less-self-2.ensures (read.0, λ nothing r. read.1 nothing (omega (arith, r, size)))
