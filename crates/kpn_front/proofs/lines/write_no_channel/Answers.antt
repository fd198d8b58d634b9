-- A sink that takes the whole line takes each of its parts.
use Rattle.std.proofs.Common.{◌≡◌, ◌+◌, true, codes, [], ◌∷◌, ◌++◌, length, ap, ◌∙◌, arith, length-append, append_assoc}
use Rattle.std.proofs.lemmas.Bool.{false≢true}
use Rattle.kpn_front.proofs.Writing.{appends_both}
use Rattle.kpn_front.proofs.lines.write_no_channel.Goals as goal

pub returns-in_err-write_all-clause-room : goal.returns-in_err-write_all-clause-room
returns-in_err-write_all-clause-room g c = λ whole.
    let name = c.args.name.now in
    let parts : 11 + (length name + 1) ≡ length (codes "no channel " ++ (name ++ 10 ∷ [])) = omega (arith, length-append name (10 ∷ [])) in
    let takes : (g.S.Sink.seen c.args.sink.now).takes (11 + (length name + 1)) ≡ true = ap ((g.S.Sink.seen c.args.sink.now).takes) parts ∙ whole in
    absurd (false≢true (c.in_err-write_all.ensures.left (length name + 1) takes).0)

pub returns-in_err-write_all-2-clause-room : goal.returns-in_err-write_all-2-clause-room
returns-in_err-write_all-2-clause-room g c = λ whole.
    let name = c.args.name.now in
    let parts : 11 + (length name + 1) ≡ length (codes "no channel " ++ (name ++ 10 ∷ [])) = omega (arith, length-append name (10 ∷ [])) in
    let takes : (g.S.Sink.seen c.args.sink.now).takes (11 + (length name + 1)) ≡ true = ap ((g.S.Sink.seen c.args.sink.now).takes) parts ∙ whole in
    let rest : (g.S.Sink.seen c.write_all.new.self).takes (length name + 1) ≡ true = (c.in_ok-write_all.ensures.left (length name + 1) takes).1 in
    absurd (false≢true (c.in_err-write_all-2.ensures.left 1 (rw c.as_bytes.ensures.value rest)).0)

pub returns-in_err-write_all-3-clause-room : goal.returns-in_err-write_all-3-clause-room
returns-in_err-write_all-3-clause-room g c = λ whole.
    let name = c.args.name.now in
    let parts : 11 + (length name + 1) ≡ length (codes "no channel " ++ (name ++ 10 ∷ [])) = omega (arith, length-append name (10 ∷ [])) in
    let takes : (g.S.Sink.seen c.args.sink.now).takes (11 + (length name + 1)) ≡ true = ap ((g.S.Sink.seen c.args.sink.now).takes) parts ∙ whole in
    let rest : (g.S.Sink.seen c.write_all.new.self).takes (length name + 1) ≡ true = (c.in_ok-write_all.ensures.left (length name + 1) takes).1 in
    let last : (g.S.Sink.seen c.write_all-2.new.self).takes 1 ≡ true = (c.in_ok-write_all-2.ensures.left 1 (rw c.as_bytes.ensures.value rest)).1 in
    absurd (false≢true (c.in_err-write_all-3.ensures.room last))

pub returns-clause-bytes : goal.returns-clause-bytes
returns-clause-bytes g c =
    let name : _ = appends_both _ _ _ _ _ c.in_ok-write_all.ensures.bytes (rw c.as_bytes.ensures.value at c.in_ok-write_all-2.ensures.bytes) in
    rw append_assoc at (appends_both _ _ _ _ _ name c.in_ok-write_all-3.ensures.bytes)
