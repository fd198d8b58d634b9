-- The session that was taken is put back.
use Rattle.std.proofs.Common.{◌≡◌}
use Rattle.hoxburen.specs.Calls.{FindsPlace}
use Rattle.hoxburen.proofs.Looks.{looks_open, place_finds}
use Rattle.hoxburen.proofs.opening.hox_output.Goals as goal

pub returns-in-Some : goal.returns-in-Some
returns-in-Some c =
    let s = c.in-Some.session.value in
    looks_open c.args.flow.now.kept c.put.new.self.kept c.place_told.result (c.place_told.new.place ≡ 0) (λ s. FindsPlace s.network s.outputs c.args.name.now c.place_told.new.place c.place_told.result) s c.in-Some.ensures.taken c.put.ensures
    (place_finds s.network s.outputs c.args.name.now c.output_named-found.result c.place_told.new.place c.place_told.result (rw (c.deref.ensures, c.bytes_of.ensures) at c.output_named-found.ensures.some)
    (rw (c.deref.ensures, c.bytes_of.ensures) at c.output_named-found.ensures.none) c.place_told.ensures.found c.place_told.ensures.none)
