-- Networks for which a known capacity suffices.
use Rattle.test_laws.proofs.WorkedRoom.{two_places_suffice, never_three, ring_lasts}
use Rattle.test_laws.proofs.sufficing.worked_room.Goals as goal

pub returns-clause-parks_case : goal.returns-clause-parks_case
returns-clause-parks_case c = two_places_suffice

pub returns-clause-never_three : goal.returns-clause-never_three
returns-clause-never_three c = never_three

pub returns-clause-ring : goal.returns-clause-ring
returns-clause-ring c = ring_lasts
