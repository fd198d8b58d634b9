-- What a handle owns: nothing if it is null (closed), else a box with the session that it keeps.
use Rattle.std.specs.Prelude.{Option, None, Some}
use Rattle.std.specs.Coded.{Coded, coded_option}
use Rattle.std.specs.Box.Ownership.{box_owns}
use Rattle.std.specs.Global.{Global}
use base.Fml.{Fml, feq, fex, fsep}
use denote.RawPtr.{Ptr, block_ptr, null_ptr}
use Rattle.std_heap.specs.contracts.GlobalAllocator.TheImpl.{ghosts}
use Rattle.hox_handle.specs.contracts.session.Session.{the_row}

abbrev pub boxed : Global → Ptr → the_row.Denot → Fml
boxed alloc = box_owns (ghosts.dealloc_token alloc) the_row

-- the kept session is this one, in the box
abbrev pub keeps_session : Global → Ptr → Option the_row.Denot → the_row.Denot → Fml
keeps_session alloc box kept x = fsep (feq (Option the_row.Denot) kept (Some x)) (boxed alloc box x)

abbrev pub holds : Global → Ptr → Option the_row.Denot → Fml
holds alloc null_ptr kept = feq (Option the_row.Denot) kept None
holds alloc (block_ptr b o) kept = fex the_row.Denot (λ x. keeps_session alloc (block_ptr b o) kept x)

abbrev pub kept_coded : Coded (Option the_row.Denot)
kept_coded = coded_option the_row.coded
