-- A flow that a caller keeps may go to another thread: neither the session, nor the right to free its box, is one thread's alone.
use Rattle.std.proofs.Common.{Option}
use mir.Raw.{raw}
use base.Fraction.{full_share}
use base.Shift.{Keyless}
use denote.Memory.{lone}
use denote.RawPtr.{Ptr, block_ptr, null_ptr}
use denote.Param.Send.{IsSend, sendable, part_keyless, owning_send}
use Rattle.std.proofs.Crossing.{frees}
use Rattle.std_heap.specs.declared.Global.{Global}
use Rattle.std_heap.proofs.Global.TheSendSync as alloc
use Rattle.hox_handle.specs.contracts.session.Session as Session
use Rattle.hox_handle.proofs.Crossing.{session_send}
use Rattle.hoxburen.specs.Handles.{holds}
use Rattle.hoxburen.specs.contracts.handle.HoxFlow.{the_row, the_type}

-- nothing at null; at a block the session that lies there, and the right to free it
holds_Keyless : (a : Global) (p : Ptr) (kept : Option (Session.the_row).Denot) → Keyless (holds a p kept)
holds_Keyless a null_ptr kept = tt
holds_Keyless a (block_ptr b o) kept = λ x. (tt, (part_keyless Session.the_row session_send full_share x b o, frees.frees a (raw (lone (Session.the_row).mir)) (block_ptr b o)))

pub send : IsSend the_row
send = owning_send the_type (search sendable, (alloc.the_field_send, tt)) (λ d. holds_Keyless d.alloc d.at d.kept) (λ k x w. tt)
