-- A session may go to another thread: it owns nothing that is one thread's alone.
--     session_send      for what owns a session behind a pointer
-- It is shown by hand, by the fields. rattle states it by itself of no type that has a `Snapshot` in it, as what a flow keeps of its history
-- has; and a search that goes through all of a flow comes to its limit.
use denote.RattleType.{RattleType}
use denote.Struct.Declared.{Declared, row, shape}
use denote.Struct.Struct.{Struct}
use denote.Param.Send.{IsSend, AllSend, sendable, view_send, struct_send, recorded_send}
use Rattle.std.proofs.Crossing.{crosses}
use Rattle.kpn_model.specs.declared.kinds.Kinds as Kinds
use Rattle.kpn_network.proofs.net.Net.TheSendSync.{the_send as net_send}
use Rattle.kpn_body.specs.declared.body.Body as Body
use Rattle.kpn_compute.proofs.bodies.CardBody.TheSendSync.{the_send as body_send}
use Rattle.kpn_state.specs.contracts.keeper.Unkept as Unkept
use Rattle.kpn_state.specs.contracts.keeper.UnkeptKeeper.TheImpl as keeper
use Rattle.kpn_state.specs.contracts.store.Store as Store
use Rattle.kpn_state.proofs.store.Store.TheSendSync.{the_send as store_send}
use Rattle.kpn_state.proofs.roster.Roster.TheSendSync.{the_send as roster_send}
use Rattle.kpn_state.proofs.waiting.Waiting.TheSendSync.{the_field_send as waiting_send}
use Rattle.kpn_flow.specs.contracts.flow.Flow as Flow
use Rattle.kpn_flow.specs.contracts.flow.Flow.TheInside as FlowInside
use Rattle.kpn_flow.proofs.counts.Counts.TheSendSync.{the_field_send as counts_send}
use Rattle.hox_handle.specs.contracts.session.Session as Session
use Rattle.hox_handle.specs.contracts.session.Session.TheInside as SessionInside

-- a struct may, if each of its fields may
by_fields : (T : Declared) → AllSend (shape T).fields → IsSend (row T)
by_fields T all = recorded_send (Struct (shape T)) T.D T.to T.to_one (struct_send (shape T) all)

-- a history of which nothing is kept, and the store that has it
unkept_send : IsSend Unkept.the_row
unkept_send = search (sendable, crosses) depth 30

unkept_store_send : IsSend (Store.the_row Unkept.the_row keeper.ghosts)
unkept_store_send = store_send Unkept.the_row keeper.ghosts unkept_send

-- a flow may, if its bodies may
module _ (B K : RattleType) (body : Body.Ghosts B.Denot K.Denot) (kinds : Kinds.Ghosts K.Denot) (s : IsSend B) where
  flow_inside : IsSend (FlowInside.the_row B K body kinds)
  flow_inside = by_fields (FlowInside.the_type B K body kinds) (
    search (sendable, net_send),
    (
      search (sendable, unkept_store_send, roster_send, waiting_send) depth 12,
      (search (sendable, crosses) depth 20, (search (sendable, crosses), (search (sendable, crosses), (search (sendable, crosses), (counts_send, tt))))),
    ),
  )

  flow_send : IsSend (Flow.the_row B K body kinds)
  flow_send = view_send _ _ _ _ _ flow_inside

session_inside : IsSend SessionInside.the_row
session_inside = by_fields SessionInside.the_type (search (flow_send, body_send), (search (sendable, crosses), (search (sendable, crosses), tt)))

pub session_send : IsSend Session.the_row
session_send = view_send _ _ _ _ _ session_inside
