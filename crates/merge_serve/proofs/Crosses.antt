-- A seat may cross threads. One search finds none of it as a whole.
use denote.RattleType.{RattleType}
use denote.Param.Send.{IsSend, recorded_send, sendable, struct_send}
use denote.Struct.Declared.{shape}
use Rattle.std.proofs.Crossing as std
use Rattle.std.specs.declared.sync.ledger.Ledger.{Ghosts}
use Rattle.std.proofs.sync.ledger.Share.TheSendSync as share
use Rattle.merge_desk.specs.contracts.seat.LastClosed as LastClosed
use Rattle.merge_desk.specs.contracts.seat.Seat as Seat
use Rattle.merge_desk.specs.contracts.seat.Seat.TheInside as inside

module _ (L M : RattleType) (l : Ghosts L.Denot) (m : Ghosts M.Denot) where
  closed_field_send : IsSend (LastClosed.the_field L M l m).row
  closed_field_send = search (std.crosses, sendable) depth 60 fits 20000

  inside_send : IsSend (inside.the_row L M l m)
  inside_send = recorded_send (inside.the_field L M l m).row _ _ (inside.the_type L M l m).to_one (struct_send (shape (inside.the_type L M l m))
      (search sendable, (search (std.crosses, sendable) depth 60 fits 20000, (search (share.the_send, std.crosses, sendable) depth 60 fits 20000, (search (share.the_send, std.crosses, sendable) depth 60 fits 20000, (closed_field_send, tt))))))

  pub seat_send : IsSend (Seat.the_row L M l m)
  seat_send = search (inside_send, std.crosses, sendable) depth 60 fits 20000
