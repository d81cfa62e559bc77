-- What do a WebSocket link, its stub, a held stream and a TCP door have inside?
use Rattle.std.specs.Prelude.{ℕ}
use Rattle.tungstenite.specs.Socket.{Socket}
use Rattle.hb_socket.specs.declared.held_stream.HeldStream.{HeldStream}
use Rattle.hb_socket.specs.declared.tcp_door.TcpDoor.{TcpDoor}
use Rattle.hb_socket.specs.declared.ws_link.WsLink.{WsLink}
use Rattle.hb_socket.specs.declared.ws_link.WsStub.{WsStub}

-- how many calls of the link failed
abbrev pub link_faults : {S : Type 0} → WsLink S → ℕ
link_faults link = link.faults

-- the link's socket
abbrev pub link_socket : {S : Type 0} → WsLink S → Socket S
link_socket link = link.socket

-- how many calls of the link of a stub had failed
abbrev pub stub_faults : WsStub → ℕ
stub_faults stub = stub.faults

-- the stream inside
abbrev pub held_stream : {S : Type 0} → HeldStream S → S
held_stream held = held.stream

-- how many accepts of the door failed
abbrev pub door_faults : {C : Type 0} → TcpDoor C → ℕ
door_faults door = door.faults

-- how many times the door answered Closed
abbrev pub door_closes : {C : Type 0} → TcpDoor C → ℕ
door_closes door = door.closes
