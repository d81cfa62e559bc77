-- Which bound names does the lobby keep?
use Rattle.std.specs.Prelude.{List, map}
use Rattle.hb_club.specs.Lobby.{Bound}
use Rattle.hb_house.specs.declared.lobby.BoundName.{BoundName}

abbrev pub binding : BoundName → Bound
binding b = record { name = b.name; key = b.key }

abbrev pub bindings : List BoundName → List Bound
bindings bound = map binding bound
