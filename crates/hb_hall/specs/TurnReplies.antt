-- What does a hall answer, by what a room or the lobby replied? No reply comes from a worn one.
use Rattle.std.specs.Prelude.{Option, Some, None, Result, Ok, Err}
use Rattle.hb_club.specs.declared.answers.Answered.{Answered}
use Rattle.hb_club.specs.declared.answers.HallError.{HallError}
use Rattle.hb_club.specs.declared.answers.HallError.TheVariants as error
use Rattle.hb_club.specs.declared.clerks.Noted as clerk
use Rattle.hb_club.specs.declared.clerks.Todo.{Todo}
use Rattle.hb_club.specs.declared.lobby.LobbyReply.{LobbyReply}
use Rattle.hb_hall.specs.declared.guarded.LobbyTurn.{LobbyTurn}
use Rattle.hb_hall.specs.declared.guarded.LobbyTurn.TheVariants as lobby
use Rattle.hb_hall.specs.declared.guarded.RoomReply.{RoomReply}
use Rattle.hb_hall.specs.declared.guarded.RoomReply.TheVariants.{Entered, NoMemory, Noted, Owes}

-- the answer in a reply to an entry
abbrev pub entered_in : RoomReply → Option Answered
entered_in (Entered answered) = Some answered
entered_in _ = None

-- in a reply to the clerk's question
abbrev pub owed_in : RoomReply → Option Todo
owed_in (Owes todo) = Some todo
owed_in _ = None

-- in a reply to a note of the clerk
abbrev pub noted_in : RoomReply → Option clerk.Noted
noted_in (Noted noted) = Some noted
noted_in _ = None

-- the answer of a hall whose room replied, if there is an answer in the reply
abbrev pub read_answer : {A : Type 0} → Option A → Result A HallError
read_answer (Some a) = Ok a
read_answer None = Err error.NoMemory

-- the answer of a hall to a call of a room, by how the reply to such a call is read
abbrev pub answer_of : {A : Type 0} → (RoomReply → Option A) → Option RoomReply
    → Result A HallError
answer_of read (Some reply) = read_answer (read reply)
answer_of read None = Err error.Worn

-- the answer of a hall to a call of the lobby
abbrev pub lobby_answer_of : Option LobbyTurn → Result LobbyReply HallError
lobby_answer_of (Some (lobby.Told reply)) = Ok reply
lobby_answer_of (Some lobby.NoMemory) = Err error.NoMemory
lobby_answer_of None = Err error.Worn
