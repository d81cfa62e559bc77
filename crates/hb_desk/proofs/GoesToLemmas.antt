-- Do the lists of a hall go on through a turn? Yes, whatever the turn answers.
use Rattle.std.proofs.Common.{ℕ, Bool, List, ◌∷◌, refl}
use Rattle.hb_club.specs.declared.lobby.LobbyEntry.{LobbyEntry}
use Rattle.hb_club.specs.Fronts.{Fronts}
use Rattle.hb_club.specs.HallAnswers.{LobbyAnswers, NothingOwn, NothingOwnLobby, RoomAnswers}
use Rattle.hb_club.specs.RoomEvents.{RoomEvent}
use Rattle.hb_house.proofs.GoesOnLemmas.{all-on, goes_on-same}
use Rattle.hb_desk.specs.DeskTurns.{GoesTo}

-- nothing was called
pub stays : {S : Type 0} (stands : S → Fronts → Type 0) (hall : S) (f : Fronts) → stands hall f → GoesTo stands hall f
stays stands hall f stood = record {
  after = f;
  stands_for = stood;
  on = record { rooms = (λ room. goes_on-same refl); lobby = goes_on-same refl };
}

-- a room has not answered
pub room-waited : {S : Type 0} (stands : S → Fronts → Type 0) (alone : Bool) (hall : S) (room : ℕ) (f : Fronts)
    → NothingOwn stands alone hall room f → GoesTo stands hall f
room-waited stands alone hall room f nothing = record {
  after = nothing.after;
  stands_for = nothing.stands_for;
  on = all-on room f nothing.after nothing.waits.rest (record { more = nothing.waits.others; is = nothing.waits.front });
}

-- a room answered
pub room-took : {S : Type 0} (stands : S → Fronts → Type 0) (alone : Bool) (hall : S) (room : ℕ) (event : RoomEvent)
    (IsAnswer : List RoomEvent → Type 0) (f : Fronts) → RoomAnswers stands alone hall room event IsAnswer f → GoesTo stands hall f
room-took stands alone hall room event IsAnswer f answers = record {
  after = answers.after;
  stands_for = answers.stands_for;
  on = all-on room f answers.after answers.takes.rest (record { more = event ∷ answers.takes.others; is = answers.takes.front });
}

-- the lobby has not replied
pub lobby-waited : {S : Type 0} (stands : S → Fronts → Type 0) (alone : Bool) (hall : S) (f : Fronts)
    → NothingOwnLobby stands alone hall f → GoesTo stands hall f
lobby-waited stands alone hall f nothing = record {
  after = nothing.after;
  stands_for = nothing.stands_for;
  on = record {
    rooms = (λ room. goes_on-same (nothing.waits.rooms room));
    lobby = record { more = nothing.waits.others; is = nothing.waits.front };
  };
}

-- the lobby replied
pub lobby-took : {S : Type 0} (stands : S → Fronts → Type 0) (alone : Bool) (hall : S) (entry : LobbyEntry)
    (IsAnswer : List LobbyEntry → Type 0) (f : Fronts) → LobbyAnswers stands alone hall entry IsAnswer f → GoesTo stands hall f
lobby-took stands alone hall entry IsAnswer f answers = record {
  after = answers.after;
  stands_for = answers.stands_for;
  on = record {
    rooms = (λ room. goes_on-same (answers.takes.rooms room));
    lobby = record { more = entry ∷ answers.takes.others; is = answers.takes.front };
  };
}
