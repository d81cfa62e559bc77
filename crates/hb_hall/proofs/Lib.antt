pub mod PlaceLemmas
pub mod HistoryLemmas
pub mod CallsRoomLemmas
pub mod RoomAnswersLemmas
pub mod LobbyCallLemmas
pub mod NewRoomsLemmas
pub mod SplitsLemmas
pub mod JoinsLemmas
