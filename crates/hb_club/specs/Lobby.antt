-- What does the lobby reply, by the list of all that came to it? The list stands newest first.
use Rattle.std.specs.Prelude.{◌↔◌, ℕ, Bool, ◌&&◌, ◌||◌, ◌==◌, List, [], ◌∷◌, Option, Some, None, IsTrue, bytes_eq, codes, if◌then◌else◌, is_some, length, nat_le}
use Rattle.std.specs.Char.{is_ascii_alphanumeric}
use Rattle.std.specs.List.{list_all, list_any}
use Rattle.hb_io.specs.declared.names.TheConstants.{NAME_LIMIT}
use Rattle.hb_io.specs.NameSpelling.{IsName}
use Rattle.hb_club.specs.declared.limits.TheConstants.{MOST_NAMES}
use Rattle.hb_club.specs.declared.lobby.LobbyEntry.{LobbyEntry}
use Rattle.hb_club.specs.declared.lobby.LobbyReply.{LobbyReply}
use Rattle.hb_club.specs.declared.lobby.LobbyReply.TheVariants.{Welcome, BadName, WrongKey, HouseFull}

-- a byte of a name, as a test: an ASCII letter or digit, `_` or `-`
abbrev pub is_name_byte : ℕ → Bool
is_name_byte b = is_ascii_alphanumeric b || list_any (λ c. c == b) (codes "_-")

-- a text is a name, as a test
abbrev pub is_name : List ℕ → Bool
is_name text = nat_le 1 (length text) && nat_le (length text) NAME_LIMIT
    && list_all is_name_byte text

-- it passes exactly the names
abbrev pub NamesAreTested : Type 0
NamesAreTested = (text : List ℕ) → IsTrue (is_name text) ↔ IsName text

-- a bound name with its key
pub record Bound : Type 0 where
  pub name : List ℕ
  pub key : List ℕ

-- the key that a name is bound to
abbrev pub key_of : List ℕ → List Bound → Option (List ℕ)
key_of name [] = None
key_of name (b ∷ bound) = if bytes_eq b.name name then Some b.key else key_of name bound

-- the reply to a name, by the key that it is bound to
abbrev pub reply_to : List Bound → LobbyEntry → Option (List ℕ) → LobbyReply
reply_to bound e (Some key) = if bytes_eq key e.key then Welcome e.name else WrongKey
reply_to bound e None = if nat_le MOST_NAMES (length bound) then HouseFull else Welcome e.name

abbrev pub lobby_reply : List Bound → LobbyEntry → LobbyReply
lobby_reply bound e = if is_name e.name then reply_to bound e (key_of e.name bound) else BadName

-- a welcome binds a name that is not bound
abbrev pub bound_after : List Bound → LobbyEntry → LobbyReply → List Bound
bound_after bound e (Welcome name) =
    if is_some (key_of e.name bound) then bound
    else record { name = e.name; key = e.key } ∷ bound
bound_after bound e _ = bound

abbrev pub bound_with : LobbyEntry → List Bound → List Bound
bound_with e bound = bound_after bound e (lobby_reply bound e)

-- the names that a list of entries has bound
unfoldable pub bound_of : List LobbyEntry → List Bound
bound_of [] = []
bound_of (e ∷ entries) = bound_with e (bound_of entries)

abbrev pub newest_reply : List LobbyEntry → LobbyReply
newest_reply [] = BadName
newest_reply (e ∷ entries) = lobby_reply (bound_of entries) e

-- the reply to the newest entry
unfoldable pub lobby_answer : List LobbyEntry → LobbyReply
lobby_answer entries = newest_reply entries
