-- What does a lobby reply to a text, and what is bound then?
use Rattle.std.proofs.Common.{◌≡◌, ℕ, Bool, true, false, List, refl, ap, sym, ◌∙◌, if◌then◌else◌, Option, Some, None}
use Rattle.std.specs.Prelude.{Result, Ok, Err, IfOk, bytes_eq, option_map}
use Rattle.hb_io.specs.NameSpelling.{IsName}
use Rattle.hb_club.specs.declared.lobby.LobbyEntry.{LobbyEntry}
use Rattle.hb_club.specs.declared.lobby.LobbyReply.{LobbyReply}
use Rattle.hb_club.specs.declared.lobby.LobbyReply.TheVariants.{BadName, Welcome, WrongKey}
use Rattle.hb_club.specs.Lobby.{Bound, bound_after, bound_with, is_name, key_of, lobby_reply, reply_to}
use Rattle.hb_club.proofs.LobbyLemmas.{is_name-tests}
use Rattle.hb_house.specs.declared.lobby.BoundName.{BoundName}
use Rattle.hb_house.specs.Bindings.{bindings}

passes : (text : List ℕ) → IsName text → is_name text ≡ true
passes text name = (is_name-tests text).1 name

-- a text that is no name is refused, and nothing is bound
pub bad-name : (bound : List Bound) (e : LobbyEntry) → ¬ IsName e.name
    → (lobby_reply bound e ≡ BadName) × (bound_with e bound ≡ bound)
bad-name bound e bad = by (is_name e.name) refl
  where
    by : (b : Bool) → is_name e.name ≡ b → (lobby_reply bound e ≡ BadName) × (bound_with e bound ≡ bound)
    by true is = absurd (bad ((is_name-tests e.name).0 is))
    by false is = (rw is refl, rw is refl)

-- if a name is bound, the key decides, and nothing is bound anew
pub known-name : (bound : List Bound) (e : LobbyEntry) (fits : Bool) → IsName e.name
    → Some fits ≡ option_map (λ key. bytes_eq key e.key) (key_of e.name bound)
    → (lobby_reply bound e ≡ (if fits then Welcome e.name else WrongKey)) × (bound_with e bound ≡ bound)
known-name bound e fits name is = by (key_of e.name bound) refl
  where
    by : (k : Option (List ℕ)) → key_of e.name bound ≡ k
        → (lobby_reply bound e ≡ (if fits then Welcome e.name else WrongKey)) × (bound_with e bound ≡ bound)
    by None at = let bad : ◌≡◌ {A = Option Bool} (Some fits) None = rw at at is in absurd cc
    by (Some key) at =
        let one : ◌≡◌ {A = Option Bool} (Some fits) (Some (bytes_eq key e.key)) = rw at at is in
        let same : bytes_eq key e.key ≡ fits = cc in
        by_fit fits same
      where
        by_fit : (b : Bool) → bytes_eq key e.key ≡ b
            → (lobby_reply bound e ≡ (if b then Welcome e.name else WrongKey)) × (bound_with e bound ≡ bound)
        by_fit true same = (rw (passes e.name name, at, same) refl, rw (passes e.name name, at, same, at) refl)
        by_fit false same = (rw (passes e.name name, at, same) refl, rw (passes e.name name, at, same) refl)

-- if it is not bound, no key was found
pub new-name : (bound : List Bound) (e : LobbyEntry) → IsName e.name
    → None ≡ option_map (λ key. bytes_eq key e.key) (key_of e.name bound)
    → (key_of e.name bound ≡ None) × (lobby_reply bound e ≡ reply_to bound e None)
new-name bound e name is = by (key_of e.name bound) refl
  where
    by : (k : Option (List ℕ)) → key_of e.name bound ≡ k
        → (key_of e.name bound ≡ None) × (lobby_reply bound e ≡ reply_to bound e None)
    by (Some key) at = let bad : ◌≡◌ {A = Option Bool} None (Some (bytes_eq key e.key)) = rw at at is in absurd cc
    by None at = (at, rw (passes e.name name, at) refl)

-- what was looked up in the list that is read
pub looked-up : (e : LobbyEntry) (r : Option Bool) (read inside : List BoundName) (bound : List Bound)
    → r ≡ option_map (λ key. bytes_eq key e.key) (key_of e.name (bindings read)) → read ≡ inside → bindings inside ≡ bound
    → r ≡ option_map (λ key. bytes_eq key e.key) (key_of e.name bound)
looked-up e r read inside bound is same view = rw (← view, ← same) is

-- what is bound is what the reply binds
pub bound-with : {E : Type 0} (r : Result LobbyReply E) (bound new : List Bound) (e : LobbyEntry) (reply : LobbyReply)
    → IfOk r (λ answer. answer ≡ reply) → IfOk r (λ answer. new ≡ bound_after bound e answer) → lobby_reply bound e ≡ reply
    → IfOk r (λ _. new ≡ bound_with e bound)
bound-with (Ok answer) bound new e reply is left same = left ∙ ap (bound_after bound e) (is ∙ sym same)
bound-with (Err why) bound new e reply is left same = tt
