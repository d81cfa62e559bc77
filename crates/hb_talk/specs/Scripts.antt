-- What does a script write? Its lines are run in order, from empty lists of the rooms and of the
-- lobby on. Lines stand newest first.
use Rattle.std.specs.Prelude.{ℕ, ◌≤◌, Bool, true, false, ◌||◌, ◌==◌, ⊤, List, [], ◌∷◌, ◌++◌, Option, Some, None, codes, decimal, flat_map, if◌then◌else◌}
use Rattle.hb_keeper.specs.declared.errors.KeepError.{KeepError}
use Rattle.hb_keeper.specs.declared.errors.KeepError.TheVariants.{Fault}
use Rattle.hb_club.specs.Fronts.{Fronts, House, is_room, no_events, with_entry, with_event}
use Rattle.hb_club.specs.RoomEvents.{Call}
use Rattle.hb_talk.specs.declared.errands.Errand.{Errand}
use Rattle.hb_talk.specs.declared.errands.Errand.TheVariants as errand
use Rattle.hb_talk.specs.declared.scripts.TheConstants.{MOST_CONNECTION}
use Rattle.hb_talk.specs.declared.scripts.ScriptLine.{ScriptLine}
use Rattle.hb_talk.specs.declared.scripts.ScriptLine.TheVariants as line
use Rattle.hb_talk.specs.declared.sessions.Session.{Session}
use Rattle.hb_talk.specs.LoneClerk.{Round, clerk_round}
use Rattle.hb_talk.specs.Errands.{asked}
use Rattle.hb_talk.specs.Keeping.{Keeping}
use Rattle.hb_talk.specs.Sessions.{new_session}
use Rattle.hb_talk.specs.Turns.{Turn, turn_of}

-- where a script stands: the lists, the keeper, the sessions by their connections, whether the
-- keeper met a fault, and what stopped the script
pub record Stage : Type 0 where
  pub fronts : Fronts
  pub keeping : Keeping
  pub sessions : List (ℕ × Session)
  pub faulted : Bool
  pub stopped : Option KeepError

-- before the first line
abbrev pub first_stage : Keeping → Stage
first_stage k =
    record { fronts = no_events; keeping = k; sessions = []; faulted = false; stopped = None }

-- the session of a connection, which is new at its first line
abbrev pub session_of : ℕ → List (ℕ × Session) → Session
session_of conn [] = new_session
session_of conn (s ∷ sessions) = if s.0 == conn then s.1 else session_of conn sessions

-- what a line writes, and where the script then stands
pub record Ran : Type 0 where
  pub text : List ℕ
  pub stage : Stage

-- what a connection says

-- the lists after the call of a turn, if nobody else calls
abbrev pub fronts_after : ℕ → Errand → Fronts → Fronts
fronts_after count (errand.Enters entry) f = with_entry entry f
fronts_after count (errand.Calls room e) f =
    if is_room count room then with_event room (Call e) f else f
fronts_after count _ f = f

-- each text behind the number of its connection
abbrev pub sent : ℕ → List (List ℕ) → List ℕ
sent conn texts = flat_map (λ text. decimal conn ++ codes " " ++ text ++ codes "\n") texts

abbrev pub after_turn : Stage → ℕ → Fronts → Turn → Ran
after_turn s conn f t = record {
  text = sent conn t.texts;
  stage = record s { fronts = f; sessions = (conn, t.left) ∷ s.sessions };
}

abbrev pub said : House → ℕ → ℕ → Stage → Errand → Ran
said h count conn s task = let after = fronts_after count task s.fronts in
    after_turn s conn after (turn_of h count after (session_of conn s.sessions) task)

-- the clerk

-- what it did, or that the keeper met a fault. Its other refusals stop the script
abbrev pub clerk_text : Round → Option KeepError → List ℕ
clerk_text r None =
    codes "clerk saved " ++ decimal r.saved ++ codes " loaded " ++ decimal r.loaded
    ++ codes " missing " ++ decimal r.missing ++ codes "\n"
clerk_text r (Some Fault) = codes "clerk fault\n"
clerk_text r (Some why) = []

abbrev pub is_fault : Option KeepError → Bool
is_fault (Some Fault) = true
is_fault _ = false

abbrev pub after_clerk : Stage → Round → Ran
after_clerk s r = let fault = is_fault r.refused in record {
  text = clerk_text r r.refused;
  stage = record s {
    fronts = r.fronts;
    keeping = r.keeping;
    faulted = s.faulted || fault;
    stopped = if fault then None else r.refused;
  };
}

-- the lines

-- the connection of a line, if it has one, is one that a script may name
abbrev pub HasConnection : ScriptLine → Type 0
HasConnection (line.Clerk moment) = ⊤
HasConnection (line.Says moment conn got) = conn ≤ MOST_CONNECTION

-- a line, in a house of so many rooms; none is run behind what stopped the script
abbrev pub ran_unless : Option KeepError → House → ℕ → Stage → ScriptLine → Ran
ran_unless (Some why) h count s l = record { text = []; stage = s }
ran_unless None h count s (line.Clerk moment) =
    after_clerk s (clerk_round h count moment s.fronts s.keeping)
ran_unless None h count s (line.Says moment conn got) =
    said h count conn s (asked (session_of conn s.sessions) moment got)

-- where these lines lead from a stage
unfoldable pub stage_after : House → ℕ → Stage → List ScriptLine → Stage
stage_after h count s [] = s
stage_after h count s (l ∷ lines) = let before = stage_after h count s lines in
    (ran_unless before.stopped h count before l).stage

-- and what they write
unfoldable pub script_text : House → ℕ → Stage → List ScriptLine → List ℕ
script_text h count s [] = []
script_text h count s (l ∷ lines) = let before = stage_after h count s lines in
    script_text h count s lines ++ (ran_unless before.stopped h count before l).text
