-- What does a session hear at a turn? A function of what its member observes, in which no reply is.
use Rattle.std.proofs.Common.{◌≡◌, ℕ, Bool, true, false, ◌&&◌, ◌==◌, List, [], ◌∷◌, ◌++◌, refl, sym, ap, ◌∙◌, length, Some, None, bytes_eq, if◌then◌else◌}
use Rattle.std.proofs.lemmas.Slice.Eq.{bytes_eq-Decides}
use Rattle.std.specs.Option.{option_to_list}
use Rattle.hb_club.specs.declared.commands.Entry.{Entry}
use Rattle.hb_club.specs.declared.replies.Reply.{Reply}
use Rattle.hb_club.specs.Fronts.{Fronts, House, is_room, site_of, with_event}
use Rattle.hb_club.specs.OwnEntries.{OwnEntry}
use Rattle.hb_club.specs.RoomEvents.{AsksTodo, Call, Notes, Outcome, Replied, RoomEvent, Site, event_moment}
use Rattle.hb_club.specs.Rooms.{answer_to, past_of, table_at}
use Rattle.hb_club.specs.SeenTable.{answer}
use Rattle.hb_club.specs.TableFacts.{own_by, own_entries}
use Rattle.hb_club.specs.TimeFirst.{timed_table}
use Rattle.hb_club.specs.ViewLaws.{view_for}
use Rattle.hb_club.specs.Views.{own_at, view_at}
use Rattle.hb_club.specs.WholeGames.{BringWhole}
use Rattle.hb_club.proofs.SeenTableLemmas.{answer-seen}
use Rattle.hb_club.proofs.TableInvariantLemmas.{past_of-facts, timed_table-is}
use Rattle.hb_house.proofs.PlainStandsLemmas.{with_event-here}
use Rattle.hb_talk.specs.declared.errands.Errand.{Errand}
use Rattle.hb_talk.specs.declared.errands.Errand.TheVariants as errand
use Rattle.hb_talk.specs.Scripts.{fronts_after}
use Rattle.hb_talk.specs.Turns.{Heard, heard, heard_when}
use Rattle.hb_talk.specs.Turns as talk
use Rattle.hb_run.specs.ConnSights.{EntrySight, FromLobby, FromRoom, NoRoom, Sight, Silence, own_sight, own_sights, sight, sight_when}

-- replies

-- a member's entries at a table with their replies, read off what the member observed at each
abbrev pub own_from : ℕ → List EntrySight → List OwnEntry
own_from table [] = []
own_from table (x ∷ older) =
    (if x.entry.table == table
    then record {
      entry = x.entry;
      reply = answer x.before (own_from x.before.latest older) x.entry;
      count = length x.behind.items;
    } ∷ []
    else []) ++ own_from table older

-- a room replies what is read off the view and the own entries
replied : (s : Site) (events : List RoomEvent) (e : Entry) → BringWhole events
    → answer_to s (Call e ∷ events) ≡ Replied (answer (view_for s events e) (own_at s events e.member) e)
unfolding answer_to
replied s events e whole =
    ap Replied (sym (answer-seen s (timed_table s (past_of s events) (event_moment (Call e))) (own_at s events e.member) e
    (timed_table-is s (past_of s events) (event_moment (Call e)) (past_of-facts s events whole))))

-- the entries with one entry more
own-call : (s : Site) (events : List RoomEvent) (member : List ℕ) (table : ℕ) (e : Entry)
    → own_entries table member (past_of s (Call e ∷ events))
    ≡ option_to_list (own_by table member (length (view_at s (Call e ∷ events) e.member).items) (Call e) (answer_to s (Call e ∷ events)))
    ++ own_entries table member (past_of s events)
unfolding answer_to view_at
own-call s events member table e = refl

pick-mine : (o : OwnEntry) (b own : Bool) → own ≡ true
    → option_to_list (if b && own then Some o else None) ≡ (if b then o ∷ [] else [])
pick-mine o true own is = rw is refl
pick-mine o false own is = refl

pick-other : (o : OwnEntry) (b own : Bool) → own ≡ false → option_to_list {X = OwnEntry} (if b && own then Some o else None) ≡ []
pick-other o true own is = rw is refl
pick-other o false own is = refl

-- an entry of the member, with what was observed at it
own-mine : (s : Site) (member : List ℕ) (table : ℕ) (events : List RoomEvent) (e : Entry) → BringWhole events
    → bytes_eq member e.member ≡ true
    → own_entries table member (past_of s events) ≡ own_from table (own_sights s events member)
    → own_entries (table_at s events).latest member (past_of s events)
    ≡ own_from (table_at s events).latest (own_sights s events member)
    → own_entries table member (past_of s (Call e ∷ events))
    ≡ own_from table (own_sight true s events e ++ own_sights s events member)
own-mine s member table events e whole mine others here =
    let behind : ℕ = length (view_at s (Call e ∷ events) e.member).items in
    let latest : ℕ = (table_at s events).latest in
    let older : List EntrySight = own_sights s events member in
    let rest : List OwnEntry = own_entries table member (past_of s events) in
    let place : member ≡ e.member = (bytes_eq-Decides member e.member).0 mine in
    let own : own_at s events e.member ≡ own_from latest older =
    ap (λ (m : List ℕ). own_entries latest m (past_of s events)) (sym place) ∙ here in
    let reply : answer_to s (Call e ∷ events) ≡ Replied (answer (view_for s events e) (own_from latest older) e) =
    replied s events e whole ∙ ap (λ (l : List OwnEntry). Replied (answer (view_for s events e) l e)) own in
    let one : OwnEntry = record { entry = e; reply = answer (view_for s events e) (own_from latest older) e; count = behind } in
    own-call s events member table e
    ∙ (ap (λ (o : Outcome). option_to_list (own_by table member behind (Call e) o) ++ rest) reply
    ∙ (ap (λ (l : List OwnEntry). l ++ rest) (pick-mine one (e.table == table) (bytes_eq member e.member) mine)
    ∙ ap (λ (l : List OwnEntry). (if e.table == table then one ∷ [] else []) ++ l) others))

-- and of another
own-other : (s : Site) (member : List ℕ) (table : ℕ) (events : List RoomEvent) (e : Entry) → BringWhole events
    → bytes_eq member e.member ≡ false
    → own_entries table member (past_of s events) ≡ own_from table (own_sights s events member)
    → own_entries table member (past_of s (Call e ∷ events)) ≡ own_from table (own_sights s events member)
own-other s member table events e whole other others =
    let behind : ℕ = length (view_at s (Call e ∷ events) e.member).items in
    let reply : Reply = answer (view_for s events e) (own_at s events e.member) e in
    let rest : List OwnEntry = own_entries table member (past_of s events) in
    let one : OwnEntry = record { entry = e; reply = reply; count = behind } in
    own-call s events member table e
    ∙ (ap (λ (o : Outcome). option_to_list (own_by table member behind (Call e) o) ++ rest) (replied s events e whole)
    ∙ (ap (λ (l : List OwnEntry). l ++ rest) (pick-other one (e.table == table) (bytes_eq member e.member) other) ∙ others))

-- a member's entries are read off what the member observed
pub own-seen : (s : Site) (member : List ℕ) (table : ℕ) (events : List RoomEvent) → BringWhole events
    → own_entries table member (past_of s events) ≡ own_from table (own_sights s events member)
own-seen s member table [] whole = refl
own-seen s member table (AsksTodo moment ∷ events) whole = own-seen s member table events whole.1
own-seen s member table (Notes moment notice ∷ events) whole = own-seen s member table events whole.1
own-seen s member table (Call e ∷ events) whole = by (bytes_eq member e.member) refl (own-seen s member table events whole.1)
    (own-seen s member (table_at s events).latest events whole.1)
  where
    by : (b : Bool) → bytes_eq member e.member ≡ b → own_entries table member (past_of s events) ≡ own_from table
        (own_sights s events member)
        → own_entries (table_at s events).latest member (past_of s events)
        ≡ own_from (table_at s events).latest (own_sights s events member)
        → own_entries table member (past_of s (Call e ∷ events))
        ≡ own_from table (own_sight b s events e ++ own_sights s events member)
    by true mine others here = own-mine s member table events e whole.1 mine others here
    by false other others here = own-other s member table events e whole.1 other others

-- what is heard

-- read off what is observed
abbrev pub hear : Sight → Heard
hear Silence = talk.Silence
hear NoRoom = talk.NoRoom
hear (FromLobby reply) = talk.FromLobby reply
hear (FromRoom room []) = talk.Silence
hear (FromRoom room (x ∷ older)) =
    talk.FromRoom room x.entry (Replied (answer x.before (own_from x.before.latest older) x.entry)) x.behind

-- at a room, whose newest event is the turn's own call
room-heard : (h : House) (room : ℕ) (e : Entry) (f : Fronts) → BringWhole (f.rooms room)
    → heard_when true h (with_event room (Call e) f) room e ≡ hear (sight_when true h (with_event room (Call e) f) room e)
room-heard h room e f whole =
    let s : Site = site_of h room in
    let events : List RoomEvent = f.rooms room in
    let list : (with_event room (Call e) f).rooms room ≡ Call e ∷ events = with_event-here room (Call e) f in
    let own : bytes_eq e.member e.member ≡ true = (bytes_eq-Decides e.member e.member).1 refl in
    let older : List EntrySight = own_sights s events e.member in
    let latest : ℕ = (table_at s events).latest in
    let reply : answer_to s (Call e ∷ events) ≡ Replied (answer (view_for s events e) (own_from latest older) e) =
    replied s events e whole
    ∙ ap (λ (l : List OwnEntry). Replied (answer (view_for s events e) l e)) (own-seen s e.member latest events whole) in
    ap (λ (l : List RoomEvent). talk.FromRoom room e (answer_to s l) (view_at s l e.member)) list
    ∙ (ap (λ (o : Outcome). talk.FromRoom room e o (view_at s (Call e ∷ events) e.member)) reply
    ∙ (ap (λ (b : Bool). hear (FromRoom room (own_sight b s events e ++ older))) (sym own)
    ∙ ap (λ (l : List RoomEvent). hear (FromRoom room (own_sights s l e.member))) (sym list)))

room-sighted : (is : Bool) (h : House) (room : ℕ) (e : Entry) (f : Fronts) → BringWhole (f.rooms room)
    → let after = if is then with_event room (Call e) f else f in heard_when is h after room e ≡ hear (sight_when is h after room e)
room-sighted true h room e f whole = room-heard h room e f whole
room-sighted false h room e f whole = refl

-- at a turn, if the games that the clerk brought to the rooms are whole
pub heard-seen : (h : House) (count : ℕ) (task : Errand) (f : Fronts) → ((room : ℕ) → BringWhole (f.rooms room))
    → heard h count (fronts_after count task f) task ≡ hear (sight h count (fronts_after count task f) task)
heard-seen h count errand.Nothing f whole = refl
heard-seen h count (errand.Bad why) f whole = refl
heard-seen h count (errand.Denied why) f whole = refl
heard-seen h count (errand.Enters entry) f whole = refl
heard-seen h count (errand.Calls room e) f whole = room-sighted (is_room count room) h room e f (whole room)
