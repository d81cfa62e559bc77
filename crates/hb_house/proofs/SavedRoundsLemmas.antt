-- Is a game that was due noted as kept behind the round of its room? Yes, by this clerk or another.
use Rattle.std.proofs.Common.{◌≡◌, ℕ, ◌+◌, Bool, true, List, [], ◌∷◌, ◌++◌, refl, ap, sym, subst, ◌∙◌, inl, inr, Some, Option}
use Rattle.std.specs.Prelude.{◌&&◌, ◌==◌, is_some, not}
use Rattle.std.proofs.lemmas.Bool.{and_from, and_parts}
use Rattle.std.proofs.lemmas.Bool.Decides.{Decides-eqb}
use Rattle.hb_keeper.specs.declared.rows.GameRow.{GameRow}
use Rattle.hb_keeper.specs.declared.rows.Key.{Key}
use Rattle.hb_club.specs.declared.clerks.ClerkNote.TheVariants as note
use Rattle.hb_club.specs.declared.clerks.Noted.{Noted}
use Rattle.hb_club.specs.declared.clerks.Noted.TheVariants as noted
use Rattle.hb_club.specs.declared.clerks.Todo.{Todo}
use Rattle.hb_club.specs.declared.items.Item.{Item}
use Rattle.hb_club.specs.ClerkCalls.{is_due, noted_by, noted_item, pending_load}
use Rattle.hb_club.specs.NewItems.{stamp_at, stamped_item}
use Rattle.hb_club.specs.RoomEvents.{Added, AsksTodo, Due, Happening, Notes, Outcome, RoomEvent, Saved, Site, in_time, note_event}
use Rattle.hb_club.specs.Rooms.{answer_to, happening, past_of}
use Rattle.hb_club.specs.Table.{Table, has_ended}
use Rattle.hb_club.specs.TableFacts.{table_of}
use Rattle.hb_club.specs.TableItems.{has, is_saved}
use Rattle.hb_club.specs.TableReview.{game_end}
use Rattle.hb_club.specs.TimeFirst.{timed_table, timeout}
use Rattle.hb_house.specs.declared.reports.Report.{Report}
use Rattle.hb_house.specs.ClerkReports.{with_saved}
use Rattle.hb_house.specs.ClerkRounds.{Saves, SavesGame}
use Rattle.hb_house.specs.KeeperSteps.{Telling}
use Rattle.hb_house.specs.RoundLaws.{AloneSaves, DueAreSaved, WasSaved}
use Rattle.hb_house.proofs.CalmItemsLemmas.{calm-event, is_calm_if}
use Rattle.hb_house.proofs.DueRowsLemmas.{answered-due}
use Rattle.hb_house.proofs.DueTablesLemmas.{StillDue, due-or-saved}
use Rattle.hb_house.proofs.GoesOnLemmas.{goes_on-same, goes_on-trans, loads-on}
use Rattle.hb_house.proofs.MayComeLemmas.{Adds, MayComeIf}
use Rattle.hb_house.proofs.StoppedClockLemmas.{past_of-before, time-over}

-- what the note of a kept game does at a table whose game is due
record NoteSaves (s : Site) (events : List RoomEvent) (e : RoomEvent) (which : Noted) : Type 0 where
  noted : which ≡ noted.Saved
  latest : (table_of s (past_of s (e ∷ events))).latest ≡ (table_of s (past_of s events)).latest
  saved : has is_saved (table_of s (past_of s (e ∷ events))).items ≡ true

note-saves : (s : Site) (moment table id : ℕ) (events : List RoomEvent) (which : Noted)
    → answer_to s (note_event moment (note.Saved table id) ∷ events) ≡ Added which
    → is_due (table_of s (past_of s events)) ≡ true → table ≡ (table_of s (past_of s events)).latest
    → NoteSaves s events (note_event moment (note.Saved table id)) which
unfolding answer_to
note-saves s moment table id events which answer due at =
    let past : List Happening = past_of s events in
    let h : Happening = happening s past (Notes moment (Saved table id)) in
    let t : Table = table_of s past in
    let u : Table = timed_table s past (in_time moment) in
    let over : has_ended t ≡ true = (and_parts (has_ended t) (not (has is_saved t.items)) due).0 in
    let none : timeout t t.game (in_time moment) ≡ [] = time-over t t.game (in_time moment) (past_of-before s events).stopped over in
    let still : is_due u ≡ true =
    ap (λ (l : List Item). is_some (game_end t.game (l ++ t.items)) && not (has is_saved (l ++ t.items))) none ∙ due in
    let here : (table == u.latest) ≡ true = (Decides-eqb table u.latest).1 at in
    let does : Noted = noted_by u (pending_load u past) (Saved table id) in
    let is : does ≡ noted.Saved = rw (here, still) refl in
    let same : ◌≡◌ {A = Outcome} (Added does) (Added which) = answer in
    let one : does ≡ which = cc in
    let adds : Adds s past h = record {
      moment = in_time moment;
      stamp = stamp_at u past (in_time moment);
      item = noted_item id does;
      added = refl;
      may = subst (λ (w : Noted). MayComeIf u.game u.items (noted_item id w)) (sym is) tt;
    } in
    let kept = calm-event s past h adds (ap (λ (w : Noted). is_calm_if (noted_item id w)) is) in
    let saves : has is_saved (stamped_item (stamp_at u past (in_time moment)) (noted_item id does) ++ u.items) ≡ true =
    ap (λ (w : Noted). has is_saved (stamped_item (stamp_at u past (in_time moment)) (noted_item id w) ++ u.items)) is in
    record { noted = sym one ∙ is; latest = kept.latest; saved = ap (has is_saved) kept.items ∙ saves }

-- a game is due when the clerk is answered so
asked-due : (s : Site) (asked : List RoomEvent) (todo : Todo) (key : Key) (row : GameRow) → answer_to s asked ≡ Due todo
    → todo.save ≡ Some (key, row)
    → (is_due (table_of s (past_of s asked)) ≡ true) × (key.serial ≡ (table_of s (past_of s asked)).latest)
asked-due s asked todo key row answer save =
    let due = answered-due s asked todo key row answer save in
    let t : Table = table_of s (past_of s asked) in
    (and_from (has_ended t) (not (has is_saved t.items)) due.over (ap (λ (b : Bool). not b) due.unsaved), due.serial)

-- so it is noted as kept when the clerk has saved it
saved-game : (alone : Bool) (s : Site) (moment : ℕ) (asked middle : List RoomEvent) (c d : Telling) (r t : Report) (key : Key)
    (row : GameRow)
    → is_due (table_of s (past_of s asked)) ≡ true → key.serial ≡ (table_of s (past_of s asked)).latest
    → SavesGame alone s moment (key, row) asked middle c d r t → WasSaved s middle key.serial
saved-game alone s moment asked middle c d r t key row due serial saves = by (due-or-saved s others asked due)
  where
    others : List RoomEvent
    others = saves.notes.takes.others

    e : RoomEvent
    e = note_event moment (note.Saved key.serial saves.id)

    front : middle ≡ e ∷ others ++ asked
    front = saves.notes.takes.front

    answer : answer_to s (e ∷ others ++ asked) ≡ Added saves.notes.noted
    answer = ap (answer_to s) (sym front) ∙ saves.notes.takes.answer

    by : StillDue s (table_of s (past_of s asked)).latest (others ++ asked) → WasSaved s middle key.serial
    by (inl still) =
        let now = note-saves s moment key.serial saves.id (others ++ asked) saves.notes.noted answer still.0 (serial ∙ sym still.1) in
        record {
          older = e ∷ others ++ asked;
          goes_on = goes_on-same front;
          latest = now.latest ∙ (still.1 ∙ sym serial);
          saved = now.saved;
        }
    by (inr was) = record {
      older = was.older;
      goes_on = goes_on-trans was.goes_on (record { more = e ∷ []; is = front });
      latest = was.latest ∙ sym serial;
      saved = was.saved;
    }

-- the law of a round in which a game was due
pub due-are-saved : DueAreSaved
due-are-saved alone s moment old new c d r t round key row save =
    let asked : List RoomEvent = AsksTodo moment ∷ round.asks.others ++ old in
    let due = asked-due s asked round.asks.todo key row round.asks.answer save in
    let all = round.settles in
    let saves : SavesGame alone s moment (key, row) asked all.middle c all.between r all.report =
    subst (λ (o : Option (Key × GameRow)). Saves alone s moment o asked all.middle c all.between r all.report) save all.saves in
    let was = saved-game alone s moment asked all.middle c all.between r all.report key row due.0 due.1 saves in
    record {
      older = was.older;
      goes_on = goes_on-trans was.goes_on
          (loads-on alone s moment round.asks.todo.load all.middle new all.between d all.report t all.loads);
      latest = was.latest;
      saved = was.saved;
    }

-- and of a clerk that is alone
pub alone-saves : AloneSaves
alone-saves s moment old new c d r t round key row save =
    let asked : List RoomEvent = AsksTodo moment ∷ round.asks.others ++ old in
    let due = asked-due s asked round.asks.todo key row round.asks.answer save in
    let all = round.settles in
    let saves : SavesGame true s moment (key, row) asked all.middle c all.between r all.report =
    subst (λ (o : Option (Key × GameRow)). Saves true s moment o asked all.middle c all.between r all.report) save all.saves in
    let takes = saves.notes.takes in
    let e : RoomEvent = note_event moment (note.Saved key.serial saves.id) in
    let front : all.middle ≡ e ∷ asked = takes.front ∙ ap (λ (l : List RoomEvent). e ∷ (l ++ asked)) (takes.quiet refl) in
    let answer : answer_to s (e ∷ asked) ≡ Added saves.notes.noted = ap (answer_to s) (sym front) ∙ takes.answer in
    let now = note-saves s moment key.serial saves.id asked saves.notes.noted answer due.0 due.1 in
    ap (λ (x : Report). x.saved) (saves.notes.report ∙ ap (λ (w : Noted). with_saved w r) now.noted)
