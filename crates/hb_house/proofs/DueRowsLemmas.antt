-- Is the row of a table's game the same each time that the game is due? Yes.
use Rattle.std.proofs.Common.{◌≡◌, ℕ, ◌+◌, Bool, true, false, List, [], ◌∷◌, ◌++◌, refl, ap, sym, ◌∙◌, arith, length, Some, None, Option}
use Rattle.std.specs.Prelude.{◌==◌, is_some, not, if◌then◌else◌}
use Rattle.std.proofs.lemmas.Bool.{and_parts, not-true}
use Rattle.hb_rules.specs.declared.acts.Act.{Act}
use Rattle.hb_rules.specs.declared.acts.Options.{Options}
use Rattle.hb_rules.specs.declared.setups.Setup.{Setup}
use Rattle.hb_rules.specs.Numbers.{state_number}
use Rattle.hb_rules.specs.Positions.{ended, score}
use Rattle.hb_rules.specs.Setup.{Position}
use Rattle.hb_keeper.specs.declared.rows.GameRow.{GameRow}
use Rattle.hb_keeper.specs.declared.rows.Key.{Key}
use Rattle.hb_club.specs.declared.clerks.Todo.{Todo}
use Rattle.hb_club.specs.declared.commands.Command.{Command}
use Rattle.hb_club.specs.declared.commands.Command.TheVariants as command
use Rattle.hb_club.specs.declared.commands.Entry.{Entry}
use Rattle.hb_club.specs.declared.items.Item.{Item}
use Rattle.hb_club.specs.declared.items.What.{What}
use Rattle.hb_club.specs.declared.items.What.TheVariants as what
use Rattle.hb_club.specs.ClerkCalls.{SetNote, is_due, note_by, note_in, note_lists, row_of, save_of, save_when, set_notes}
use Rattle.hb_club.specs.EndedReplays.{game_text}
use Rattle.hb_club.specs.OwnEntries.{OwnEntry}
use Rattle.hb_club.specs.NewItems.{stamped_item}
use Rattle.hb_club.specs.RoomEvents.{Added, AsksTodo, Call, Due, Happening, Notes, Outcome, Replied, RoomEvent, Site, event_moment, in_time}
use Rattle.hb_club.specs.Rooms.{answer_to, happening, past_of}
use Rattle.hb_club.specs.Seating.{players}
use Rattle.hb_club.specs.Table.{Table, has_ended}
use Rattle.hb_club.specs.TableFacts.{own_entries, record_of, table_of}
use Rattle.hb_club.specs.TableItems.{acts, has, is_saved, is_started, opened_count}
use Rattle.hb_club.specs.TableRefusals.{is_accepted, own_for}
use Rattle.hb_club.specs.TableReview.{game_end}
use Rattle.hb_club.specs.TimeFirst.{timed_table, timeout}
use Rattle.hb_club.proofs.RoomsLemmas.{items_of, opened_count-append, record_of-more}
use Rattle.hb_club.proofs.TableInvariantLemmas.{IsFresh}
use Rattle.hb_club.proofs.TimeFirstLemmas.{item_at}
use Rattle.hb_house.specs.KeptOnce.{DueAlike}
use Rattle.hb_house.proofs.CalmItemsLemmas.{calm-event, is_calm_if}
use Rattle.hb_house.proofs.DoneLemmas.{done-note}
use Rattle.hb_house.proofs.KeptRoundsLemmas.{todo-is}
use Rattle.hb_house.proofs.MayComeLemmas.{Adds, MayComeIf, event-adds}
use Rattle.hb_house.proofs.StoppedClockLemmas.{Before, past_of-before, time-over, unstarted-game}

-- the row of a game, by the players, the name of the variant, the acts and the notes
pub row_by : List (List ℕ) → List ℕ → List Act → List SetNote → Option Setup → Option GameRow
row_by names name past notes None = None
row_by names name past notes (Some g) = let game : Position = record { setup = g; past = past } in Some (record {
  names = names;
  text = game_text names name game (note_lists names (length g.deck.items) notes);
  how = state_number (ended game);
  score = score game;
})

-- the row of the latest table's game
abbrev pub row_at : Site → List Happening → Option GameRow
row_at s past = let t = table_of s past in row_by (players t.items) t.name (acts t.items) (set_notes t.latest past) t.game

row_by-same : (names others : List (List ℕ)) (name other : List ℕ) (past acts : List Act) (notes set : List SetNote) (g h : Option Setup)
    → names ≡ others → name ≡ other → past ≡ acts → notes ≡ set → g ≡ h → row_by names name past notes g ≡ row_by others other acts set h
row_by-same names others name other past acts notes set g h a b c d e = cc

-- a game is due

-- what is so of the latest table when its game is due
pub record IsDueAt (s : Site) (past : List Happening) (key : Key) (row : GameRow) : Type 0 where
  pub is : row_at s past ≡ Some row
  pub over : has_ended (table_of s past) ≡ true
  pub unsaved : has is_saved (table_of s past).items ≡ false
  pub serial : key.serial ≡ (table_of s past).latest

record SaveParts (t : Table) (past : List Happening) (g : Option Setup) (key : Key) (row : GameRow) : Type 0 where
  is : row_by (players t.items) t.name (acts t.items) (set_notes t.latest past) g ≡ Some row
  due : is_due t ≡ true
  serial : key.serial ≡ t.latest

save-parts : (s : Site) (t : Table) (past : List Happening) (g : Option Setup) (key : Key) (row : GameRow)
    → save_of s t past g ≡ Some (key, row) → SaveParts t past g key row
unfolding row_by
save-parts s t past None key row is = absurd cc
save-parts s t past (Some g) key row is = by (is_due t) refl is
  where
    by : (b : Bool) → is_due t ≡ b → save_when b s t past g ≡ Some (key, row) → SaveParts t past (Some g) key row
    by false undue none = absurd cc
    by true due one =
        let own : Key = record { run = s.run; room = s.room; serial = t.latest } in
        let whole : ◌≡◌ {A = Option (Key × GameRow)} (Some (own, row_of t past g)) (Some (key, row)) = one in
        let same : ◌≡◌ {A = Key × GameRow} (own, row_of t past g) (key, row) = cc in
        record {
          is = ap (λ (x : Key × GameRow). Some x.1) same;
          due = due;
          serial = sym (ap (λ (x : Key × GameRow). x.0.serial) same);
        }

over-same : (g h : Option Setup) (items l : List Item) → g ≡ h → acts items ≡ acts l
    → is_some (game_end g items) ≡ is_some (game_end h l)
over-same g h items l same_game same_acts = by g h same_game
  where
    by : (g h : Option Setup) → g ≡ h → is_some (game_end g items) ≡ is_some (game_end h l)
    by None None is = refl
    by None (Some h) is = absurd cc
    by (Some g) None is = absurd cc
    by (Some g) (Some h) is =
        let one : g ≡ h = cc in
        let end : Setup → List Act → Bool = λ k past. is_some (ended (record { setup = k; past = past })) in
        ap (λ k. end k (acts items)) one ∙ ap (end h) same_acts

asked-due : (s : Site) (moment : ℕ) (events : List RoomEvent) (todo : Todo) (key : Key) (row : GameRow)
    → answer_to s (AsksTodo moment ∷ events) ≡ Due todo → todo.save ≡ Some (key, row)
    → IsDueAt s (past_of s (AsksTodo moment ∷ events)) key row
asked-due s moment events todo key row is save =
    let past : List Happening = past_of s events in
    let h : Happening = happening s past (AsksTodo moment) in
    let t : Table = timed_table s past (in_time moment) in
    let adds : Adds s past h = record { moment = in_time moment; stamp = 0; item = None; added = refl; may = tt } in
    let kept = calm-event s past h adds refl in
    let parts = save-parts s t past t.game key row (ap (λ (x : Todo). x.save) (todo-is s moment events todo is) ∙ save) in
    let due : (has_ended t ≡ true) × (not (has is_saved t.items) ≡ true) = and_parts _ _ parts.due in
    let notes : set_notes (table_of s (h ∷ past)).latest (h ∷ past) ≡ set_notes t.latest past =
    ap (λ n. set_notes n past) kept.latest in
    record {
      is = row_by-same _ (players t.items) _ t.name _ (acts t.items) _ (set_notes t.latest past) _ t.game (ap players kept.items)
          (ap (λ (o : List ℕ × Options). o.0) kept.opening) (ap acts kept.items) notes kept.game ∙ parts.is;
      over = over-same _ t.game _ t.items kept.game (ap acts kept.items) ∙ due.0;
      unsaved = ap (has is_saved) kept.items ∙ not-true (has is_saved t.items) due.1;
      serial = parts.serial ∙ sym kept.latest;
    }

-- whenever a room answers that a game is due, it is due at its latest table
pub answered-due : (s : Site) (events : List RoomEvent) (todo : Todo) (key : Key) (row : GameRow) → answer_to s events ≡ Due todo
    → todo.save ≡ Some (key, row) → IsDueAt s (past_of s events) key row
unfolding answer_to
answered-due s [] todo key row is save = let bad : ◌≡◌ {A = Outcome} (Replied _) (Due todo) = is in absurd cc
answered-due s (Call e ∷ events) todo key row is save = let bad : ◌≡◌ {A = Outcome} (Replied _) (Due todo) = is in absurd cc
answered-due s (AsksTodo moment ∷ events) todo key row is save = asked-due s moment events todo key row is save
answered-due s (Notes moment n ∷ events) todo key row is save = let bad : ◌≡◌ {A = Outcome} (Added _) (Due todo) = is in absurd cc

-- an event comes when the game has ended

-- the row stays, and the game is over still
pub record SameRow (s : Site) (past later : List Happening) : Type 0 where
  pub row : row_at s later ≡ row_at s past
  pub over : has_ended (table_of s later) ≡ true

note_by-over : (t : Table) (own : List OwnEntry) (e : Entry) (c : Command) → is_accepted t own (record e { command = c }) ≡ true
    → has_ended t ≡ true → note_by e.member c ≡ None
note_by-over t own e (command.Note order text) taken over =
    let note : Entry = record e { command = command.Note order text } in
    let fresh : IsFresh t own note = and_parts _ _ taken in
    let runs : has_ended t ≡ false = done-note t (own_for t own e) note fresh.0 fresh.1 in
    absurd cc
note_by-over t own e _ taken over = refl

none-either : (b : Bool) (o : Option SetNote) → o ≡ None → (if b then o else None) ≡ None
none-either true o none = none
none-either false o none = refl

-- no note is set then
note_in-over : (s : Site) (past : List Happening) (e : RoomEvent) (n : ℕ) → has_ended (timed_table s past (event_moment e)) ≡ true
    → note_in n (happening s past e) ≡ None
note_in-over s past (AsksTodo moment) n over = refl
note_in-over s past (Notes moment notice) n over = refl
note_in-over s past (Call e) n over = by (is_accepted t mine e) refl
  where
    t : Table
    t = timed_table s past (event_moment (Call e))

    mine : List OwnEntry
    mine = own_entries t.latest e.member past

    by : (b : Bool) → is_accepted t mine e ≡ b → note_in n (happening s past (Call e)) ≡ None
    by true taken = rw taken (none-either (e.table == n) (note_by e.member e.command) (note_by-over t mine e e.command taken over))
    by false taken = rw taken refl

set_notes-more : (n : ℕ) (h : Happening) (past : List Happening) → note_in n h ≡ None → set_notes n (h ∷ past) ≡ set_notes n past
set_notes-more n h past none = rw none refl

-- if there is a game, it was started
pub game-started : (s : Site) (past : List Happening) → is_some (table_of s past).game ≡ true → is_started (table_of s past).items ≡ true
game-started s past some = by (is_started (table_of s past).items) refl
  where
    by : (b : Bool) → is_started (table_of s past).items ≡ b → b ≡ true
    by true is = refl
    by false is =
        let none : (table_of s past).game ≡ None = unstarted-game s _ _ _ (is_started (table_of s past).items) is in
        let empty : is_some (table_of s past).game ≡ false = ap (λ (g : Option Setup). is_some g) none in
        absurd cc

-- what has ended is some game
pub some-game : (g : Option Setup) (items : List Item) → is_some (game_end g items) ≡ true → is_some g ≡ true
some-game None items over = absurd cc
some-game (Some g) items over = refl

-- so it was if it has ended
pub started-over : (s : Site) (past : List Happening) → has_ended (table_of s past) ≡ true → is_started (table_of s past).items ≡ true
started-over s past over = game-started s past (some-game (table_of s past).game (table_of s past).items over)

-- which items come then
record ComesOver (s : Site) (past : List Happening) (h : Happening) (adds : Adds s past h) : Type 0 where
  calm : is_calm_if adds.item ≡ true
  acts : (items : List Item) → acts (stamped_item adds.stamp adds.item ++ items) ≡ acts items

comes-over : (s : Site) (past : List Happening) (h : Happening) (adds : Adds s past h)
    → has_ended (table_of s past) ≡ true → timeout (table_of s past) (table_of s past).game adds.moment ≡ []
    → (table_of s (h ∷ past)).latest ≡ (table_of s past).latest → ComesOver s past h adds
comes-over s past h adds over no_time same = by adds.item refl adds.may
  where
    t : Table
    t = table_of s past

    u : Table
    u = timed_table s past adds.moment

    items : u.items ≡ t.items
    items = ap (λ (l : List Item). l ++ t.items) no_time

    by : (o : Option What) → adds.item ≡ o → MayComeIf u.game u.items o → ComesOver s past h adds
    by None is may = record { calm = ap is_calm_if is; acts = λ l. ap (λ (o : Option What). acts (stamped_item adds.stamp o ++ l)) is }
    by (Some (what.Opened host)) is may =
        let added : h.added ≡ item_at adds.stamp (what.Opened host) ∷ [] =
        adds.added ∙ (ap (λ (o : Option What). stamped_item adds.stamp o ++ timeout t t.game adds.moment) is
        ∙ ap (λ (l : List Item). item_at adds.stamp (what.Opened host) ∷ l) no_time) in
        let one : opened_count h.added ≡ 1 = ap opened_count added in
        let more : opened_count (h.added ++ record_of past) ≡ opened_count h.added + opened_count (record_of past) =
        opened_count-append h.added (record_of past) in
        absurd (omega (arith, one, more, same))
    by (Some (what.Started names)) is may =
        let started : is_started u.items ≡ true = ap is_started items ∙ started-over s past over in
        let unstarted : is_started u.items ≡ false = may.1 in
        absurd cc
    by (Some (what.Acted act)) is may =
        let ended : is_some (game_end t.game u.items) ≡ true = ap (λ (l : List Item). is_some (game_end t.game l)) items ∙ over in
        let runs : is_some (game_end t.game u.items) ≡ false = may.1 in
        absurd cc
    by (Some w) is may = record { calm = ap is_calm_if is; acts = λ l. ap (λ (o : Option What). acts (stamped_item adds.stamp o ++ l)) is }

-- so the row stays at an event that opens no table
event-same : (s : Site) (events : List RoomEvent) (e : RoomEvent) → has_ended (table_of s (past_of s events)) ≡ true
    → (table_of s (past_of s (e ∷ events))).latest ≡ (table_of s (past_of s events)).latest
    → SameRow s (past_of s events) (past_of s (e ∷ events))
event-same s events e over same =
    let past : List Happening = past_of s events in
    let h : Happening = happening s past e in
    let t : Table = table_of s past in
    let adds : Adds s past h = event-adds s past e in
    let before : Before s past = past_of-before s events in
    let no_time : timeout t t.game adds.moment ≡ [] = time-over t t.game adds.moment before.stopped over in
    let comes = comes-over s past h adds over no_time same in
    let kept = calm-event s past h adds comes.calm in
    let acts_stay : acts (table_of s (h ∷ past)).items ≡ acts t.items =
    ap acts kept.items ∙ comes.acts (timed_table s past adds.moment).items ∙ ap (λ (l : List Item). acts (l ++ t.items)) no_time in
    let quiet : timeout t t.game (event_moment e) ≡ [] = time-over t t.game (event_moment e) before.stopped over in
    let timed : has_ended (timed_table s past (event_moment e)) ≡ true =
    ap (λ (l : List Item). is_some (game_end t.game (l ++ t.items))) quiet ∙ over in
    let notes : set_notes (table_of s (h ∷ past)).latest (h ∷ past) ≡ set_notes t.latest past =
    ap (λ n. set_notes n (h ∷ past)) kept.latest ∙ set_notes-more t.latest h past (note_in-over s past e t.latest timed) in
    record {
      row = row_by-same _ (players t.items) _ t.name _ (acts t.items) _ (set_notes t.latest past) _ t.game kept.players
          (ap (λ (o : List ℕ × Options). o.0) kept.opening) acts_stay notes kept.game;
      over = over-same _ t.game _ t.items kept.game acts_stay ∙ over;
    }

-- and at many
pub row-same : (s : Site) (more older : List RoomEvent) → has_ended (table_of s (past_of s older)) ≡ true
    → (table_of s (past_of s (more ++ older))).latest ≡ (table_of s (past_of s older)).latest
    → SameRow s (past_of s older) (past_of s (more ++ older))
row-same s [] older over same = record { row = refl; over = over }
row-same s (e ∷ more) older over same =
    let past : List Happening = past_of s (more ++ older) in
    let h : Happening = happening s past e in
    let first : opened_count (record_of past) ≡ opened_count (items_of s more older) + opened_count (record_of (past_of s older)) =
    ap opened_count (record_of-more s more older) ∙ opened_count-append (items_of s more older) (record_of (past_of s older)) in
    let next : opened_count (h.added ++ record_of past) ≡ opened_count h.added + opened_count (record_of past) =
    opened_count-append h.added (record_of past) in
    let between : (table_of s past).latest ≡ (table_of s (past_of s older)).latest = omega (arith, first, next, same) in
    let there : (table_of s (h ∷ past)).latest ≡ (table_of s past).latest = same ∙ sym between in
    let before = row-same s more older over between in
    let now = event-same s (more ++ older) e before.over there in
    record { row = now.row ∙ before.row; over = now.over }

-- so it is whenever the game is due
pub due-alike : DueAlike
due-alike s more older todo later key row again is now save saves =
    let first = answered-due s older todo key row is save in
    let last = answered-due s (more ++ older) later key again now saves in
    let same = row-same s more older first.over (sym last.serial ∙ first.serial) in
    let both : ◌≡◌ {A = Option GameRow} (Some again) (Some row) = sym last.is ∙ same.row ∙ first.is in cc
