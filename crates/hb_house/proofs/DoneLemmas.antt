-- What is so of a table at which a command is done that opens, acts, notes or closes?
use Rattle.std.proofs.Common.{◌≡◌, ℕ, Bool, true, false, List, [], ◌++◌, refl, drop, take, Some, None, Option}
use Rattle.std.specs.Prelude.{◌&&◌, ◌||◌, ◌==◌, is_none, is_some, nat_lt, not}
use Rattle.std.specs.List.{list_all}
use Rattle.std.proofs.lemmas.Bool.{or_parts}
use Rattle.hb_rules.specs.declared.acts.Action.{Action}
use Rattle.hb_rules.specs.declared.acts.Rule.TheVariants as rules
use Rattle.hb_rules.specs.declared.setups.Setup.{Setup}
use Rattle.hb_rules.proofs.Rules.{may_runs}
use Rattle.hb_club.specs.declared.commands.Entry.{Entry}
use Rattle.hb_club.specs.declared.items.Item.{Item}
use Rattle.hb_club.specs.declared.replies.Refusal.TheVariants as refusal
use Rattle.hb_club.specs.CommandKinds.{asked_action, is_close, is_note, is_open, is_review_step}
use Rattle.hb_club.specs.OwnEntries.{OwnEntry, is_done, kept_entry}
use Rattle.hb_club.specs.Table.{Table, has_ended, seat_of}
use Rattle.hb_club.specs.TableItems.{acts, has, is_saved, is_standing, is_started}
use Rattle.hb_club.specs.TableRefusals.{act_rule, end_rows, game_rows, opens_next, own_for, reply_by, seat_rows, serial_rows, start_rows}
use Rattle.hb_club.specs.TableReview.{game_end}
use Rattle.hb_club.proofs.TableInvariantLemmas.{IsFresh}
use Rattle.hb_club.proofs.TableRefusalsLemmas.{all_seat_rows-refuse, done-by-rules, done-here, kept_reply-none, not-true, one-more, passed-row, refuse-append, refuses, refuses-for_some, refuses-when, rows_before, rows_before-refuse, serial_rows-refuse, start_rows-refuse}

-- the rows up to those of the game refuse
seats-refuse : (t : Table) (own : List OwnEntry) (e : Entry) → is_none (kept_entry own e.number) ≡ true
    → list_all refuses (serial_rows t own e ++ start_rows t e ++ seat_rows t e) ≡ true
seats-refuse t own e fresh =
    refuse-append (serial_rows t own e ++ start_rows t e) (seat_rows t e)
    (refuse-append (serial_rows t own e) (start_rows t e) (serial_rows-refuse t own e fresh) (start_rows-refuse t e))
    (all_seat_rows-refuse t e)

rule-runs : (g : Option Setup) (items : List Item) (seat : ℕ) (a : Action) → act_rule g (acts items) seat (Some a) ≡ None
    → is_some (game_end g items) ≡ false
rule-runs None items seat a none = refl
rule-runs (Some g) items seat a none = may_runs g (acts items) seat a none

-- who acts does so while the game runs
pub done-runs : (t : Table) (own : List OwnEntry) (e : Entry) (a : Action) → asked_action e.command ≡ Some a
    → is_done (reply_by t own e) ≡ true → is_none (kept_entry own e.number) ≡ true → has_ended t ≡ false
done-runs t own e a asks done fresh =
    let none : act_rule t.game (acts t.items) (seat_of t e.member) (Some a) ≡ None = rw asks at (done-by-rules t own e done fresh) in
    rule-runs t.game t.items (seat_of t e.member) a none

-- and who notes
pub done-note : (t : Table) (own : List OwnEntry) (e : Entry) → is_done (reply_by t own e) ≡ true
    → is_none (kept_entry own e.number) ≡ true → (is_note e.command && has_ended t) ≡ false
done-note t own e done fresh =
    passed-row (rows_before t own e ++ take 4 (game_rows t e)) (is_note e.command && has_ended t) (refusal.Rule rules.GameOver)
    (drop 5 (game_rows t e))
    (refuse-append (rows_before t own e) (take 4 (game_rows t e)) (rows_before-refuse t own e fresh)
    (one-more _ (drop 1 (take 4 (game_rows t e))) (refuses-when _ _)
    (one-more _ (drop 2 (take 4 (game_rows t e))) (refuses-when _ _)
    (one-more _ (drop 3 (take 4 (game_rows t e))) (refuses-when _ _)
    (one-more _ [] (refuses-for_some refusal.Rule _) refl))))) done

-- who closes a table with a game does so when the game has ended
pub done-finished : (t : Table) (own : List OwnEntry) (e : Entry) → is_done (reply_by t own e) ≡ true
    → is_none (kept_entry own e.number) ≡ true
    → ((is_review_step e.command && not (has_ended t) && is_none t.loaded)
    || (is_close e.command && is_started t.items && not (has_ended t))) ≡ false
done-finished t own e done fresh =
    passed-row (serial_rows t own e ++ start_rows t e ++ seat_rows t e)
    ((is_review_step e.command && not (has_ended t) && is_none t.loaded)
    || (is_close e.command && is_started t.items && not (has_ended t)))
    refusal.NotFinished (drop 1 (end_rows t own e) ++ game_rows t e) (seats-refuse t own e fresh) done

-- and when it is kept
pub done-saved : (t : Table) (own : List OwnEntry) (e : Entry) → is_done (reply_by t own e) ≡ true
    → is_none (kept_entry own e.number) ≡ true
    → (is_close e.command && has_ended t && not (has is_saved t.items)) ≡ false
done-saved t own e done fresh =
    passed-row (serial_rows t own e ++ start_rows t e ++ seat_rows t e ++ take 1 (end_rows t own e))
    (is_close e.command && has_ended t && not (has is_saved t.items)) refusal.Unsaved (drop 2 (end_rows t own e) ++ game_rows t e)
    (refuse-append (serial_rows t own e ++ start_rows t e ++ seat_rows t e) (take 1 (end_rows t own e)) (seats-refuse t own e fresh)
    (one-more _ [] (refuses-when _ _) refl)) done

-- what is done is done at a table that stands
pub done-standing : (t : Table) (own : List OwnEntry) (e : Entry) → is_open e.command ≡ false → IsFresh t own e
    → is_standing t.items ≡ true
done-standing t own e other fresh =
    let mine : List OwnEntry = own_for t own e in
    let here : (e.table == t.latest) ≡ true = done-here t own e other fresh.0 in
    let closed : Bool = e.table == t.latest && not (is_standing t.items) in
    let unopened : Bool = nat_lt t.latest e.table && not (opens_next t e) in
    let row : (closed || unopened) ≡ false = passed-row (take 3 (serial_rows t mine e)) (closed || unopened) refusal.NoTable
    (drop 4 (serial_rows t mine e) ++ start_rows t e ++ seat_rows t e ++ end_rows t mine e ++ game_rows t e)
    (one-more _ (drop 1 (take 3 (serial_rows t mine e))) (refuses-when _ _)
    (one-more _ (drop 2 (take 3 (serial_rows t mine e))) (kept_reply-none (kept_entry mine e.number) e.command fresh.1)
    (one-more _ [] (refuses-when _ _) refl))) fresh.0 in
    let parts : (closed ≡ false) × (unopened ≡ false) = or_parts closed unopened row in
    not-true (is_standing t.items) (rw here at parts.0)

-- except that the next table is opened, if none stands
pub done-open : (t : Table) (own : List OwnEntry) (e : Entry) → is_open e.command ≡ true → IsFresh t own e → is_standing t.items ≡ false
done-open t own e opens fresh =
    let mine : List OwnEntry = own_for t own e in
    let stands : Bool = e.table == t.latest || is_standing t.items in
    let row : (is_open e.command && stands) ≡ false = passed-row (take 4 (serial_rows t mine e)) (is_open e.command && stands)
    refusal.TableOpen (start_rows t e ++ seat_rows t e ++ end_rows t mine e ++ game_rows t e)
    (one-more _ (drop 1 (take 4 (serial_rows t mine e))) (refuses-when _ _)
    (one-more _ (drop 2 (take 4 (serial_rows t mine e))) (kept_reply-none (kept_entry mine e.number) e.command fresh.1)
    (one-more _ (drop 3 (take 4 (serial_rows t mine e))) (refuses-when _ _)
    (one-more _ [] (refuses-when _ _) refl)))) fresh.0 in
    let none : stands ≡ false = rw opens at row in
    (or_parts (e.table == t.latest) (is_standing t.items) none).1
