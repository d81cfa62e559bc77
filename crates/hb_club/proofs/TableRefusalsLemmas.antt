-- What does it say of a table that a command is done there? That no row refuses it.
use Rattle.std.proofs.Common.{◌≡◌, ℕ, ◌≤◌, Bool, true, false, List, [], ◌∷◌, ◌++◌, refl, sym, ◌∙◌, arith, length, drop, take, Some, None, Option}
use Rattle.std.specs.Prelude.{◌&&◌, ◌||◌, ◌==◌, not, nat_lt, is_some, is_none, unwrap_or, if◌then◌else◌}
use Rattle.std.specs.List.{list_all}
use Rattle.std.proofs.lemmas.Bool.{or_parts}
use Rattle.hb_rules.specs.declared.limits.TheConstants.{FEWEST_PLAYERS, MOST_PLAYERS}
use Rattle.hb_rules.specs.declared.acts.Rule.TheVariants as rules
use Rattle.std.proofs.lemmas.List.Folds.{list_all-append}
use Rattle.hb_club.specs.declared.commands.Command.{Command}
use Rattle.hb_club.specs.declared.commands.Entry.{Entry}
use Rattle.hb_club.specs.declared.replies.Refusal.{Refusal}
use Rattle.hb_club.specs.declared.replies.Refusal.TheVariants as refusal
use Rattle.hb_club.specs.declared.replies.Reply.{Reply}
use Rattle.hb_club.specs.declared.replies.Reply.TheVariants.{Done, Refused}
use Rattle.hb_club.specs.CommandKinds.{asked_action, asked_shadow, is_act, is_close, is_for_beginning, is_for_game, is_for_gathering, is_for_host, is_open, is_pause, is_resume, is_review_step, is_sit, is_start}
use Rattle.hb_club.specs.EndedReplays.{Finished}
use Rattle.hb_club.specs.OwnEntries.{OwnEntry, is_done, kept_entry, pending_id}
use Rattle.hb_club.specs.Seating.{seated_names}
use Rattle.hb_club.specs.Table.{Table, has_ended, is_paused, player_count, seat_of}
use Rattle.hb_club.specs.TableItems.{acts, is_host, is_standing, is_started, steps}
use Rattle.hb_club.specs.TableReview.{reviewed_game, step_refusal}
use Rattle.hb_club.specs.TableRefusals.{act_rule, end_rows, first_reply, for_some, game_rows, is_beyond, kept_reply, opens_next, own_for, reply_by, seat_rows, serial_rows, start_rows, when}

-- a row that refuses if it holds
abbrev pub refuses : Option Reply → Bool
refuses None = true
refuses (Some Done) = false
refuses (Some (Refused why)) = true

-- so does each row that refuses if something is so
pub refuses-when : (b : Bool) (why : Refusal) → refuses (when b why) ≡ true
refuses-when true why = refl
refuses-when false why = refl

-- and rows of such rows
pub one-more : (row : Option Reply) (rows : List (Option Reply)) → refuses row ≡ true → list_all refuses rows ≡ true
    → list_all refuses (row ∷ rows) ≡ true
one-more row rows h rest = rw (h, rest) refl

-- if the reply is Done, no row holds that stands behind rows that refuse
pub passed-row : (rows : List (Option Reply)) (b : Bool) (why : Refusal) (rest : List (Option Reply)) → list_all refuses rows ≡ true
    → is_done (unwrap_or (first_reply (rows ++ when b why ∷ rest)) Done) ≡ true → b ≡ false
passed-row [] true why rest all done = cc
passed-row [] false why rest all done = refl
passed-row (None ∷ rows) b why rest all done = passed-row rows b why rest all done
passed-row (Some Done ∷ rows) b why rest all done = cc
passed-row (Some (Refused other) ∷ rows) b why rest all done = cc

-- where nothing is kept, no kept reply is Done
pub kept_reply-none : (o : Option OwnEntry) (c : Command) → is_none o ≡ true → refuses (kept_reply o c) ≡ true
kept_reply-none None c h = refl
kept_reply-none (Some o) c h = cc

-- the rows up to `TableOpen` refuse, if nothing is kept for the number
pub serial_rows-refuse : (t : Table) (own : List OwnEntry) (e : Entry) → is_none (kept_entry own e.number) ≡ true
    → list_all refuses (serial_rows t own e) ≡ true
serial_rows-refuse t own e fresh =
    one-more _ (drop 1 (serial_rows t own e)) (refuses-when _ _)
    (one-more _ (drop 2 (serial_rows t own e)) (kept_reply-none (kept_entry own e.number) e.command fresh)
    (one-more _ (drop 3 (serial_rows t own e)) (refuses-when _ _)
    (one-more _ (drop 4 (serial_rows t own e)) (refuses-when _ _)
    (one-more _ [] (refuses-when _ _) refl))))

-- and so do the rows of the start
pub start_rows-refuse : (t : Table) (e : Entry) → list_all refuses (start_rows t e) ≡ true
start_rows-refuse t e =
    one-more _ (drop 1 (start_rows t e)) (refuses-when _ _)
    (one-more _ (drop 2 (start_rows t e)) (refuses-when _ _)
    (one-more _ [] (refuses-when _ _) refl))

seat_rows-refuse : (t : Table) (e : Entry) → list_all refuses (take 7 (seat_rows t e)) ≡ true
seat_rows-refuse t e =
    one-more _ (drop 1 (take 7 (seat_rows t e))) (refuses-when _ _)
    (one-more _ (drop 2 (take 7 (seat_rows t e))) (refuses-when _ _)
    (one-more _ (drop 3 (take 7 (seat_rows t e))) (refuses-when _ _)
    (one-more _ (drop 4 (take 7 (seat_rows t e))) (refuses-when _ _)
    (one-more _ (drop 5 (take 7 (seat_rows t e))) (refuses-when _ _)
    (one-more _ (drop 6 (take 7 (seat_rows t e))) (refuses-when _ _)
    (one-more _ [] (refuses-when _ _) refl))))))

-- two lists of rows that refuse are one
pub refuse-append : (xs ys : List (Option Reply)) → list_all refuses xs ≡ true → list_all refuses ys ≡ true
    → list_all refuses (xs ++ ys) ≡ true
refuse-append xs ys a b = list_all-append refuses xs ys ∙ rw (a, b) refl

-- who sits, rises, starts or loads does so where no game was started or loaded
pub done-no-game : (t : Table) (own : List OwnEntry) (e : Entry) → is_for_gathering e.command ≡ true
    → is_done (reply_by t own e) ≡ true → is_none (kept_entry own e.number) ≡ true
    → (is_started t.items ≡ false) × (is_some t.loaded ≡ false)
done-no-game t own e gathers done fresh =
    let host : Option Reply = when (is_for_host e.command && not (is_host t.items e.member)) refusal.NotHost in
    let free : (is_for_gathering e.command && (is_started t.items || is_some t.loaded)) ≡ false =
    passed-row (serial_rows t own e ++ host ∷ []) (is_for_gathering e.command && (is_started t.items || is_some t.loaded))
    refusal.Started (drop 2 (start_rows t e) ++ seat_rows t e ++ end_rows t own e ++ game_rows t e)
    (refuse-append (serial_rows t own e) (host ∷ []) (serial_rows-refuse t own e fresh) (one-more host [] (refuses-when _ _) refl))
    done in
    or_parts (is_started t.items) (is_some t.loaded) (rw gathers at free)

-- so before the start
pub done-not-started : (t : Table) (own : List OwnEntry) (e : Entry) → is_for_gathering e.command ≡ true
    → is_done (reply_by t own e) ≡ true → is_none (kept_entry own e.number) ≡ true → is_started t.items ≡ false
done-not-started t own e gathers done fresh = (done-no-game t own e gathers done fresh).0

-- a row refuses that does so for a cause
pub refuses-for_some : {A : Type 0} (why : A → Refusal) (cause : Option A) → refuses (for_some why cause) ≡ true
refuses-for_some why None = refl
refuses-for_some why (Some x) = refl

-- what is not false is true
pub not-true : (b : Bool) → not b ≡ false → b ≡ true
not-true true h = refl
not-true false h = cc

-- who plays, or watches as the shadow of a seat, does so behind the start
pub done-started : (t : Table) (own : List OwnEntry) (e : Entry) → (is_for_game e.command || is_some (asked_shadow e.command)) ≡ true
    → is_done (reply_by t own e) ≡ true → is_none (kept_entry own e.number) ≡ true → is_started t.items ≡ true
done-started t own e wants done fresh =
    let unstarted : ((is_for_game e.command || is_some (asked_shadow e.command)) && not (is_started t.items)) ≡ false =
    passed-row (serial_rows t own e ++ take 2 (start_rows t e))
    ((is_for_game e.command || is_some (asked_shadow e.command)) && not (is_started t.items)) refusal.NotStarted
    (seat_rows t e ++ end_rows t own e ++ game_rows t e)
    (refuse-append (serial_rows t own e) (take 2 (start_rows t e)) (serial_rows-refuse t own e fresh)
    (one-more _ (drop 1 (take 2 (start_rows t e))) (refuses-when _ _) (one-more _ [] (refuses-when _ _) refl))) done in
    not-true (is_started t.items) (rw wants at unstarted)

-- who sits does so where fewer than six are seated
pub done-not-full : (t : Table) (own : List OwnEntry) (e : Entry) → is_sit e.command ≡ true
    → is_done (reply_by t own e) ≡ true → is_none (kept_entry own e.number) ≡ true
    → (length (seated_names t.items) == MOST_PLAYERS) ≡ false
done-not-full t own e sits done fresh =
    let full : (is_sit e.command && length (seated_names t.items) == MOST_PLAYERS) ≡ false =
    passed-row (serial_rows t own e ++ start_rows t e) (is_sit e.command && length (seated_names t.items) == MOST_PLAYERS) refusal.Full
    (drop 1 (seat_rows t e) ++ end_rows t own e ++ game_rows t e)
    (refuse-append (serial_rows t own e) (start_rows t e) (serial_rows-refuse t own e fresh) (start_rows-refuse t e)) done in
    rw sits at full

-- the rows of the end refuse
pub end_rows-refuse : (t : Table) (own : List OwnEntry) (e : Entry) → list_all refuses (end_rows t own e) ≡ true
end_rows-refuse t own e =
    one-more _ (drop 1 (end_rows t own e)) (refuses-when _ _)
    (one-more _ (drop 2 (end_rows t own e)) (refuses-when _ _)
    (one-more _ [] (refuses-when _ _) refl))

-- and so do those of the seats
pub all_seat_rows-refuse : (t : Table) (e : Entry) → list_all refuses (seat_rows t e) ≡ true
all_seat_rows-refuse t e =
    refuse-append (take 7 (seat_rows t e)) (drop 7 (seat_rows t e)) (seat_rows-refuse t e) (one-more _ [] (refuses-when _ _) refl)

game_rows-refuse : (t : Table) (e : Entry) → list_all refuses (take 5 (game_rows t e)) ≡ true
game_rows-refuse t e =
    one-more _ (drop 1 (take 5 (game_rows t e))) (refuses-when _ _)
    (one-more _ (drop 2 (take 5 (game_rows t e))) (refuses-when _ _)
    (one-more _ (drop 3 (take 5 (game_rows t e))) (refuses-when _ _)
    (one-more _ (drop 4 (take 5 (game_rows t e))) (refuses-for_some refusal.Rule _)
    (one-more _ [] (refuses-when _ _) refl))))

-- who watches as a shadow does so as that of a player
pub done-shadow : (t : Table) (own : List OwnEntry) (e : Entry) → is_done (reply_by t own e) ≡ true
    → is_none (kept_entry own e.number) ≡ true → is_beyond (asked_shadow e.command) (player_count t.game) ≡ false
done-shadow t own e done fresh =
    passed-row (serial_rows t own e ++ start_rows t e ++ seat_rows t e ++ end_rows t own e ++ take 5 (game_rows t e))
    (is_beyond (asked_shadow e.command) (player_count t.game)) (refusal.Rule rules.NoSuchSeat) (drop 6 (game_rows t e))
    (refuse-append (serial_rows t own e ++ start_rows t e ++ seat_rows t e ++ end_rows t own e) (take 5 (game_rows t e))
    (refuse-append (serial_rows t own e ++ start_rows t e ++ seat_rows t e) (end_rows t own e)
    (refuse-append (serial_rows t own e ++ start_rows t e) (seat_rows t e)
    (refuse-append (serial_rows t own e) (start_rows t e) (serial_rows-refuse t own e fresh) (start_rows-refuse t e))
    (all_seat_rows-refuse t e)) (end_rows-refuse t own e)) (game_rows-refuse t e)) done

own_for-above : (t : Table) (own : List OwnEntry) (e : Entry) → nat_lt t.latest e.table ≡ true → own_for t own e ≡ []
own_for-above t own e above = pick (e.table == t.latest) refl
  where
    pick : (b : Bool) → (e.table == t.latest) ≡ b → (if b then own else []) ≡ []
    pick true same = absurd (grind (arith, above, same))
    pick false other = refl

-- at a table that is not opened yet, nothing is done but that it is opened
pub done-above : (t : Table) (own : List OwnEntry) (e : Entry) → nat_lt t.latest e.table ≡ true → is_open e.command ≡ false
    → is_done (reply_by t (own_for t own e) e) ≡ false
done-above t own e above other = pick (is_done (reply_by t (own_for t own e) e)) refl
  where
    mine : List OwnEntry
    mine = own_for t own e

    closed : Bool
    closed = e.table == t.latest && not (is_standing t.items)

    unopened : Bool
    unopened = nat_lt t.latest e.table && not (opens_next t e)

    fresh : is_none (kept_entry (own_for t own e) e.number) ≡ true
    fresh = rw (own_for-above t own e above) refl

    pick : (b : Bool) → is_done (reply_by t (own_for t own e) e) ≡ b → b ≡ false
    pick false h = refl
    pick true done =
        let row : (closed || unopened) ≡ false = passed-row (take 3 (serial_rows t mine e)) (closed || unopened) refusal.NoTable
        (drop 4 (serial_rows t mine e) ++ start_rows t e ++ seat_rows t e ++ end_rows t mine e ++ game_rows t e)
        (one-more _ (drop 1 (take 3 (serial_rows t mine e))) (refuses-when _ _)
        (one-more _ (drop 2 (take 3 (serial_rows t mine e))) (kept_reply-none (kept_entry mine e.number) e.command fresh)
        (one-more _ [] (refuses-when _ _) refl))) done in
        let parts : (closed ≡ false) × (unopened ≡ false) = or_parts closed unopened row in
        let never : true ≡ false = rw (above, other) at parts.1 in cc

-- what only the host may, the host does
pub done-host : (t : Table) (own : List OwnEntry) (e : Entry) → is_for_host e.command ≡ true
    → is_done (reply_by t own e) ≡ true → is_none (kept_entry own e.number) ≡ true → is_host t.items e.member ≡ true
done-host t own e hosts done fresh =
    let other : (is_for_host e.command && not (is_host t.items e.member)) ≡ false =
    passed-row (serial_rows t own e) (is_for_host e.command && not (is_host t.items e.member)) refusal.NotHost
    (drop 1 (start_rows t e) ++ seat_rows t e ++ end_rows t own e ++ game_rows t e) (serial_rows-refuse t own e fresh) done in
    not-true (is_host t.items e.member) (rw hosts at other)

-- who starts or loads does so where no load is pending
pub done-not-loading : (t : Table) (own : List OwnEntry) (e : Entry) → is_for_beginning e.command ≡ true
    → is_done (reply_by t own e) ≡ true → is_none (kept_entry own e.number) ≡ true → is_some (pending_id own t.items) ≡ false
done-not-loading t own e begins done fresh =
    let waits : (is_for_beginning e.command && is_some (pending_id own t.items)) ≡ false =
    passed-row (serial_rows t own e ++ start_rows t e ++ seat_rows t e ++ take 2 (end_rows t own e))
    (is_for_beginning e.command && is_some (pending_id own t.items)) refusal.Loading (game_rows t e)
    (refuse-append (serial_rows t own e ++ start_rows t e ++ seat_rows t e) (take 2 (end_rows t own e))
    (refuse-append (serial_rows t own e ++ start_rows t e) (seat_rows t e)
    (refuse-append (serial_rows t own e) (start_rows t e) (serial_rows-refuse t own e fresh) (start_rows-refuse t e))
    (all_seat_rows-refuse t e))
    (one-more _ (drop 1 (take 2 (end_rows t own e))) (refuses-when _ _) (one-more _ [] (refuses-when _ _) refl))) done in
    rw begins at waits

same-table : (a b : ℕ) → nat_lt a b ≡ false → nat_lt b a ≡ false → (a == b) ≡ true
same-table a b one two = grind arith

not-both : (b : Bool) → (b ≡ true → false ≡ true) → b ≡ false
not-both true h = sym (h refl)
not-both false h = refl

-- what is done is done at the latest table, except that the next is opened
pub done-here : (t : Table) (own : List OwnEntry) (e : Entry) → is_open e.command ≡ false
    → is_done (reply_by t (own_for t own e) e) ≡ true → (e.table == t.latest) ≡ true
done-here t own e other done =
    let old : nat_lt e.table t.latest ≡ false =
    passed-row [] (nat_lt e.table t.latest) (refusal.OldTable t.latest)
    (drop 1 (serial_rows t (own_for t own e) e) ++ start_rows t e ++ seat_rows t e ++ end_rows t (own_for t own e) e ++ game_rows t e)
    refl done in
    let above : nat_lt t.latest e.table ≡ false =
    not-both (nat_lt t.latest e.table) (λ above. sym (done-above t own e above other) ∙ done) in
    same-table e.table t.latest old above

not-few : (n : ℕ) → nat_lt n FEWEST_PLAYERS ≡ false → FEWEST_PLAYERS ≤ n
not-few n h = grind arith

-- and who starts does so with two seated or more
pub done-two-seated : (t : Table) (own : List OwnEntry) (e : Entry) → is_start e.command ≡ true
    → is_done (reply_by t own e) ≡ true → is_none (kept_entry own e.number) ≡ true
    → FEWEST_PLAYERS ≤ length (seated_names t.items)
done-two-seated t own e starts done fresh =
    let few : (is_start e.command && nat_lt (length (seated_names t.items)) FEWEST_PLAYERS) ≡ false =
    passed-row (serial_rows t own e ++ start_rows t e ++ take 7 (seat_rows t e))
    (is_start e.command && nat_lt (length (seated_names t.items)) FEWEST_PLAYERS) refusal.TooFew (end_rows t own e ++ game_rows t e)
    (refuse-append (serial_rows t own e ++ start_rows t e) (take 7 (seat_rows t e))
    (refuse-append (serial_rows t own e) (start_rows t e) (serial_rows-refuse t own e fresh) (start_rows-refuse t e))
    (seat_rows-refuse t e)) done in
    not-few (length (seated_names t.items)) (rw starts at few)

-- the same of a row that refuses for a cause
passed-cause : {A : Type 0} (rows : List (Option Reply)) (why : A → Refusal) (cause : Option A) (rest : List (Option Reply))
    → list_all refuses rows ≡ true
    → is_done (unwrap_or (first_reply (rows ++ for_some why cause ∷ rest)) Done) ≡ true → cause ≡ None
passed-cause [] why (Some x) rest all done = cc
passed-cause [] why None rest all done = refl
passed-cause (None ∷ rows) why cause rest all done = passed-cause rows why cause rest all done
passed-cause (Some Done ∷ rows) why cause rest all done = cc
passed-cause (Some (Refused other) ∷ rows) why cause rest all done = cc

-- the rows in front of those of the game
abbrev pub rows_before : Table → List OwnEntry → Entry → List (Option Reply)
rows_before t own e = serial_rows t own e ++ start_rows t e ++ seat_rows t e ++ end_rows t own e

-- they refuse
pub rows_before-refuse : (t : Table) (own : List OwnEntry) (e : Entry) → is_none (kept_entry own e.number) ≡ true
    → list_all refuses (rows_before t own e) ≡ true
rows_before-refuse t own e fresh =
    refuse-append (serial_rows t own e ++ start_rows t e ++ seat_rows t e) (end_rows t own e)
    (refuse-append (serial_rows t own e ++ start_rows t e) (seat_rows t e)
    (refuse-append (serial_rows t own e) (start_rows t e) (serial_rows-refuse t own e fresh) (start_rows-refuse t e))
    (all_seat_rows-refuse t e)) (end_rows-refuse t own e)

-- who acts, pauses or resumes does so where the clock lets it
pub done-in-time : (t : Table) (own : List OwnEntry) (e : Entry) → is_done (reply_by t own e) ≡ true
    → is_none (kept_entry own e.number) ≡ true
    → ((is_act e.command && is_paused t) || (is_pause e.command && (not t.options.timed || is_paused t || has_ended t))
    || (is_resume e.command && not (is_paused t))) ≡ false
done-in-time t own e done fresh =
    passed-row (rows_before t own e ++ take 2 (game_rows t e))
    ((is_act e.command && is_paused t) || (is_pause e.command && (not t.options.timed || is_paused t || has_ended t))
    || (is_resume e.command && not (is_paused t))) refusal.TimerState (drop 3 (game_rows t e))
    (refuse-append (rows_before t own e) (take 2 (game_rows t e)) (rows_before-refuse t own e fresh)
    (one-more _ (drop 1 (take 2 (game_rows t e))) (refuses-when _ _) (one-more _ [] (refuses-when _ _) refl))) done

-- what is done in the game breaks no rule
pub done-by-rules : (t : Table) (own : List OwnEntry) (e : Entry) → is_done (reply_by t own e) ≡ true
    → is_none (kept_entry own e.number) ≡ true
    → act_rule t.game (acts t.items) (seat_of t e.member) (asked_action e.command) ≡ None
done-by-rules t own e done fresh =
    passed-cause (rows_before t own e ++ take 3 (game_rows t e)) refusal.Rule
    (act_rule t.game (acts t.items) (seat_of t e.member) (asked_action e.command)) (drop 4 (game_rows t e))
    (refuse-append (rows_before t own e) (take 3 (game_rows t e)) (rows_before-refuse t own e fresh)
    (one-more _ (drop 1 (take 3 (game_rows t e))) (refuses-when _ _)
    (one-more _ (drop 2 (take 3 (game_rows t e))) (refuses-when _ _) (one-more _ [] (refuses-when _ _) refl)))) done

-- and a step that is done in the review is not refused by it
pub done-in-review : (t : Table) (own : List OwnEntry) (e : Entry) → is_done (reply_by t own e) ≡ true
    → is_none (kept_entry own e.number) ≡ true
    → step_refusal (reviewed_game t.loaded t.game t.items) (steps t.items) e.command ≡ None
done-in-review t own e done fresh =
    passed-cause (rows_before t own e ++ take 6 (game_rows t e)) refusal.Review
    (step_refusal (reviewed_game t.loaded t.game t.items) (steps t.items) e.command) []
    (refuse-append (rows_before t own e) (take 6 (game_rows t e)) (rows_before-refuse t own e fresh)
    (one-more _ (drop 1 (take 6 (game_rows t e))) (refuses-when _ _)
    (one-more _ (drop 2 (take 6 (game_rows t e))) (refuses-when _ _)
    (one-more _ (drop 3 (take 6 (game_rows t e))) (refuses-when _ _)
    (one-more _ (drop 4 (take 6 (game_rows t e))) (refuses-for_some refusal.Rule _)
    (one-more _ (drop 5 (take 6 (game_rows t e))) (refuses-when _ _) (one-more _ [] (refuses-when _ _) refl))))))) done

not-neither : (b : Bool) (o : Option Finished) → (not b && is_none o) ≡ false → (b || is_some o) ≡ true
not-neither true o h = refl
not-neither false (Some r) h = refl
not-neither false None h = cc

-- who steps in a review does so where a game has ended or was loaded
pub done-reviewing : (t : Table) (own : List OwnEntry) (e : Entry) → is_review_step e.command ≡ true
    → is_done (reply_by t own e) ≡ true → is_none (kept_entry own e.number) ≡ true → (has_ended t || is_some t.loaded) ≡ true
done-reviewing t own e reviews done fresh =
    let no-review : Bool = is_review_step e.command && not (has_ended t) && is_none t.loaded in
    let still-runs : Bool = is_close e.command && is_started t.items && not (has_ended t) in
    let none : (no-review || still-runs) ≡ false =
    passed-row (serial_rows t own e ++ start_rows t e ++ seat_rows t e) (no-review || still-runs) refusal.NotFinished
    (drop 1 (end_rows t own e) ++ game_rows t e)
    (refuse-append (serial_rows t own e ++ start_rows t e) (seat_rows t e)
    (refuse-append (serial_rows t own e) (start_rows t e) (serial_rows-refuse t own e fresh) (start_rows-refuse t e))
    (all_seat_rows-refuse t e)) done in
    let parts : (no-review ≡ false) × (still-runs ≡ false) = or_parts no-review still-runs none in
    not-neither (has_ended t) t.loaded (rw reviews at parts.0)
