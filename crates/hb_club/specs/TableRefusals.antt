-- What does a room reply to an entry? The first row that holds of the table of refusals, in which
-- the kept reply has its place. The rows read the facts of the latest table, and the member's own
-- entries there.
use Rattle.std.specs.Prelude.{ℕ, ◌+◌, Bool, true, false, not, ◌&&◌, ◌||◌, ◌==◌, List, [], ◌∷◌, ◌++◌, Option, Some, None, if◌then◌else◌, is_none, is_some, length, nat_le, nat_lt, bytes_eq, unwrap_or}
use Rattle.std.specs.List.{list_any}
use Rattle.hb_rules.specs.declared.acts.Act.{Act}
use Rattle.hb_rules.specs.declared.acts.Action.{Action}
use Rattle.hb_rules.specs.declared.acts.Rule.{Rule}
use Rattle.hb_rules.specs.declared.acts.Rule.TheVariants as rules
use Rattle.hb_rules.specs.declared.limits.TheConstants.{FEWEST_PLAYERS, MOST_PLAYERS}
use Rattle.hb_rules.specs.declared.setups.Setup.{Setup}
use Rattle.hb_rules.specs.Legality.{rule}
use Rattle.hb_rules.specs.Setup.{by}
use Rattle.hb_club.specs.declared.commands.Command.{Command}
use Rattle.hb_club.specs.declared.commands.Entry.{Entry}
use Rattle.hb_club.specs.declared.limits.TheConstants.{KEPT_NUMBERS, MOST_KEPT_NUMBERS, MOST_WATCHERS}
use Rattle.hb_club.specs.declared.replies.Refusal.{Refusal}
use Rattle.hb_club.specs.declared.replies.Refusal.TheVariants as refusal
use Rattle.hb_club.specs.declared.replies.Reply.{Reply}
use Rattle.hb_club.specs.declared.replies.Reply.TheVariants.{Done, Refused}
use Rattle.hb_club.specs.CommandKinds.{asked_action, asked_order, asked_shadow, is_act, is_close, is_for_beginning, is_for_game, is_for_gathering, is_for_host, is_for_seated, is_leave, is_long_note, is_look, is_note, is_open, is_pause, is_pressing, is_resume, is_review_step, is_sit, is_start, is_watch}
use Rattle.hb_club.specs.OwnEntries.{OwnEntry, is_done, kept_count, kept_entry, pending_id}
use Rattle.hb_club.specs.SameCommand.{same_command}
use Rattle.hb_club.specs.Seating.{seated_names, shadow_of, watchers}
use Rattle.hb_club.specs.Table.{Table, deck_size, has_ended, is_paused, player_count, seat_of}
use Rattle.hb_club.specs.TableItems.{acts, has, is_host, is_saved, is_standing, is_started, steps}
use Rattle.hb_club.specs.TableReview.{reviewed_game, step_refusal}

-- a row that refuses if something is so
abbrev pub when : Bool → Refusal → Option Reply
when true why = Some (Refused why)
when false why = None

-- a row that refuses for a cause, if there is one
abbrev pub for_some : {A : Type 0} → (A → Refusal) → Option A → Option Reply
for_some refuses None = None
for_some refuses (Some cause) = Some (Refused (refuses cause))

-- a number is there, and is not below the limit
abbrev pub is_beyond : Option ℕ → ℕ → Bool
is_beyond None limit = false
is_beyond (Some n) limit = nat_le limit n

-- the reply of a number that is kept: the kept one to the same command, and a refusal to another
abbrev pub kept_reply : Option OwnEntry → Command → Option Reply
kept_reply None c = None
kept_reply (Some o) c =
    Some (if same_command o.entry.command c then o.reply else Refused refusal.NumberReused)

-- with how many kept numbers a command is refused
abbrev pub number_limit : Command → ℕ
number_limit c = if is_pressing c then MOST_KEPT_NUMBERS else KEPT_NUMBERS

-- an opening of the next table
abbrev pub opens_next : Table → Entry → Bool
opens_next t e = is_open e.command && e.table == t.latest + 1

-- the rule of the game that an action of a seat breaks
abbrev pub act_rule : Option Setup → List Act → ℕ → Option Action → Option Rule
act_rule (Some g) past seat (Some action) = rule g past (by seat action)
act_rule (Some g) past seat None = None
act_rule None past seat action = None

-- The rows, in the order in which they are tried. Each is the reply if it holds.

-- by serial and number, up to `TableOpen`; the kept reply stands in the place of `NumberReused`
abbrev pub serial_rows : Table → List OwnEntry → Entry → List (Option Reply)
serial_rows t own e = let here = e.table == t.latest in
    let is_full = nat_le (number_limit e.command) (kept_count own) in
    let is_closed = here && not (is_standing t.items) in
    let is_unopened = nat_lt t.latest e.table && not (opens_next t e) in
    let stands = here || is_standing t.items in
    when (nat_lt e.table t.latest) (refusal.OldTable t.latest)
    ∷ kept_reply (kept_entry own e.number) e.command
    ∷ when (here && is_full) refusal.RequestLimit
    ∷ when (is_closed || is_unopened) refusal.NoTable
    ∷ when (is_open e.command && stands) refusal.TableOpen
    ∷ []

-- 6 to 8, by who is host and whether a game was started
abbrev pub start_rows : Table → Entry → List (Option Reply)
start_rows t e = let c = e.command in
    let has_game = is_started t.items || is_some t.loaded in
    let wants_game = is_for_game c || is_some (asked_shadow c) in
    when (is_for_host c && not (is_host t.items e.member)) refusal.NotHost
    ∷ when (is_for_gathering c && has_game) refusal.Started
    ∷ when (wants_game && not (is_started t.items)) refusal.NotStarted
    ∷ []

-- 9 to 16, by who is seated and who watches
abbrev pub seat_rows : Table → Entry → List (Option Reply)
seat_rows t e = let c = e.command in
    let seats = length (seated_names t.items) in
    let is_seated = list_any (bytes_eq e.member) (seated_names t.items) in
    let is_watching = is_some (shadow_of e.member (watchers t.items)) in
    let is_crowded = nat_le MOST_WATCHERS (length (watchers t.items)) in
    when (is_sit c && seats == MOST_PLAYERS) refusal.Full
    ∷ when (is_sit c && is_seated) refusal.AlreadySeated
    ∷ when (is_for_seated c && not is_seated) refusal.NotSeated
    ∷ when (is_watch c && is_seated) refusal.SeatedHere
    ∷ when (is_sit c && is_watching) refusal.WatchingHere
    ∷ when (is_leave c && not is_watching) refusal.NotWatching
    ∷ when (is_watch c && not is_watching && is_crowded) refusal.Crowded
    ∷ when (is_start c && nat_lt seats FEWEST_PLAYERS) refusal.TooFew
    ∷ []

-- 17 to 19, by whether a game has ended, is kept, or is waited for
abbrev pub end_rows : Table → List OwnEntry → Entry → List (Option Reply)
end_rows t own e = let c = e.command in
    let no_review = is_review_step c && not (has_ended t) && is_none t.loaded in
    let still_runs = is_close c && is_started t.items && not (has_ended t) in
    when (no_review || still_runs) refusal.NotFinished
    ∷ when (is_close c && has_ended t && not (has is_saved t.items)) refusal.Unsaved
    ∷ when (is_for_beginning c && is_some (pending_id own t.items)) refusal.Loading
    ∷ []

-- 20 to 24, by the note, the clock, the rules of the game and the review
abbrev pub game_rows : Table → Entry → List (Option Reply)
game_rows t e = let c = e.command in
    let no_act = is_act c && is_paused t in
    let no_pause = is_pause c && (not t.options.timed || is_paused t || has_ended t) in
    let no_resume = is_resume c && not (is_paused t) in
    let broken = act_rule t.game (acts t.items) (seat_of t e.member) (asked_action c) in
    let reviewed = reviewed_game t.loaded t.game t.items in
    when (is_long_note c) refusal.NoteTooLong
    ∷ when (is_beyond (asked_order c) (deck_size t.game)) refusal.NoSuchCard
    ∷ when (no_act || no_pause || no_resume) refusal.TimerState
    ∷ for_some refusal.Rule broken
    ∷ when (is_note c && has_ended t) (refusal.Rule rules.GameOver)
    ∷ when (is_beyond (asked_shadow c) (player_count t.game)) (refusal.Rule rules.NoSuchSeat)
    ∷ for_some refusal.Review (step_refusal reviewed (steps t.items) c)
    ∷ []

-- the first row that holds
abbrev pub first_reply : List (Option Reply) → Option Reply
first_reply [] = None
first_reply (Some reply ∷ rows) = Some reply
first_reply (None ∷ rows) = first_reply rows

-- its reply; Done if none holds
abbrev pub reply_by : Table → List OwnEntry → Entry → Reply
reply_by t own e = unwrap_or (first_reply (serial_rows t own e ++ start_rows t e ++ seat_rows t e
    ++ end_rows t own e ++ game_rows t e)) Done

-- the own entries that count for an entry: those at its table, if that is the latest
abbrev pub own_for : Table → List OwnEntry → Entry → List OwnEntry
own_for t own e = if e.table == t.latest then own else []

-- the reply to an entry, by the latest table and the member's own entries there. A look is done
abbrev pub reply_on : Table → List OwnEntry → Entry → Reply
reply_on t own e = if is_look e.command then Done else reply_by t (own_for t own e) e

-- the entry is accepted: it is done, and is neither a look nor a repeat
abbrev pub is_accepted : Table → List OwnEntry → Entry → Bool
is_accepted t own e =
    not (is_look e.command) && is_done (reply_on t own e)
    && is_none (kept_entry (own_for t own e) e.number)
