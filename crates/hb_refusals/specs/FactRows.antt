-- Which rows has the table of refusals on the facts of a table and of a member? Groups and order
-- are those of hb_club's TableRefusals.
use Rattle.std.specs.Prelude.{ℕ, ◌+◌, Bool, not, ◌&&◌, ◌||◌, ◌==◌, List, [], ◌∷◌, ◌++◌, Option, is_some, nat_le, nat_lt}
use Rattle.hb_rules.specs.declared.acts.Rule.{Rule}
use Rattle.hb_rules.specs.declared.acts.Rule.TheVariants as rules
use Rattle.hb_rules.specs.declared.limits.TheConstants.{FEWEST_PLAYERS, MOST_PLAYERS}
use Rattle.hb_review.specs.declared.error.ReviewError.{ReviewError}
use Rattle.hb_club.specs.declared.commands.Command.{Command}
use Rattle.hb_club.specs.declared.commands.Entry.{Entry}
use Rattle.hb_club.specs.declared.limits.TheConstants.{MOST_WATCHERS}
use Rattle.hb_club.specs.declared.replies.Refusal.TheVariants as refusal
use Rattle.hb_club.specs.declared.replies.Reply.{Reply}
use Rattle.hb_club.specs.CommandKinds.{asked_order, asked_shadow, is_act, is_close, is_for_beginning, is_for_game, is_for_gathering, is_for_host, is_for_seated, is_leave, is_long_note, is_note, is_open, is_pause, is_resume, is_review_step, is_sit, is_start, is_watch}
use Rattle.hb_club.specs.TableRefusals.{for_some, is_beyond, number_limit, when}
use Rattle.hb_refusals.specs.declared.facts.Facts.{Facts}

-- an opening of the table next to the latest
abbrev pub opens_next_to : ℕ → Entry → Bool
opens_next_to latest e = is_open e.command && e.table == latest + 1

-- by serial and number; the kept reply is given, and the count of kept numbers
abbrev pub serial_rows_on : Facts → Option Reply → ℕ → Entry → List (Option Reply)
serial_rows_on x kept count e = let here = e.table == x.latest in
    let is_full = nat_le (number_limit e.command) count in
    let is_closed = here && not x.standing in
    let is_unopened = nat_lt x.latest e.table && not (opens_next_to x.latest e) in
    when (nat_lt e.table x.latest) (refusal.OldTable x.latest)
    ∷ kept
    ∷ when (here && is_full) refusal.RequestLimit
    ∷ when (is_closed || is_unopened) refusal.NoTable
    ∷ when (is_open e.command && (here || x.standing)) refusal.TableOpen
    ∷ []

-- by who is host and whether a game was started
abbrev pub start_rows_on : Facts → Command → List (Option Reply)
start_rows_on x c = let wants_game = is_for_game c || is_some (asked_shadow c) in
    when (is_for_host c && not x.host) refusal.NotHost
    ∷ when (is_for_gathering c && (x.started || x.loaded)) refusal.Started
    ∷ when (wants_game && not x.started) refusal.NotStarted
    ∷ []

-- by who is seated and who watches
abbrev pub seat_rows_on : Facts → Command → List (Option Reply)
seat_rows_on x c =
    when (is_sit c && x.seats == MOST_PLAYERS) refusal.Full
    ∷ when (is_sit c && x.seated) refusal.AlreadySeated
    ∷ when (is_for_seated c && not x.seated) refusal.NotSeated
    ∷ when (is_watch c && x.seated) refusal.SeatedHere
    ∷ when (is_sit c && x.watching) refusal.WatchingHere
    ∷ when (is_leave c && not x.watching) refusal.NotWatching
    ∷ when (is_watch c && not x.watching && nat_le MOST_WATCHERS x.watchers) refusal.Crowded
    ∷ when (is_start c && nat_lt x.seats FEWEST_PLAYERS) refusal.TooFew
    ∷ []

-- by whether a game has ended, is kept, or is waited for
abbrev pub end_rows_on : Facts → Command → List (Option Reply)
end_rows_on x c = let no_review = is_review_step c && not x.ended && not x.loaded in
    let still_runs = is_close c && x.started && not x.ended in
    when (no_review || still_runs) refusal.NotFinished
    ∷ when (is_close c && x.ended && not x.saved) refusal.Unsaved
    ∷ when (is_for_beginning c && x.loading) refusal.Loading
    ∷ []

-- by the note, the clock, the rules of the game and the review; the rule that an action breaks is
-- given, and the cause for which the review refuses a step
abbrev pub game_rows_on : Facts → Option Rule → Option ReviewError → Command
    → List (Option Reply)
game_rows_on x broken review c = let no_act = is_act c && x.paused in
    let no_pause = is_pause c && (not x.timed || x.paused || x.ended) in
    let no_resume = is_resume c && not x.paused in
    when (is_long_note c) refusal.NoteTooLong
    ∷ when (is_beyond (asked_order c) x.cards) refusal.NoSuchCard
    ∷ when (no_act || no_pause || no_resume) refusal.TimerState
    ∷ for_some refusal.Rule broken
    ∷ when (is_note c && x.ended) (refusal.Rule rules.GameOver)
    ∷ when (is_beyond (asked_shadow c) x.players) (refusal.Rule rules.NoSuchSeat)
    ∷ for_some refusal.Review review
    ∷ []

-- all rows
abbrev pub rows_on : Facts → Option Reply → ℕ → Option Rule → Option ReviewError → Entry
    → List (Option Reply)
rows_on x kept count broken review e =
    serial_rows_on x kept count e ++ start_rows_on x e.command ++ seat_rows_on x e.command
    ++ end_rows_on x e.command ++ game_rows_on x broken review e.command
