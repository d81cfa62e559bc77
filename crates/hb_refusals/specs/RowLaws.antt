-- Are the rows on facts those of the table of refusals?
use Rattle.std.specs.Prelude.{◌≡◌, ℕ, Bool, false, ◌&&◌, ◌==◌, List, ◌++◌, Option, is_some}
use Rattle.hb_rules.specs.declared.acts.Rule.{Rule}
use Rattle.hb_review.specs.declared.error.ReviewError.{ReviewError}
use Rattle.hb_club.specs.declared.commands.Entry.{Entry}
use Rattle.hb_club.specs.declared.replies.Reply.{Reply}
use Rattle.hb_club.specs.CommandKinds.{asked_action}
use Rattle.hb_club.specs.OwnEntries.{OwnEntry, kept_count, kept_entry, pending_id}
use Rattle.hb_club.specs.Table.{Table, seat_of}
use Rattle.hb_club.specs.TableItems.{acts, steps}
use Rattle.hb_club.specs.TableRefusals.{act_rule, end_rows, first_reply, game_rows, kept_reply, seat_rows, serial_rows, start_rows}
use Rattle.hb_club.specs.TableReview.{reviewed_game, step_refusal}
use Rattle.hb_refusals.specs.declared.facts.Facts.{Facts}
use Rattle.hb_refusals.specs.FactRows.{rows_on}
use Rattle.hb_refusals.specs.Facts.{facts_of}

-- the rows on the facts that a table and the member's own entries there show
abbrev pub shown_rows : Table → List OwnEntry → Entry → List (Option Reply)
shown_rows t own e = let is_loading = is_some (pending_id own t.items) in
    let reviewed = reviewed_game t.loaded t.game t.items in
    rows_on (facts_of t is_loading e.member)
    (kept_reply (kept_entry own e.number) e.command) (kept_count own)
    (act_rule t.game (acts t.items) (seat_of t e.member) (asked_action e.command))
    (step_refusal reviewed (steps t.items) e.command) e

-- they are the rows of the table of refusals
abbrev pub ShownRowsAreTheTable : Type 0
ShownRowsAreTheTable = (t : Table) (own : List OwnEntry) (e : Entry) → shown_rows t own e
    ≡ serial_rows t own e ++ start_rows t e ++ seat_rows t e ++ end_rows t own e ++ game_rows t e

-- a pending load refuses nothing to anybody but the host of the latest table
abbrev pub LoadsCountForHosts : Type 0
LoadsCountForHosts = (x : Facts) (loading : Bool) (kept : Option Reply) (count : ℕ)
    (broken : Option Rule) (review : Option ReviewError) (e : Entry)
    → (e.table == x.latest && x.host) ≡ false
    → first_reply (rows_on (record x { loading = loading }) kept count broken review e)
    ≡ first_reply (rows_on x kept count broken review e)
