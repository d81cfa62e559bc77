-- What is kept of a member's entries at a table: which reply, how many of them, and which load is
-- pending? Entries stand newest first.
use Rattle.std.specs.Prelude.{ℕ, ◌+◌, ◌-◌, Bool, true, false, not, ◌&&◌, ◌==◌, List, [], ◌∷◌, Option, Some, None, if◌then◌else◌, is_none, length, take}
use Rattle.std.specs.Option.{option_or}
use Rattle.hb_club.specs.declared.commands.Entry.{Entry}
use Rattle.hb_club.specs.declared.items.Item.{Item}
use Rattle.hb_club.specs.declared.replies.Reply.{Reply}
use Rattle.hb_club.specs.declared.replies.Reply.TheVariants.{Done, Refused}
use Rattle.hb_club.specs.declared.replies.Refusal.TheVariants as refusal
use Rattle.hb_club.specs.CommandKinds.{is_long_note, is_look, asked_id}
use Rattle.hb_club.specs.TableItems.{has, ends_load}

-- an entry of a member at a table, with its reply and the number of the table's items after it
pub record OwnEntry : Type 0 where
  pub entry : Entry
  pub reply : Reply
  pub count : ℕ

abbrev pub is_done : Reply → Bool
is_done Done = true
is_done (Refused why) = false

-- the refusals 1 to 5, which are not kept
abbrev pub is_unkept : Reply → Bool
is_unkept (Refused (refusal.OldTable latest)) = true
is_unkept (Refused refusal.NumberReused) = true
is_unkept (Refused refusal.RequestLimit) = true
is_unkept (Refused refusal.NoTable) = true
is_unkept (Refused refusal.TableOpen) = true
is_unkept _ = false

-- the entry and its reply are kept, unless an earlier entry of its number is: no look and no note
-- with too long a text is, whatever it was replied
abbrev pub is_kept : OwnEntry → Bool
is_kept o =
    not (is_look o.entry.command) && not (is_long_note o.entry.command) && not (is_unkept o.reply)

-- the entry that is kept for a number: the first that is kept
abbrev pub kept_entry : List OwnEntry → ℕ → Option OwnEntry
kept_entry [] number = None
kept_entry (o ∷ own) number =
    option_or (kept_entry own number)
    (if o.entry.number == number && is_kept o then Some o else None)

-- for how many numbers an entry is kept
abbrev pub kept_count : List OwnEntry → ℕ
kept_count [] = 0
kept_count (o ∷ own) =
    kept_count own + (if is_kept o && is_none (kept_entry own o.entry.number) then 1 else 0)

-- the id that an accepted load asks for: one that is done, and is no repeat
abbrev pub accepted_load : List OwnEntry → OwnEntry → Option ℕ
accepted_load before o =
    if is_done o.reply && is_none (kept_entry before o.entry.number)
    then asked_id o.entry.command else None

-- what is pending, if an entry asked for this id when there were so many items: the id, unless one
-- of the items since then ends it; else what was pending before
abbrev pub still_pending : List Item → ℕ → Option ℕ → Option ℕ → Option ℕ
still_pending items count (Some id) before =
    if has ends_load (take (length items - count) items) then None else Some id
still_pending items count None before = before

-- the id of the newest accepted load, unless an item behind it ends it
abbrev pub pending_id : List OwnEntry → List Item → Option ℕ
pending_id [] items = None
pending_id (o ∷ own) items =
    still_pending items o.count (accepted_load own o) (pending_id own items)
