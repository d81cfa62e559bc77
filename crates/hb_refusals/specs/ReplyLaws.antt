-- Are the kept replies those that hb_club keeps of a member's own entries?
use Rattle.std.specs.Prelude.{◌≡◌, ℕ, List, ◌∷◌, bytes_eq, if◌then◌else◌, option_map}
use Rattle.hb_club.specs.declared.commands.Command.{Command}
use Rattle.hb_club.specs.OwnEntries.{OwnEntry, kept_count, kept_entry}
use Rattle.hb_club.specs.TableRefusals.{kept_reply}
use Rattle.hb_refusals.specs.declared.kept_replies.KeptReplies.{KeptReplies}
use Rattle.hb_refusals.specs.KeptReplies.{KeepsFirst, count_at, kept_at, kept_of, reply_of}

-- the kept replies of a member are those of these own entries
pub record StandsForOwn (member : List ℕ) (k : KeptReplies) (own : List OwnEntry) : Type 0 where
  pub replies : (n : ℕ) → kept_at k member n ≡ option_map kept_of (kept_entry own n)
  pub count : count_at k member ≡ kept_count own

-- the own entries of a member after an entry of anybody
abbrev pub own_after : OwnEntry → List ℕ → List OwnEntry → List OwnEntry
own_after o member own = if bytes_eq o.entry.member member then o ∷ own else own

-- one more entry moves them so
abbrev pub EntriesMoveReplies : Type 0
EntriesMoveReplies = (member : List ℕ) (old new : KeptReplies) (own : List OwnEntry) (o : OwnEntry)
    → KeepsFirst o.entry.member o.entry.number (kept_of o) old new
    → StandsForOwn member old own → StandsForOwn member new (own_after o member own)

-- and they give the reply that the table of refusals has
abbrev pub RepliesAreKept : Type 0
RepliesAreKept = (member : List ℕ) (k : KeptReplies) (own : List OwnEntry) (n : ℕ) (c : Command)
    → StandsForOwn member k own
    → reply_of (kept_at k member n) c ≡ kept_reply (kept_entry own n) c
