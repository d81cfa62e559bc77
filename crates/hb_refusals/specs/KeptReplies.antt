-- Which reply is kept for a member's number, and for how many numbers is one kept?
use Rattle.std.specs.Prelude.{◌≡◌, ℕ, ◌+◌, ◌<◌, Bool, not, ◌&&◌, ◌==◌, List, Option, Some, None, bytes_eq, is_none, unwrap_or, if◌then◌else◌}
use Rattle.std.specs.HashMap as hash
use Rattle.std.specs.Option.{option_or}
use Rattle.hb_club.specs.declared.commands.Command.{Command}
use Rattle.hb_club.specs.declared.replies.Refusal.TheVariants as refusal
use Rattle.hb_club.specs.declared.replies.Reply.{Reply}
use Rattle.hb_club.specs.declared.replies.Reply.TheVariants.{Refused}
use Rattle.hb_club.specs.CommandKinds.{is_long_note, is_look}
use Rattle.hb_club.specs.OwnEntries.{OwnEntry, is_unkept}
use Rattle.hb_club.specs.SameCommand.{same_command}
use Rattle.hb_refusals.specs.declared.kept_replies.KeptReplies.{KeptReplies}
use Rattle.hb_refusals.specs.declared.kept_replies.KeptReply.{KeptReply}

abbrev pub same_number : List ℕ × ℕ → List ℕ × ℕ → Bool
same_number a b = bytes_eq a.0 b.0 && a.1 == b.1

-- what is kept for a member's number
abbrev pub kept_at : KeptReplies → List ℕ → ℕ → Option KeptReply
kept_at k member number = hash.get same_number k.replies (member, number)

-- for how many numbers of a member a reply is kept
abbrev pub count_at : KeptReplies → List ℕ → ℕ
count_at k member = unwrap_or (hash.get bytes_eq k.counts member) 0

-- the reply of a number, by what is kept for it
abbrev pub reply_of : Option KeptReply → Command → Option Reply
reply_of None c = None
reply_of (Some k) c =
    Some (if same_command k.command c then k.reply else Refused refusal.NumberReused)

-- what is kept of an own entry
abbrev pub kept_of : OwnEntry → KeptReply
kept_of o = record { command = o.entry.command; reply = o.reply }

-- a reply to this command is kept for its number, unless an earlier one is
abbrev pub is_keepable : KeptReply → Bool
is_keepable k = not (is_look k.command) && not (is_long_note k.command) && not (is_unkept k.reply)

-- nothing is kept for the number, and this is to be
abbrev pub is_first : KeptReplies → List ℕ → ℕ → KeptReply → Bool
is_first before member number k = is_keepable k && is_none (kept_at before member number)

-- there is room for one more
abbrev pub HasSpare : KeptReplies → Type 0
HasSpare k = (0 < hash.spare k.replies) × (0 < hash.spare k.counts)

-- the same is kept
pub record SameReplies (old new : KeptReplies) : Type 0 where
  pub replies : (m : List ℕ) (n : ℕ) → kept_at new m n ≡ kept_at old m n
  pub counts : (m : List ℕ) → count_at new m ≡ count_at old m

-- this is kept too for the member's number, if it is the first to be kept
pub record KeepsFirst (member : List ℕ) (number : ℕ) (k : KeptReply) (old new : KeptReplies)
    : Type 0 where
  pub replies : (m : List ℕ) (n : ℕ) → kept_at new m n ≡ option_or (kept_at old m n)
      (if bytes_eq member m && number == n && is_keepable k then Some k else None)
  pub counts : (m : List ℕ) → count_at new m ≡ count_at old m
      + (if bytes_eq member m && is_first old m number k then 1 else 0)
