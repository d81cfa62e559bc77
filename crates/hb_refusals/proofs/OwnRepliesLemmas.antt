-- Which own entries do kept replies stand for, once one more was answered?
use Rattle.std.proofs.Common.{◌≡◌, ℕ, ◌+◌, Bool, true, false, List, ◌∷◌, refl, ap, ◌∙◌, arith, Option, Some, None}
use Rattle.std.specs.Prelude.{◌&&◌, ◌==◌, bytes_eq, is_none, if◌then◌else◌, option_map}
use Rattle.std.specs.Option.{option_or}
use Rattle.hb_club.specs.declared.commands.Command.{Command}
use Rattle.hb_club.specs.OwnEntries.{OwnEntry, is_kept, kept_entry}
use Rattle.hb_club.specs.TableRefusals.{kept_reply}
use Rattle.hb_refusals.specs.declared.kept_replies.KeptReplies.{KeptReplies}
use Rattle.hb_refusals.specs.declared.kept_replies.KeptReply.{KeptReply}
use Rattle.hb_refusals.specs.KeptReplies.{KeepsFirst, count_at, is_first, kept_at, kept_of, reply_of}
use Rattle.hb_refusals.specs.ReplyLaws.{StandsForOwn, own_after}
use Rattle.hb_refusals.proofs.OptionLemmas.{option_or-none}

-- the reply to a command is that of the kept entry
pub kept_reply-own : (member : List ℕ) (k : KeptReplies) (own : List OwnEntry) (n : ℕ) (c : Command) → StandsForOwn member k own
    → reply_of (kept_at k member n) c ≡ kept_reply (kept_entry own n) c
kept_reply-own member k own n c stands = ap (λ (o : Option KeptReply). reply_of o c) (stands.replies n) ∙ by (kept_entry own n)
  where
    by : (o : Option OwnEntry) → reply_of (option_map kept_of o) c ≡ kept_reply o c
    by None = refl
    by (Some o) = refl

is_none-kept : (o : Option OwnEntry) → is_none (option_map kept_of o) ≡ is_none o
is_none-kept None = refl
is_none-kept (Some o) = refl

-- an entry is the first that is kept for its number, as it is among the own entries
pub is_first-own : (member : List ℕ) (k : KeptReplies) (own : List OwnEntry) (o : OwnEntry) → StandsForOwn member k own
    → is_first k member o.entry.number (kept_of o) ≡ (is_kept o && is_none (kept_entry own o.entry.number))
is_first-own member k own o stands =
    ap (λ (b : Bool). is_kept o && b)
    (ap (λ (x : Option KeptReply). is_none x) (stands.replies o.entry.number) ∙ is_none-kept (kept_entry own o.entry.number))

kept_of-more : (before : Option OwnEntry) (this : Bool) (o : OwnEntry)
    → option_or (option_map kept_of before) (if this then Some (kept_of o) else None)
    ≡ option_map kept_of (option_or before (if this then Some o else None))
kept_of-more None false o = refl
kept_of-more None true o = refl
kept_of-more (Some x) this o = refl

nothing-more : (n : ℕ) → n + 0 ≡ n
nothing-more n = omega arith

-- the kept replies of a member stand for the own entries behind one more entry
pub own_after-stands : (member : List ℕ) (old new : KeptReplies) (own : List OwnEntry) (o : OwnEntry)
    → KeepsFirst o.entry.member o.entry.number (kept_of o) old new → StandsForOwn member old own
    → StandsForOwn member new (own_after o member own)
own_after-stands member old new own o keeps stands = by (bytes_eq o.entry.member member) refl
  where
    by : (mine : Bool) → bytes_eq o.entry.member member ≡ mine → StandsForOwn member new (if mine then o ∷ own else own)
    by false other = record {
      replies = λ n. keeps.replies member n ∙ rw other (option_or-none (kept_at old member n)) ∙ stands.replies n;
      count = keeps.counts member ∙ rw other (nothing-more (count_at old member)) ∙ stands.count;
    }
    by true mine = record {
      replies = λ n. keeps.replies member n ∙ rw (mine, stands.replies n)
          (kept_of-more (kept_entry own n) (o.entry.number == n && is_kept o) o);
      count = keeps.counts member ∙ rw (mine, is_first-own member old own o stands, stands.count) refl;
    }
