-- Which line answers a request?
use Rattle.std.specs.Prelude.{ℕ, List, Option, Some, None}
use Rattle.hb_rules.specs.Numbers.{rule_number}
use Rattle.hb_review.specs.declared.error.ReviewError.{ReviewError}
use Rattle.hb_review.specs.declared.error.ReviewError.TheVariants.{Broken}
use Rattle.hb_review.specs.Reviews.{error_number}
use Rattle.hb_wire.specs.declared.lines.WireLine.TheVariants as wire
use Rattle.hb_wire.specs.WireLine.{line_text}
use Rattle.hb_club.specs.declared.lobby.LobbyReply.{LobbyReply}
use Rattle.hb_club.specs.declared.lobby.LobbyReply.TheVariants.{Welcome, BadName, WrongKey, HouseFull}
use Rattle.hb_club.specs.declared.replies.Refusal.{Refusal}
use Rattle.hb_club.specs.declared.replies.Refusal.TheVariants as refusal
use Rattle.hb_club.specs.declared.replies.Reply.{Reply}
use Rattle.hb_club.specs.declared.replies.Reply.TheVariants.{Done, Refused}
use Rattle.hb_club.specs.RefusalNumbers.{refusal_number}
use Rattle.hb_talk.specs.declared.errands.Denial.{Denial}
use Rattle.hb_talk.specs.declared.errands.Denial.TheVariants as denial

-- what the line of a refusal has besides its number: the latest table, the number of the rule that
-- is broken, and the number of the review's refusal

abbrev pub latest_in : Refusal → Option ℕ
latest_in (refusal.OldTable latest) = Some latest
latest_in _ = None

abbrev pub broken_in : ReviewError → Option ℕ
broken_in (Broken broken) = Some (rule_number broken)
broken_in _ = None

abbrev pub rule_in : Refusal → Option ℕ
rule_in (refusal.Rule broken) = Some (rule_number broken)
rule_in (refusal.Review why) = broken_in why
rule_in _ = None

abbrev pub review_in : Refusal → Option ℕ
review_in (refusal.Review why) = Some (error_number why)
review_in _ = None

-- the line that answers a numbered request
abbrev pub reply_line : ℕ → Reply → List ℕ
reply_line number Done = line_text (wire.Ok number)
reply_line number (Refused why) =
    line_text (wire.Refused (refusal_number why) number (review_in why) (rule_in why)
    (latest_in why))

-- the number of a denial
abbrev pub denial_number : Denial → ℕ
denial_number denial.BadName = 1
denial_number denial.WrongKey = 2
denial_number denial.HouseFull = 3
denial_number denial.NoSuchRoom = 4
denial_number denial.NotBound = 5
denial_number denial.AlreadyBound = 6

-- the line that denies a request
abbrev pub denied_line : Denial → List ℕ
denied_line why = line_text (wire.Denied (denial_number why))

-- the line of the lobby's reply
abbrev pub lobby_line : LobbyReply → List ℕ
lobby_line (Welcome name) = line_text (wire.Welcome name)
lobby_line BadName = denied_line denial.BadName
lobby_line WrongKey = denied_line denial.WrongKey
lobby_line HouseFull = denied_line denial.HouseFull
