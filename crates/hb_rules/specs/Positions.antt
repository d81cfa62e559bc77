-- How are the words of the rules said of a game that is held as one value? Each is the word of the
-- same name, of the position's setup and its acts so far.
use Rattle.std.specs.Prelude.{ℕ, Bool, List, ◌∷◌, Option}
use Rattle.hb_rules.specs.declared.acts.Act.{Act}
use Rattle.hb_rules.specs.declared.acts.Clue.{Clue}
use Rattle.hb_rules.specs.declared.acts.EndHow.{EndHow}
use Rattle.hb_rules.specs.declared.acts.Rule.{Rule}
use Rattle.hb_rules.specs.declared.events.Event.{Event}
use Rattle.hb_rules.specs.declared.suits.Identity.{Identity}
use Rattle.hb_rules.specs.Setup.{Position}
use Rattle.hb_rules.specs.Hands.{drawn as drawn_after, drawn_count as drawn_count_after, left as left_after, holder as holder_after, hand as hand_after}
use Rattle.hb_rules.specs.Result.{height as height_after, fits as fits_after, strikes as strikes_after, tokens as tokens_after, current as current_after, lost_copies as lost_copies_after, is_stuck as is_stuck_after, ended as ended_after, score as score_after}
use Rattle.hb_rules.specs.Legality.{touched as touched_after, rule as rule_after, Legal}
use Rattle.hb_rules.specs.Events.{act_events as act_events_after, events as events_after}
use Rattle.hb_rules.specs.Marks.{is_marked as is_marked_after, gone_copies as gone_copies_after}

-- the position after one more act
abbrev pub after : Position → Act → Position
after p act = record p { past = act ∷ p.past }

abbrev pub rule : Position → Act → Option Rule
rule p act = rule_after p.setup p.past act

abbrev pub IsLegal : Position → Type 0
IsLegal p = Legal p.setup p.past

abbrev pub ended : Position → Option EndHow
ended p = ended_after p.setup p.past

abbrev pub current : Position → ℕ
current p = current_after p.setup p.past

abbrev pub tokens : Position → ℕ
tokens p = tokens_after p.setup p.past

abbrev pub strikes : Position → ℕ
strikes p = strikes_after p.setup p.past

abbrev pub score : Position → ℕ
score p = score_after p.setup p.past

abbrev pub height : Position → ℕ → ℕ
height p suit = height_after p.setup p.past suit

abbrev pub is_stuck : Position → ℕ → Bool
is_stuck p suit = is_stuck_after p.setup p.past suit

abbrev pub fits : Position → ℕ → Bool
fits p order = fits_after p.setup p.past order

abbrev pub lost_copies : Position → Identity → ℕ
lost_copies p id = lost_copies_after p.setup p.past id

abbrev pub gone_copies : Position → Identity → ℕ
gone_copies p id = gone_copies_after p.setup p.past id

abbrev pub left : Position → ℕ
left p = left_after p.setup p.past

abbrev pub drawn : Position → Act → Option ℕ
drawn p act = drawn_after p.setup p.past act

abbrev pub drawn_count : Position → ℕ
drawn_count p = drawn_count_after p.setup p.past

abbrev pub holder : Position → ℕ → Option ℕ
holder p order = holder_after p.setup p.past order

abbrev pub hand : Position → ℕ → List ℕ
hand p seat = hand_after p.setup p.past seat

abbrev pub touched : Position → ℕ → Clue → List ℕ
touched p to clue = touched_after p.setup p.past to clue

abbrev pub is_marked : Position → ℕ → ℕ → Bool
is_marked p order number = is_marked_after p.setup p.past order number

abbrev pub act_events : Position → Act → List Event
act_events p act = act_events_after p.setup p.past act

abbrev pub events : Position → List Event
events p = events_after p.setup p.past
