-- How does a turn end, for which lists does the hall stand behind it, and why may the hall be worn?
use Rattle.std.specs.Prelude.{ℕ, Bool, IsTrue}
use Rattle.hb_io.specs.declared.got.Got.{Got}
use Rattle.hb_io.specs.declared.got.Got.TheVariants as got
use Rattle.hb_club.specs.Fronts.{AllGoOn, Fronts}
use Rattle.hb_talk.specs.declared.errands.Errand.{Errand}
use Rattle.hb_talk.specs.declared.errands.Errand.TheVariants as errand
use Rattle.hb_talk.specs.declared.sessions.Next.{Next}
use Rattle.hb_talk.specs.declared.sessions.Next.TheVariants as next

-- a session ends if its connection is closed
abbrev pub next_of : Got → Next
next_of (got.Text text) = next.Goes
next_of got.Idle = next.Goes
next_of got.Closed = next.Closed

-- the hall stands for lists that go on from those before
pub record GoesTo {S : Type 0} (stands : S → Fronts → Type 0) (hall : S) (before : Fronts)
    : Type 0 where
  pub after : Fronts
  pub stands_for : stands hall after
  pub on : AllGoOn before after

-- the mark is set of the room, or of the lobby, that an errand calls
abbrev pub IsWornFor : (ℕ → Bool) → Bool → Errand → Type 0
IsWornFor mark lobby_mark errand.Nothing = ⊥
IsWornFor mark lobby_mark (errand.Bad why) = ⊥
IsWornFor mark lobby_mark (errand.Denied why) = ⊥
IsWornFor mark lobby_mark (errand.Enters entry) = IsTrue lobby_mark
IsWornFor mark lobby_mark (errand.Calls room entry) = IsTrue (mark room)
