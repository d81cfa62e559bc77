-- Is the reply of a room the one that is read off its member's view? Yes, by the law of views.
use Rattle.std.proofs.Common.{◌≡◌, List, ap, sym, ◌∙◌}
use Rattle.std.specs.Prelude.{Result, Ok, Err, IfOk}
use Rattle.hb_club.specs.declared.commands.Entry.{Entry}
use Rattle.hb_club.specs.declared.replies.Reply.{Reply}
use Rattle.hb_club.specs.RoomEvents.{Call, Replied, RoomEvent, Site}
use Rattle.hb_club.specs.Rooms.{past_of}
use Rattle.hb_club.specs.SeenTable.{answer}
use Rattle.hb_club.specs.ViewLaws.{view_for}
use Rattle.hb_club.specs.Views.{own_at}
use Rattle.hb_club.proofs.SeenTableLemmas.{answer-seen}
use Rattle.hb_table.specs.declared.room.Room.{Room}
use Rattle.hb_table.specs.StateMoves.{timed_state}
use Rattle.hb_table.specs.Keeps.{StandsFor, site_in}
use Rattle.hb_table.specs.Steps.{Steps}
use Rattle.hb_table.proofs.ClerkStateLemmas.{answer_to-call}
use Rattle.hb_table.proofs.PendingStateLemmas.{timed_state-table}

-- the reply is the answer by the view of the member and its own entries
abbrev pub SeesView : Entry → Room → Reply → Type 0
SeesView e a reply = (events : List RoomEvent) → StandsFor a events
    → reply ≡ answer (view_for (site_in a) events e) (own_at (site_in a) events e.member) e

replied-same : (r q : Reply) → Replied r ≡ Replied q → r ≡ q
replied-same r q e = cc

-- so it is at each step
pub steps-view : (a b : Room) (e : Entry) (reply : Reply) → Steps e reply a b → SeesView e a reply
steps-view a b e reply steps events stands =
    let s : Site = site_in a in
    replied-same reply (answer (view_for s events e) (own_at s events e.member) e)
    (sym (steps events stands).1 ∙ (answer_to-call s events e
    ∙ ap Replied (sym (answer-seen s (timed_state s (past_of s events) (Call e)).table (own_at s events e.member) e
    (timed_state-table s events (Call e) stands.whole)))))

-- what holds of each value, if it is there
pub if-ok : {T E : Type 0} {P Q : T → Type 0} (r : Result T E) → ((x : T) → P x → Q x) → IfOk r P → IfOk r Q
if-ok (Ok x) more p = more x p
if-ok (Err e) more p = tt
