-- What does each kind of turn leave of a session, of the texts and of the lists?
use Rattle.std.proofs.Common.{◌≡◌, ℕ, Bool, true, false, List, [], ◌∷◌, ◌++◌, refl, ◌∙◌, ap, subst, Some, None}
use Rattle.std.specs.Prelude.{Option, ◌==◌, ⊤}
use Rattle.hb_club.specs.declared.answers.Answered.{Answered}
use Rattle.hb_club.specs.declared.commands.Entry.{Entry}
use Rattle.hb_club.specs.declared.lobby.LobbyEntry.{LobbyEntry}
use Rattle.hb_club.specs.declared.lobby.LobbyReply.{LobbyReply}
use Rattle.hb_club.specs.CommandKinds.{is_look}
use Rattle.hb_club.specs.Fronts.{AllGoOn, Fronts, GoesOn, House, IsRoom, Takes, Waits, is_room, site_of}
use Rattle.hb_club.specs.HallAnswers.{IsLobbyAnswer, IsRoomAnswer, LobbyAnswers, NothingOwn, RoomAnswers}
use Rattle.hb_club.specs.Lobby.{lobby_answer}
use Rattle.hb_club.specs.RoomEvents.{Call, Replied}
use Rattle.hb_club.specs.Views.{View, view_at}
use Rattle.hb_house.proofs.GoesOnLemmas.{all-on, goes_on-same, goes_on-trans}
use Rattle.hb_view.specs.declared.cursors.Cursor.{Cursor}
use Rattle.hb_view.specs.Cursors.{Written}
use Rattle.hb_talk.specs.declared.errands.Denial.TheVariants.{NoSuchRoom}
use Rattle.hb_talk.specs.declared.errands.Errand.{Errand}
use Rattle.hb_talk.specs.declared.errands.Errand.TheVariants as errand
use Rattle.hb_talk.specs.declared.sessions.Marks.{Marks}
use Rattle.hb_talk.specs.declared.sessions.Session.{Session}
use Rattle.hb_talk.specs.Replies.{denied_line, lobby_line}
use Rattle.hb_talk.specs.Sessions.{MarksFit, marks_after, seen_of}
use Rattle.hb_talk.specs.Turns.{bound_name, marks_of, own_lines, reply_lines, turn_of}
use Rattle.hb_desk.specs.declared.desks.Desk.{Desk}
use Rattle.hb_desk.specs.AnswerSteps.{Follows, Wrote}
use Rattle.hb_desk.specs.Desks.{CursorFits, DeskFits, DeskTurned}
use Rattle.hb_desk.proofs.FollowsLemmas.{follows}
use Rattle.hb_desk.proofs.MarksLemmas.{is_room-false, is_room-true, marks_after-shows}

-- what fits lists

-- the marks fit if the cursor does
cursor_fits-marks : (h : House) (f : Fronts) (name : Option (List ℕ)) (marks : Option Marks) (c : Cursor) → CursorFits h f name marks c
    → MarksFit h f name marks
cursor_fits-marks h f name None c fit = tt
cursor_fits-marks h f None (Some m) c fit = fit
cursor_fits-marks h f (Some member) (Some m) c fit = record { older = fit.older; goes_on = fit.goes_on; marks = fit.marks }

cursor_fits-on : (h : House) (f g : Fronts) (name : Option (List ℕ)) (marks : Option Marks) (c : Cursor)
    → ((room : ℕ) → GoesOn (f.rooms room) (g.rooms room)) → CursorFits h f name marks c → CursorFits h g name marks c
cursor_fits-on h f g name None c on fit = tt
cursor_fits-on h f g None (Some m) c on fit = fit
cursor_fits-on h f g (Some member) (Some m) c on fit =
    record { older = fit.older; goes_on = goes_on-trans fit.goes_on (on m.room); marks = fit.marks; cursor = fit.cursor }

-- a session fits lists that go on from those that it fitted
pub desk_fits-on : (h : House) (f g : Fronts) (d : Desk) → AllGoOn f g → DeskFits h f d → DeskFits h g d
desk_fits-on h f g d on fit = cursor_fits-on h f g d.session.name d.session.marks d.cursor on.rooms fit

-- a session without a name has no marks, and fits under each name
cursor_fits-unnamed : (h : House) (f g : Fronts) (name : Option (List ℕ)) (marks : Option Marks) (c d : Cursor)
    → CursorFits h f None marks c → CursorFits h g name marks d
cursor_fits-unnamed h f g name None c d fit = tt
cursor_fits-unnamed h f g name (Some m) c d fit = absurd fit

-- the marks of a view fit the list that it is of
cursor_fits-view : (h : House) (g : Fronts) (member : List ℕ) (room : ℕ) (c : Cursor)
    → (let w = view_at (site_of h room) (g.rooms room) member in (w.latest == 0) ≡ false → Written w w.items c)
    → CursorFits h g (Some member) (marks_of room (view_at (site_of h room) (g.rooms room) member)) c
cursor_fits-view h g member room c wrote =
    let w : View = view_at (site_of h room) (g.rooms room) member in by w refl (w.latest == 0) refl
  where
    by : (w : View) → view_at (site_of h room) (g.rooms room) member ≡ w → (b : Bool) → (w.latest == 0) ≡ b
        → CursorFits h g (Some member) (marks_of room w) c
    by w same true is = rw is tt
    by w same false is = rw is (record {
      older = g.rooms room;
      goes_on = goes_on-same refl;
      marks = ap (marks_of room) same ∙ rw is refl;
      cursor = wrote (ap (λ (v : View). v.latest == 0) same ∙ is);
    })

-- turns

-- a room answered
pub room-turned : {S : Type 0} (stands : S → Fronts → Type 0) (h : House) (count : ℕ)
    (alone : Bool) (hall : S) (f : Fronts) (d : Desk) (room : ℕ) (e : Entry) (a : Answered) (old new : List (List ℕ)) (left : Desk)
    → RoomAnswers stands alone hall room (Call e) (IsRoomAnswer (site_of h room) e (seen_of d.session.marks room) a) f
    → IsRoom count room → d.session.name ≡ Some e.member → DeskFits h f d
    → ((w : View) → Follows w a d.session.marks room d.cursor
    → Wrote w (reply_lines (is_look e.command) e.number (Replied a.reply)) d.session.marks room old new left.cursor)
    → left.session ≡ record d.session { followed = Some room; marks = marks_after room a }
    → DeskTurned stands h count alone hall f d (errand.Calls room e) old new left
unfolding turn_of
room-turned stands h count alone hall f d room e a old new left answers is named fit writes leaves =
    let g : Fronts = answers.after in
    let w : View = view_at (site_of h room) (g.rooms room) e.member in
    let takes : Takes alone room (Call e) f g = answers.takes in
    let on : AllGoOn f g = all-on room f g takes.rest (record { more = Call e ∷ takes.others; is = takes.front }) in
    let here : is_room count room ≡ true = is_room-true count room is in
    let fits : CursorFits h f (Some e.member) d.session.marks d.cursor =
    subst (λ name. CursorFits h f name d.session.marks d.cursor) named fit in
    let behind = follows h f g e.member d.session.marks d.cursor room a fits on.rooms answers.answer.whole
    answers.answer.shows in
    let wrote = writes w behind in
    let marks : marks_after room a ≡ marks_of room w = marks_after-shows room w a behind.shows behind.within in
    let name_is : left.session.name ≡ Some e.member = ap (λ (x : Session). x.name) leaves ∙ named in
    let marks_is : left.session.marks ≡ marks_of room w = ap (λ (x : Session). x.marks) leaves ∙ marks in
    let fits_now : DeskFits h g left = rw (name_is, marks_is) (cursor_fits-view h g e.member room left.cursor wrote.left) in
    record {
      turned = record {
        after = g;
        stands_for = answers.stands_for;
        calls = rw here takes;
        texts = rw (here, answers.answer.reply) wrote.texts;
        session = rw (here, ← marks) leaves;
        fits = cursor_fits-marks h g left.session.name left.session.marks left.cursor fits_now;
      };
      fits = fits_now;
    }

-- there is no such room
pub no-room-turned : {S : Type 0} (stands : S → Fronts → Type 0) (h : House) (count : ℕ) (alone : Bool) (hall : S) (f : Fronts)
    (d : Desk) (room : ℕ) (e : Entry) (old new : List (List ℕ))
    → NothingOwn stands alone hall room f → ¬ IsRoom count room → DeskFits h f d → new ≡ old ++ denied_line NoSuchRoom ∷ []
    → DeskTurned stands h count alone hall f d (errand.Calls room e) old new d
unfolding turn_of
no-room-turned stands h count alone hall f d room e old new nothing missing fit wrote =
    let g : Fronts = nothing.after in
    let waits : Waits alone room f g = nothing.waits in
    let there : is_room count room ≡ false = is_room-false count room missing in
    let on : AllGoOn f g = all-on room f g waits.rest (record { more = waits.others; is = waits.front }) in
    let fits_now : DeskFits h g d = desk_fits-on h f g d on fit in
    record {
      turned = record {
        after = g;
        stands_for = nothing.stands_for;
        calls = rw there waits;
        texts = rw there wrote;
        session = rw there refl;
        fits = cursor_fits-marks h g d.session.name d.session.marks d.cursor fits_now;
      };
      fits = fits_now;
    }

-- the lobby replied
pub lobby-turned : {S : Type 0} (stands : S → Fronts → Type 0) (h : House) (count : ℕ) (alone : Bool) (hall : S) (f : Fronts)
    (d : Desk) (e : LobbyEntry) (reply : LobbyReply) (old new : List (List ℕ)) (left : Desk)
    → LobbyAnswers stands alone hall e (IsLobbyAnswer reply) f → d.session.name ≡ None → DeskFits h f d
    → new ≡ old ++ lobby_line reply ∷ [] → left.session ≡ record d.session { name = bound_name reply }
    → DeskTurned stands h count alone hall f d (errand.Enters e) old new left
unfolding turn_of
lobby-turned stands h count alone hall f d e reply old new left answers unbound fit wrote is =
    let g : Fronts = answers.after in
    let answer : lobby_answer g.lobby ≡ reply = answers.answer in
    let free : CursorFits h f None d.session.marks d.cursor =
    subst (λ name. CursorFits h f name d.session.marks d.cursor) unbound fit in
    let marks_is : left.session.marks ≡ d.session.marks = ap (λ (x : Session). x.marks) is in
    let fits_now : DeskFits h g left =
    rw marks_is (cursor_fits-unnamed h f g left.session.name d.session.marks d.cursor left.cursor free) in
    record {
      turned = record {
        after = g;
        stands_for = answers.stands_for;
        calls = answers.takes;
        texts = rw answer wrote;
        session = rw answer is;
        fits = cursor_fits-marks h g left.session.name left.session.marks left.cursor fits_now;
      };
      fits = fits_now;
    }

-- the texts of a turn are appended to others
pub turned-behind : {S : Type 0} (stands : S → Fronts → Type 0) (h : House) (count : ℕ) (alone : Bool) (hall : S) (f : Fronts)
    (d : Desk) (task came : Errand) (none sent texts new : List (List ℕ)) (left : Desk) → none ≡ [] → task ≡ came → new ≡ texts ++ sent
    → DeskTurned stands h count alone hall f d task none sent left → DeskTurned stands h count alone hall f d came texts new left
turned-behind stands h count alone hall f d task came none sent texts new left empty is appended before =
    let t = before.turned in
    let lines : List (List ℕ) = (turn_of h count t.after d.session task).texts in
    subst (λ (k : Errand). DeskTurned stands h count alone hall f d k texts new left) is (record {
      turned = record {
        after = t.after;
        stands_for = t.stands_for;
        calls = t.calls;
        texts = appended ∙ ap (λ (l : List (List ℕ)). texts ++ l) (t.texts ∙ ap (λ (l : List (List ℕ)). l ++ lines) empty);
        session = t.session;
        fits = t.fits;
      };
      fits = before.fits;
    })

-- an errand that calls nothing
abbrev pub CallsNothing : Errand → Type 0
CallsNothing errand.Nothing = ⊤
CallsNothing (errand.Bad why) = ⊤
CallsNothing (errand.Denied why) = ⊤
CallsNothing (errand.Enters entry) = ⊥
CallsNothing (errand.Calls room e) = ⊥

-- nothing was called
pub quiet-turned : {S : Type 0} (stands : S → Fronts → Type 0) (h : House) (count : ℕ) (alone : Bool) (hall : S) (f : Fronts)
    (d : Desk) (task : Errand) (old new : List (List ℕ)) → stands hall f → DeskFits h f d → CallsNothing task
    → new ≡ old ++ own_lines task → DeskTurned stands h count alone hall f d task old new d
unfolding turn_of
quiet-turned stands h count alone hall f d errand.Nothing old new stood fit quiet wrote = record {
  turned = record {
    after = f;
    stands_for = stood;
    calls = refl;
    texts = wrote;
    session = refl;
    fits = cursor_fits-marks h f d.session.name d.session.marks d.cursor fit;
  };
  fits = fit;
}
quiet-turned stands h count alone hall f d (errand.Bad why) old new stood fit quiet wrote = record {
  turned = record {
    after = f;
    stands_for = stood;
    calls = refl;
    texts = wrote;
    session = refl;
    fits = cursor_fits-marks h f d.session.name d.session.marks d.cursor fit;
  };
  fits = fit;
}
quiet-turned stands h count alone hall f d (errand.Denied why) old new stood fit quiet wrote = record {
  turned = record {
    after = f;
    stands_for = stood;
    calls = refl;
    texts = wrote;
    session = refl;
    fits = cursor_fits-marks h f d.session.name d.session.marks d.cursor fit;
  };
  fits = fit;
}
quiet-turned stands h count alone hall f d (errand.Enters entry) old new stood fit quiet wrote = absurd quiet
quiet-turned stands h count alone hall f d (errand.Calls room e) old new stood fit quiet wrote = absurd quiet
