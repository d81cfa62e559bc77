-- What does a hall answer when a room was called?
use Rattle.std.proofs.Common.{◌≡◌, ℕ, false, List, [], ◌∷◌, ◌++◌, Option, Some, None, refl, ap, sym, ◌∙◌, subst, is_some, IfOk, OnErr, true≢false}
use Rattle.hb_club.specs.declared.answers.Answered.{Answered}
use Rattle.hb_club.specs.declared.answers.Seen.{Seen}
use Rattle.hb_club.specs.declared.clerks.ClerkNote.{ClerkNote}
use Rattle.hb_club.specs.declared.clerks.Noted as clerk
use Rattle.hb_club.specs.declared.clerks.Todo.{Todo}
use Rattle.hb_club.specs.declared.commands.Entry as commands
use Rattle.hb_club.specs.Fronts.{Fronts, site_of}
use Rattle.hb_club.specs.HallAnswers.{IsNoted, IsRoomAnswer, IsTodo, NothingOwn, RoomAnswers}
use Rattle.hb_club.specs.RoomEvents.{AsksTodo, Call, RoomEvent, Site, note_event}
use Rattle.hb_hall.specs.declared.guarded.RoomCall.{RoomCall}
use Rattle.hb_hall.specs.declared.guarded.RoomCall.TheVariants.{AskTodo, Enter, TakeNote}
use Rattle.hb_hall.specs.declared.guarded.RoomReply.{RoomReply}
use Rattle.hb_hall.specs.declared.guarded.RoomReply.TheVariants.{Entered, NoMemory, Noted, Owes}
use Rattle.hb_hall.specs.MachineTurns.{IsRightReply, room_event}
use Rattle.hb_hall.specs.TurnFronts.{CallsRoom, Places, TurnStands, house_of}
use Rattle.hb_hall.specs.TurnReplies.{answer_of, entered_in, noted_in, owed_in, read_answer}
use Rattle.hb_hall.proofs.PlaceLemmas.{same-some}

-- an option is none or some
none-some : {X : Type 0} {x : X} → None ≡ Some x → ⊥
none-some e = true≢false (sym (ap is_some e))

some-none : {X : Type 0} {x : X} → Some x ≡ None → ⊥
some-none e = true≢false (ap is_some e)

-- a reply from which an answer is read has the event of its call, and the answer is right
abbrev pub ReadsRight : {A : Type 0} → Site → RoomCall → (read : RoomReply → Option A) → RoomEvent
    → (IsAnswer : A → List RoomEvent → Type 0) → Type 0
ReadsRight {A} s call read event IsAnswer = (reply : RoomReply) (a : A) → read reply ≡ Some a
    → (room_event call reply ≡ event ∷ []) × ((events : List RoomEvent) → IsRightReply s call reply events → IsAnswer a events)

-- and one from which none is read has no event
abbrev pub ReadsNothing : {A : Type 0} → RoomCall → (read : RoomReply → Option A) → Type 0
ReadsNothing call read = (reply : RoomReply) → read reply ≡ None → room_event call reply ≡ []

-- a hall that answers as its room replied
module _ {R A : Type 0} (site : R → Site) (stands : R → List RoomEvent → Type 0) (old new : Places R) (room : ℕ) (call : RoomCall)
    (read : RoomReply → Option A) (event : RoomEvent) (IsAnswer : A → List RoomEvent → Type 0)
    (right : ReadsRight (site_of (house_of old) room) call read event IsAnswer) (nothing : ReadsNothing call read) where
  ok-read : (reply : RoomReply) (o : Option A) → read reply ≡ o → CallsRoom site stands old room call (Some reply) new
      → IfOk (read_answer o) (λ a. (f : Fronts) → TurnStands site stands old f
      → RoomAnswers (TurnStands site stands) false new room event (IsAnswer a) f)
  ok-read reply None is called = tt
  ok-read reply (Some a) is called = λ f stood.
      let reads = right reply a is in
      let x = called.answered f stood in
      record {
        after = x.after;
        stands_for = x.stands_for;
        takes = record {
          others = x.others;
          quiet = (λ no. absurd (true≢false (sym no)));
          front = x.front ∙ ap (λ e. e ++ (x.others ++ f.rooms room)) reads.0;
          rest = x.rest;
        };
        answer = reads.1 (x.after.rooms room) x.reply;
      }

  -- an answer is right at the lists for which the hall then stands
  pub answer-ok : (reply : Option RoomReply) → CallsRoom site stands old room call reply new
      → IfOk (answer_of read reply) (λ a. (f : Fronts) → TurnStands site stands old f
      → RoomAnswers (TurnStands site stands) false new room event (IsAnswer a) f)
  answer-ok None called = tt
  answer-ok (Some reply) called = ok-read reply (read reply) refl called

  err-read : (reply : RoomReply) (o : Option A) → read reply ≡ o → CallsRoom site stands old room call (Some reply) new
      → OnErr (read_answer o) ((f : Fronts) → TurnStands site stands old f
      → NothingOwn (TurnStands site stands) false new room f)
  err-read reply (Some a) is called = tt
  err-read reply None is called = λ f stood.
      let x = called.answered f stood in
      record {
        after = x.after;
        stands_for = x.stands_for;
        waits = record {
          others = x.others;
          quiet = (λ no. absurd (true≢false (sym no)));
          front = x.front ∙ ap (λ e. e ++ (x.others ++ f.rooms room)) (nothing reply is);
          rest = x.rest;
        };
      }

  -- a call that is refused adds no event of its own
  pub answer-err : (reply : Option RoomReply) → CallsRoom site stands old room call reply new
      → OnErr (answer_of read reply) ((f : Fronts) → TurnStands site stands old f
      → NothingOwn (TurnStands site stands) false new room f)
  answer-err None called = λ f stood. record {
    after = f;
    stands_for = called.refused f stood;
    waits = record { others = []; quiet = (λ no. refl); front = refl; rest = record { rooms = (λ other apart. refl); lobby = refl } };
  }
  answer-err (Some reply) called = err-read reply (read reply) refl called

-- how a reply to an entry is read
pub entry-right : (s : Site) (entry : commands.Entry) (seen : Seen)
    → ReadsRight s (Enter entry seen) entered_in (Call entry) (λ a events. IsRoomAnswer s entry seen a events)
entry-right s entry seen (Entered b) a is = (refl, (λ events right. subst (λ x. IsRoomAnswer s entry seen x events) (same-some is) right))
entry-right s entry seen (Owes todo) a is = absurd (none-some is)
entry-right s entry seen (Noted noted) a is = absurd (none-some is)
entry-right s entry seen NoMemory a is = absurd (none-some is)

-- a reply to an entry in which no answer is has no event
pub entry-nothing : (entry : commands.Entry) (seen : Seen) → ReadsNothing (Enter entry seen) entered_in
entry-nothing entry seen (Entered b) is = absurd (some-none is)
entry-nothing entry seen (Owes todo) is = refl
entry-nothing entry seen (Noted noted) is = refl
entry-nothing entry seen NoMemory is = refl

-- how a reply to the clerk's question is read
pub question-right : (s : Site) (moment : ℕ) → ReadsRight s (AskTodo moment) owed_in (AsksTodo moment) (λ a events. IsTodo s a events)
question-right s moment (Entered b) a is = absurd (none-some is)
question-right s moment (Owes todo) a is = (refl, (λ events right. subst (λ x. IsTodo s x events) (same-some is) right))
question-right s moment (Noted noted) a is = absurd (none-some is)
question-right s moment NoMemory a is = absurd (none-some is)

-- a reply to the question in which no answer is has no event
pub question-nothing : (moment : ℕ) → ReadsNothing (AskTodo moment) owed_in
question-nothing moment (Entered b) is = refl
question-nothing moment (Owes todo) is = absurd (some-none is)
question-nothing moment (Noted noted) is = refl
question-nothing moment NoMemory is = refl

-- how a reply to a note is read
pub note-right : (s : Site) (moment : ℕ) (note : ClerkNote)
    → ReadsRight s (TakeNote moment note) noted_in (note_event moment note) (λ a events. IsNoted s a events)
note-right s moment note (Entered b) a is = absurd (none-some is)
note-right s moment note (Owes todo) a is = absurd (none-some is)
note-right s moment note (Noted noted) a is = (refl, (λ events right. subst (λ x. IsNoted s x events) (same-some is) right))
note-right s moment note NoMemory a is = absurd (none-some is)

-- a reply to a note in which no answer is has no event
pub note-nothing : (moment : ℕ) (note : ClerkNote) → ReadsNothing (TakeNote moment note) noted_in
note-nothing moment note (Entered b) is = refl
note-nothing moment note (Owes todo) is = refl
note-nothing moment note (Noted noted) is = absurd (some-none is)
note-nothing moment note NoMemory is = refl
