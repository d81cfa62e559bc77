-- Is what a script sends a connection a function of the connection's turns? Yes.
use Rattle.std.proofs.Common.{◌≡◌, ◌==◌, ℕ, Bool, true, false, List, [], ◌∷◌, ◌++◌, refl, sym, ap, subst, ◌∙◌, append-nil, arith, Some, None, if◌then◌else◌}
use Rattle.std.proofs.lemmas.Bool.Decides.{nat_tests}
use Rattle.std.specs.Prelude.{Option}
use Rattle.hb_io.specs.declared.got.Got.{Got}
use Rattle.hb_keeper.specs.declared.errors.KeepError.{KeepError}
use Rattle.hb_club.specs.Fronts.{Fronts, House}
use Rattle.hb_talk.specs.declared.errands.Errand.{Errand}
use Rattle.hb_talk.specs.declared.scripts.ScriptLine.{ScriptLine}
use Rattle.hb_talk.specs.declared.scripts.ScriptLine.TheVariants as line
use Rattle.hb_talk.specs.declared.sessions.Session.{Session}
use Rattle.hb_talk.specs.Errands.{asked}
use Rattle.hb_talk.specs.Scripts.{Ran, Stage, first_stage, fronts_after, ran_unless, said, sent, session_of, stage_after}
use Rattle.hb_talk.specs.Turns.{Turn, turn_of, turn_on}
use Rattle.hb_run.specs.AlikeScripts.{AlikeScripts}
use Rattle.hb_run.specs.ConnSights.{ConnTurn, conn_turns, sent_to, sight, text_to, turn_unless, turn_when}
use Rattle.hb_run.proofs.HeldLemmas.{session-here}
use Rattle.hb_run.proofs.SightLemmas.{hear, heard-seen}
use Rattle.hb_run.proofs.WholeListsLemmas.{AreWhole, stage-whole}

-- what a session does at turns, by what was observed at them

abbrev turn_then : Session → ConnTurn → Turn
turn_then x t = turn_on x (asked x t.moment t.got) (hear t.sight)

abbrev session_then : Session → List ConnTurn → Session
session_then x [] = x
session_then x (t ∷ older) = (turn_then (session_then x older) t).left

abbrev texts_then : ℕ → Session → List ConnTurn → List ℕ
texts_then conn x [] = []
texts_then conn x (t ∷ older) = texts_then conn x older ++ sent conn (turn_then (session_then x older) t).texts

-- a turn in a script is that turn

turn-seen : (h : House) (count : ℕ) (b : Stage) (x : Session) (moment : ℕ) (got : Got) → AreWhole b.fronts
    → let task = asked x moment got in
    let after = fronts_after count task b.fronts in
    turn_of h count after x task ≡ turn_then x (record { moment = moment; got = got; sight = sight h count after task })
unfolding turn_of
turn-seen h count b x moment got whole =
    let task : Errand = asked x moment got in ap (turn_on x task) (heard-seen h count task b.fronts whole)

-- a line, by its effect on the connection: its session then, and what it was sent
record IsSent (conn : ℕ) (x : Session) (ran : Ran) (more : List ℕ) (before : List ℕ) (turns : List ConnTurn) : Type 0 where
  pub session : session_of conn ran.stage.sessions ≡ session_then x turns
  pub text : before ++ more ≡ texts_then conn x turns

session-other : (conn other : ℕ) (y : Session) (sessions : List (ℕ × Session)) → (other == conn) ≡ false
    → session_of conn ((other, y) ∷ sessions) ≡ session_of conn sessions
session-other conn other y sessions is = rw is refl

-- the line is the connection's
own-line : (h : House) (count conn moment : ℕ) (got : Got) (b : Stage) (x : Session) (before : List ℕ) (turns : List ConnTurn)
    → AreWhole b.fronts → session_of conn b.sessions ≡ session_then x turns → before ≡ texts_then conn x turns
    → let r = said h count conn b (asked (session_of conn b.sessions) moment got) in
    IsSent conn x r r.text before (turn_when true h count b conn moment got ++ turns)
own-line h count conn moment got b x before turns whole session text =
    let y : Session = session_of conn b.sessions in
    let task : Errand = asked y moment got in
    let after : Fronts = fronts_after count task b.fronts in
    let t : ConnTurn = record { moment = moment; got = got; sight = sight h count after task } in
    let turn : turn_of h count after y task ≡ turn_then (session_then x turns) t =
    turn-seen h count b y moment got whole ∙ ap (λ (z : Session). turn_then z t) session in
    record {
      session = session-here conn (turn_of h count after y task).left b.sessions ∙ ap (λ (u : Turn). u.left) turn;
      text = ap (λ (l : List ℕ). l ++ sent conn (turn_of h count after y task).texts) text
          ∙ ap (λ (u : Turn). texts_then conn x turns ++ sent conn u.texts) turn;
    }

-- it is another's
other-line : (h : House) (count conn other moment : ℕ) (got : Got) (b : Stage) (x : Session) (before : List ℕ) (turns : List ConnTurn)
    → (other == conn) ≡ false → session_of conn b.sessions ≡ session_then x turns → before ≡ texts_then conn x turns
    → IsSent conn x (said h count other b (asked (session_of other b.sessions) moment got)) [] before turns
other-line h count conn other moment got b x before turns apart session text =
    let y : Session = session_of other b.sessions in
    let task : Errand = asked y moment got in
    record {
      session = session-other conn other (turn_of h count (fronts_after count task b.fronts) y task).left b.sessions apart ∙ session;
      text = append-nil before ∙ text;
    }

nothing-to : (conn : ℕ) (l : ScriptLine) → text_to conn l [] ≡ []
nothing-to conn (line.Clerk moment) = refl
nothing-to conn (line.Says moment other got) = by (other == conn)
  where
    by : (b : Bool) → ◌≡◌ {A = List ℕ} (if b then [] else []) []
    by true = refl
    by false = refl

says-line : (h : House) (count conn other moment : ℕ) (got : Got) (b : Stage) (x : Session) (before : List ℕ) (turns : List ConnTurn)
    → AreWhole b.fronts → session_of conn b.sessions ≡ session_then x turns → before ≡ texts_then conn x turns
    → (own : Bool) → (other == conn) ≡ own
    → let r = said h count other b (asked (session_of other b.sessions) moment got) in
    IsSent conn x r (if own then r.text else []) before (turn_when own h count b conn moment got ++ turns)
says-line h count conn other moment got b x before turns whole session text true same =
    let place : other ≡ conn = grind (arith, nat_tests) in
    subst (λ (k : ℕ). let r = said h count k b (asked (session_of k b.sessions) moment got) in
    IsSent conn x r r.text before (turn_when true h count b conn moment got ++ turns)) (sym place)
    (own-line h count conn moment got b x before turns whole session text)
says-line h count conn other moment got b x before turns whole session text false apart =
    other-line h count conn other moment got b x before turns apart session text

line-sent : (o : Option KeepError) (h : House) (count conn : ℕ) (l : ScriptLine) (b : Stage) (x : Session) (before : List ℕ)
    (turns : List ConnTurn) → AreWhole b.fronts → session_of conn b.sessions ≡ session_then x turns
    → before ≡ texts_then conn x turns
    → let r = ran_unless o h count b l in
    IsSent conn x r (text_to conn l r.text) before (turn_unless o h count b conn l ++ turns)
line-sent (Some why) h count conn l b x before turns whole session text = record {
  session = session;
  text = ap (λ (m : List ℕ). before ++ m) (nothing-to conn l) ∙ (append-nil before ∙ text);
}
line-sent None h count conn (line.Clerk moment) b x before turns whole session text =
    record { session = session; text = append-nil before ∙ text }
line-sent None h count conn (line.Says moment other got) b x before turns whole session text =
    says-line h count conn other moment got b x before turns whole session text (other == conn) refl

-- a script

record IsSentAll (h : House) (count : ℕ) (s : Stage) (conn : ℕ) (lines : List ScriptLine) : Type 0 where
  pub session : session_of conn (stage_after h count s lines).sessions
      ≡ session_then (session_of conn s.sessions) (conn_turns h count s conn lines)
  pub text : sent_to h count s conn lines ≡ texts_then conn (session_of conn s.sessions) (conn_turns h count s conn lines)

lines-sent : (h : House) (count : ℕ) (s : Stage) (conn : ℕ) (lines : List ScriptLine) → AreWhole s.fronts
    → IsSentAll h count s conn lines
unfolding stage_after conn_turns sent_to
lines-sent h count s conn [] whole = record { session = refl; text = refl }
lines-sent h count s conn (l ∷ lines) whole =
    let b : Stage = stage_after h count s lines in
    let x : Session = session_of conn s.sessions in
    let older = lines-sent h count s conn lines whole in
    let last = line-sent b.stopped h count conn l b x (sent_to h count s conn lines) (conn_turns h count s conn lines)
    (stage-whole h count s lines whole) older.session older.text in
    record { session = last.session; text = last.text }

-- a connection that has the same turns in two scripts is sent the same bytes in both
pub alike-scripts : AlikeScripts
alike-scripts conn h k m n a b lines others same =
    let first = lines-sent h m (first_stage a) conn lines (λ room. tt) in
    let second = lines-sent k n (first_stage b) conn others (λ room. tt) in
    first.text
    ∙ (ap (λ (turns : List ConnTurn). texts_then conn (session_of conn (first_stage a).sessions) turns) same ∙ sym second.text)
