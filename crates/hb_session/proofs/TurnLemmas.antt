-- How far has a session come behind one answer more of its link, and how does it end?
use Rattle.std.proofs.Common.{◌≡◌, ℕ, ◌+◌, suc, Bool, true, false, List, [], ◌∷◌, ◌++◌, length, length-append, min, Option, Some, None, Ok, Err, IfSome, refl, ap, sym, ◌∙◌, subst, append-nil, zero-add, add-zero, add-one, arith, true≢false, inl, inr}
use mathlib.Core.List.{IsPrefix}
use Rattle.hb_io.specs.declared.got.Got.{Got}
use Rattle.hb_io.specs.declared.got.Got.TheVariants as got
use Rattle.hb_timer.specs.declared.timing.TheConstants.{MOMENT_LIMIT}
use Rattle.hb_club.specs.Fronts.{Fronts, House}
use Rattle.hb_edge.specs.declared.link.LinkError.{LinkError}
use Rattle.hb_edge.specs.declared.link.LinkError.TheVariants as link_error
use Rattle.hb_edge.specs.Talk.{Talk, after_recv}
use Rattle.hb_edge.specs.Telling.{GoesOn, Tells}
use Rattle.hb_talk.specs.declared.sessions.Session.{Session}
use Rattle.hb_talk.specs.Errands.{asked}
use Rattle.hb_talk.specs.Sessions.{TurnCalls}
use Rattle.hb_talk.specs.Turns.{turn, turn_of}
use Rattle.hb_desk.specs.declared.desks.Desk.{Desk}
use Rattle.hb_desk.specs.Desks.{DeskFits, DeskTurned, session_of}
use Rattle.hb_desk.specs.DeskTurns.{GoesTo}
use Rattle.hb_session.specs.declared.ends.End.{End}
use Rattle.hb_session.specs.declared.ends.End.TheVariants as end
use Rattle.hb_session.specs.Conversations.{AreAtMoments, AreTurns, Converses, Took, gots_of, left_by, lists_after, said_by}
use Rattle.hb_session.specs.Ends.{Exchanged, ExchangedInPart, IfTold, Talked, end_of, has_closed, is_closed, is_refused}
use Rattle.hb_session.specs.Talking.{IsAt, SendsSome, Talks, with_texts}
use Rattle.hb_session.proofs.FrontsLemmas.{all_on-same}
use Rattle.hb_session.proofs.TalkLemmas.{has_closed-append_one, prefix-behind, prefix-whole, told-none, told-received, told-refused, told-sent, told-weaker}

-- a closed link says nothing
closed-says : (h : House) (n : ℕ) (after : Fronts) (s : Session) (moment : ℕ) → (turn h n after s moment got.Closed).texts ≡ []
unfolding turn_of
closed-says h n after s moment = refl

-- the moments

-- an answer of a clock is the one of its place, and the clock then stands at the next
ticks-on : (start clock clock' : Option (ℕ → ℕ)) (place answer : ℕ) → IsAt start place clock → GoesOn clock clock' answer
    → IfSome start (λ answers. answer ≡ answers place) × IsAt start (place + 1) clock'
ticks-on None clock clock' place answer at ticks = (tt, tt)
ticks-on (Some answers) None clock' place answer at ticks = absurd at
ticks-on (Some answers) (Some later) None place answer at ticks = absurd ticks
ticks-on (Some answers) (Some later) (Some next) place answer at ticks = (
  ticks.0 ∙ (at 0 ∙ ap answers (add-zero place)),
  λ k. let e : place + suc k ≡ place + 1 + k = omega arith in ticks.1 k ∙ (at (suc k) ∙ ap answers e),
)

-- one turn more was taken at the clock's answer
moments-more : (start : Option (ℕ → ℕ)) (turns : List Took) (taken answer : ℕ) (t : Took) → length turns ≡ taken
    → IfSome start (λ answers. answer ≡ answers taken) → t.moment ≡ min answer MOMENT_LIMIT
    → IfSome start (λ answers. AreAtMoments answers 0 turns) → IfSome start (λ answers. AreAtMoments answers 0 (t ∷ turns))
moments-more None turns taken answer t counted told is at = tt
moments-more (Some answers) turns taken answer t counted told is at =
    (is ∙ ap (λ a. min a MOMENT_LIMIT) (told ∙ sym (ap answers (zero-add (length turns) ∙ counted))), at)

-- no turn was taken yet
no-moments : (start : Option (ℕ → ℕ)) → IfSome start (λ answers. AreAtMoments answers 0 [])
no-moments None = tt
no-moments (Some answers) = tt

at-first : (clock : Option (ℕ → ℕ)) → IsAt clock 0 clock
at-first None = tt
at-first (Some answers) = λ k. ap answers (sym (zero-add k))

-- as many answers came as turns were taken
gots-counted : (turns : List Took) → length (gots_of turns) ≡ length turns
gots-counted [] = refl
gots-counted (t ∷ turns) =
    length-append (gots_of turns) (t.came ∷ []) ∙ (ap (λ n. n + 1) (gots-counted turns) ∙ add-one (length turns))

-- the beginning

-- a new session has come nowhere yet
pub talks-begin : {S : Type 0} (stands : S → Fronts → Type 0) (h : House) (n : ℕ) (alone : Bool) (first : Fronts) (hall : S)
    (clock : Option (ℕ → ℕ)) (desk : Desk) (told : Option Talk) → stands hall first → session_of desk ≡ left_by h n []
    → DeskFits h first desk → Talks stands h n alone first clock told 0 hall clock desk told
talks-begin stands h n alone first hall clock desk told stood new fits = record {
  turns = [];
  counted = refl;
  in_order = tt;
  moments = no-moments clock;
  clock_at = at-first clock;
  stands_for = stood;
  session = new;
  fits = fits;
  is_open = refl;
  exchanged = told-none told;
}

module _ {S : Type 0} (stands : S → Fronts → Type 0) (h : House) (n : ℕ) (alone : Bool) (first : Fronts)
    (start : Option (ℕ → ℕ)) (told : Option Talk) (taken budget : ℕ) (hall : S) (clock : Option (ℕ → ℕ)) (desk : Desk)
    (now : Option Talk) (t : Talks stands h n alone first start told taken hall clock desk now) where
  -- no turn more was taken

  -- the session ends behind the turns so far; what was refused may have left entries
  ends-here : (hall' : S) (after : Option Talk) (how : End) → GoesTo stands hall' (lists_after first t.turns)
      → IfTold told after (Talked how budget (gots_of t.turns) (said_by h n t.turns))
      → Converses stands h n alone hall' first start budget told after how
  ends-here hall' after how goes talked = record {
    turns = t.turns;
    in_order = t.in_order;
    moments = t.moments;
    talked = talked;
    lists = goes.after;
    stands_for = goes.stands_for;
    further = goes.on;
  }

  stays-here : GoesTo stands hall (lists_after first t.turns)
  stays-here =
      record { after = lists_after first t.turns; stands_for = t.stands_for; on = all_on-same (lists_after first t.turns) }

  -- all that was said was sent
  whole-part : (x y : Talk) → Exchanged (gots_of t.turns) (said_by h n t.turns) x y
      → ExchangedInPart (gots_of t.turns) (said_by h n t.turns) x y
  whole-part x y e = record { part = said_by h n t.turns; first = prefix-whole (said_by h n t.turns); exchanged = e }

  -- the link refused to give an answer
  pub talks-refused : (e : LinkError) (after : Option Talk) → Tells now after (after_recv (Err e))
      → Converses stands h n alone hall first start budget told after (end_of e)
  talks-refused link_error.Fault after same = ends-here hall after end.LinkFault stays-here
      (told-weaker told after _ _ (λ x y e. (t.is_open, whole-part x y e))
      (told-refused told now after _ link_error.Fault t.exchanged same))
  talks-refused link_error.NoMemory after same = ends-here hall after end.NoMemory stays-here
      (told-weaker told after _ _ (λ x y e. (t.is_open, inl (whole-part x y e)))
      (told-refused told now after _ link_error.NoMemory t.exchanged same))

  -- as many answers were taken as may be
  pub talks-spent : taken ≡ budget → Converses stands h n alone hall first start budget told now end.BudgetSpent
  talks-spent is = ends-here hall now end.BudgetSpent stays-here
      (told-weaker told now _ _ (λ x y e. (t.is_open, gots-counted t.turns ∙ (t.counted ∙ is), e)) t.exchanged)

  -- an answer came
  module _ (g : Got) (after : Option Talk) (came : Tells now after (after_recv (Ok g))) where
    -- its turn was refused
    pub talks-not_taken : (how : End) (hall' : S) → is_closed g ≡ false → is_refused how ≡ true
        → GoesTo stands hall' (lists_after first t.turns)
        → Converses stands h n alone hall' first start budget told after how
    talks-not_taken end.Worn hall' is_open is goes = ends-here hall' after end.Worn goes
        (told-weaker told after _ _ (λ x y e. (t.is_open, record { last = g; is_open = is_open; exchanged = e }))
        (told-received told now after (gots_of t.turns) (said_by h n t.turns) g t.exchanged came))
    talks-not_taken end.NoMemory hall' is_open is goes = ends-here hall' after end.NoMemory goes
        (told-weaker told after _ _ (λ x y e. (t.is_open, inr (record { last = g; is_open = is_open; exchanged = e })))
        (told-received told now after (gots_of t.turns) (said_by h n t.turns) g t.exchanged came))
    talks-not_taken end.Closed hall' is_open is goes = absurd (true≢false (sym is))
    talks-not_taken end.LinkFault hall' is_open is goes = absurd (true≢false (sym is))
    talks-not_taken end.BudgetSpent hall' is_open is goes = absurd (true≢false (sym is))

    -- its turn was taken
    module _ (answer moment : ℕ) (clock' : Option (ℕ → ℕ)) (ticks : GoesOn clock clock' answer)
        (is : moment ≡ min answer MOMENT_LIMIT) where
      -- with the lists behind it
      abbrev turns' : Fronts → List Took
      turns' f = record { came = g; moment = moment; after = f } ∷ t.turns

      in_order' : (f : Fronts) → TurnCalls alone n (asked (session_of desk) moment g) (lists_after first t.turns) f
          → AreTurns h n alone first (turns' f)
      in_order' f calls =
          (subst (λ s. TurnCalls alone n (asked s moment g) (lists_after first t.turns) f) t.session calls, t.in_order)

      moments' : (f : Fronts) → IfSome start (λ answers. AreAtMoments answers 0 (turns' f))
      moments' f = moments-more start t.turns taken answer (record { came = g; moment = moment; after = f }) t.counted
          (ticks-on start clock clock' taken answer t.clock_at ticks).0 is t.moments

      -- behind it the session ended
      ends-there : (hall' : S) (f : Fronts) (later : Option Talk) (how : End)
          → TurnCalls alone n (asked (session_of desk) moment g) (lists_after first t.turns) f → stands hall' f
          → IfTold told later (Talked how budget (gots_of (turns' f)) (said_by h n (turns' f)))
          → Converses stands h n alone hall' first start budget told later how
      ends-there hall' f later how calls stood talked = record {
        turns = turns' f;
        in_order = in_order' f calls;
        moments = moments' f;
        talked = talked;
        lists = f;
        stands_for = stood;
        further = all_on-same f;
      }

      -- its texts were sent
      module _ (hall' : S) (desk' : Desk) (texts : List (List ℕ)) (later : Option Talk) (is_open : is_closed g ≡ false)
          (turned : DeskTurned stands h n alone hall' (lists_after first t.turns) desk (asked (session_of desk) moment g)
          [] texts desk') where
        said' : texts ≡ (turn h n turned.turned.after (left_by h n t.turns) moment g).texts
        said' = turned.turned.texts ∙ ap (λ s. (turn h n turned.turned.after s moment g).texts) t.session

        is_open' : has_closed (gots_of (turns' turned.turned.after)) ≡ false
        is_open' = has_closed-append_one (gots_of t.turns) g t.is_open is_open

        -- the session goes on
        pub talks-more : Tells after later (with_texts texts)
            → Talks stands h n alone first start told (taken + 1) hall' clock' desk' later
        talks-more sent = record {
          turns = turns' turned.turned.after;
          counted = rw add-one (ap suc t.counted);
          in_order = in_order' turned.turned.after turned.turned.calls;
          moments = moments' turned.turned.after;
          clock_at = (ticks-on start clock clock' taken answer t.clock_at ticks).1;
          stands_for = turned.turned.stands_for;
          session = turned.turned.session ∙ ap (λ s. (turn h n turned.turned.after s moment g).left) t.session;
          fits = turned.fits;
          is_open = is_open';
          exchanged = subst (λ l. IfTold told later (Exchanged (gots_of t.turns ++ g ∷ []) (said_by h n t.turns ++ l))) said'
              (told-sent told after later _ (said_by h n t.turns) texts
              (told-received told now after (gots_of t.turns) (said_by h n t.turns) g t.exchanged came) sent);
        }

        -- the link refused one of them
        cut-part : SendsSome texts after later → IfTold told later
            (ExchangedInPart (gots_of (turns' turned.turned.after)) (said_by h n (turns' turned.turned.after)))
        cut-part some = told-weaker told later _ _
            (λ x y e. record {
              part = said_by h n t.turns ++ some.part;
              first = prefix-behind (said_by h n t.turns) some.part _ (subst (λ l. IsPrefix some.part l) said' some.first);
              exchanged = e;
            })
            (told-sent told after later _ (said_by h n t.turns) some.part
            (told-received told now after (gots_of t.turns) (said_by h n t.turns) g t.exchanged came) some.told)

        -- the session ends where a text was refused
        pub talks-cut : (e : LinkError) → SendsSome texts after later
            → Converses stands h n alone hall' first start budget told later (end_of e)
        talks-cut link_error.Fault some =
            ends-there hall' turned.turned.after later end.LinkFault turned.turned.calls turned.turned.stands_for
            (told-weaker told later _ _ (λ x y e. (is_open', e)) (cut-part some))
        talks-cut link_error.NoMemory some =
            ends-there hall' turned.turned.after later end.NoMemory turned.turned.calls turned.turned.stands_for
            (told-weaker told later _ _ (λ x y e. (is_open', inl e)) (cut-part some))

  -- the link said that it is closed
  pub talks-closed : (g : Got) → is_closed g ≡ true → (after : Option Talk) → Tells now after (after_recv (Ok g))
      → (answer moment : ℕ) (clock' : Option (ℕ → ℕ)) → GoesOn clock clock' answer → moment ≡ min answer MOMENT_LIMIT
      → Converses stands h n alone hall first start budget told after end.Closed
  talks-closed (got.Text text) said after came answer moment clock' ticks is = absurd (true≢false (sym said))
  talks-closed got.Idle said after came answer moment clock' ticks is = absurd (true≢false (sym said))
  talks-closed got.Closed is_said after came answer moment clock' ticks is =
      let f = lists_after first t.turns in
      let none = closed-says h n f (left_by h n t.turns) moment in
      let said : said_by h n t.turns ≡ said_by h n t.turns ++ (turn h n f (left_by h n t.turns) moment got.Closed).texts =
      sym (ap (λ l. said_by h n t.turns ++ l) none ∙ append-nil (said_by h n t.turns)) in
      ends-there got.Closed after came answer moment clock' ticks is hall f after end.Closed refl t.stands_for
      (told-weaker told after _ _
      (λ x y e. (
        record { front = gots_of t.turns; is = refl; before = t.is_open },
        subst (λ l. Exchanged (gots_of t.turns ++ got.Closed ∷ []) l x y) said e,
      ))
      (told-received told now after (gots_of t.turns) (said_by h n t.turns) got.Closed t.exchanged came))
