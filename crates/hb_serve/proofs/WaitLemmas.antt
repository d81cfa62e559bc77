-- What is known of the sessions for which was waited, as lists go on?
use Rattle.std.proofs.Common.{◌≡◌, ◌⊎◌, ℕ, ◌+◌, ◌<◌, Bool, true, false, List, [], ◌∷◌, ◌++◌, length, length-append, Option, Some, None, IfSome, refl, ap, sym, ◌∙◌, subst, inl, inr, arith, true≢false, ◌||◌}
use mathlib.Core.List.{IsPrefix}
use Rattle.hb_io.specs.declared.got.Got.{Got}
use Rattle.hb_club.specs.Fronts.{AllGoOn, Fronts, House}
use Rattle.hb_edge.specs.Counts.{Counts}
use Rattle.hb_edge.specs.Talk.{Talk}
use Rattle.hb_edge.specs.Telling.{Tells}
use Rattle.hb_session.specs.declared.ends.End.{End}
use Rattle.hb_session.specs.declared.ends.End.TheVariants as end
use Rattle.hb_session.specs.declared.holds.TheConstants.{SESSION_BUDGET}
use Rattle.hb_session.specs.Conversations.{AreAtMoments, AreTurns, Took, gots_of, lists_after, said_by}
use Rattle.hb_session.specs.Ends.{IfTold, Talked, has_closed, is_link_fault, is_refused}
use Rattle.hb_session.specs.Holding.{IsHeld}
use Rattle.hb_session.proofs.FrontsLemmas.{all_on-same, all_on-trans}
use Rattle.hb_session.proofs.TalkLemmas.{has_closed-last, prefix-whole}
use Rattle.hb_serve.specs.Comings.{JoinedLists}
use Rattle.hb_serve.specs.Explanations.{AreExplained, IsBegun, IsExplained, IsStubExplained}
use Rattle.hb_serve.specs.Waiting.{Waited}
use Rattle.hb_serve.proofs.ClockLemmas.{moments-from}
use Rattle.hb_serve.proofs.CountLemmas.{lists-none, lists-trans}
use Rattle.hb_serve.proofs.ListLemmas.{all-append_one, all-weaker}

-- lists that go on

explained-on : (h : House) (n : ℕ) (f g : Fronts) (start : Option (ℕ → ℕ)) (talk : Talk) (faults : ℕ) → AllGoOn f g
    → IsExplained h n f start talk faults → IsExplained h n g start talk faults
explained-on h n f g start talk faults on e = record {
  first = e.first;
  turns = e.turns;
  in_order = e.in_order;
  begin = all_on-trans (lists_after e.first e.turns) f g e.begin on;
  gave = e.gave;
  moments = e.moments;
  sent = e.sent;
  whole = e.whole;
  cause = e.cause;
}

-- a stub that is explained over lists is so over lists that go on from them
pub stub-on : (h : House) (n : ℕ) (f g : Fronts) (start : Option (ℕ → ℕ)) (talk : Option Talk) (faults : ℕ) → AllGoOn f g
    → IsStubExplained h n f start talk faults → IsStubExplained h n g start talk faults
stub-on h n f g start None faults on e = tt
stub-on h n f g start (Some talk) faults on e = explained-on h n f g start talk faults on e

-- so are all stubs
pub stubs-on : {S : Type 0} (talk : S → Option Talk) (faults : S → ℕ) (h : House) (n : ℕ) (f g : Fronts) (start : Option (ℕ → ℕ))
    (stubs : List S) → AllGoOn f g → AreExplained talk faults h n f start stubs → AreExplained talk faults h n g start stubs
stubs-on talk faults h n f g start stubs on all =
    all-weaker _ _ stubs (λ s e. stub-on h n f g start (talk s) (faults s) on e) all

-- one stub

-- of a new link that met a fault the count rose
fault-rose : (faults now : ℕ) → faults ≡ 0 → Counts true faults now → 0 < now
fault-rose faults now none counts = let rose = counts.1 in omega (arith, none, rose)

-- what was exchanged on a new link in a session of which no turn was refused
module _ (h : House) (n : ℕ) (lists first : Fronts) (start : Option (ℕ → ℕ)) (turns : List Took)
    (in_order : AreTurns h n false first turns) (begin : AllGoOn (lists_after first turns) lists)
    (moments : IfSome start (λ answers. (place : ℕ) × AreAtMoments answers place turns)) (before after : Talk)
    (new : before ≡ record { gave = []; sent = [] }) (faults : ℕ) where
  -- by what it gave and was sent
  explains : after.gave ≡ gots_of turns → IsPrefix after.sent (said_by h n turns)
      → (has_closed after.gave ≡ true → after.sent ≡ said_by h n turns)
      → (has_closed after.gave ≡ true) ⊎ ((0 < faults) ⊎ (length after.gave ≡ SESSION_BUDGET))
      → IsExplained h n lists start after faults
  explains gave sent whole cause = record {
    first = first;
    turns = turns;
    in_order = in_order;
    begin = begin;
    gave = gave;
    moments = moments;
    sent = sent;
    whole = whole;
    cause = cause;
  }

  gave-is : (gots : List Got) → after.gave ≡ before.gave ++ gots → after.gave ≡ gots
  gave-is gots is = is ∙ ap (λ (talk : Talk). talk.gave ++ gots) new

  sent-is : (texts : List (List ℕ)) → after.sent ≡ before.sent ++ texts → after.sent ≡ texts
  sent-is texts is = is ∙ ap (λ (talk : Talk). talk.sent ++ texts) new

  same-prefix : after.sent ≡ said_by h n turns → IsPrefix after.sent (said_by h n turns)
  same-prefix is = subst (λ l. IsPrefix l (said_by h n turns)) (sym is) (prefix-whole (said_by h n turns))

  talked-explains : (how : End) → is_refused how ≡ false → (is_link_fault how ≡ true → 0 < faults)
      → Talked how SESSION_BUDGET (gots_of turns) (said_by h n turns) before after → IsExplained h n lists start after faults
  talked-explains end.Closed fine rose t =
      let gave = gave-is (gots_of turns) t.1.gave in
      let sent = sent-is (said_by h n turns) t.1.sent in
      let closed : has_closed after.gave ≡ true =
      subst (λ l. has_closed l ≡ true) (sym (gave ∙ t.0.is)) (has_closed-last t.0.front) in
      explains gave (same-prefix sent) (λ is. sent) (inl closed)
  talked-explains end.BudgetSpent fine rose t =
      let gave = gave-is (gots_of turns) t.2.gave in
      let sent = sent-is (said_by h n turns) t.2.sent in
      explains gave (same-prefix sent) (λ is. sent) (inr (inr (ap length gave ∙ t.1)))
  talked-explains end.LinkFault fine rose t =
      let gave = gave-is (gots_of turns) t.1.exchanged.gave in
      let sent = sent-is t.1.part t.1.exchanged.sent in
      explains gave (subst (λ l. IsPrefix l (said_by h n turns)) (sym sent) t.1.first)
      (λ is. absurd (true≢false (sym is ∙ (ap has_closed gave ∙ t.0)))) (inr (inl (rose refl)))
  talked-explains end.Worn fine rose t = absurd (true≢false fine)
  talked-explains end.NoMemory fine rose t = absurd (true≢false fine)

-- also if nothing is told
told-explains : (h : House) (n : ℕ) (lists first : Fronts) (start : Option (ℕ → ℕ)) (turns : List Took)
    → AreTurns h n false first turns → AllGoOn (lists_after first turns) lists
    → IfSome start (λ answers. (place : ℕ) × AreAtMoments answers place turns) → (before after : Option Talk) (faults : ℕ) (how : End)
    → IfSome before (λ talk. talk ≡ record { gave = []; sent = [] }) → is_refused how ≡ false
    → (is_link_fault how ≡ true → 0 < faults)
    → IfTold before after (Talked how SESSION_BUDGET (gots_of turns) (said_by h n turns))
    → IsStubExplained h n lists start after faults
told-explains h n lists first start turns in_order begin moments before None faults how new fine rose t = tt
told-explains h n lists first start turns in_order begin moments None (Some after) faults how new fine rose t = absurd t
told-explains h n lists first start turns in_order begin moments (Some before) (Some after) faults how new fine rose t =
    talked-explains h n lists first start turns in_order begin moments before after new faults how fine rose t

-- one session more

module _ {H S : Type 0} (stands : H → Fronts → Type 0) (house : H → House) (count : H → ℕ) (alone : H → Bool)
    (talk : S → Option Talk) (faults : S → ℕ) (h : House) (n : ℕ) (start : Option (ℕ → ℕ)) where
  -- what a held session says of its stub, and for which lists its hall stands
  pub record Explains (hall : H) (stub : S) (how : End) : Type 0 where
    pub lists : Fronts
    pub stands_for : stands hall lists
    pub explained : is_refused how ≡ false → IsStubExplained h n lists start (talk stub) (faults stub)

  held-explains : (before after : H) (told : Option Talk) (met : ℕ) (clock : Option (ℕ → ℕ)) (stub : S) (how : End)
      → IsBegun stands house count alone h n start before told met clock
      → IsHeld stands house count alone before after clock told (talk stub) met (faults stub) how → Explains after stub how
  held-explains before after told met clock stub how begun held =
      let c = rw (begun.same_house, begun.same_count, begun.not_alone) at (held.converses begun.first begun.stands_for) in
      record {
        lists = c.lists;
        stands_for = c.stands_for;
        explained = λ fine.
            told-explains h n c.lists begun.first start c.turns c.in_order c.further
            (moments-from start clock c.turns begun.from c.moments) told (talk stub) (faults stub) how begun.is_new.no_talk fine
            (λ is. fault-rose met (faults stub) begun.is_new.no_fault (subst (λ b. Counts b met (faults stub)) is held.cause))
            c.talked;
      }

  -- one more was waited for, its hall joined, and its stub given back
  pub waited-one : (first : Fronts) (hall hall' before other : H) (told : Option Talk) (met : ℕ) (clock : Option (ℕ → ℕ))
      (jobs : ℕ) (refused refused' : Bool) (how : End) (stub : S) (back back' back'' : Option (List S))
      → Waited (stands hall) talk faults h n start first jobs refused back back'
      → IsBegun stands house count alone h n start before told met clock
      → IsHeld stands house count alone before other clock told (talk stub) met (faults stub) how
      → ((f g : Fronts) → stands hall f → stands other g → JoinedLists (stands hall') f g)
      → Tells back' back'' (λ stubs. stubs ++ stub ∷ [])
      → (refused' ≡ false → (refused ≡ false) × (is_refused how ≡ false))
      → Waited (stands hall') talk faults h n start first (jobs + 1) refused' back back''
  waited-one first hall hall' before other told met clock jobs refused refused' how stub back back' back'' w begun held joins one fine =
      let x = held-explains before other told met clock stub how begun held in
      let j = joins w.lists x.lists w.stands_for x.stands_for in
      record {
        lists = j.after;
        stands_for = j.stands_for;
        on = all_on-trans first w.lists j.after w.on j.own_on;
        stubs = w.stubs ++ stub ∷ [];
        given_back = lists-trans w.stubs (stub ∷ []) back back' back'' w.given_back one;
        counted = length-append w.stubs (stub ∷ []) ∙ ap (λ k. k + 1) w.counted;
        explained = λ is.
            let both = fine is in
            all-append_one (λ s. IsStubExplained h n j.after start (talk s) (faults s)) w.stubs stub
            (stubs-on talk faults h n w.lists j.after start w.stubs j.own_on (w.explained both.0))
            (stub-on h n x.lists j.after start (talk stub) (faults stub) j.other_on (x.explained both.1));
      }

  -- none was waited for
  pub waited-none : (first : Fronts) (hall : H) (jobs : ℕ) (back : Option (List S)) → jobs ≡ 0 → stands hall first
      → Waited (stands hall) talk faults h n start first jobs false back back
  waited-none first hall jobs back none stood = record {
    lists = first;
    stands_for = stood;
    on = all_on-same first;
    stubs = [];
    given_back = lists-none back;
    counted = sym none;
    explained = λ is. tt;
  }

-- neither of two sessions had a turn refused
pub neither : (a b : Bool) → (a || b) ≡ false → (b ≡ false) × (a ≡ false)
neither true b is = absurd (true≢false is)
neither false b is = (is, refl)
