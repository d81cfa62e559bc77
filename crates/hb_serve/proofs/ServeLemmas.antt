-- What was served behind the last session, and behind the clerk's last round?
use Rattle.std.proofs.Common.{ℕ, Bool, List, ◌++◌, ◌∙◌, ap}
use Rattle.std.specs.Prelude.{Option, Result}
use Rattle.std.specs.declared.option.Option.TheVariants.{None, Some}
use Rattle.hb_club.specs.Fronts.{Fronts, House}
use Rattle.hb_edge.specs.Talk.{Talk}
use Rattle.hb_edge.specs.Telling.{Keeps, Tells}
use Rattle.hb_house.specs.declared.reports.ClerkError.{ClerkError}
use Rattle.hb_house.specs.ClerkRounds.{AtEach}
use Rattle.hb_house.specs.KeeperSteps.{IsSure, Telling}
use Rattle.hb_session.proofs.FrontsLemmas.{all_on-trans}
use Rattle.hb_serve.specs.Comings.{ComesTo}
use Rattle.hb_serve.specs.Serving.{ClosedBy, Served}
use Rattle.hb_serve.specs.Waiting.{Waited}
use Rattle.hb_serve.proofs.ClerkLemmas.{own-goes_on}
use Rattle.hb_serve.proofs.FrontsLemmas.{sure-before}

-- a list that was kept, and then more behind it
lists-kept : {S : Type 0} (xs : List S) (a b c : Option (List S)) → Keeps a b → Tells b c (λ old. old ++ xs)
    → Tells a c (λ old. old ++ xs)
lists-kept xs a b None same more = tt
lists-kept xs a None (Some z) same more = absurd more
lists-kept xs None (Some y) (Some z) same more = absurd same
lists-kept xs (Some x) (Some y) (Some z) same more = more ∙ ap (λ l. l ++ xs) same

-- sessions were held over lists that came, and then the clerk was called or not
pub served-all : {S : Type 0} (First Mid Stands : Fronts → Type 0) (first TellsNow : Telling → Type 0) (sure : Type 0)
    (talk : S → Option Talk) (faults : S → ℕ) (alone : Bool) (h : House) (n : ℕ) (start : Option (ℕ → ℕ)) (f : Fronts)
    (c : Telling) (jobs : ℕ) (refused : Bool) (last : Option (Result (Unit {0}) ClerkError)) (back back' back'' : Option (List S))
    (came : ComesTo First first h f c) → Waited Mid talk faults h n start came.after jobs refused back' back'' → Keeps back back'
    → IsSure sure c → AtEach Mid first sure (λ g d. ClosedBy last Stands TellsNow alone h n g d)
    → Served Stands TellsNow talk faults alone h n start f c jobs refused last back back''
served-all First Mid Stands first TellsNow sure talk faults alone h n start f c jobs refused last back back' back'' came w same is closed =
    record {
      seen = w.lists;
      on = all_on-trans f came.after w.lists came.on w.on;
      keeper = came.keeper;
      known = came.known;
      still = came.still;
      own = λ own. own-goes_on h came.after w.lists came.keeper w.on (came.own own);
      stubs = w.stubs;
      given_back = lists-kept w.stubs back back' back'' same w.given_back;
      counted = w.counted;
      explained = w.explained;
      closed = closed w.lists came.keeper w.stands_for came.told (sure-before sure c came.keeper came.known is);
    }
