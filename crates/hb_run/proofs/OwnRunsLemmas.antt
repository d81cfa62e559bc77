-- Does a keeper contain the games of the run alone behind lines, so that no key differs? Yes.
use Rattle.std.proofs.Common.{ℕ, Bool, suc, List, [], ◌∷◌, sym, subst, inl, inr}
use Rattle.hb_club.specs.Fronts.{House}
use Rattle.hb_house.specs.declared.reports.ClerkError.TheVariants as clerk
use Rattle.hb_house.specs.ClerkRounds.{begun}
use Rattle.hb_house.specs.KeeperSteps.{IsTold}
use Rattle.hb_house.specs.KeptOnce.{OwnIfTold}
use Rattle.hb_house.proofs.KeptRoundsLemmas.{own-rounds, own-stopped}
use Rattle.hb_house.proofs.NeverDiffersLemmas.{clerk-never-differs}
use Rattle.hb_house.proofs.OwnGamesLemmas.{own-on}
use Rattle.hb_house.proofs.ToldContentLemmas.{rounds-told, stopped-told}
use Rattle.hb_talk.specs.declared.scripts.ScriptLine.{ScriptLine}
use Rattle.hb_talk.specs.declared.scripts.ScriptLine.TheVariants as line
use Rattle.hb_talk.specs.Errands.{asked}
use Rattle.hb_talk.specs.Scripts.{session_of}
use Rattle.hb_run.specs.OwnRuns.{RunsNeverDiffer}
use Rattle.hb_run.specs.RunLines.{LineRuns, RunState, place_of}
use Rattle.hb_run.specs.ScriptRuns.{Runs}
use Rattle.hb_run.proofs.LinesGoOnLemmas.{calls-on}

-- behind a line

line-told : (h : House) (count : ℕ) (alone : Bool) (l : ScriptLine) (s t : RunState) (text : List ℕ)
    → LineRuns h count alone l s t text → IsTold s.keeper → IsTold t.keeper
line-told h count alone (line.Clerk moment) s t text (inl ran) told =
    rounds-told alone h moment (begun s.fronts s.keeper) count (place_of t ran.report) ran.rounds told
line-told h count alone (line.Clerk moment) s t text (inr fault) told =
    stopped-told alone h moment clerk.KeeperFault (begun s.fronts s.keeper) fault.halts.done (suc fault.halts.done)
    (place_of t fault.halts.report) fault.halts.rounds told
line-told h count alone (line.Says moment conn got) s t text turn told = subst IsTold (sym turn.keeper) told

line-own : (h : House) (count : ℕ) (alone : Bool) (l : ScriptLine) (s t : RunState) (text : List ℕ)
    → LineRuns h count alone l s t text → OwnIfTold h s.fronts s.keeper → OwnIfTold h t.fronts t.keeper
line-own h count alone (line.Clerk moment) s t text (inl ran) own =
    own-rounds alone h moment (begun s.fronts s.keeper) count (place_of t ran.report) ran.rounds own
line-own h count alone (line.Clerk moment) s t text (inr fault) own =
    own-stopped alone h moment clerk.KeeperFault (begun s.fronts s.keeper) fault.halts.done (suc fault.halts.done)
    (place_of t fault.halts.report) fault.halts.rounds own
line-own h count alone (line.Says moment conn got) s t text turn own =
    subst (OwnIfTold h t.fronts) (sym turn.keeper)
    (own-on h s.fronts t.fronts s.keeper
    (calls-on alone count (asked (session_of conn s.sessions) moment got) s.fronts t.fronts turn.calls) own)

-- behind lines

runs-told : (h : House) (count : ℕ) (alone : Bool) (lines : List ScriptLine) (s t : RunState) (text : List ℕ)
    → Runs h count alone lines s t text → IsTold s.keeper → IsTold t.keeper
runs-told h count alone [] s t text ran told = subst (λ (k : RunState). IsTold k.keeper) (sym ran.0) told
runs-told h count alone (l ∷ lines) s t text ran told =
    runs-told h count alone lines ran.between t ran.rest ran.others
    (line-told h count alone l s ran.between ran.first ran.line told)

runs-own : (h : House) (count : ℕ) (alone : Bool) (lines : List ScriptLine) (s t : RunState) (text : List ℕ)
    → Runs h count alone lines s t text → OwnIfTold h s.fronts s.keeper → OwnIfTold h t.fronts t.keeper
runs-own h count alone [] s t text ran own = subst (λ (k : RunState). OwnIfTold h k.fronts k.keeper) (sym ran.0) own
runs-own h count alone (l ∷ lines) s t text ran own =
    runs-own h count alone lines ran.between t ran.rest ran.others
    (line-own h count alone l s ran.between ran.first ran.line own)

-- so no line stops for a key that differs
pub runs-never-differ : RunsNeverDiffer
runs-never-differ h count alone lines next s t rest text id told own runs ends =
    clerk-never-differs alone h ends.moment id (begun t.fronts t.keeper) ends.halts.done (suc ends.halts.done)
    (place_of rest ends.halts.report) ends.halts.rounds (runs-told h count alone lines s t text runs told)
    (runs-own h count alone lines s t text runs own)
