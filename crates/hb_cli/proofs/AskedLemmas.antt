-- What is asked for, once the words and the input are read.
use Rattle.std.proofs.Common.{◌≡◌, ◌≤◌, ◌⊎◌, inl, inr, ℕ, List, Option, Some, None, length, subst, sym}
use Rattle.std.specs.Prelude.{IfErr, IfOk, IfSome, IsFalse, IsTrue, Result}
use Rattle.std.specs.declared.result.Result.TheVariants.{Ok, Err}
use Rattle.hb_replay.specs.Contents.{Contents}
use Rattle.hb_replay.specs.ReplayReading.{IsReading}
use Rattle.hb_cli.specs.declared.replays.TheConstants.{MOST_INPUT}
use Rattle.hb_words.specs.declared.commands.ReplayCommand.{ReplayCommand}
use Rattle.hb_cli.specs.declared.status.Stop.{Stop}
use Rattle.hb_cli.specs.declared.status.Stop.TheVariants as stop
use Rattle.hb_cli.specs.Asked.{Asked, IsRead, IsStop, IsText}
use Rattle.hb_words.specs.Commands.{IsCommand}
use Rattle.hb_words.specs.declared.commands.Command.TheVariants.{Replay}
use Rattle.hb_cli.specs.Outputs.{has_view, output}

-- what a command writes for the replay that is read is the text that is asked for
pub IsText-output : (a : Asked) (command : ReplayCommand) (bytes : List ℕ) (r : Contents) (out : Result (List ℕ) Stop)
    → IsCommand a.words (Replay command) → IfSome a.told (λ told. bytes ≡ told) → length bytes ≤ MOST_INPUT → IsReading bytes (Ok r)
    → IfOk out (λ text. IsTrue (has_view command r.game) × (text ≡ output command r)) → IfOk out (IsText a)
IsText-output a command bytes r (Err why) is told short reading says = tt
IsText-output a command bytes r (Ok text) is told short reading says = (command, is, pick a.told told)
  where
    pick : (o : Option (List ℕ)) → IfSome o (λ told. bytes ≡ told)
        → IfSome o (λ told. (r : Contents) × IsRead told (Ok r) × IsTrue (has_view command r.game) × (text ≡ output command r))
    pick None h = tt
    pick (Some told) same = (r, subst (λ b. IsRead b (Ok r)) same (short, reading), says.0, says.1)

-- why a command writes nothing for the replay that is read is why there is no text
pub IsStop-output : (a : Asked) (command : ReplayCommand) (bytes : List ℕ) (r : Contents) (out : Result (List ℕ) Stop)
    → IsCommand a.words (Replay command) → IfSome a.told (λ told. bytes ≡ told) → length bytes ≤ MOST_INPUT → IsReading bytes (Ok r)
    → IfErr out (λ why. (why ≡ stop.NoMemory) ⊎ ((why ≡ stop.NoSuchView) × IsFalse (has_view command r.game)))
    → IfErr out (IsStop a)
IsStop-output a command bytes r (Ok text) is told short reading says = tt
IsStop-output a command bytes r (Err why) is told short reading says = cases says
  where
    pick : IsFalse (has_view command r.game) → (o : Option (List ℕ)) → IfSome o (λ told. bytes ≡ told)
        → IfSome o (λ told. (r : Contents) × IsRead told (Ok r) × IsFalse (has_view command r.game))
    pick none None h = tt
    pick none (Some told) same = (r, subst (λ b. IsRead b (Ok r)) same (short, reading), none)

    cases : (why ≡ stop.NoMemory) ⊎ ((why ≡ stop.NoSuchView) × IsFalse (has_view command r.game)) → IsStop a why
    cases (inl e) = subst (λ w. IsStop a w) (sym e) tt
    cases (inr (e, none)) = subst (λ w. IsStop a w) (sym e) (command, is, pick none a.told told)
