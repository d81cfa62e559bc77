use Rattle.std.proofs.Common.{rules, ◌≡◌, ◌∙◌, IsTrue, refl}
use Rattle.hb_cli.specs.Outputs.{has_view as has_view_of, output as output_of}
use Rattle.hb_cli.proofs.texts.output.Goals as goal
use Rattle.hb_cli.proofs.texts.output.Goals.{in-Watch+in_ok-text-in-Watch, in-Look+in_ok-text-in-Look, in-Check+in_ok-text-in-Check, in-Copy+in_ok-text-in-Copy}

pub returns-clause-text : goal.returns-clause-text
returns-clause-text c = (view, text)
  where
    view : IsTrue (has_view_of c.args.command c.args.replay.now.game)
    view = search rules

    text : c.match-command.text ≡ output_of c.args.command c.args.replay.now
    text = elim c.match-command.branch [
      | in-Watch+in_ok-text-in-Watch w ↦ search rules
      | in-Look+in_ok-text-in-Look w ↦ search rules
      | in-Check+in_ok-text-in-Check w ↦ w.text-is ∙ (w.in_ok-text-in-Check.ensures ∙ rw (c.game-game.ensures, w.in-Check.is) refl)
      | in-Copy+in_ok-text-in-Copy w ↦ search rules
    ]
