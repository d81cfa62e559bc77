use Rattle.std.proofs.Common.{◌∙◌, ap, arith, length}
use Rattle.std.specs.Prelude.{Err}
use Rattle.hb_suits.specs.VariantNames.{variant_of}
use Rattle.hb_replay.specs.Contents.{notes_fit}
use Rattle.hb_playing.proofs.NotesLemmas.{note_lists-fit}
use Rattle.hb_playing.proofs.kept_rows.game_replay.Goals as goal

pub returns-clause-differs : goal.returns-clause-differs
returns-clause-differs c is keepable =
    c.in-Err-Differs.ensures.differs.0 (ap Err c.in-Err-Differs.field-0-is) (record {
      seats = ap length c.in_ok-players.ensures ∙ keepable.seats;
      named = ap variant_of c.as_str.ensures ∙ keepable.named;
      times = keepable.times;
      notes = ap notes_fit c.in_ok-lists.ensures ∙ note_lists-fit c.args.names.now c.deck_size.result c.args.notes.now.notes
          (omega (arith, keepable.seats, c.deck_size.ensures.played.fair.six))
          (omega (arith, c.deck_size.ensures.size, c.deck_size.ensures.played.fair.long));
    })
