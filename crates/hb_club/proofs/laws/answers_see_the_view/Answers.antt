use Rattle.std.proofs.Common.{List, ap, sym, ◌∙◌}
use Rattle.hb_club.specs.OwnEntries.{OwnEntry}
use Rattle.hb_club.specs.RoomEvents.{Call, Replied, event_moment}
use Rattle.hb_club.specs.Rooms.{answer_to, past_of}
use Rattle.hb_club.specs.SeenTable.{answer}
use Rattle.hb_club.specs.TimeFirst.{timed_table}
use Rattle.hb_club.specs.ViewLaws.{AnswersSeeTheView, view_for}
use Rattle.hb_club.specs.Views.{View, own_at}
use Rattle.hb_club.proofs.SeenTableLemmas.{answer-seen}
use Rattle.hb_club.proofs.TableInvariantLemmas.{past_of-facts, table_of-is, timed_table-is}
use Rattle.hb_club.proofs.WholeGamesLemmas.{note_event-whole}
use Rattle.hb_club.proofs.laws.answers_see_the_view.Goals as goal

pub returns-clause-table : goal.returns-clause-table
returns-clause-table c = answer-seen

answers-seen : AnswersSeeTheView
unfolding answer_to
answers-seen s events e whole =
    ap Replied (sym (answer-seen s (timed_table s (past_of s events) (event_moment (Call e))) (own_at s events e.member) e
    (timed_table-is s (past_of s events) (event_moment (Call e)) (past_of-facts s events whole))))

pub returns-clause-room : goal.returns-clause-room
returns-clause-room c = answers-seen

pub returns-clause-alike : goal.returns-clause-alike
returns-clause-alike c = λ s t events others e whole whole' views owns. answers-seen s events e whole
    ∙ (ap (λ (w : View). Replied (answer w (own_at s events e.member) e)) views
    ∙ (ap (λ (own : List OwnEntry). Replied (answer (view_for t others e) own e)) owns ∙ sym (answers-seen t others e whole')))

pub returns-clause-notes : goal.returns-clause-notes
returns-clause-notes c = note_event-whole

pub returns-clause-tables : goal.returns-clause-tables
returns-clause-tables c = λ s events whole. (
  table_of-is s (past_of s events) (past_of-facts s events whole),
  λ moment. timed_table-is s (past_of s events) moment (past_of-facts s events whole),
)
