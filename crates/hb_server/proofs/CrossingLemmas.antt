-- Which types may cross threads? A room may, and a hall over rooms that may: each by its fields, since `search` alone stops at its
-- limits. Histories that contracts alone speak of have no bytes.
use denote.Param.Send.{IsSend, recorded_send, sendable, struct_send}
use denote.Struct.Declared.{shape}
use Rattle.std.proofs.Crossing.{crosses}
use Rattle.std.proofs.MapsCrossing.{crosses as maps_cross}
use Rattle.hb_timer.specs.contracts.calls.Calls.{the_row as calls_row}
use Rattle.hb_timer.specs.contracts.timer.Timer.{the_row as timer_row}
use Rattle.hb_timer.specs.contracts.timer.Timer.TheInside.{the_row as timer_inside}
use Rattle.hb_review.specs.contracts.steps.Steps.{the_row as steps_row}
use Rattle.hb_review.specs.contracts.review.Review.{the_row as review_row}
use Rattle.hb_review.specs.contracts.review.Review.TheInside.{the_row as review_inside}
use Rattle.hb_playing.specs.contracts.reviews.GameReview.{the_row as game_review_row}
use Rattle.hb_playing.specs.contracts.reviews.GameReview.TheInside.{the_row as game_review_inside}
use Rattle.hb_playing.specs.contracts.set_notes.SetNotes.{the_row as set_notes_row}
use Rattle.hb_playing.specs.contracts.notes.Notebook.{the_row as notebook_row}
use Rattle.hb_playing.specs.contracts.notes.Notebook.TheInside.{the_row as notebook_inside}
use Rattle.hb_timer.proofs.calls.Calls.TheLaws.TheKnot.{send-Calls as calls_knot}
use Rattle.hb_review.proofs.steps.Steps.TheLaws.TheKnot.{send-Steps as steps_knot}
use Rattle.hb_playing.proofs.set_notes.SetNotes.TheLaws.TheKnot.{send-SetNotes as set_notes_knot}
use Rattle.hb_review.proofs.steps.Step.TheSendSync.{the_send as step_send}
use Rattle.hb_table.specs.contracts.room.Room.{the_row as room_row, the_type as room_type}
use Rattle.hb_hall.specs.contracts.guarded.GuardedLobby.{the_row as lobby_row}
use Rattle.hb_turns.proofs.game.Game.TheSendSync.{the_send as game_send}
use Rattle.hb_playing.proofs.loads.LoadedGame.TheSendSync.{the_send as loaded_send}
use Rattle.hb_refusals.proofs.kept_replies.KeptReplies.TheSendSync.{the_field_send as kept_send}
use Rattle.hb_club.proofs.items.Item.TheSendSync.{the_send as item_send}
use Rattle.hb_club.proofs.shoes.Shoe.TheSendSync.{the_send as shoe_send}
use Rattle.hb_io.proofs.names.Name.TheSendSync.{the_send as name_send}
use Rattle.hb_io.proofs.text.Text.TheSendSync.{the_send as text_send}
use Rattle.hb_rules.proofs.acts.Options.TheSendSync.{the_send as options_send}
use Rattle.hb_house.proofs.lobby.Lobby.TheSendSync.{the_send as lobby_send}

pub calls_send : IsSend calls_row
calls_send = search (calls_knot, sendable, crosses) depth 20

timer_inside_send : IsSend timer_inside
timer_inside_send = search (calls_send, sendable, crosses) depth 20

pub timer_send : IsSend timer_row
timer_send = search (timer_inside_send, sendable)

pub steps_send : IsSend steps_row
steps_send = search (steps_knot, step_send, sendable, crosses) depth 60

review_inside_send : IsSend review_inside
review_inside_send = search (game_send, steps_send, sendable, crosses) depth 20

pub review_send : IsSend review_row
review_send = search (review_inside_send, sendable)

game_review_inside_send : IsSend game_review_inside
game_review_inside_send = search (review_send, sendable, crosses) depth 20

pub game_review_send : IsSend game_review_row
game_review_send = search (game_review_inside_send, sendable)

pub set_notes_send : IsSend set_notes_row
set_notes_send = search (set_notes_knot, sendable, crosses) depth 20

notebook_inside_send : IsSend notebook_inside
notebook_inside_send = search (name_send, text_send, set_notes_send, sendable, crosses, maps_cross) depth 20

pub notebook_send : IsSend notebook_row
notebook_send = search (notebook_inside_send, sendable)

pub lobby_guard_send : IsSend lobby_row
lobby_guard_send = search (lobby_send, sendable, crosses) depth 40

pub room_send : IsSend room_row
room_send = recorded_send _ _ _ room_type.to_one (struct_send (shape room_type) (search (timer_send, notebook_send, game_review_send, game_send, loaded_send, kept_send, item_send, shoe_send, name_send, text_send, options_send, sendable, crosses) depth 30, (search (timer_send, notebook_send, game_review_send, game_send, loaded_send, kept_send, item_send, shoe_send, name_send, text_send, options_send, sendable, crosses) depth 30, (search (timer_send, notebook_send, game_review_send, game_send, loaded_send, kept_send, item_send, shoe_send, name_send, text_send, options_send, sendable, crosses) depth 30, (search (timer_send, notebook_send, game_review_send, game_send, loaded_send, kept_send, item_send, shoe_send, name_send, text_send, options_send, sendable, crosses) depth 30, (search (timer_send, notebook_send, game_review_send, game_send, loaded_send, kept_send, item_send, shoe_send, name_send, text_send, options_send, sendable, crosses) depth 30, (search (timer_send, notebook_send, game_review_send, game_send, loaded_send, kept_send, item_send, shoe_send, name_send, text_send, options_send, sendable, crosses) depth 30, (search (timer_send, notebook_send, game_review_send, game_send, loaded_send, kept_send, item_send, shoe_send, name_send, text_send, options_send, sendable, crosses) depth 30, (search (timer_send, notebook_send, game_review_send, game_send, loaded_send, kept_send, item_send, shoe_send, name_send, text_send, options_send, sendable, crosses) depth 30, (search (timer_send, notebook_send, game_review_send, game_send, loaded_send, kept_send, item_send, shoe_send, name_send, text_send, options_send, sendable, crosses) depth 30, (search (timer_send, notebook_send, game_review_send, game_send, loaded_send, kept_send, item_send, shoe_send, name_send, text_send, options_send, sendable, crosses) depth 30, (search (timer_send, notebook_send, game_review_send, game_send, loaded_send, kept_send, item_send, shoe_send, name_send, text_send, options_send, sendable, crosses) depth 30, (search (timer_send, notebook_send, game_review_send, game_send, loaded_send, kept_send, item_send, shoe_send, name_send, text_send, options_send, sendable, crosses) depth 30, (search (timer_send, notebook_send, game_review_send, game_send, loaded_send, kept_send, item_send, shoe_send, name_send, text_send, options_send, sendable, crosses) depth 30, (search (timer_send, notebook_send, game_review_send, game_send, loaded_send, kept_send, item_send, shoe_send, name_send, text_send, options_send, sendable, crosses) depth 30, (search (timer_send, notebook_send, game_review_send, game_send, loaded_send, kept_send, item_send, shoe_send, name_send, text_send, options_send, sendable, crosses) depth 30, (search (timer_send, notebook_send, game_review_send, game_send, loaded_send, kept_send, item_send, shoe_send, name_send, text_send, options_send, sendable, crosses) depth 30, (search (timer_send, notebook_send, game_review_send, game_send, loaded_send, kept_send, item_send, shoe_send, name_send, text_send, options_send, sendable, crosses) depth 30, (search (timer_send, notebook_send, game_review_send, game_send, loaded_send, kept_send, item_send, shoe_send, name_send, text_send, options_send, sendable, crosses) depth 30, (search (timer_send, notebook_send, game_review_send, game_send, loaded_send, kept_send, item_send, shoe_send, name_send, text_send, options_send, sendable, crosses) depth 30, (search (timer_send, notebook_send, game_review_send, game_send, loaded_send, kept_send, item_send, shoe_send, name_send, text_send, options_send, sendable, crosses) depth 30, (search (timer_send, notebook_send, game_review_send, game_send, loaded_send, kept_send, item_send, shoe_send, name_send, text_send, options_send, sendable, crosses) depth 30, (search (timer_send, notebook_send, game_review_send, game_send, loaded_send, kept_send, item_send, shoe_send, name_send, text_send, options_send, sendable, crosses) depth 30, tt)))))))))))))))))))))))
