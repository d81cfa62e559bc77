use Rattle.std.proofs.Common.{◌∙◌, subst, ℕ, List}
use Rattle.std.specs.Prelude.{Err, IsUtf8, Ok}
use Rattle.hb_replay.specs.ReplayReading.{IsReading}
use Rattle.hb_playing.proofs.LoadsLemmas.{read_ended-refused, read_ended-replay}
use Rattle.hb_playing.proofs.loads.read_replay.Goals as goal

pub returns-in-Ok : goal.returns-in-Ok
returns-in-Ok c =
    c.ended_game.ensures
    ∙ read_ended-replay c.args.text.now c.in-Ok.replay
    (subst (λ (bytes : List ℕ). IsReading bytes (Ok c.in-Ok.replay)) (c.as_bytes.ensures.value ∙ c.as_str.ensures) c.in-Ok.ensures.reading)

pub returns-in_ok-unless_memory-in-Err : goal.returns-in_ok-unless_memory-in-Err
returns-in_ok-unless_memory-in-Err c =
    read_ended-refused c.args.text.now c.in-Err.error (subst IsUtf8 c.as_str.ensures c.as_str.utf8)
    (subst (λ (bytes : List ℕ). IsReading bytes (Err c.in-Err.error)) (c.as_bytes.ensures.value ∙ c.as_str.ensures)
    c.in-Err.ensures.reading)
    c.in_ok-unless_memory-in-Err.ensures
