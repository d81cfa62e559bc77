-- Which calls did a timer accept?
use Rattle.std.specs.Prelude.{List, [], ◌∷◌}
use Rattle.hb_timer.specs.declared.timing.TimerCall.{TimerCall}
use Rattle.hb_timer.specs.declared.calls.Newest.{Newest}
use Rattle.hb_timer.specs.declared.calls.Newest.TheVariants.{None, Call}

-- the newest call, and then those before it
abbrev pub calls_of : Newest → List TimerCall
calls_of None = []
calls_of (Call call before) = call ∷ before.value
