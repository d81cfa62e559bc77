-- Which game is loaded of a replay?
use Rattle.hb_replay.specs.Contents.{Contents}
use Rattle.hb_club.specs.EndedReplays.{Finished}

-- the game, with the name of its variant and the names of its players
abbrev pub finished : Contents → Finished
finished r = record { name = r.name; players = r.players; game = r.game }
