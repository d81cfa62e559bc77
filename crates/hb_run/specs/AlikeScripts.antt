-- Of what are the bytes that a connection is sent a function?
use Rattle.std.specs.Prelude.{◌≡◌, ℕ, List}
use Rattle.hb_club.specs.Fronts.{House}
use Rattle.hb_talk.specs.declared.scripts.ScriptLine.{ScriptLine}
use Rattle.hb_talk.specs.Keeping.{Keeping}
use Rattle.hb_talk.specs.Scripts.{first_stage}
use Rattle.hb_run.specs.ConnSights.{conn_turns, sent_to}

-- In two scripts in which a connection has the same turns it is sent the same bytes. The turns are
-- the same if the same came to it at the same moments, if the lobby replied the same to it, and if
-- its member had the same entries in the rooms that it called, with the same views. Whatever else
-- the scripts have, as their seeds, decks, runs, rooms and keepers, does not matter
abbrev pub AlikeScripts : Type 0
AlikeScripts = (conn : ℕ) (h k : House) (m n : ℕ) (a b : Keeping)
    (lines others : List ScriptLine)
    → conn_turns h m (first_stage a) conn lines ≡ conn_turns k n (first_stage b) conn others
    → sent_to h m (first_stage a) conn lines ≡ sent_to k n (first_stage b) conn others
