-- Internal: no public clause cites this.
-- How far has a made table been written?
use Rattle.std.specs.Prelude.{◌≡◌, ◌<◌, ℕ, All, List, length, slice_index}
use Rattle.hb_talk.specs.Scripts.{HasConnection}
use Rattle.hb_script.specs.declared.limits.TheConstants.{MADE_MEMBERS}
use Rattle.hb_script.specs.declared.tables.TableLines.{TableLines}
use Rattle.hb_script.specs.MadeScripts.{Asked, ask_lines, asked_by}

-- these requests were written, and are counted
pub record HasAsked (t : TableLines) (serial : ℕ) (all : List Asked) : Type 0 where
  pub table : t.table ≡ serial
  pub lines : t.lines ≡ ask_lines serial all
  pub conns : All HasConnection t.lines
  pub members : length t.numbers ≡ MADE_MEMBERS
  pub numbers : (member : ℕ) → member < MADE_MEMBERS
      → slice_index t.numbers member ≡ asked_by member all
