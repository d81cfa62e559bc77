use Rattle.std.proofs.Common.{◌≡◌, ◌*◌, drop, length, take}
use Rattle.hb_script.specs.ScriptGrammar.{by_pairs, hex_byte}
use Rattle.hb_script.specs.ScriptReading.{items_behind}
use Rattle.hb_script.proofs.heads.seed_by.Given as goal

abbrev pub invariant-loop-place : goal.invariant-loop-place
invariant-loop-place l = record {
  size : length l.bytes ≡ 32;
  so : by_pairs hex_byte l.digits ≡ items_behind (take l.place l.bytes) (by_pairs hex_byte (drop (2 * l.place) l.digits));
}
