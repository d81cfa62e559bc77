use Rattle.std.proofs.Common.{◌≡◌, ◌≤◌, true, take, length}
use Rattle.std.specs.Prelude.{filter_map}
use Rattle.hb_suits.specs.VariantNames.{suit_named, are_suits}
use Rattle.hb_suits.proofs.Spellings.{texts}
use Rattle.hb_suits.proofs.names.spelled.Given as goal

abbrev pub invariant-loop-name : goal.invariant-loop-name
invariant-loop-name l = record {
  named : are_suits (texts l.yielded) ≡ true;
  kept : take l.count l.suits ≡ filter_map suit_named (texts l.yielded);
  counted : l.count ≡ length l.yielded;
  few : l.count ≤ 6;
  long : length l.suits ≡ 6;
}
