use Rattle.std.proofs.Common.{◌≡◌, ◌*◌, drop}
use Rattle.hb_script.specs.ScriptGrammar.{by_pairs, identity_of}
use Rattle.hb_script.specs.ScriptReading.{items_behind}
use Rattle.hb_script.proofs.heads.deck_by.Given as goal

abbrev pub invariant-loop-place : goal.invariant-loop-place
invariant-loop-place l = by_pairs identity_of l.letters ≡ items_behind l.cards.items (by_pairs identity_of (drop (2 * l.place) l.letters))
