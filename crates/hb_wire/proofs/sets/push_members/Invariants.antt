use Rattle.std.proofs.Common.{◌≡◌, ◌++◌, ◌^◌, ◌<◌}
use Rattle.std.specs.Prelude.{string_bytes}
use Rattle.hb_rules.specs.declared.limits.TheConstants.{IDENTITIES}
use Rattle.hb_sets.specs.Sets.{members}
use Rattle.hb_wire.specs.Lines.{numbers_text}
use Rattle.hb_wire.proofs.sets.push_members.Given as goal

abbrev pub invariant-loop-rest : goal.invariant-loop-rest
invariant-loop-rest l = record {
  text : string_bytes l.text ++ numbers_text (members IDENTITIES l.rest)
      ≡ string_bytes l.initial.text ++ numbers_text (members IDENTITIES l.set);
  narrow : l.rest < 2 ^ IDENTITIES;
}

abbrev pub decreases-loop-rest : goal.decreases-loop-rest
decreases-loop-rest l = l.rest
