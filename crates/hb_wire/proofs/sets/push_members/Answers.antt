use Rattle.std.proofs.Common.{append-nil, append_assoc, arith, refl}
use Rattle.std.specs.Int.Bits.{mask_lt}
use Rattle.hb_rules.specs.declared.limits.TheConstants.{IDENTITIES}
use Rattle.hb_wire.proofs.LeastLemmas.{IsLeast, least-first, members-masked, members-none}
use Rattle.hb_wire.proofs.sets.push_members.Goals as goal

pub loop-rest-init : goal.loop-rest-init
loop-rest-init c = record {
  text = rw (members-masked IDENTITIES c.args.set) refl;
  narrow = mask_lt c.args.set IDENTITIES;
}

pub push_numbered-requires : goal.push_numbered-requires
push_numbered-requires c =
    (least-first IDENTITIES c.loop-rest.rest (omega arith) (omega arith) (omega arith) c.loop-rest.invariant.narrow).low

pub loop-rest-smaller : goal.loop-rest-smaller
loop-rest-smaller c =
    (least-first IDENTITIES c.loop-rest.rest (omega arith) (omega arith) (omega arith) c.loop-rest.invariant.narrow).smaller

pub loop-rest-preserved : goal.loop-rest-preserved
loop-rest-preserved c =
    let least : IsLeast IDENTITIES c.loop-rest.rest =
    least-first IDENTITIES c.loop-rest.rest (omega arith) (omega arith) (omega arith) c.loop-rest.invariant.narrow in
    record {
      text = rw (c.in_ok-push_numbered.ensures, append_assoc) (rw least.first at c.loop-rest.invariant.text);
      narrow = omega (arith, least.smaller, c.loop-rest.invariant.narrow);
    }

pub returns : goal.returns
returns c = rw (c.loop-rest-test.false, members-none IDENTITIES, append-nil) at c.loop-rest.invariant.text
