use Rattle.std.proofs.Common.{rules, refl, ◌∙◌, ◌≡◌, arith, length}
use Rattle.std.proofs.lemmas.Option.{slice_get_read}
use Rattle.sqlite.specs.Held.{state}
use Rattle.hb_sqlite.proofs.StoreWalks.{more_seats, gave_in, failed_after, all_seats}
use Rattle.hb_sqlite.proofs.writing.insert_seats.Goals as goal

pub loop-place-preserved : goal.loop-place-preserved
loop-place-preserved g c =
    let test = c.loop-place-test.true in
    let number : c.in-Ok.seat ≡ c.loop-place.place = search rules in
    let here = slice_get_read c.args.names.now (length c.args.names.now) c.loop-place.place c.index-names-place.result refl
    c.loop-place-test.true c.index-names-place.is in (
      c.in_ok-insert_seat.ensures.same ∙ c.loop-place.invariant.0,
      more_seats (state g.S.Store c.args.tx.now.conn.now) (state g.S.Store c.loop-place.tx.conn.now) (state g.S.Store
          c.insert_seat.new.tx.conn.now) c.args.game c.loop-place.place c.args.names.now c.index-names-place.result _
          c.in_ok-insert_seat.field-0
          here c.loop-place.invariant.1 (rw number at c.in_ok-insert_seat.ensures.placed),
    )

pub returns-in_default-clause-placed : goal.returns-in_default-clause-placed
returns-in_default-clause-placed g c games seats = gave_in _ _ _ _ _ _ _ (c.loop-place.invariant.1 games seats)

pub returns-in_err-insert_seat-clause-placed : goal.returns-in_err-insert_seat-clause-placed
returns-in_err-insert_seat-clause-placed g c games seats =
    failed_after _ _ _ _ _ _ _ _ _ _ c.from_residual.result c.from_residual.ensures.0 (c.loop-place.invariant.1 games seats)
    (c.in_err-insert_seat.ensures.placed games seats)

pub returns-clause-placed : goal.returns-clause-placed
returns-clause-placed g c = let t = c.loop-place-test.false in all_seats _ _ c.args.game c.loop-place.place c.args.names.now _
    (omega (arith, t)) c.loop-place.invariant.1
