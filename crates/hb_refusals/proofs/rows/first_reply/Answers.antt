use Rattle.std.specs.Prelude.{◌≡◌}
use Rattle.std.proofs.Common.{◌∙◌, sym}
use Rattle.hb_club.specs.TableRefusals.{first_reply}
use Rattle.hb_refusals.specs.FactRows.{end_rows_on, game_rows_on, seat_rows_on, serial_rows_on, start_rows_on}
use Rattle.hb_refusals.proofs.RowLemmas.{first_reply-groups}
use Rattle.hb_refusals.proofs.rows.first_reply.Goals as goal

pub returns : goal.returns
returns c =
    let x = c.args.x.now in
    let asked = c.args.e.now.command in
    let serial : c.serial_reply.result ≡ first_reply (serial_rows_on x c.args.kept c.args.count c.args.e.now) = c.serial_reply.ensures in
    let start : c.start_reply.result ≡ first_reply (start_rows_on x asked) = c.start_reply.ensures in
    let seat : c.seat_reply.result ≡ first_reply (seat_rows_on x asked) = c.seat_reply.ensures in
    let end : c.end_reply.result ≡ first_reply (end_rows_on x asked) = c.end_reply.ensures in
    let game : c.game_reply.result ≡ first_reply (game_rows_on x c.args.broken c.args.review asked) = c.game_reply.ensures in
    let groups = first_reply-groups (serial_rows_on x c.args.kept c.args.count c.args.e.now) (start_rows_on x asked)
    (seat_rows_on x asked) (end_rows_on x asked) (game_rows_on x c.args.broken c.args.review asked) in
    c.or-4.ensures ∙ rw (c.or-3.ensures, c.or-2.ensures, c.or.ensures, serial, start, seat, end, game) (sym groups)
