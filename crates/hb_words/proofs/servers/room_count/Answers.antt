use Rattle.std.proofs.Common.{◌≡◌, ◌∙◌, arith, sym}
use Rattle.hb_words.proofs.Numerals.{decimal-same}
use Rattle.hb_words.proofs.servers.room_count.Goals as goal

pub returns-then-rooms-eq0-clause-none : goal.returns-then-rooms-eq0-clause-none
returns-then-rooms-eq0-clause-none c = λ rooms some few written.
    let same : rooms ≡ c.in_ok-rooms.rooms =
    decimal-same rooms c.in_ok-rooms.rooms (omega (arith, few)) (omega (arith, c.if-rooms-eq0.true))
    (sym written ∙ c.in_ok-rooms.ensures.found.0) in
    omega (arith, some, same, c.if-rooms-eq0.true)
