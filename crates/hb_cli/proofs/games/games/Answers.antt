use Rattle.std.proofs.Common.{rules, ◌≡◌, subst}
use Rattle.std.proofs.KnownBytes.{Appends-nil}
use Rattle.hb_house.proofs.ResultLemmas.{if_err, on_ok}
use Rattle.hb_keeper.specs.KeptGames.{of_member_on}
use Rattle.hb_script.specs.GamesText.{games_text}
use Rattle.hb_cli.specs.Written.{FailsIn, Writes, sent}
use Rattle.hb_cli.proofs.KeeperWorkLemmas.{games_refused, listed, listed_fails, refused}
use Rattle.hb_cli.proofs.games.games.Goals as goal

pub returns-in-Err-clause-stop : goal.returns-in-Err-clause-stop
returns-in-Err-clause-stop g c = λ store told words is.
    let nothing = Appends-nil (g.O.Sink.held c.args.out.now) in
    rw c.from.ensures (games_refused (record { words = words; told = told }) _ _ _ _ c.in-Err.error c.in-Err.ensures.failure (
      store,
      c.args.name.now,
      is,
      refused (of_member_on c.args.name.now) _ _ _ _ _ c.in-Err.error _ c.in-Err.ensures.keeps c.in-Err.ensures.planned
          c.in-Err.ensures.plan nothing,
    )
    nothing)

pub returns-clause-ok : goal.returns-clause-ok
returns-clause-ok g c = λ store told words is.
    let same : c.as_bytes.result.now ≡ games_text c.in-Ok.lines = search rules in
    let out = sent g.O.Sink.held g.O.Sink.faults c.args.out.now c.write.new.out in
    on_ok c.write.result (λ wrote. (
      store,
      c.args.name.now,
      is,
      listed c.args.name.now _ _ _ _ _ c.in-Ok.lines (Writes out) c.in-Ok.ensures.keeps c.in-Ok.ensures.plan
          (subst (Writes out) same wrote),
    ))
    c.write.ensures.ok

pub returns-clause-stop : goal.returns-clause-stop
returns-clause-stop g c = λ store told words is.
    let same : c.as_bytes.result.now ≡ games_text c.in-Ok.lines = search rules in
    let out = sent g.O.Sink.held g.O.Sink.faults c.args.out.now c.write.new.out in
    if_err c.write.result (λ why fails. listed_fails (record { words = words; told = told }) _ _ _ out why fails.0 (
      store,
      c.args.name.now,
      is,
      listed c.args.name.now _ _ _ _ _ c.in-Ok.lines (FailsIn out) c.in-Ok.ensures.keeps c.in-Ok.ensures.plan
          (subst (FailsIn out) same fails.1),
    ))
    c.write.ensures.stop
