use Rattle.std.proofs.Common.{rules, refl, inl, inr}
use Rattle.hb_house.proofs.ResultLemmas.{if_ok}
use Rattle.hb_words.specs.Commands.{IsCommand, texts_of}
use Rattle.hb_words.specs.declared.commands.Command.TheVariants.{Games, Make, Replay, Script as RunsScript}
use Rattle.hb_cli.specs.Asked.{asked}
use Rattle.hb_cli.specs.Written.{sent}
use Rattle.hb_cli.specs.declared.status.Stop.TheVariants as stop
use Rattle.hb_cli.proofs.WorksLemmas.{made_other, made_stops, replay_keeper, replay_output, replay_stops}
use Rattle.hb_cli.proofs.works.work.Goals as goal

pub returns-in-Replay-clause-stop : goal.returns-in-Replay-clause-stop
returns-in-Replay-clause-stop g c =
    let is : IsCommand (texts_of c.args.words.now) (Replay c.in-Replay.command) = search rules in
    replay_stops (asked c.args.words.now (g.S.Source.left c.args.source.now)) _ _ _ _ c.in-Err-replay.stop
    (c.in-Err-replay.ensures.stop (texts_of c.args.words.now) is)

pub returns-in-Replay-clause-keeper_fault : goal.returns-in-Replay-clause-keeper_fault
returns-in-Replay-clause-keeper_fault g c = λ failed.
    let is : IsCommand (texts_of c.args.words.now) (Replay c.in-Replay.command) = search rules in
    absurd (replay_keeper (asked c.args.words.now (g.S.Source.left c.args.source.now))
    (sent g.O.Sink.held g.O.Sink.faults c.args.out.now c.replay.new.out) c.in-Err-replay.stop
    (c.in-Err-replay.ensures.stop (texts_of c.args.words.now) is) (cc failed))

pub returns-in-Replay-clause-cause : goal.returns-in-Replay-clause-cause
returns-in-Replay-clause-cause g c = λ failed.
    let is : IsCommand (texts_of c.args.words.now) (Replay c.in-Replay.command) = search rules in
    replay_output (asked c.args.words.now (g.S.Source.left c.args.source.now))
    (sent g.O.Sink.held g.O.Sink.faults c.args.out.now c.replay.new.out) c.in-Err-replay.stop
    (c.in-Err-replay.ensures.stop (texts_of c.args.words.now) is) (cc failed)

pub returns-in-Script-clause-ok : goal.returns-in-Script-clause-ok
returns-in-Script-clause-ok g c =
    let is : IsCommand (texts_of c.args.words.now) (RunsScript c.in-Script.store) = search rules in
    if_ok c.script.result (c.script.ensures.ok c.in-Script.store (texts_of c.args.words.now) is) (λ faulted ran. inl ran)

pub returns-in-Script-clause-stop : goal.returns-in-Script-clause-stop
returns-in-Script-clause-stop g c =
    let is : IsCommand (texts_of c.args.words.now) (RunsScript c.in-Script.store) = search rules in
    c.script.ensures.stop c.in-Script.store (texts_of c.args.words.now) is

pub returns-in-Ok-games-clause-ok : goal.returns-in-Ok-games-clause-ok
returns-in-Ok-games-clause-ok g c =
    let is : IsCommand (texts_of c.args.words.now) (Games c.in-Games.store c.in-Games.name) = search rules in
    inr (refl, inr (inl (c.in-Ok-games.ensures.ok c.in-Games.store (g.S.Source.left c.args.source.now) (texts_of c.args.words.now) is)))

pub returns-in-Games-clause-stop : goal.returns-in-Games-clause-stop
returns-in-Games-clause-stop g c =
    let is : IsCommand (texts_of c.args.words.now) (Games c.in-Games.store c.in-Games.name) = search rules in
    c.in-Err-games.ensures.stop c.in-Games.store (g.S.Source.left c.args.source.now) (texts_of c.args.words.now) is

pub returns-in-Ok-make-clause-ok : goal.returns-in-Ok-make-clause-ok
returns-in-Ok-make-clause-ok g c =
    let is : IsCommand (texts_of c.args.words.now) (Make c.in-Make.tables c.in-Make.seed) = search rules in
    inr (refl, inr (inr (c.in-Ok-make.ensures.ok (g.S.Source.left c.args.source.now) (texts_of c.args.words.now) is)))

pub returns-clause-stop : goal.returns-clause-stop
returns-clause-stop g c =
    let is : IsCommand (texts_of c.args.words.now) (Make c.in-Make.tables c.in-Make.seed) = search rules in
    made_stops (asked c.args.words.now (g.S.Source.left c.args.source.now)) _ _ _ _ c.in-Err-make.stop
    (c.in-Err-make.ensures.stop (g.S.Source.left c.args.source.now) (texts_of c.args.words.now) is)

pub returns-clause-read_fault : goal.returns-clause-read_fault
returns-clause-read_fault g c = λ failed.
    let is : IsCommand (texts_of c.args.words.now) (Make c.in-Make.tables c.in-Make.seed) = search rules in
    absurd (made_other (asked c.args.words.now (g.S.Source.left c.args.source.now))
    (sent g.O.Sink.held g.O.Sink.faults c.args.out.now c.make.new.out) c.in-Err-make.stop stop.ReadFault
    (c.in-Err-make.ensures.stop (g.S.Source.left c.args.source.now) (texts_of c.args.words.now) is) (λ e. cc) (λ e. cc) (cc failed))

pub returns-clause-keeper_fault : goal.returns-clause-keeper_fault
returns-clause-keeper_fault g c = λ failed.
    let is : IsCommand (texts_of c.args.words.now) (Make c.in-Make.tables c.in-Make.seed) = search rules in
    absurd (made_other (asked c.args.words.now (g.S.Source.left c.args.source.now))
    (sent g.O.Sink.held g.O.Sink.faults c.args.out.now c.make.new.out) c.in-Err-make.stop stop.KeeperFault
    (c.in-Err-make.ensures.stop (g.S.Source.left c.args.source.now) (texts_of c.args.words.now) is) (λ e. cc) (λ e. cc) (cc failed))
