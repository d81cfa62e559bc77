use Rattle.std.proofs.lemmas.Result.{on_ok_weaker}
use Rattle.hb_view.proofs.PumpLemmas.{line_alone-other, on_ok-kind}
use Rattle.hb_view.proofs.pumps.write_other.Goals as goal

pub returns-in-Opened : goal.returns-in-Opened
returns-in-Opened c = on_ok-kind c.write_opened.result c.args.a.now c.args.item _ c.args.next.now c.args.next.now
    c.args.out.now c.write_opened.new.out c.in-Opened.is
    (on_ok_weaker c.write_opened.result (λ all. all c.args.next.now c.args.item.moment) c.write_opened.ensures)

pub returns-in-Started : goal.returns-in-Started
returns-in-Started c = on_ok-kind c.write_started.result c.args.a.now c.args.item _ c.args.next.now c.write_started.new.next
    c.args.out.now c.write_started.new.out c.in-Started.is c.write_started.ensures

pub returns-in-Acted : goal.returns-in-Acted
returns-in-Acted c = on_ok-kind c.write_acted.result c.args.a.now c.args.item _ c.args.next.now c.write_acted.new.next
    c.args.out.now c.write_acted.new.out c.in-Acted.is c.write_acted.ensures

pub returns-in-Paused : goal.returns-in-Paused
returns-in-Paused c = on_ok-kind c.write_paused.result c.args.a.now c.args.item _ c.args.next.now c.write_paused.new.next
    c.args.out.now c.write_paused.new.out c.in-Paused.is c.write_paused.ensures

pub returns-in-Resumed : goal.returns-in-Resumed
returns-in-Resumed c = on_ok-kind c.write_resumed.result c.args.a.now c.args.item _ c.args.next.now c.write_resumed.new.next
    c.args.out.now c.write_resumed.new.out c.in-Resumed.is c.write_resumed.ensures

pub returns-in-Loaded : goal.returns-in-Loaded
returns-in-Loaded c = on_ok-kind c.write_loaded.result c.args.a.now c.args.item _ c.args.next.now c.args.next.now
    c.args.out.now c.write_loaded.new.out c.in-Loaded.is
    (on_ok_weaker c.write_loaded.result (λ all. all c.args.next.now c.args.item.moment) c.write_loaded.ensures)

pub returns-in-Reviewed : goal.returns-in-Reviewed
returns-in-Reviewed c = on_ok-kind c.write_reviewed.result c.args.a.now c.args.item _ c.args.next.now c.write_reviewed.new.next
    c.args.out.now c.write_reviewed.new.out c.in-Reviewed.is
    (on_ok_weaker c.write_reviewed.result (λ all. all c.args.item.moment) c.write_reviewed.ensures)

pub returns-in_default : goal.returns-in_default
returns-in_default c = λ w more before is shows all so.
    absurd (line_alone-other c.args.item.what c.requires c.in_default.not-Opened c.in_default.not-Started c.in_default.not-Acted
    c.in_default.not-Paused c.in_default.not-Resumed c.in_default.not-Loaded c.in_default.not-Reviewed)
