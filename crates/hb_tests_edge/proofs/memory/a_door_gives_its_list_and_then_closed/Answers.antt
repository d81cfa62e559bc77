use Rattle.std.proofs.Common.{◌≡◌, [], ◌∷◌, rules, arith}
use Rattle.std.proofs.lemmas.List.Elements.{All-push}
use Rattle.hb_edge.specs.declared.door.Accepted.{Accepted}
use Rattle.hb_edge.specs.declared.door.Accepted.TheVariants as answer
use Rattle.hb_edge.specs.declared.link.LinkMemory.{LinkMemory}
use Rattle.hb_edge.specs.Counts.{OnAccepted}
use Rattle.hb_edge.specs.Memory.{memory_talk}
use Rattle.hb_edge.specs.Talk.{IsNew}
use Rattle.hb_tests_edge.proofs.memory.a_door_gives_its_list_and_then_closed.Goals as goal

-- the link of an answer is new
abbrev IsOfNew : Accepted LinkMemory → Type 0
IsOfNew = OnAccepted {L = LinkMemory} (λ link. IsNew (memory_talk link) link.faults)

pub new-requires : goal.new-requires
new-requires g c =
    let list : c.push-2.new.self.items ≡ answer.Link c.in_ok-link.field-0 ∷ answer.Idle ∷ [] = search rules in
    let one = All-push IsOfNew [] (answer.Link c.in_ok-link.field-0) (λ k d less. absurd (omega (arith, less))) c.in_ok-link.ensures in
    rw list (All-push IsOfNew (answer.Link c.in_ok-link.field-0 ∷ []) answer.Idle one tt)
