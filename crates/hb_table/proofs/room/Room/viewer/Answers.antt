use Rattle.std.proofs.Common.{◌∙◌}
use Rattle.hb_table.specs.State.{state_at}
use Rattle.hb_table.specs.Keeps.{site_in}
use Rattle.hb_table.proofs.RoomShowsLemmas.{viewer-in}
use Rattle.hb_table.proofs.room.Room.viewer.Goals as goal

pub returns : goal.returns
returns c = λ events stands.
    c.role.ensures ∙ viewer-in (state_at (site_in c.args.self.now) events) c.args.self.now c.args.member.now stands.keeps
