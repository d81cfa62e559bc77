use Rattle.std.proofs.Common.{◌≡◌, ◌∙◌, ap, ap₂}
use Rattle.std.proofs.lemmas.Result.{IfOk-weaker}
use Rattle.clap.specs.Words.{AddsSubcommand, App, app_of, with_subcommand}
use Rattle.clap.specs.declared.builder.command.Command.{Command}
use Rattle.hb_words.specs.Interface.{IsForm, plus}
use Rattle.hb_words.proofs.interface.interface.Goals as goal

-- the program with one command more
next : (old sub new : Command) (a b : App) → AddsSubcommand old sub new → app_of old ≡ a → IsForm b sub → app_of new ≡ plus a b
next old sub new a b adds above form = adds.shape form.local ∙ ap₂ with_subcommand above (ap (λ (x : App). x.top) form.shape)

pub returns : goal.returns
returns c =
    let watch = next _ _ _ _ _ c.in_ok-subcommand.ensures c.program.ensures c.in_ok-one.ensures in
    let look = next _ _ _ _ _ c.in_ok-subcommand-2.ensures watch c.in_ok-two.ensures in
    let check = next _ _ _ _ _ c.in_ok-subcommand-3.ensures look (record { shape = c.new.ensures.app; local = c.new.ensures.local }) in
    let copy = next _ _ _ _ _ c.in_ok-subcommand-4.ensures check (record { shape = c.new-2.ensures.app; local = c.new-2.ensures.local }) in
    let script = next _ _ _ _ _ c.in_ok-subcommand-5.ensures copy c.in_ok-one-2.ensures in
    let games = next _ _ _ _ _ c.in_ok-subcommand-6.ensures script c.in_ok-two-2.ensures in
    IfOk-weaker c.subcommand-7.result _ _ (λ m adds. next _ _ m _ _ adds games c.in_ok-two-3.ensures) c.subcommand-7.ensures
