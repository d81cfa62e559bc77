-- Why are replays that a command's seat can't tell apart written alike?
use Rattle.std.proofs.Common.{◌≡◌, ℕ, List, ap}
use Rattle.hb_rules.specs.Observed.{Observed}
use Rattle.hb_game_lines.specs.Standing.{standing_text}
use Rattle.hb_words.specs.declared.commands.ReplayCommand.TheVariants.{Watch, Look, Check, Copy}
use Rattle.hb_cli.specs.Alike.{AlikeIsWrittenAlike}
use Rattle.hb_cli.specs.Outputs.{output, watch_text}

watch_text-alike : (name other_name : List ℕ) (names other_names : List (List ℕ)) (seen other : Observed)
    → name ≡ other_name → names ≡ other_names → seen ≡ other → watch_text name names seen ≡ watch_text other_name other_names other
watch_text-alike name other_name names other_names seen other same_name same_names same_seen = cc

-- the output of a command is alike for replays that are alike to its seat
pub output-alike : AlikeIsWrittenAlike
output-alike (Watch seat) r s alike = watch_text-alike r.name s.name r.players s.players _ _ alike.name alike.players alike.seen
output-alike (Look seat turn) r s alike = ap standing_text alike
output-alike Check r s alike = ap (output Check) alike
output-alike Copy r s alike = ap (output Copy) alike
