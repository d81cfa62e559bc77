-- A worked example: the answers of a keeper, computed.
use Rattle.std.specs.Prelude.{◌≡◌, ℕ, List, [], ◌∷◌, codes, Some, None, Ok, Err, refl}
use Rattle.hb_keeper.specs.declared.rows.Key.{Key}
use Rattle.hb_keeper.specs.declared.rows.GameRow.{GameRow}
use Rattle.hb_keeper.specs.declared.errors.KeepError.TheVariants.{KeyDiffers, UsedUp}
use Rattle.hb_keeper.specs.declared.fails.When.{When}
use Rattle.hb_keeper.specs.declared.fails.When.TheVariants.{Before, After}
use Rattle.hb_keeper.specs.KeptGames.{Content, open_run_on, put_on, get_on, of_member_on}
use Rattle.hb_keeper.specs.Plans.{failing, later}

abbrev key : Key
key = record { run = 1; room = 1; serial = 1 }

abbrev game : ℕ → GameRow
game score = record { names = codes "Ann" ∷ codes "Bob" ∷ []; text = codes "{}"; how = 1; score = score }

abbrev empty : Content
empty = record { last_run = 0; rows = [] }

abbrev kept : Content
kept = (put_on key (game 3) (open_run_on empty).1).1

first : (open_run_on empty).0 ≡ Ok 1
first = refl

put : (put_on key (game 3) (open_run_on empty).1).0 ≡ Ok 1
put = refl

again : (put_on key (game 3) kept).0 ≡ Ok 1
again = refl

differs : (put_on key (game 4) kept).0 ≡ Err (KeyDiffers 1)
differs = refl

found : (get_on 1 kept).0 ≡ Ok (Some (game 3))
found = refl

none : (get_on 2 kept).0 ≡ Ok None
none = refl

line : (of_member_on (codes "Bob") kept).0 ≡ Ok ((record { id = 1; score = 3; how = 1 }) ∷ [])
line = refl

used : (open_run_on (record { last_run = 9223372036854775807; rows = [] })).0 ≡ Err UsedUp
used = refl

abbrev plan : List (ℕ × When)
plan = (2, Before) ∷ (3, After) ∷ []

calls : failing plan ∷ failing (later plan) ∷ failing (later (later plan)) ∷ failing (later (later (later plan))) ∷ []
    ≡ None ∷ Some Before ∷ Some After ∷ None ∷ []
calls = refl
