-- Which replay is a JSON value, by the cases of the value? No order of checks matters here, and no
-- refusal is named.
use Rattle.std.specs.Prelude.{◌≡◌, List, [], ◌∷◌, length, None, Some, true, false, ◌&&◌, ◌==◌, ◌⊎◌}
use Rattle.serde_json.specs.Data.{Data}
use Rattle.hb_rules.specs.declared.variants.Variant.{Variant}
use Rattle.hb_rules.specs.Setup.{Position}
use Rattle.hb_rules.specs.Start.{CanStart}
use Rattle.hb_rules.specs.Positions.{after, rule}
use Rattle.hb_suits.specs.VariantNames.{variant_of}
use Rattle.hb_replay.specs.declared.written.WrittenAction.{WrittenAction}
use Rattle.hb_replay.specs.declared.written.WrittenReplay.{WrittenReplay}
use Rattle.hb_replay.specs.Contents.{Contents, notes_fit}
use Rattle.hb_replay.specs.Says.{Says}
use Rattle.hb_replay.specs.WrittenReplay.{game_options, opened, act_of, says_end, contents_of}

-- the actions lead from one position to another; a last one that says the end that the game has
-- come to is ignored
abbrev pub Leads : Position → List WrittenAction → Position → Type 0
Leads p [] q = q ≡ p
Leads p (a ∷ rest) q =
    ((length rest == 0 && says_end p a) ≡ true) × (q ≡ p)
    ⊎ ((length rest == 0 && says_end p a) ≡ false) × (rule p (act_of p a) ≡ None)
    × Leads (after p (act_of p a)) rest q

-- the value is this replay
pub record ReplayOf (d : Data) (r : Contents) : Type 0 where
  pub written : WrittenReplay
  pub says : Says d written
  -- a game may start with what is said
  pub variant : Variant
  pub named : variant_of written.options.variant ≡ Some variant
  pub understood : written.options.other ≡ None
  pub can : CanStart variant (game_options written.options) (length written.players) written.deck
  -- the actions lead to the replay's game
  pub game : Position
  pub acts : Leads (opened variant written) written.actions game
  pub few : notes_fit written.notes ≡ true
  pub is : r ≡ contents_of written game
