-- Which table does a view show, and what is replied to an entry by the view alone? The facts of the
-- table are read off what the view tells, with no card where it shows none; the table of refusals
-- is the same.
use Rattle.std.specs.Prelude.{Bool, true, false, List, Option, None, length, option_map}
use Rattle.hb_rules.specs.declared.setups.Setup.{Setup}
use Rattle.hb_rules.specs.declared.variants.Variant.{Variant}
use Rattle.hb_rules.specs.Observed.{Observed}
use Rattle.hb_seen.specs.Pieces.{piece_events}
use Rattle.hb_sight.specs.Seen.{seen_position}
use Rattle.hb_suits.specs.VariantNames.{variant_of}
use Rattle.hb_club.specs.declared.commands.Entry.{Entry}
use Rattle.hb_club.specs.declared.replies.Reply.{Reply}
use Rattle.hb_club.specs.EndedReplays.{Finished}
use Rattle.hb_club.specs.OwnEntries.{OwnEntry}
use Rattle.hb_club.specs.Seating.{players}
use Rattle.hb_club.specs.Table.{Table}
use Rattle.hb_club.specs.TableItems.{is_started}
use Rattle.hb_club.specs.TableRefusals.{reply_on}
use Rattle.hb_club.specs.Views.{LoadedView, View, blind_of}

-- what a view has observed of the game that was started, of this variant
abbrev pub view_observed : View → Variant → Observed
view_observed w v = let count = length (players w.items) in record {
  blind = blind_of w.viewer count;
  variant = v;
  options = w.options;
  players = count;
  events = piece_events w.pieces;
}

-- the setup of that game as far as it is seen
abbrev pub view_setup : View → Variant → Setup
view_setup w v = (seen_position (view_observed w v)).setup

abbrev pub seen_when : Bool → View → Option Setup
seen_when true w = option_map (view_setup w) (variant_of w.name)
seen_when false w = None

-- the same, if a game was started
abbrev pub seen_game : View → Option Setup
seen_game w = seen_when (is_started w.items) w

-- the game that was loaded, as it is seen
abbrev pub seen_finished : LoadedView → Finished
seen_finished l = record { name = l.name; players = l.players; game = seen_position l.seen }

-- the facts of the latest table, as far as a view has them
abbrev pub seen_table : View → Table
seen_table w = record {
  latest = w.latest;
  name = w.name;
  options = w.options;
  items = w.items;
  game = seen_game w;
  loaded = option_map seen_finished w.loaded;
}

-- the reply to an entry of a member, by its view and its own entries alone
abbrev pub answer : View → List OwnEntry → Entry → Reply
answer w own e = reply_on (seen_table w) own e
