-- Which facts does a table show of a member?
use Rattle.std.specs.Prelude.{ℕ, Bool, List, is_some, length, bytes_eq}
use Rattle.std.specs.List.{list_any}
use Rattle.hb_club.specs.Seating.{seated_names, shadow_of, watchers}
use Rattle.hb_club.specs.Table.{Table, deck_size, has_ended, is_paused, player_count}
use Rattle.hb_club.specs.TableItems.{has, is_host, is_saved, is_standing, is_started}
use Rattle.hb_refusals.specs.declared.facts.Facts.{Facts}

-- the facts, beside whether a load is pending
abbrev pub facts_of : Table → Bool → List ℕ → Facts
facts_of t loading member = record {
  latest = t.latest;
  standing = is_standing t.items;
  host = is_host t.items member;
  started = is_started t.items;
  loaded = is_some t.loaded;
  seated = list_any (bytes_eq member) (seated_names t.items);
  watching = is_some (shadow_of member (watchers t.items));
  seats = length (seated_names t.items);
  watchers = length (watchers t.items);
  ended = has_ended t;
  saved = has is_saved t.items;
  loading = loading;
  timed = t.options.timed;
  paused = is_paused t;
  cards = deck_size t.game;
  players = player_count t.game;
}
