-- What holds of every game, and what does a game keep of its acts? It keeps a setup that may be
-- played with, and a table that is that of the acts.
use Rattle.std.specs.Prelude.{◌==◌, ◌≡◌, ℕ, ◌+◌, ◌*◌, ◌<◌, ◌≤◌, List, Option, None, length, slice_index, slice_index_or}
use Rattle.hb_rules.specs.declared.acts.Act.{Act}
use Rattle.hb_rules.specs.declared.acts.EndHow.{EndHow}
use Rattle.hb_rules.specs.declared.limits.TheConstants.{FEWEST_PLAYERS, HIGHEST_RANK, IDENTITIES, MOST_CARDS, MOST_PLAYERS, MOST_SUITS}
use Rattle.hb_rules.specs.declared.setups.Setup.{Setup}
use Rattle.hb_rules.specs.Cards.{IsDeck}
use Rattle.hb_rules.specs.Setup.{Position, card, deal_size}
use Rattle.hb_rules.specs.Positions.{IsLegal}
use Rattle.hb_rules.specs.Start.{CanStart}
use Rattle.hb_rules.specs.Hands.{holder, is_at, removed}
use Rattle.hb_rules.specs.Result.{height, lost_copies, turns, tokens, strikes, emptied, called, ended}
use Rattle.hb_rules.specs.Legality.{Legal}
use Rattle.hb_rules.specs.Marks.{is_marked, gone_copies}
use Rattle.hb_sets.specs.Sets.{bit}
use Rattle.hb_turns.specs.declared.masks.ClueMasks.{ClueMasks}
use Rattle.hb_turns.specs.declared.table.Table.{Table}
use Rattle.hb_turns.specs.ClueMasks.{AreClueMasks}

-- a game may start with the setup; the other facts follow from that, and are those that proofs use
pub record IsFair (g : Setup) : Type 0 where
  pub can : CanStart g.variant g.options g.players g.deck.items
  pub full : IsDeck g.variant g.deck.items
  pub two : FEWEST_PLAYERS ≤ g.players
  pub six : g.players ≤ MOST_PLAYERS
  pub long : length g.deck.items ≤ MOST_CARDS
  pub dealt : deal_size g ≤ length g.deck.items
  pub seat : g.options.starting < g.players
  pub suits : (k : ℕ) → k < length g.deck.items → (card g k).suit < MOST_SUITS
  pub ranks : (k : ℕ) → k < length g.deck.items
      → (1 ≤ (card g k).rank) × ((card g k).rank < HIGHEST_RANK + 1)

-- what holds of every game, so that each caller of a reader knows it: a game may start with the
-- setup, and the acts are legal
pub record IsPlayed (p : Position) : Type 0 where
  pub fair : IsFair p.setup
  pub legal : IsLegal p

-- the table of a history: each field is what the acts say
pub record IsTable (g : Setup) (past : List Act) (t : Table) : Type 0 where
  pub many_holders : length t.holders ≡ MOST_CARDS
  pub many_hands : length t.hands ≡ MOST_PLAYERS
  pub many_stacks : length t.stacks ≡ MOST_SUITS
  pub many_lost : length t.lost ≡ IDENTITIES
  pub many_gone : length t.gone ≡ IDENTITIES
  pub many_marks : length t.marks ≡ MOST_CARDS
  pub holders : (k : ℕ) → k < MOST_CARDS → slice_index_or t.holders k None ≡ holder g past k
  pub hands : (s k : ℕ) → s < MOST_PLAYERS
      → (bit (slice_index t.hands s) k == 1) ≡ is_at (holder g past k) s
  pub stacks : (s : ℕ) → s < MOST_SUITS → slice_index t.stacks s ≡ height g past s
  pub lost : (s r : ℕ) → s < MOST_SUITS → r < HIGHEST_RANK
      → slice_index t.lost (s * HIGHEST_RANK + r)
      ≡ lost_copies g past (record { suit = s; rank = r + 1 })
  pub gone : (s r : ℕ) → s < MOST_SUITS → r < HIGHEST_RANK
      → slice_index t.gone (s * HIGHEST_RANK + r)
      ≡ gone_copies g past (record { suit = s; rank = r + 1 })
  pub marks : (k n : ℕ) → k < MOST_CARDS
      → (bit (slice_index t.marks k) n == 1) ≡ is_marked g past k n
  pub removed : t.removed ≡ length (removed past)
  pub turns : t.turns ≡ turns past
  pub tokens : t.tokens ≡ tokens g past
  pub strikes : t.strikes ≡ strikes g past
  pub emptied : t.emptied ≡ emptied g past
  pub called : t.called ≡ called past

-- what holds of the fields of every game: its setup is fair, its acts are a legal history, its
-- table is that of the acts, its masks are those of the variant, and its end is that of the acts
pub record IsGame (g : Setup) (past : List Act) (t : Table) (sets : ClueMasks)
    (end : Option EndHow) : Type 0 where
  pub fair : IsFair g
  pub legal : Legal g past
  pub table : IsTable g past t
  pub masks : AreClueMasks g.variant sets
  pub ended : end ≡ ended g past
