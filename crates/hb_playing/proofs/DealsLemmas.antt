-- Which deck does a table have, and which game starts with it?
use Rattle.std.proofs.Common.{◌≡◌, ℕ, Bool, true, false, List, ◌∙◌, refl, ap, sym, Some, None, Option}
use Rattle.std.specs.Prelude.{Result, Ok, Err, IfOk}
use Rattle.hb_rules.specs.declared.acts.Options.{Options}
use Rattle.hb_rules.specs.declared.suits.Identity.{Identity}
use Rattle.hb_rules.specs.declared.variants.Variant.{Variant}
use Rattle.hb_rules.specs.Cards.{IsDeck, cards, is_deck}
use Rattle.hb_rules.specs.Setup.{Position}
use Rattle.hb_rules.specs.Start.{started}
use Rattle.hb_rules.proofs.IsDeal.{deck-is, deck-tests}
use Rattle.hb_deck.specs.Shuffle.{shuffle_of}
use Rattle.hb_suits.specs.VariantNames.{variant_of}
use Rattle.hb_club.specs.RoomEvents.{Site}
use Rattle.hb_club.specs.TableFacts.{deck_by, setup_for, setup_when, shuffled_deck, stream_of}
use Rattle.hb_playing.specs.declared.deals.DealError.{DealError}
use Rattle.hb_playing.specs.declared.deals.DealError.TheVariants as error
use Rattle.hb_playing.specs.RoomDeals.{IsDealt, IsNoStart, IsNotDealt}

-- a written deck of the variant is the table's
pub deck_by-written : (s : Site) (v : Variant) (serial : ℕ) (deck : List Identity) → IsDeck v deck → deck_by (Some deck) s v serial ≡ deck
deck_by-written s v serial deck full = rw (deck-tests v deck full) refl

-- the deck that the seed gives is the table's if no deck is written
pub deck_by-none : (s : Site) (v : Variant) (serial : ℕ) → deck_by None s v serial ≡ shuffle_of (cards v) s.seed (stream_of s serial)
unfolding shuffled_deck
deck_by-none s v serial = refl

-- and if the written one is no deck of the variant
pub deck_by-other : (s : Site) (v : Variant) (serial : ℕ) (deck : List Identity) → (IsDeck v deck → ⊥)
    → deck_by (Some deck) s v serial ≡ shuffle_of (cards v) s.seed (stream_of s serial)
unfolding shuffled_deck
deck_by-other s v serial deck other = pick (is_deck v deck) refl
  where
    pick : (b : Bool) → is_deck v deck ≡ b → deck_by (Some deck) s v serial ≡ shuffle_of (cards v) s.seed (stream_of s serial)
    pick true is = absurd (other (deck-is v deck is))
    pick false is = rw is refl

-- the game that starts with the table's deck is dealt there
pub started-dealt : (s : Site) (v : Variant) (serial : ℕ) (name : List ℕ) (o : Options) (count : ℕ) (p : Position)
    → variant_of name ≡ Some v
    → p ≡ started v o count (deck_by s.written s v serial) → IsDealt s serial (name, o) count p
started-dealt s v serial name o count p named is =
    let setup : setup_when true s serial (name, o) count ≡ Some (setup_for s serial o count v) = rw named refl in
    record {
      setup = setup ∙ ap (λ (q : Position). Some q.setup) (sym is);
      past = ap (λ (q : Position). q.past) is;
    }

-- what keeps a game of a variant from its start keeps it from being dealt
pub no-start : (name : List ℕ) (o : Options) (count : ℕ) (e : DealError) → IsNoStart o count e → IsNotDealt (name, o) count e
no-start name o count error.Variant is = absurd is
no-start name o count error.Players is = is
no-start name o count error.Options is = is
no-start name o count error.NoMemory is = is

-- a clause of a value says what follows from it
pub if_ok-more : {T E : Type 0} {P Q : T → Type 0} (r : Result T E) → ((x : T) → P x → Q x) → IfOk r P → IfOk r Q
if_ok-more (Ok x) more is = more x is
if_ok-more (Err e) more is = tt

-- a game that starts with the written deck, which is one of the variant, starts with the table's
pub written-started : (written : Option (List Identity)) (s : Site) (v : Variant) (serial : ℕ) (o : Options) (count : ℕ)
    (deck here : List Identity) (p : Position) → written ≡ Some deck → here ≡ deck → IsDeck v deck → p ≡ started v o count here
    → p ≡ started v o count (deck_by written s v serial)
written-started written s v serial o count deck here p is same full start =
    let table : deck_by written s v serial ≡ deck = rw is (deck_by-written s v serial deck full) in rw (table, start, same) refl

-- and so does one with the deck that the seed gives, if the written one is no deck of the variant
pub other-started : (written : Option (List Identity)) (s : Site) (v : Variant) (serial : ℕ) (o : Options) (count : ℕ)
    (deck : List Identity) (stream : ℕ) (p : Position) → written ≡ Some deck → (IsDeck v deck → ⊥) → stream ≡ stream_of s serial
    → p ≡ started v o count (shuffle_of (cards v) s.seed stream) → p ≡ started v o count (deck_by written s v serial)
other-started written s v serial o count deck stream p is other same start =
    let table : deck_by written s v serial ≡ shuffle_of (cards v) s.seed (stream_of s serial) =
    rw is (deck_by-other s v serial deck other) in
    rw (table, start, same) refl

-- or if none is written
pub none-started : (written : Option (List Identity)) (s : Site) (v : Variant) (serial : ℕ) (o : Options) (count stream : ℕ) (p : Position)
    → written ≡ None → stream ≡ stream_of s serial → p ≡ started v o count (shuffle_of (cards v) s.seed stream)
    → p ≡ started v o count (deck_by written s v serial)
none-started written s v serial o count stream p is same start =
    let table : deck_by written s v serial ≡ shuffle_of (cards v) s.seed (stream_of s serial) = rw is (deck_by-none s v serial) in
    rw (table, start, same) refl
