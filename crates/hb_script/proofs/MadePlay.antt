-- A made game, and the requests of its table, act by act.
use Rattle.std.proofs.Common.{◌≡◌, ℕ, zero, suc, ◌+◌, ◌^◌, ◌<◌, ◌≤◌, ◌==◌, Bool, true, false, cond, List, [], ◌∷◌, Option, Some, None, arith, refl, ap, ◌∙◌, length, is_some, nat_lt, replicate, slice_index}
use Rattle.std.proofs.lemmas.List.{get_or_past}
use Rattle.std.proofs.lemmas.List.Sums.{count_by-le-length}
use Rattle.hb_rules.specs.declared.acts.Act.{Act}
use Rattle.hb_rules.specs.declared.acts.EndHow.{EndHow}
use Rattle.hb_rules.specs.Positions.{IsLegal, after, ended}
use Rattle.hb_rules.specs.Setup.{Position}
use Rattle.hb_rules.specs.Start.{are_players}
use Rattle.hb_turns.specs.GameInvariant.{IsFair}
use Rattle.hb_turns.proofs.Bounds.{few-acts}
use Rattle.hb_script.specs.declared.tables.TableLines.{TableLines}
use Rattle.hb_script.specs.MadeActs.{made_act, played_on, with_act}
use Rattle.hb_script.specs.MadeScripts.{Asked, seated, table_asks}
use Rattle.hb_script.specs.MadeTables.{HasAsked}

-- the game

-- a game that is played on by no acts stays as it is
pub played-done : (n : ℕ) (p : Position) → n ≡ 0 → played_on n p ≡ p
unfolding played_on
played-done n p e = ap (λ (k : ℕ). played_on k p) e

-- a game that has ended is played no further
played-ended : (n : ℕ) (p : Position) (how : EndHow) → ended p ≡ Some how → played_on n p ≡ p
unfolding played_on
played-ended zero p how e = refl
played-ended (suc n) p how e = ap (λ (o : Option EndHow). played_on n (with_act o p)) e ∙ played-ended n p how e

-- a game for which there is an end stays as it is, by however many acts it is played on
pub played-some : (n : ℕ) (p : Position) → is_some (ended p) ≡ true → played_on n p ≡ p
played-some n p e = pick (ended p) refl e
  where
    pick : (o : Option EndHow) → ended p ≡ o → is_some o ≡ true → played_on n p ≡ p
    pick (Some how) is h = played-ended n p how is
    pick None is h = cc

-- and one that runs by one act more
pub played-more : (n m : ℕ) (p : Position) → n ≡ suc m → ended p ≡ None → played_on n p ≡ played_on m (after p (made_act p))
unfolding played_on
played-more n m p is e = ap (λ (k : ℕ). played_on k p) is ∙ ap (λ (o : Option EndHow). played_on m (with_act o p)) e

-- a game with as many acts as there is room for has ended
pub ended-full : (p : Position) → IsFair p.setup → IsLegal p → 160 ≤ length p.past → is_some (ended p) ≡ true
ended-full p fair legal full = pick (is_some (ended p)) refl
  where
    pick : (b : Bool) → is_some (ended p) ≡ b → is_some (ended p) ≡ true
    pick true e = e
    pick false e = let few = few-acts p.setup p.past fair legal e in absurd (omega (arith, few, full))

-- whose turn it is, while the game runs
pub seat-of : (b : Bool) (n k : ℕ) → Some k ≡ cond b None (Some n) → (k ≡ n) × (b ≡ false)
seat-of true n k e = cc
seat-of false n k e = (cc, refl)

-- if the test for an end fails, there is no end
pub none-of : (o : Option EndHow) → is_some o ≡ false → o ≡ None
none-of (Some how) e = cc
none-of None e = refl

-- a number of players that is allowed is at most six
pub few-players : (n : ℕ) → are_players n ≡ true → n ≤ 6
few-players n e = grind arith

-- the requests

-- a list of zeros has zero at each place, and counts as zero beyond its end
pub zeros : (k n : ℕ) → slice_index (replicate n 0) k ≡ 0
zeros k zero = refl
zeros zero (suc n) = refl
zeros (suc k) (suc n) = zeros k n

-- opening a table and seating its members takes one request more than there are members
pub seated-length : (members : ℕ) → length (seated members) ≡ suc members
seated-length zero = refl
seated-length (suc members) = let ih = seated-length members in omega (arith, ih)

-- a table has a request for each act, one for each player to sit, one to open and one to start
pub asks-length : (players : ℕ) (past : List Act) → length (table_asks players past) ≡ length past + (players + 2)
asks-length players [] = let s = seated-length players in omega (arith, s)
asks-length players (act ∷ past) = let ih = asks-length players past in omega (arith, ih)

-- a member has asked at most as often as there are requests
pub number-low : (t : TableLines) (serial member : ℕ) (all : List Asked) → HasAsked t serial all → length all < 1000
    → slice_index t.numbers member < 2 ^ 31
number-low t serial member all h few = pick (nat_lt member 6) refl
  where
    pick : (b : Bool) → nat_lt member 6 ≡ b → slice_index t.numbers member < 2 ^ 31
    pick true e =
        let low : member < 6 = grind (arith, e) in
        let is = h.numbers member low in
        let most = count_by-le-length (λ (a : Asked). a.member == member) all in
        omega (arith, is, most, few)
    pick false e =
        let past : length t.numbers ≤ member = grind (arith, e, h.members) in
        let none : slice_index t.numbers member ≡ 0 = get_or_past t.numbers member 0 past in
        omega (arith, none)
