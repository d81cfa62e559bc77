-- A script behind its first lines.
use Rattle.std.proofs.Common.{◌≡◌, ℕ, ◌+◌, List, [], ◌∷◌, suc, add-one, refl, sym, ap, ◌∙◌, drop, take, Result, Err, is_some}
use Rattle.std.proofs.lemmas.Bool.{true≢false}
use Rattle.hb_script.specs.declared.scripts.Script.{Script}
use Rattle.hb_script.specs.declared.scripts.ScriptError.{ScriptError}
use Rattle.hb_script.specs.declared.scripts.ScriptError.TheVariants.{Line, NoMemory}
use Rattle.std.specs.declared.option.Option.{Option}
use Rattle.std.specs.declared.option.Option.TheVariants.{Some, None}
use Rattle.hb_rules.specs.declared.suits.Identity.{Identity}
use Rattle.hb_script.specs.ScriptGrammar.{IsUnread, behind_deck, behind_seed, deck_of, read_lines, script_of, script_with, seed_of}
use Rattle.hb_script.specs.ScriptLines.{lines_of}
use Rattle.hb_script.specs.ScriptReading.{IsUnreadAs, IsUnreadFrom, feed_at}
use Rattle.hb_script.proofs.BytePlaces.{lines-cut}

-- a script is read by the seed in the bytes up to the first line feed, and the lines behind them
pub script-first : (text : List ℕ)
    → script_of text ≡ behind_seed (seed_of (take (feed_at text) text)) (lines_of (drop (suc (feed_at text)) text))
unfolding script_of
script-first [] = refl
script-first (b ∷ text) = let cut = lines-cut b text in rw cut refl

-- where no deck is written behind the seed, the lines from the second on are further lines
pub behind-none : (seed rest : List ℕ) → None ≡ deck_of (take (feed_at rest) rest)
    → behind_seed (Some seed) (lines_of rest) ≡ script_with seed None (read_lines 2 (lines_of rest))
behind-none seed [] d = refl
behind-none seed (b ∷ rest) d = let cut = lines-cut b rest in let e = sym d in
    rw cut (ap (λ (o : Option (List Identity)). behind_deck seed o (take (feed_at (b ∷ rest)) (b ∷ rest)) (lines_of (drop (suc (feed_at (b
    ∷ rest))) (b ∷ rest)))) e)

-- where a deck is written behind the seed, the lines from the third on are further lines
pub behind-some : (seed rest : List ℕ) (cards : List Identity) → Some cards ≡ deck_of (take (feed_at rest) rest)
    → behind_seed (Some seed) (lines_of rest) ≡ script_with seed (Some cards) (read_lines 3 (lines_of (drop (suc (feed_at rest)) rest)))
behind-some seed [] cards d = absurd (true≢false (ap (λ (o : Option (List Identity)). is_some o) d))
behind-some seed (b ∷ rest) cards d = let cut = lines-cut b rest in let e = sym d in
    rw cut (ap (λ (o : Option (List Identity)). behind_deck seed o (take (feed_at (b ∷ rest)) (b ∷ rest)) (lines_of (drop (suc (feed_at (b
    ∷ rest))) (b ∷ rest)))) e)

-- a script whose further lines are not read for some cause is itself not read for that cause
pub unread : (seed : List ℕ) (written : Option (List Identity)) (first : ℕ) (rest : List ℕ) (reading : Result Script ℕ) (e : ScriptError)
    → reading ≡ script_with seed written (read_lines first (lines_of rest)) → IsUnreadFrom first rest e → IsUnreadAs reading e
unread seed written first rest reading (Line number) p q = p ∙ ap (script_with seed written) q
unread seed written first rest reading NoMemory p q = tt

-- if the reading of a whole text fails for a cause, the text is not a script for that cause
pub unread-all : (text : List ℕ) (reading : Result Script ℕ) (e : ScriptError) → script_of text ≡ reading → IsUnreadAs reading e
    → IsUnread text e
unread-all text reading (Line number) p q = p ∙ q
unread-all text reading NoMemory p q = tt

-- a text without a seed before its first line feed is refused at line 1
pub script-bad : (end : ℕ) (text : List ℕ) → end ≡ feed_at text → None ≡ seed_of (take end text) → script_of text ≡ Err 1
script-bad end text e n =
    script-first text ∙ ap (λ (o : Option (List ℕ)). behind_seed o (lines_of (drop (suc (feed_at text)) text))) (sym (rw e at n))

-- a text with a seed before its first line feed is read on behind that line feed
pub script-good : (end : ℕ) (text seed : List ℕ) → end ≡ feed_at text → Some seed ≡ seed_of (take end text)
    → script_of text ≡ behind_seed (Some seed) (lines_of (drop (end + 1) text))
script-good end text seed e n = rw (add-one, e) (script-first text
    ∙ ap (λ (o : Option (List ℕ)). behind_seed o (lines_of (drop (suc (feed_at text)) text))) (sym (rw e at n)))
