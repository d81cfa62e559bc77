-- How does a made script go on by a table, and how are its lines run behind others?
use Rattle.std.proofs.Common.{◌≡◌, ◌≢◌, ℕ, ◌+◌, Bool, true, List, [], ◌∷◌, ◌++◌, ap, append-nil, append_assoc, arith, refl, subst, sym, ◌∙◌, None}
use Rattle.std.proofs.lemmas.Grind.{flat_map-append}
use Rattle.std.proofs.lemmas.List.FromFn.{map-range_with_len_more, sum_by-map-range_with_len_more}
use Rattle.std.specs.List.{range_with_len}
use Rattle.std.specs.Prelude.{Ok, Option, flat_map, length, map}
use Rattle.hb_club.specs.Fronts.{Fronts, House, no_events}
use Rattle.hb_house.specs.declared.plain.TheConstants.{MOST_ROOMS}
use Rattle.hb_house.specs.ClerkRounds.{AtEach}
use Rattle.hb_house.specs.KeeperSteps.{Tells}
use Rattle.hb_house.specs.PlainHalls.{house_with}
use Rattle.hb_house.proofs.KeeperStepsLemmas.{sure_before, worked, worked_sure}
use Rattle.hb_keeper.specs.declared.fails.When.{When}
use Rattle.hb_keeper.specs.KeptGames.{Content, open_run_on}
use Rattle.hb_keeper.specs.Told.{Keeps, Plans}
use Rattle.hb_rules.specs.Positions.{score}
use Rattle.hb_talk.specs.declared.scripts.ScriptLine.{ScriptLine}
use Rattle.hb_run.specs.HeldRuns.{MOST_BYTES}
use Rattle.hb_run.specs.RunLines.{RunState, first_state}
use Rattle.hb_run.specs.ScriptRuns.{RunsAll}
use Rattle.hb_run.proofs.RunsLemmas.{runs-join}
use Rattle.hb_script.specs.MadeScripts.{hello_lines, made_acts, made_game, made_lines, made_score, made_shoe, table_lines}
use Rattle.hb_cli.specs.declared.made_runs.Sums.{Sums}
use Rattle.hb_cli.specs.MadeRuns.{RanMade, RunsMade, fresh_keeper}

map-same : (xs : List ℕ) → map (λ x. x) xs ≡ xs
map-same [] = refl
map-same (x ∷ xs) = ap (λ (l : List ℕ). x ∷ l) (map-same xs)

range-more : (k : ℕ) → range_with_len 1 (k + 1) ≡ range_with_len 1 k ++ (k + 1) ∷ []
range-more k =
    sym (map-same (range_with_len 1 (k + 1)))
    ∙ (map-range_with_len_more (λ x. x) 1 k (k + 1) (omega arith)
    ∙ ap (λ (l : List ℕ). l ++ (k + 1) ∷ []) (map-same (range_with_len 1 k)))

-- with one table more

-- with one table more a made script has the lines it had before, and then those of that table
pub lines-more : (k seed : ℕ) → made_lines (k + 1) seed ≡ made_lines k seed ++ table_lines seed (k + 1)
lines-more k seed =
    let tables : List ℕ → List ScriptLine = flat_map (table_lines seed) in
    ap (λ (l : List ℕ). hello_lines ++ tables l) (range-more k)
    ∙ (ap (λ (l : List ScriptLine). hello_lines ++ l)
    (flat_map-append (table_lines seed) (range_with_len 1 k) ((k + 1) ∷ [])
    ∙ ap (λ (l : List ScriptLine). tables (range_with_len 1 k) ++ l) (append-nil (table_lines seed (k + 1))))
    ∙ sym (append_assoc hello_lines (tables (range_with_len 1 k)) (table_lines seed (k + 1))))

-- with one table more a made script has as many acts more as the game of that table has
pub acts-more : (k seed : ℕ) → made_acts (k + 1) seed ≡ made_acts k seed + length (made_game seed (k + 1)).past
acts-more k seed =
    sum_by-map-range_with_len_more (λ x. x) (λ table. length (made_game seed table).past) 1 k (k + 1) (omega arith)

-- with one table more the score of a made script is greater by that of the game of that table
pub score-more : (k seed : ℕ) → made_score (k + 1) seed ≡ made_score k seed + score (made_game seed (k + 1))
score-more k seed =
    sum_by-map-range_with_len_more (λ x. x) (λ table. score (made_game seed table)) 1 k (k + 1) (omega arith)

-- lines behind others, of which no text is kept
pub joined : (Mid Left : RunState → Type 0) (h : House) (count : ℕ) (alone : Bool) (lines others all : List ScriptLine)
    (begin : RunState) → all ≡ lines ++ others → (p : RunsAll Mid h count alone lines begin None None)
    → RunsAll Left h count alone others p.state None None → RunsAll Left h count alone all begin None None
joined Mid Left h count alone lines others all begin is p q = rw is (record {
  state = q.state;
  text = p.text ++ q.text;
  runs = runs-join h count alone lines others begin p.state q.state p.text q.text p.runs q.runs;
  left = q.left;
  written = tt;
})

-- the run of a made script in a plain hall, with a keeper that began its first run: its sums are those of the script
pub made-ran : (before mid : Content → Type 0) (plan next : Option (List (ℕ × When))) (Stood : Fronts → Type 0) (now then : Type 0)
    (run : ℕ) (h : House) (count tables seed : ℕ) (sums : Sums) → h ≡ house_with (made_shoe seed) run → count ≡ MOST_ROOMS
    → (now → then) → (then → Keeps open_run_on before mid (Ok run)) → Plans {A = ℕ} plan next (Ok run) → Stood no_events
    → AtEach Stood (Tells mid next) now (λ f c. RunsMade h count true tables seed (first_state f c) sums)
    → Tells before plan fresh_keeper → now → sums.bytes ≢ MOST_BYTES
    → RanMade tables seed sums.bytes × (sums.acts ≡ made_acts tables seed) × (sums.score ≡ made_score tables seed)
made-ran before mid plan next Stood now then run h count tables seed sums in_house of_rooms back keeps plans stood each told sure less =
    let was = worked open_run_on before mid plan next then run fresh_keeper keeps plans told
    (sure_before fresh_keeper now then back sure) in
    let still = worked_sure now open_run_on fresh_keeper (Ok run) was.keeper was.is sure in
    let r : RunsMade (house_with (made_shoe seed) run) MOST_ROOMS true tables seed (first_state no_events was.keeper) sums =
    subst (λ (x : House). RunsMade x MOST_ROOMS true tables seed (first_state no_events was.keeper) sums) in_house
    (subst (λ (n : ℕ). RunsMade h n true tables seed (first_state no_events was.keeper) sums) of_rooms
    (each no_events was.keeper stood was.told still)) in
    let sent = r.bytes in (
      record {
        begun = record { run = run; keeper = was.keeper; began = was.is };
        state = r.state;
        text = r.text;
        runs = r.runs;
        sent = omega (arith, sent, less);
      },
      r.acts,
      r.score,
    )
