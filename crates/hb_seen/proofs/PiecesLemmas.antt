-- Are the events of a game's pieces what was observed of it? Yes, and so are those of its first pieces.
use Rattle.std.proofs.Common.{◌≡◌, ℕ, ◌+◌, List, [], ◌∷◌, ◌++◌, refl, ap, sym, ◌∙◌, arith, length, drop, take}
use Rattle.std.proofs.lemmas.List.{append_assoc, append-nil, map-append}
use Rattle.std.proofs.Math.Seq.{take-append_seam}
use Rattle.hb_rules.specs.declared.acts.Act.{Act}
use Rattle.hb_rules.specs.declared.events.Event.{Event}
use Rattle.hb_rules.specs.declared.setups.Setup.{Setup}
use Rattle.hb_rules.specs.Events.{act_events, blank, blanked, events, observation}
use Rattle.hb_seen.specs.Pieces.{piece_events, pieces}

-- the events of all pieces are the observation
pub piece_events-pieces : (blind : ℕ) (g : Setup) (past : List Act) → piece_events (pieces blind g past) ≡ observation blind g past
piece_events-pieces blind g [] = refl
piece_events-pieces blind g (act ∷ past) =
    ap (λ seen. seen ++ blank blind (act_events g past act)) (piece_events-pieces blind g past)
    ∙ sym (map-append (blanked blind) (events g past) (act_events g past act))

-- without the newest pieces, those of the acts before are left
pub drop-pieces : (blind : ℕ) (g : Setup) (more past : List Act)
    → drop (length more) (pieces blind g (more ++ past)) ≡ pieces blind g past
drop-pieces blind g [] past = refl
drop-pieces blind g (act ∷ more) past = drop-pieces blind g more past

-- and their events are the observation of that time
pub piece_events-drop : (blind : ℕ) (g : Setup) (more past : List Act)
    → piece_events (drop (length more) (pieces blind g (more ++ past))) ≡ observation blind g past
piece_events-drop blind g more past = ap piece_events (drop-pieces blind g more past) ∙ piece_events-pieces blind g past

-- a piece for the deal, and one for each act
pub length-pieces : (blind : ℕ) (g : Setup) (past : List Act) → length (pieces blind g past) ≡ length past + 1
length-pieces blind g [] = refl
length-pieces blind g (act ∷ past) = let ih : length (pieces blind g past) ≡ length past + 1 = length-pieces blind g past in omega arith

-- what was observed stands in front of what is observed later
observation-more : (blind : ℕ) (g : Setup) (more past : List Act)
    → (rest : List Event) × (observation blind g (more ++ past) ≡ observation blind g past ++ rest)
observation-more blind g [] past = ([], sym (append-nil (observation blind g past)))
observation-more blind g (act ∷ more) past =
    let before : (rest : List Event) × (observation blind g (more ++ past) ≡ observation blind g past ++ rest) =
    observation-more blind g more past in
    let new : List Event = blank blind (act_events g (more ++ past) act) in (
      before.0 ++ new,
      map-append (blanked blind) (events g (more ++ past)) (act_events g (more ++ past) act)
          ∙ (ap (λ (seen : List Event). seen ++ new) before.1 ∙ append_assoc (observation blind g past) before.0 new),
    )

-- so an observation begins with each earlier one
pub take-observation : (blind : ℕ) (g : Setup) (more past : List Act)
    → take (length (observation blind g past)) (observation blind g (more ++ past)) ≡ observation blind g past
take-observation blind g more past =
    let later : (rest : List Event) × (observation blind g (more ++ past) ≡ observation blind g past ++ rest) =
    observation-more blind g more past in
    ap (take (length (observation blind g past))) later.1 ∙ take-append_seam (observation blind g past) later.0
