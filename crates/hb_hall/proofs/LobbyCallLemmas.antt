-- What does a hall answer when its lobby was called, and for which lists does it then stand?
use Rattle.std.proofs.Common.{◌≡◌, ℕ, true, false, List, [], ◌∷◌, ◌++◌, Option, Some, None, refl, ap, sym, ◌∙◌, subst, append_assoc, append-nil, IfOk, OnErr, true≢false}
use Rattle.hb_turnstile.specs.declared.view.Entry.{Entry}
use Rattle.hb_turnstile.specs.History.{IsLegal, Leads, entry}
use Rattle.hb_club.specs.declared.lobby.LobbyEntry.{LobbyEntry}
use Rattle.hb_club.specs.declared.lobby.LobbyReply.{LobbyReply}
use Rattle.hb_club.specs.Fronts.{Fronts}
use Rattle.hb_club.specs.HallAnswers.{IsLobbyAnswer, LobbyAnswers, NothingOwnLobby}
use Rattle.hb_club.specs.Lobby.{Bound, bound_of, bound_with, lobby_answer, lobby_reply}
use Rattle.hb_club.specs.RoomEvents.{RoomEvent, Site}
use Rattle.hb_hall.specs.declared.guarded.GuardedLobby.{GuardedLobby}
use Rattle.hb_hall.specs.declared.guarded.LobbyTurn.{LobbyTurn}
use Rattle.hb_hall.specs.declared.guarded.LobbyTurn.TheVariants as lobby
use Rattle.hb_hall.specs.Entrances.{CallsAt}
use Rattle.hb_hall.specs.MachineTurns.{LobbyTurns, lobby_event}
use Rattle.hb_hall.specs.TurnFronts.{Began, LobbyPlace, Places, RoomPlace, TurnStands, front, front_at, place_at}
use Rattle.hb_hall.specs.TurnReplies.{lobby_answer_of}
use Rattle.hb_hall.proofs.HistoryLemmas.{front-append, last-turn}

-- the turns of the lobby behind a turnstile
abbrev pub lobby_turns : GuardedLobby → LobbyEntry → LobbyTurn → GuardedLobby → Type 0
lobby_turns m c r n = LobbyTurns m.lobby c r n.lobby

-- the names that are bound after a turn
turn-bound : (bound : List Bound) (e : LobbyEntry) (r : LobbyTurn) (after : List Bound) (before : List LobbyEntry)
    → LobbyTurns bound e r after → bound ≡ bound_of before → after ≡ bound_of (lobby_event e r ++ before)
unfolding bound_of
turn-bound bound e (lobby.Told reply) after before turned is = turned.1 ∙ ap (bound_with e) is
turn-bound bound e lobby.NoMemory after before turned is = turned ∙ is

-- the names that are bound after a history
leads-bound : (m : GuardedLobby) (es : List (Entry LobbyEntry LobbyTurn)) (last : GuardedLobby) (before : List LobbyEntry)
    → Leads lobby_turns m es last → m.lobby ≡ bound_of before → last.lobby ≡ bound_of (front lobby_event es ++ before)
leads-bound m [] last before leads is = ap (λ (x : GuardedLobby). x.lobby) (sym leads) ∙ is
leads-bound m (e ∷ es) last before leads is =
    leads-bound leads.0 es last (lobby_event e.call e.reply ++ before) leads.2
    (turn-bound m.lobby e.call e.reply leads.0.lobby before leads.1 is)
    ∙ ap bound_of (sym (append_assoc (front lobby_event es) (lobby_event e.call e.reply) before))

-- the last reply of a legal history is right at its entries
told-right : (start : GuardedLobby) (es : List (Entry LobbyEntry LobbyTurn)) (n : ℕ) (c : LobbyEntry) (reply : LobbyReply)
    → IsLegal lobby_turns start (es ++ entry n c (lobby.Told reply) ∷ []) → start.lobby ≡ []
    → lobby_answer (c ∷ front lobby_event es) ≡ reply
unfolding bound_of lobby_answer
told-right start es n c reply legal none =
    let l = last-turn lobby_turns start es (entry n c (lobby.Told reply)) legal.0 legal.1 in
    let bound : l.0.lobby ≡ bound_of (front lobby_event es) =
    leads-bound start es l.0 [] l.1 none ∙ ap bound_of (append-nil (front lobby_event es)) in
    let turned = l.2 in
    sym (turned.0 ∙ ap (λ b. lobby_reply b c) bound)

module _ {R : Type 0} (site : R → Site) (stands : R → List RoomEvent → Type 0) (old new : Places R) (c : LobbyEntry)
    (same : new.rooms ≡ old.rooms) where
  -- the lists of the rooms are as before, and that of the lobby is what its pass has seen
  abbrev fronts_then : Fronts → Fronts
  fronts_then f = record { rooms = f.rooms; lobby = front lobby_event new.lobby.pass.seen }

  stands-then : new.lobby.start ≡ old.lobby.start → (f : Fronts) → TurnStands site stands old f → TurnStands site stands new (fronts_then f)
  stands-then start f stood =
      let B : List (RoomPlace R) → GuardedLobby → ℕ → Type 0 = λ rs l n. Began site stands
      (record { room = n; seed = l.shoe.value.seed; written = l.shoe.value.written; run = l.run }) (place_at rs n) in
      record {
        rooms = (λ n. stood.rooms n ∙ ap (λ rs. front_at rs n) (sym same));
        lobby = refl;
        began = (λ n. subst (λ rs. B rs new.lobby.start n) (sym same) (subst (λ l. B old.rooms l n) (sym start) (stood.began n)));
        opened = ap (λ (m : GuardedLobby). m.lobby) start ∙ stood.opened;
      }

  seen-then : (f : Fronts) (r : LobbyTurn) (others : List (Entry LobbyEntry LobbyTurn)) → f.lobby ≡ front lobby_event old.lobby.pass.seen
      → new.lobby.pass.seen ≡ (old.lobby.pass.seen ++ others) ++ entry old.lobby.pass.number c r ∷ []
      → front lobby_event new.lobby.pass.seen ≡ lobby_event c r ++ (front lobby_event others ++ f.lobby)
  seen-then f r others before seen =
      ap (front lobby_event) seen
      ∙ (front-append lobby_event (old.lobby.pass.seen ++ others) (entry old.lobby.pass.number c r ∷ [])
      ∙ ap (λ l. lobby_event c r ++ l)
      (front-append lobby_event old.lobby.pass.seen others ∙ ap (λ l. front lobby_event others ++ l) (sym before)))

  -- an answer is right at the list for which the hall then stands
  pub lobby-ok : (reply : Option LobbyTurn) → CallsAt lobby_turns old.lobby c reply new.lobby
      → IfOk (lobby_answer_of reply) (λ a. (f : Fronts) → TurnStands site stands old f
      → LobbyAnswers (TurnStands site stands) false new c (IsLobbyAnswer a) f)
  lobby-ok None called = tt
  lobby-ok (Some lobby.NoMemory) called = tt
  lobby-ok (Some (lobby.Told reply)) called = λ f stood.
      let calls = called.1 in
      let others = calls.0.0 in
      let begun = old.lobby.pass.seen ++ others in
      let last = entry old.lobby.pass.number c (lobby.Told reply) in
      let seen : new.lobby.pass.seen ≡ begun ++ last ∷ [] = ap (λ k. k.seen) calls.0.1 in
      let legal : IsLegal lobby_turns old.lobby.start (begun ++ last ∷ []) =
      subst (λ es. IsLegal lobby_turns old.lobby.start es) seen calls.1 in
      let right : lobby_answer (c ∷ front lobby_event begun) ≡ reply =
      told-right old.lobby.start begun old.lobby.pass.number c reply legal stood.opened in
      let list : front lobby_event new.lobby.pass.seen ≡ c ∷ front lobby_event begun =
      ap (front lobby_event) seen ∙ front-append lobby_event begun (last ∷ []) in
      record {
        after = fronts_then f;
        stands_for = stands-then called.0 f stood;
        takes = record {
          others = front lobby_event others;
          quiet = (λ no. absurd (true≢false (sym no)));
          front = seen-then f (lobby.Told reply) others stood.lobby seen;
          rooms = (λ room. refl);
        };
        answer = ap lobby_answer list ∙ right;
      }

  -- a call that is refused adds no entry of its own
  pub lobby-err : (reply : Option LobbyTurn) → CallsAt lobby_turns old.lobby c reply new.lobby
      → OnErr (lobby_answer_of reply) ((f : Fronts) → TurnStands site stands old f
      → NothingOwnLobby (TurnStands site stands) false new f)
  lobby-err (Some (lobby.Told reply)) called = tt
  lobby-err (Some lobby.NoMemory) called = λ f stood.
      let calls = called.1 in
      let others = calls.0.0 in
      let seen : new.lobby.pass.seen ≡ (old.lobby.pass.seen ++ others) ++ entry old.lobby.pass.number c lobby.NoMemory ∷ [] =
      ap (λ k. k.seen) calls.0.1 in
      record {
        after = fronts_then f;
        stands_for = stands-then called.0 f stood;
        waits = record {
          others = front lobby_event others;
          quiet = (λ no. absurd (true≢false (sym no)));
          front = seen-then f lobby.NoMemory others stood.lobby seen;
          rooms = (λ room. refl);
        };
      }
  lobby-err None called = λ f stood.
      let seen : new.lobby.pass.seen ≡ old.lobby.pass.seen = ap (λ (x : LobbyPlace). x.pass.seen) called in
      record {
        after = fronts_then f;
        stands_for = stands-then (ap (λ (x : LobbyPlace). x.start) called) f stood;
        waits = record {
          others = [];
          quiet = (λ no. refl);
          front = ap (front lobby_event) seen ∙ sym stood.lobby;
          rooms = (λ room. refl);
        };
      }
