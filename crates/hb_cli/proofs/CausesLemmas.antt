-- Why do words and input give at most one cause, and no work with it?
use Rattle.std.proofs.Common.{◌≡◌, ◌≢◌, ◌<◌, ◌≤◌, ◌∙◌, ℕ, Bool, true, false, List, ap, arith, inl, inr, length, refl, subst, sym}
use Rattle.std.specs.Prelude.{IsFalse, IsTrue, Result, Ok, Err}
use Rattle.hb_replay.specs.Contents.{Contents}
use Rattle.hb_replay.specs.declared.errors.ReplayError.{ReplayError}
use Rattle.hb_replay.specs.declared.errors.ReplayError.TheVariants as replay
use Rattle.hb_replay.proofs.IsReadingLemmas.{reading-once}
use Rattle.hb_words.specs.Commands.{IsCommand}
use Rattle.hb_words.specs.declared.commands.Command.TheVariants.{Games, Make, Replay, Script as RunsScript}
use Rattle.hb_words.specs.declared.commands.ReplayCommand.{ReplayCommand}
use Rattle.hb_cli.specs.declared.replays.TheConstants.{MOST_INPUT}
use Rattle.hb_cli.specs.declared.status.Stop.{Stop}
use Rattle.hb_cli.specs.declared.status.Stop.TheVariants as stop
use Rattle.hb_script.specs.declared.scripts.Script.{Script}
use Rattle.hb_cli.specs.Asked.{Asked, AsksToRead, IsRead, IsStop}
use Rattle.hb_cli.specs.Causes.{HasWork, IsGiven, NoWorkThen, OneCause, told_input}
use Rattle.hb_cli.specs.Outputs.{has_view}
use Rattle.hb_cli.proofs.WorksLemmas.{one_command}

-- two commands of different kinds

replay-script : (words : List (List ℕ)) (command : ReplayCommand) (store : List ℕ) → IsCommand words (Replay command)
    → IsCommand words (RunsScript store) → ⊥
replay-script words command store first other =
    let same : Replay command ≡ RunsScript store = one_command words (Replay command) (RunsScript store) first other in cc

replay-games : (words : List (List ℕ)) (command : ReplayCommand) (store name : List ℕ) → IsCommand words (Replay command)
    → IsCommand words (Games store name) → ⊥
replay-games words command store name first other =
    let same : Replay command ≡ Games store name = one_command words (Replay command) (Games store name) first other in cc

replay-make : (words : List (List ℕ)) (command : ReplayCommand) (tables seed : ℕ) → IsCommand words (Replay command)
    → IsCommand words (Make tables seed) → ⊥
replay-make words command tables seed first other =
    let same : Replay command ≡ Make tables seed = one_command words (Replay command) (Make tables seed) first other in cc

script-games : (words : List (List ℕ)) (path store name : List ℕ) → IsCommand words (RunsScript path)
    → IsCommand words (Games store name) → ⊥
script-games words path store name first other =
    let same : RunsScript path ≡ Games store name = one_command words (RunsScript path) (Games store name) first other in cc

script-make : (words : List (List ℕ)) (path : List ℕ) (tables seed : ℕ) → IsCommand words (RunsScript path)
    → IsCommand words (Make tables seed) → ⊥
script-make words path tables seed first other =
    let same : RunsScript path ≡ Make tables seed = one_command words (RunsScript path) (Make tables seed) first other in cc

same-replay : (words : List (List ℕ)) (c d : ReplayCommand) → IsCommand words (Replay c) → IsCommand words (Replay d) → c ≡ d
same-replay words c d first other = replay-of (one_command words (Replay c) (Replay d) first other)
  where
    replay-of : Replay c ≡ Replay d → c ≡ d
    replay-of is = cc

-- what is read of one input

ok-same : (r s : Contents) → ◌≡◌ {A = Result Contents ReplayError} (Ok r) (Ok s) → r ≡ s
ok-same r s is = cc

err-same : (e f : ReplayError) → ◌≡◌ {A = Result Contents ReplayError} (Err e) (Err f) → e ≡ f
err-same e f is = cc

not-both : (r : Contents) (e : ReplayError) → ◌≡◌ {A = Result Contents ReplayError} (Ok r) (Err e) → ⊥
not-both r e is = cc

no-memory-out : (r : Contents) → ◌≡◌ {A = Result Contents ReplayError} (Ok r) (Err replay.NoMemory) → ⊥
no-memory-out r is = cc

refused-once : (bytes : List ℕ) (e f : ReplayError) → e ≢ replay.NoMemory → f ≢ replay.NoMemory → IsRead bytes (Err e)
    → IsRead bytes (Err f) → e ≡ f
refused-once bytes e f memory other first second =
    err-same e f (reading-once bytes (Err e) (Err f) first.1 second.1
    (λ is. memory (err-same e replay.NoMemory is)) (λ is. other (err-same f replay.NoMemory is)))

refused-or-read : (bytes : List ℕ) (e : ReplayError) (r : Contents) → e ≢ replay.NoMemory → IsRead bytes (Err e) → IsRead bytes (Ok r) → ⊥
refused-or-read bytes e r memory first second =
    not-both r e (sym (reading-once bytes (Err e) (Ok r) first.1 second.1
    (λ is. memory (err-same e replay.NoMemory is)) (no-memory-out r)))

read-once : (bytes : List ℕ) (r s : Contents) → IsRead bytes (Ok r) → IsRead bytes (Ok s) → r ≡ s
read-once bytes r s first second =
    ok-same r s (reading-once bytes (Ok r) (Ok s) first.1 second.1 (no-memory-out r) (no-memory-out s))

not-both-lines : (s : Script) (n : ℕ) → ◌≡◌ {A = Result Script ℕ} (Ok s) (Err n) → ⊥
not-both-lines s n is = cc

seen-or-not : (b : Bool) → IsTrue b → IsFalse b → ⊥
seen-or-not b seen not = let both : true ≡ false = sym seen ∙ not in cc

line-same : (n m : ℕ) → ◌≡◌ {A = Result Script ℕ} (Err n) (Err m) → n ≡ m
line-same n m is = cc

module _ (words : List (List ℕ)) (bytes : List ℕ) where
  abbrev a : Asked
  a = told_input words bytes

  -- an input is not too long for a cause that is found in it

  long-replay : (c : ReplayCommand) (r : Result Contents ReplayError) → AsksToRead a (λ b. MOST_INPUT < length b)
      → IsRead bytes r → ⊥
  long-replay c r (inl (command, is, long)) read = omega (arith, long, read.0)
  long-replay c r (inr (store, is, long)) read = omega (arith, long, read.0)

  long-script : AsksToRead a (λ b. MOST_INPUT < length b) → length bytes ≤ MOST_INPUT → ⊥
  long-script (inl (command, is, long)) short = omega (arith, long, short)
  long-script (inr (store, is, long)) short = omega (arith, long, short)

  no-command : IsStop a stop.Usage → AsksToRead a (λ b. MOST_INPUT < length b) → ⊥
  no-command none (inl (command, is, long)) = none (Replay command) is
  no-command none (inr (store, is, long)) = none (RunsScript store) is

  one : (x y : Stop) → IsGiven x → IsGiven y → IsStop a x → IsStop a y → x ≡ y
  one stop.Usage stop.Usage gx gy u v = refl
  one stop.Usage stop.TooLong gx gy u v = absurd (no-command u v)
  one stop.Usage (stop.Refused e) gx gy u v = absurd (u (Replay v.0) v.1)
  one stop.Usage (stop.Line n) gx gy u v = absurd (u (RunsScript v.0) v.1)
  one stop.Usage stop.NoSuchView gx gy u v = absurd (u (Replay v.0) v.1)
  one stop.TooLong stop.Usage gx gy u v = absurd (no-command v u)
  one stop.TooLong stop.TooLong gx gy u v = refl
  one stop.TooLong (stop.Refused e) gx gy u v = absurd (long-replay v.0 (Err e) u v.2)
  one stop.TooLong (stop.Line n) gx gy u v = absurd (long-script u v.2.0)
  one stop.TooLong stop.NoSuchView gx gy u v = absurd (long-replay v.0 (Ok v.2.0) u v.2.1)
  one (stop.Refused e) stop.Usage gx gy u v = absurd (v (Replay u.0) u.1)
  one (stop.Refused e) stop.TooLong gx gy u v = absurd (long-replay u.0 (Err e) v u.2)
  one (stop.Refused e) (stop.Refused f) gx gy u v = ap stop.Refused (refused-once bytes e f gx gy u.2 v.2)
  one (stop.Refused e) (stop.Line n) gx gy u v = absurd (replay-script words u.0 v.0 u.1 v.1)
  one (stop.Refused e) stop.NoSuchView gx gy u v = absurd (refused-or-read bytes e v.2.0 gx u.2 v.2.1)
  one (stop.Line n) stop.Usage gx gy u v = absurd (v (RunsScript u.0) u.1)
  one (stop.Line n) stop.TooLong gx gy u v = absurd (long-script v u.2.0)
  one (stop.Line n) (stop.Refused e) gx gy u v = absurd (replay-script words v.0 u.0 v.1 u.1)
  one (stop.Line n) (stop.Line m) gx gy u v = ap stop.Line (line-same n m (sym u.2.1 ∙ v.2.1))
  one (stop.Line n) stop.NoSuchView gx gy u v = absurd (replay-script words v.0 u.0 v.1 u.1)
  one stop.NoSuchView stop.Usage gx gy u v = absurd (v (Replay u.0) u.1)
  one stop.NoSuchView stop.TooLong gx gy u v = absurd (long-replay u.0 (Ok u.2.0) v u.2.1)
  one stop.NoSuchView (stop.Refused e) gx gy u v = absurd (refused-or-read bytes e u.2.0 gy v.2 u.2.1)
  one stop.NoSuchView (stop.Line n) gx gy u v = absurd (replay-script words u.0 v.0 u.1 v.1)
  one stop.NoSuchView stop.NoSuchView gx gy u v = refl
  one stop.ReadFault y gx gy u v = absurd gx
  one stop.WriteFault y gx gy u v = absurd gx
  one stop.KeeperFault y gx gy u v = absurd gx
  one stop.NoMemory y gx gy u v = absurd gx
  one (stop.StoreDiffers id) y gx gy u v = absurd gx
  one stop.DoorFault y gx gy u v = absurd gx
  one stop.DiceFault y gx gy u v = absurd gx
  one stop.UsedUp y gx gy u v = absurd gx
  one x stop.ReadFault gx gy u v = absurd gy
  one x stop.WriteFault gx gy u v = absurd gy
  one x stop.KeeperFault gx gy u v = absurd gy
  one x stop.NoMemory gx gy u v = absurd gy
  one x (stop.StoreDiffers id) gx gy u v = absurd gy
  one x stop.DoorFault gx gy u v = absurd gy
  one x stop.DiceFault gx gy u v = absurd gy
  one x stop.UsedUp gx gy u v = absurd gy

  idle : (why : Stop) → IsGiven why → IsStop a why → HasWork a → ⊥
  idle stop.Usage given u (inl (text, (command, is, read))) = u (Replay command) is
  idle stop.Usage given u (inr (inl (store, is, read))) = u (RunsScript store) is
  idle stop.Usage given u (inr (inr (inl (store, name, is, any)))) = u (Games store name) is
  idle stop.Usage given u (inr (inr (inr (tables, seed, is, any)))) = u (Make tables seed) is
  idle stop.TooLong given u (inl (text, (command, is, (r, read, view, same)))) = long-replay command (Ok r) u read
  idle stop.TooLong given u (inr (inl (store, is, (s, (short, read))))) = long-script u short
  idle stop.TooLong given (inl (command, other, long)) (inr (inr (inl (store, name, is, any)))) =
      replay-games words command store name other is
  idle stop.TooLong given (inr (path, other, long)) (inr (inr (inl (store, name, is, any)))) = script-games words path store name other is
  idle stop.TooLong given (inl (command, other, long)) (inr (inr (inr (tables, seed, is, any)))) =
      replay-make words command tables seed other is
  idle stop.TooLong given (inr (path, other, long)) (inr (inr (inr (tables, seed, is, any)))) = script-make words path tables seed other is
  idle (stop.Refused e) given u (inl (text, (command, is, (r, read, view, same)))) = refused-or-read bytes e r given u.2 read
  idle (stop.Refused e) given u (inr (inl (store, is, read))) = replay-script words u.0 store u.1 is
  idle (stop.Refused e) given u (inr (inr (inl (store, name, is, any)))) = replay-games words u.0 store name u.1 is
  idle (stop.Refused e) given u (inr (inr (inr (tables, seed, is, any)))) = replay-make words u.0 tables seed u.1 is
  idle (stop.Line n) given u (inl (text, (command, is, read))) = replay-script words command u.0 is u.1
  idle (stop.Line n) given u (inr (inl (store, is, (s, (short, read))))) = not-both-lines s n (sym read ∙ u.2.1)
  idle (stop.Line n) given u (inr (inr (inl (store, name, is, any)))) = script-games words u.0 store name u.1 is
  idle (stop.Line n) given u (inr (inr (inr (tables, seed, is, any)))) = script-make words u.0 tables seed u.1 is
  idle stop.NoSuchView given (c, other, (s, read, none)) (inl (text, (command, is, (r, also, view, same)))) =
      let seen : IsTrue (has_view c s.game) =
      subst (λ (k : ReplayCommand). IsTrue (has_view k s.game)) (same-replay words command c is other)
      (subst (λ (t : Contents). IsTrue (has_view command t.game)) (read-once bytes r s also read) view) in
      seen-or-not (has_view c s.game) seen none
  idle stop.NoSuchView given u (inr (inl (store, is, read))) = replay-script words u.0 store u.1 is
  idle stop.NoSuchView given u (inr (inr (inl (store, name, is, any)))) = replay-games words u.0 store name u.1 is
  idle stop.NoSuchView given u (inr (inr (inr (tables, seed, is, any)))) = replay-make words u.0 tables seed u.1 is
  idle stop.ReadFault given u work = given
  idle stop.WriteFault given u work = given
  idle stop.KeeperFault given u work = given
  idle stop.NoMemory given u work = given
  idle (stop.StoreDiffers id) given u work = given
  idle stop.DoorFault given u work = given
  idle stop.DiceFault given u work = given
  idle stop.UsedUp given u work = given

-- if words and an input give a cause why there is nothing to do, there is no work for them
pub no-work-then : NoWorkThen
no-work-then words bytes why given u work = idle words bytes why given u work

-- words and an input give at most one cause why there is nothing to do
pub one-cause : OneCause
one-cause words bytes x y gx gy u v = one words bytes x y gx gy u v
