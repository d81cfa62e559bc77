-- What did a link give, and what was it sent?
use Rattle.std.specs.Prelude.{◌≡◌, ℕ, List, [], ◌∷◌, ◌++◌, IfSome, Result, Ok, Err}
use Rattle.std.specs.declared.option.Option.{Option}
use Rattle.hb_io.specs.declared.got.Got.{Got}
use Rattle.hb_edge.specs.declared.link.LinkError.{LinkError}

-- what a link gave, and the texts that it was sent, each in order
pub record Talk : Type 0 where
  pub gave : List Got
  pub sent : List (List ℕ)

-- the talk after a receive with this answer
abbrev pub after_recv : Result Got LinkError → Talk → Talk
after_recv (Ok got) talk = record talk { gave = talk.gave ++ got ∷ [] }
after_recv (Err e) talk = talk

-- the talk after a send of this text with this answer
abbrev pub after_send : List ℕ → Result (Unit {0}) LinkError → Talk → Talk
after_send text (Ok sent) talk = record talk { sent = talk.sent ++ text ∷ [] }
after_send text (Err e) talk = talk

-- a link that was just made: it has met no fault, and if it tells what it gave and was sent, that
-- is nothing
pub record IsNew (told : Option Talk) (faults : ℕ) : Type 0 where
  pub no_talk : IfSome told (λ talk. talk ≡ record { gave = []; sent = [] })
  pub no_fault : faults ≡ 0
