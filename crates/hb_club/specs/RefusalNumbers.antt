-- Which number has each refusal? They are numbered in the order in which they are tried.
use Rattle.std.specs.Prelude.{ℕ}
use Rattle.hb_club.specs.declared.replies.Refusal.{Refusal}
use Rattle.hb_club.specs.declared.replies.Refusal.TheVariants as refusal

abbrev pub refusal_number : Refusal → ℕ
refusal_number (refusal.OldTable latest) = 1
refusal_number refusal.NumberReused = 2
refusal_number refusal.RequestLimit = 3
refusal_number refusal.NoTable = 4
refusal_number refusal.TableOpen = 5
refusal_number refusal.NotHost = 6
refusal_number refusal.Started = 7
refusal_number refusal.NotStarted = 8
refusal_number refusal.Full = 9
refusal_number refusal.AlreadySeated = 10
refusal_number refusal.NotSeated = 11
refusal_number refusal.SeatedHere = 12
refusal_number refusal.WatchingHere = 13
refusal_number refusal.NotWatching = 14
refusal_number refusal.Crowded = 15
refusal_number refusal.TooFew = 16
refusal_number refusal.NotFinished = 17
refusal_number refusal.Unsaved = 18
refusal_number refusal.Loading = 19
refusal_number refusal.NoteTooLong = 20
refusal_number refusal.NoSuchCard = 21
refusal_number refusal.TimerState = 22
refusal_number (refusal.Rule broken) = 23
refusal_number (refusal.Review why) = 24
