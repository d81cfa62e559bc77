-- Which items move seats, and which move watchers?
use Rattle.std.specs.Prelude.{Bool, true, false}
use Rattle.hb_club.specs.declared.items.What.{What}
use Rattle.hb_club.specs.declared.items.What.TheVariants.{Sat, Rose, Watching, Left}

abbrev pub is_seating : What → Bool
is_seating (Sat name) = true
is_seating (Rose name) = true
is_seating _ = false

abbrev pub is_watching : What → Bool
is_watching (Watching name shadow) = true
is_watching (Left name) = true
is_watching _ = false
