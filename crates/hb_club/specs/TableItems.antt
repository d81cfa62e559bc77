-- What do the items of a room say of its latest table? Items stand newest first.
use Rattle.std.specs.Prelude.{ℕ, Bool, true, false, not, ◌&&◌, List, [], ◌∷◌, Option, Some, None, filter_map, if◌then◌else◌, is_some, bytes_eq, count_by}
use Rattle.std.specs.List.{list_any}
use Rattle.std.specs.Option.{option_to_list}
use Rattle.hb_rules.specs.declared.acts.Act.{Act}
use Rattle.hb_review.specs.declared.steps.Step.{Step}
use Rattle.hb_club.specs.declared.items.Item.{Item}
use Rattle.hb_club.specs.declared.items.What.{What}
use Rattle.hb_club.specs.declared.items.What.TheVariants.{Opened, Started, Acted, Saved, Loaded, NoGame, Reviewed, Closed}

-- tests of one kind of item

abbrev pub is_opened : What → Bool
is_opened (Opened host) = true
is_opened _ = false

abbrev pub is_closed : What → Bool
is_closed Closed = true
is_closed _ = false

abbrev pub is_saved : What → Bool
is_saved (Saved id) = true
is_saved _ = false

abbrev pub is_loaded : What → Bool
is_loaded (Loaded id) = true
is_loaded _ = false

-- a load that was pending before it is pending no more
abbrev pub ends_load : What → Bool
ends_load (Loaded id) = true
ends_load (NoGame id) = true
ends_load Closed = true
ends_load _ = false

-- some item is of the kind
abbrev pub has : (What → Bool) → List Item → Bool
has kind items = list_any (λ (i : Item). kind i.what) items

-- the latest table

-- its serial: the number of tables that were opened
abbrev pub opened_count : List Item → ℕ
opened_count items = count_by (λ (i : Item). is_opened i.what) items

-- its items: those back to the newest Opened
abbrev pub latest_items : List Item → List Item
latest_items [] = []
latest_items (i ∷ items) = if is_opened i.what then i ∷ [] else i ∷ latest_items items

-- it is open
abbrev pub is_standing : List Item → Bool
is_standing items = has is_opened items && not (has is_closed items)

-- what an item says of each fact

abbrev pub host_in : What → Option (List ℕ)
host_in (Opened host) = Some host
host_in _ = None

abbrev pub names_in : What → Option (List (Option (List ℕ)))
names_in (Started names) = Some names
names_in _ = None

abbrev pub act_in : What → Option Act
act_in (Acted act) = Some act
act_in _ = None

abbrev pub step_in : What → Option Step
step_in (Reviewed turn hypos action) =
    Some (record { turn = turn; hypos = hypos; action = action })
step_in _ = None

-- all that the items say of a fact, the newest first
abbrev pub all_of : {A : Type 0} → (What → Option A) → List Item → List A
all_of fact items = filter_map (λ (i : Item). fact i.what) items

abbrev pub first_of_all : {A : Type 0} → List A → Option A
first_of_all [] = None
first_of_all (x ∷ xs) = Some x

-- the newest of them
abbrev pub one_of : {A : Type 0} → (What → Option A) → List Item → Option A
one_of fact items = first_of_all (all_of fact items)

-- who opened the table
abbrev pub host : List Item → Option (List ℕ)
host items = one_of host_in items

-- the member opened it
abbrev pub is_host : List Item → List ℕ → Bool
is_host items member = list_any (bytes_eq member) (option_to_list (host items))

-- a game was started
abbrev pub is_started : List Item → Bool
is_started items = is_some (one_of names_in items)

-- its acts
abbrev pub acts : List Item → List Act
acts items = all_of act_in items

-- the steps of the review
abbrev pub steps : List Item → List Step
steps items = all_of step_in items
