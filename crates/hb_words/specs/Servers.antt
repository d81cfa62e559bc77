-- Which words ask for which server?
use Rattle.std.specs.Prelude.{◌≡◌, ◌<◌, ◌≤◌, ℕ, List, [], ◌∷◌, codes, decimal, length}
use Rattle.hb_words.specs.Commands.{IsCommand, IsStore}
use Rattle.hb_words.specs.PlainWords.{IsPlain}
use Rattle.hb_words.specs.Stores.{word_of}
use Rattle.hb_words.specs.declared.commands.Command.{Command}
use Rattle.hb_words.specs.declared.commands.Store.TheVariants.{Memory}
use Rattle.hb_words.specs.declared.servers.ServerCommand.{ServerCommand}
use Rattle.hb_words.specs.declared.servers.TheConstants.{MOST_ADDRESS, MOST_SERVED_ROOMS}

-- the word names an address: 1 to 64 bytes, of which the first is no `-`
pub record IsAddress (word : List ℕ) : Type 0 where
  pub not_empty : 0 < length word
  pub fits : length word ≤ MOST_ADDRESS
  pub plain : IsPlain word

-- the words ask for the server
pub record IsServer (words : List (List ℕ)) (c : ServerCommand) : Type 0 where
  pub spelled : words ≡ codes "serve" ∷ c.address.now ∷ decimal c.rooms ∷ word_of c.store ∷ []
  pub address : IsAddress c.address.now
  pub some_rooms : 1 ≤ c.rooms
  pub few_rooms : c.rooms ≤ MOST_SERVED_ROOMS
  pub store : IsStore (word_of c.store)
  -- a file of the name `mem` goes by another path, as `./mem`
  pub memory : word_of c.store ≡ codes "mem" → c.store ≡ Memory

-- words ask for at most one server: at one address, of one number of rooms and over one store
abbrev pub WordsAskForOneServer : Type 0
WordsAskForOneServer = (words : List (List ℕ)) (c d : ServerCommand) → IsServer words c
    → IsServer words d → (c.address.now ≡ d.address.now) × (c.rooms ≡ d.rooms)
    × (word_of c.store ≡ word_of d.store)

-- words that ask for a server ask for no command
abbrev pub ServersAreNoCommands : Type 0
ServersAreNoCommands = (words : List (List ℕ)) (server : ServerCommand) (command : Command)
    → IsServer words server → IsCommand words command → ⊥
