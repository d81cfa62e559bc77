-- What does a message ask, or why does it ask nothing? It is a command word, one space and a JSON
-- object.
use Rattle.std.specs.Prelude.{Bool, ◌≡◌, ℕ, ◌==◌, List, [], ◌∷◌, length, Result, nat_le, nat_lt, if◌then◌else◌, Option, None, Some}
use Rattle.std.specs.declared.result.Result.TheVariants.{Ok, Err}
use Rattle.serde_json.specs.Find.{as_object}
use Rattle.serde_json.specs.Read.{read}
use Rattle.hb_json.specs.Results.{◌>>=◌, found_or, must}
use Rattle.hb_request.specs.declared.commands.Command.{Command}
use Rattle.hb_request.specs.declared.errors.FieldName.{FieldName}
use Rattle.hb_request.specs.declared.errors.WireError.{WireError}
use Rattle.hb_request.specs.declared.errors.WireError.TheVariants as error
use Rattle.hb_request.specs.declared.requests.Request.{Request}
use Rattle.hb_request.specs.declared.limits.TheConstants.{MESSAGE_LIMIT}
use Rattle.hb_request.specs.Command.{command_of}
use Rattle.hb_request.specs.Fields.{request_in}

-- the byte is a space
abbrev pub is_space : ℕ → Bool
is_space b = b == 32

-- the word: all before the first space, or the whole text
abbrev pub word_of : List ℕ → List ℕ
word_of [] = []
word_of (b ∷ text) = if is_space b then [] else b ∷ word_of text

-- what follows the first space, if there is one
abbrev pub rest_of : List ℕ → Option (List ℕ)
rest_of [] = None
rest_of (b ∷ text) = if is_space b then Some text else rest_of text

-- a wrong field is a refusal
abbrev pub fielded : {X : Type 0} → Result X FieldName → Result X WireError
fielded (Ok x) = Ok x
fielded (Err f) = Err (error.Field f)

-- what a command asks with the JSON object that a text is
abbrev pub said_by : Command → List ℕ → Result Request WireError
said_by command text = do
  d ← found_or error.Json (read text)
  _ ← found_or error.Json (as_object d)
  fielded (request_in command d)

-- what a message asks, or the first reason why it asks nothing
unfoldable pub parsed : List ℕ → Result Request WireError
parsed text = do
  _ ← must error.TooLong (nat_le (length text) MESSAGE_LIMIT)
  _ ← must error.NoCommand (nat_lt 0 (length (word_of text)))
  command ← found_or error.UnknownCommand (command_of (word_of text))
  rest ← found_or error.Json (rest_of text)
  said_by command rest

-- the answer is what is found, unless memory ran out
abbrev pub Gives : {X : Type 0} → Result X WireError → Result X WireError → Type 0
Gives (Ok x) found = found ≡ Ok x
Gives (Err error.NoMemory) found = Unit {0}
Gives (Err e) found = found ≡ Err e
