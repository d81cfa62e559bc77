-- What does a link answer to each message and each error of its socket?
use Rattle.std.specs.Prelude.{◌≡◌, ℕ, ◌⊎◌, Bool, true, false, List, [], IfOk, Result, Ok, Err, if◌then◌else◌}
use Rattle.std.specs.declared.option.Option.{Option}
use Rattle.std.specs.IoError.{error_kind}
use Rattle.std.specs.declared.io.ErrorKind.{ErrorKind}
use Rattle.std.specs.declared.io.ErrorKind.TheVariants.{WouldBlock, Interrupted}
use Rattle.tungstenite.specs.declared.message.Message.{Message}
use Rattle.tungstenite.specs.declared.message.Message.TheVariants as message
use Rattle.tungstenite.specs.declared.error.Error.{Error}
use Rattle.tungstenite.specs.declared.error.Error.TheVariants as error
use Rattle.tungstenite.specs.Socket.{Socket, Reads}
use Rattle.hb_io.specs.declared.got.Got.{Got}
use Rattle.hb_io.specs.declared.got.Got.TheVariants as got
use Rattle.hb_edge.specs.Counts.{is_fault}
use Rattle.hb_edge.specs.declared.link.LinkError.{LinkError}
use Rattle.hb_edge.specs.declared.link.LinkError.TheVariants.{Fault, NoMemory}

-- what a message is to a link: a binary message is the empty text
abbrev pub got_of : Message → Got
got_of (message.Text text) = got.Text text
got_of (message.Binary bytes) = got.Text []
got_of (message.Ping bytes) = got.Idle
got_of (message.Pong bytes) = got.Idle
got_of (message.Close frame) = got.Closed

-- the stream had nothing to give for now
abbrev pub is_wait : ErrorKind → Bool
is_wait WouldBlock = true
is_wait Interrupted = true
is_wait kind = false

-- what an error of a read is to a link: a wait is Idle, and an ended connection is Closed
abbrev pub answer_to_error : Error → Result Got LinkError
answer_to_error (error.Io cause) = if is_wait (error_kind cause) then Ok got.Idle else Err Fault
answer_to_error error.ConnectionClosed = Ok got.Closed
answer_to_error error.AlreadyClosed = Ok got.Closed
answer_to_error error.OutOfMemory = Err NoMemory
answer_to_error e = Err Fault

-- this is the answer to a read, except that there may be no memory for a message
abbrev pub Answers : Result Message Error → Result Got LinkError → Type 0
Answers (Ok message) answer =
    (is_fault answer ≡ false) × IfOk answer (λ given. given ≡ got_of message)
Answers (Err e) answer = answer ≡ answer_to_error e

-- a receive read the socket and answers that, or it found that a stop was asked for, and answers
-- Closed with no read
abbrev pub Receives : {S : Type 0} → (S → Option (List ℕ)) → Socket S → Socket S
    → Result Got LinkError → Type 0
Receives remaining before after answer =
    ((read : Result Message Error) × Reads remaining before after read × Answers read answer)
    ⊎ ((answer ≡ Ok got.Closed) × (after ≡ before))

-- what an error of a send is to a link
abbrev pub send_error : Error → LinkError
send_error error.OutOfMemory = NoMemory
send_error e = Fault

-- the number by which a client learns why its link ends after this error of a read, of RFC 6455,
-- section 7.4.1: a message too big, a text that is no UTF-8, a broken rule of the protocol, and
-- else that the server goes away
abbrev pub farewell_number : Error → ℕ
farewell_number (error.Capacity cause) = 1009
farewell_number error.Utf8 = 1007
farewell_number (error.Protocol cause) = 1002
farewell_number e = 1001
