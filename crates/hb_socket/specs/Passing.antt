-- Which errors of an accept may pass by?
use Rattle.std.specs.Prelude.{◌||◌, ℤ, Bool, true, false}
use Rattle.std.specs.Ordering.{int_eq}
use Rattle.std.specs.declared.io.ErrorKind.{ErrorKind}
use Rattle.std.specs.declared.io.ErrorKind.TheVariants.{WouldBlock, ConnectionAborted, Interrupted}
use Rattle.std.specs.declared.option.Option.{Option}
use Rattle.std.specs.declared.option.Option.TheVariants.{None, Some}
use Rattle.hb_socket.specs.declared.waits.TheConstants.{FILES_OF_SYSTEM, FILES_OF_PROCESS}

-- the number is that of too many open files, in the system or in the process
abbrev pub is_file_limit : Option ℤ → Bool
is_file_limit None = false
is_file_limit (Some code) = int_eq code FILES_OF_SYSTEM || int_eq code FILES_OF_PROCESS

-- no client was there, one has gone again, or too many files are open
abbrev pub is_passing : ErrorKind → Option ℤ → Bool
is_passing WouldBlock code = true
is_passing ConnectionAborted code = true
is_passing Interrupted code = true
is_passing kind code = is_file_limit code
