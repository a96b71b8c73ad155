-- The refusal numbers (document 01, "Refusal numbers") of the faults that a table can be refused for.
use Rattle.std.specs.Prelude.{ℕ}
pub use Rattle.table.specs.declared.refusals.Fault.{Fault}
pub use Rattle.table.specs.declared.refusals.Fault.TheVariants.{TooLong, Cut, NoHead, UnknownKind, WrongLength, OutOfRange}
pub use Rattle.table.specs.declared.refusals.Fault.TheVariants.{OutOfSequence, NamedTwice, NotZero, TooManyRows, NoRecord}

-- the number of a fault
unfoldable pub number_of : Fault → ℕ
-- more than 32,768 bytes
number_of TooLong = 1
-- 1 to 3 bytes left, or the body passes the end
number_of Cut = 2
-- the first record is no HEAD, a later one is, or the table is empty
number_of NoHead = 3
-- unknown kind
number_of UnknownKind = 4
-- L wrong for its kind
number_of WrongLength = 5
-- V, N, role, variable, weight or order number out of range
number_of OutOfRange = 6
-- wrong sequence, or the end comes before CHECK
number_of OutOfSequence = 7
-- ORDER names a request twice
number_of NamedTwice = 8
-- words do not add to zero
number_of NotZero = 9
-- a 513th row
number_of TooManyRows = 10
-- no record of that number
number_of NoRecord = 13
