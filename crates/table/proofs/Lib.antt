-- What is proved of the table. For those who use an accepted table, or write one, read first:
--   Accepted      an accepted table keeps its frame (`accepted_keeps`)
--   Scanned       and one that keeps its frame is accepted (`keeps_accepted`)
--   OneMeaning    accepted tables are exactly the encodings of models, one table a model
--   FirstFault    the first fault of tables with one or two, and each limit at both sides, by computation
--   Samples       table H, read by computation; SheetEncoded, the sample sheet as models
-- For writers of tables:
--   Sizes         lengths of records and of the encoding; appending a row, a number, a term
--   CheckWord     the CHECK word: what makes the words add to zero, and that nothing else does
--   WithRow       one row more; RecordsWritten, each record number by number; EncodedBytes, that it is bytes
-- For the code's own proofs:
--   Runs          runs of words and terms; Sums, the sum of words
--   KindRules     the rule of each kind where it may stand; RowRule, the lengths of rows
--   WaysOut       the ways out of a record's rule, by fault; Steps, one step of the reading; Bodies, the walk to a body
-- What the two statements of the format rest on: Standing, Limited, RecordsRead, Written, NumbersStand, RecordsStand, Decoded.
pub mod Runs
pub mod Sums
pub mod RowRule
pub mod KindRules
pub mod WaysOut
pub mod Steps
pub mod Accepted
pub mod Bodies
pub mod FirstFault
pub mod Samples
pub mod Standing
pub mod Limited
pub mod Sizes
pub mod CheckWord
pub mod Scanned
pub mod RecordsRead
pub mod Written
pub mod NumbersStand
pub mod RecordsStand
pub mod Decoded
pub mod EncodedBytes
pub mod OneMeaning
pub mod SheetEncoded
pub mod WithRow
pub mod RecordsWritten
