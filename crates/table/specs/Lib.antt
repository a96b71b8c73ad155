-- What a reader of the table must believe, in the order to read it in:
-- Words, the numbers in the bytes; Kinds, what a record is; Rows, the rows and the order as they are meant; Limits, what is in range;
-- Refusals, the number of each fault; Tests, the tests of one record; Reading, all of them in document 01's order; Body, a record's body;
-- Kept, what an accepted table keeps, for those who use it; RowParts, a row as parts of the table's bytes.
-- The format said a second time, without tests and places: Model, what a table means; Encoding, the bytes of a model; Sheet, the sample
-- sheet's tables as models and as bytes; Samples, what is read of table H; FirstFault, what the first test tells of tables with one or two
-- faults, and each limit at both sides.
pub mod Words
pub mod Lists
pub mod Kinds
pub mod Rows
pub mod Limits
pub mod Refusals
pub mod Tests
pub mod Reading
pub mod Body
pub mod Kept
pub mod RowParts
pub mod Model
pub mod Encoding
pub mod Sheet
pub mod Samples
pub mod FirstFault
