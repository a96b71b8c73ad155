-- The report as bytes: document 01, "The report". A report is one record, headed as in a table, that tells one answer of a method:
-- its kind (conflict or relaxation), its status, how many questions were asked, and the numbers of the requests in the set.
-- Numbers and records as bytes are those of the crate `table` (its `Encoding`); which numbers a selection has, the crate `preference` says
-- (its `Named`). Read in this order:
--   Report    the bytes of a record: report_bytes
--   Written   what a caller of `write` must bring and what it gets
--   Samples   two reports of the sample sheet, byte by byte
-- What is proved of these definitions stands in proofs/, from proofs/Lib.antt on.
pub mod Report
pub mod Written
pub mod Samples
