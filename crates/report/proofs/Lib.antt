-- What is proved of the definitions in specs/. Another crate cites a theorem as Rattle.report.proofs.FILE.{NAME}.
--   Reports    a report has 12 + 2k bytes, and a reader finds in them what it says
--   InBuffer   what the whole buffer holds, for a caller that lends its part from a start on
--   Samples    two reports of the sample sheet, computed
--   Stores     what stores one after the other leave
--   Chosen     the numbers of a selection, and the loop that stores them
--   Whole      the head and the numbers together are the report
pub mod Stores
pub mod Chosen
pub mod Reports
pub mod Whole
pub mod InBuffer
pub mod Samples
