-- What is proved of the public calls. The statements stand in specs/; their proofs are:
--   DemandsHold        demand 1 (`tables_are_read_right`), demand 2 (`every_table_has_the_right_sets`), demand 3 (`reports_tell_no_more`),
--                      the bound (`every_count_is_bounded`)
--   BoundOfTheReports  the bound, and N + 2 one by one, by the bytes of the reports (`every_report_is_bounded`)
--   BothMethods        demand 2 by the reports (`both_methods_tell_one_set`)
--   OnlyOne            demand 1: every call has an outcome that keeps its promise (`every_call_is_answered`), and only one (`only_one_outcome`)
--   AnswersOfTheSheet  the sample sheet, from bytes to answers (`sheet_holds`, `reports_hold`)
--   AnsweredCalls      the public calls about table H, whole and damaged, refusals 9 and 11 to 13 among them (`calls_hold`)
-- What they rest on:
--   Monotone           the question of a table is monotone; RightAnswers, each method's answer is the right one, and there is one
--   Bits               the bits of a lent selection; PublicQuestion, every choice of requests can be lent and asked in public
--   OrderCovers        the order names every request; EverySelection, WholeSelection, every lent selection is among the methods' own
--   Outcomes           one law for each way out of a public call; Room, what a buffer with room for a report has
pub mod AnswersOfTheSheet
pub mod AnsweredCalls
pub mod Monotone
pub mod RightAnswers
pub mod Bits
pub mod Outcomes
pub mod OnlyOne
pub mod PublicQuestion
pub mod OrderCovers
pub mod EverySelection
pub mod WholeSelection
pub mod Room
pub mod DemandsHold
pub mod BothMethods
pub mod BoundOfTheReports
