-- What the store must believe of the public calls, in the order to read it in:
-- Selecting, a lent selection; Reports, the report as it is written; Calls, what each call promises; Demands, the three demands and the bound;
-- Sheet, document 01's sample sheet from bytes to answers.
pub mod Selecting
pub mod Reports
pub mod Calls
pub mod Demands
pub mod Sheet
