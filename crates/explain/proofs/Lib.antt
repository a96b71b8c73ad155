-- What the proofs of the code rest on: Marking, the chosen requests by number; Questions, the question that is asked of them; Filling, runs
-- of flags; Halves, the halves of a part; ConflictParts and RelaxationParts, a part worked by halving; Trying, one by one; Starting and
-- Finishing, the start that all methods share, and the whole answer.
pub mod Marking
pub mod Questions
pub mod Filling
pub mod Halves
pub mod ConflictParts
pub mod RelaxationParts
pub mod Trying
pub mod Starting
pub mod Finishing
