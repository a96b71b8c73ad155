-- Preferred conflicts and relaxations over any yes/no question: the theory of document 004 (Junker, QuickXplain), as document 01 uses it.
-- It knows no table and no setting: a question is a function, and the requests are places in the order of importance.
-- Read in this order:
--   Selection    a set of requests, subsets, how many are kept and dropped
--   Named        the requests of a selection by their numbers
--   Question     what can stand: conflicts and relaxations (Definitions 1 and 2), and a monotone question
--   Preference   which one is preferred (Definitions 3, 4, 6 and 7)
--   Part         what a method finds in a part of the requests, and how many questions it asked
--   OneByOne     the first method
--   Cut          how a part is cut into two
--   Halving      the second method (QuickXplain)
--   Answer       both methods with their shared start: status, set and count
--   Asking       both methods as programs that can do nothing but ask
--   Depth        d, the list of 65 entries, for the bound 2 + 2kd
--   Cases        rows of the sample sheet and the paper's Example 2, computed
-- What is proved of these definitions stands in proofs/, from proofs/Lib.antt on.
pub mod Selection
pub mod Named
pub mod Question
pub mod Preference
pub mod Part
pub mod OneByOne
pub mod Cut
pub mod Halving
pub mod Answer
pub mod Asking
pub mod Depth
pub mod Cases
