-- `preference::depth` gives the least number d with 2^d at least the number of requests.
-- The code's list is the one whose rule is proved; above it d is one more than the whole logarithm of the number before.
use Rattle.std.proofs.Common.{arith}
use Rattle.preference.specs.Depth.{depths}
use Rattle.preference.proofs.Depths.{depths_keep_their_rule, depth_of_logarithm}
use Rattle.preference.proofs.depth.Goals as goal

pub returns-then-requests-lt65 : goal.returns-then-requests-lt65
unfolding depths
returns-then-requests-lt65 c = depths_keep_their_rule c.args.requests (omega arith)

pub returns : goal.returns
returns c = depth_of_logarithm c.args.requests c.ilog2.result (omega arith) c.ilog2.ensures.power_le c.ilog2.ensures.next_power_gt
