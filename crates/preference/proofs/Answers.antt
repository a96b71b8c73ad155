-- The answers of the sample sheet and of Example 2, computed: one list under one claim.
use Rattle.std.proofs.Common.{refl}
use Rattle.preference.specs.Selection.{all, none}
use Rattle.preference.specs.Part.{entered}
use Rattle.preference.specs.OneByOne.{one_conflict, one_relax}
use Rattle.preference.specs.Cut.{size, tree_of}
use Rattle.preference.specs.Halving.{halve_conflict, enter_conflict, halve_relax, enter_relax}
use Rattle.preference.specs.Answer.{answered}
use Rattle.preference.specs.Cases.{CasesHold, OrdersHold, wanted, within_budget}

pub cases_hold : CasesHold
unfolding all none entered one_conflict one_relax size tree_of halve_conflict enter_conflict halve_relax enter_relax answered wanted within_budget
cases_hold = record { conflicts = refl; relaxations = refl; conflict_sets = refl; relaxation_sets = refl }

pub orders_hold : OrdersHold
orders_hold =
    record {
      H_before_213 = record { place = 2; below = refl; left_out = refl; chosen = refl };
      H_before_413 = record { place = 2; below = refl; left_out = refl; chosen = refl };
      E_before_2 = record { place = 0; above = refl; chosen = refl; left_out = refl };
    }
