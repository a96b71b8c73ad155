-- The invariant says where the loop stands: storing the numbers of the requests ahead too gives what storing all would have given.
use Rattle.std.proofs.Common.{sym}
use Rattle.std.proofs.lemmas.Iterator.{empty_from_Zip}
use Rattle.report.proofs.Chosen.{chosen_turn, unchosen_turn, progress_ends}
use Rattle.report.proofs.numbers.put_numbers.Goals as goal

pub loop-number-preserved-then-chosen : goal.loop-number-preserved-then-chosen
loop-number-preserved-then-chosen c =
    chosen_turn _ _ _ c.loop-number.invariant c.in-Some.ensures.steps.0 c.in-Some.ensures.steps.1 c.if-chosen.true c.to_le_bytes.ensures c.put.ensures

pub loop-number-preserved : goal.loop-number-preserved
loop-number-preserved c = unchosen_turn _ _ _ c.loop-number.invariant c.in-Some.ensures.steps.0 c.in-Some.ensures.steps.1 c.if-chosen.false

pub returns : goal.returns
returns c =
    progress_ends _ _ _ c.loop-number.invariant
    (empty_from_Zip c.loop-number.number-iterator c.next.new.self c.next.result c.in-None.is c.next.ensures.steps (sym c.loop-number.invariant.paired)).0
