use Rattle.std.proofs.Math.Logic.{∥∥₁_elim}
use Rattle.std.proofs.Props.{props}
use Rattle.meaning.proofs.OneRow.{asked_whole, asked_named}
use Rattle.choice.proofs.Named.{named_once}
use Rattle.choice.proofs.scores.score_rows.Goals as goal

pub row_at-requires : goal.row_at-requires
row_at-requires c =
    ∥∥₁_elim c.args.rows.asked (Prim.hlevel props)
    (λ asked. rw c.from.ensures (asked_whole _ _ _ (asked.each c.loop-place.place-index c.loop-place-test.true)))

pub score_row-requires : goal.score_row-requires
score_row-requires c =
    ∥∥₁_elim c.args.rows.asked (named_once _ _)
    (λ asked. rw (c.row_at.ensures, c.from.ensures) (asked_named _ _ _ (asked.each c.loop-place.place-index c.loop-place-test.true)))
