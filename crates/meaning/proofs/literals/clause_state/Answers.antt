-- `meaning::literals::clause_state` meets its contract.
use Rattle.std.proofs.Common.{sym, ◌∙◌}
use Rattle.std.proofs.lemmas.List.{length-map}
use Rattle.table.specs.Words.{word_in}
use Rattle.meaning.proofs.Clauses.{literal_at_hand, literal_named, scanned_met, scanned_open, scanned_fails, scanned_end}
use Rattle.meaning.proofs.literals.clause_state.Goals as goal
use Rattle.meaning.proofs.literals.clause_state.Goals.{in-Open, in-Fails}

pub literal_state-requires : goal.literal_state-requires
literal_state-requires c =
    let here = literal_at_hand c.args.literals.now c.loop-literal.literal-index c.number_in.result c.loop-literal-test.true c.number_in.ensures in
    rw here.1 (literal_named _ _ _ c.requires here.0)

pub returns-in-Met : goal.returns-in-Met
returns-in-Met c =
    let here = literal_at_hand c.args.literals.now c.loop-literal.literal-index c.number_in.result c.loop-literal-test.true c.number_in.ensures in
    scanned_met c.args.values.now _ c.loop-literal.literal-index here.0 (rw here.1 at (sym c.in-Met.is ∙ c.literal_state.ensures))

pub loop-literal-preserved : goal.loop-literal-preserved
loop-literal-preserved c =
    let here = literal_at_hand c.args.literals.now c.loop-literal.literal-index c.number_in.result c.loop-literal-test.true c.number_in.ensures in
    elim c.match-literal_state.branch [
      | in-Open w ↦ rw w.state-is
          (scanned_open c.args.values.now _ c.loop-literal.literal-index here.0 c.loop-literal.state c.loop-literal.invariant
          (rw here.1 at (sym w.in-Open.is ∙ c.literal_state.ensures)))
      | in-Fails w ↦ rw w.state-is
          (scanned_fails c.args.values.now _ c.loop-literal.literal-index here.0 c.loop-literal.state c.loop-literal.invariant
          (rw here.1 at (sym w.in-Fails.is ∙ c.literal_state.ensures)))
    ]

pub returns : goal.returns
returns c = scanned_end _ _ c.loop-literal.literal-index _ c.loop-literal.invariant (rw (length-map c.args.literals.now word_in) c.loop-literal-test.false)
