-- `table::reading::read` meets its contract.
use Rattle.std.proofs.Common.{◌≡◌, ◌-◌, length, Ok, Err, sym, refl, ◌∙◌, arith, rules, le-ltb}
use Rattle.table.specs.declared.refusals.Fault.{Fault}
use Rattle.table.specs.Reading.{Step, Reading, reading}
use Rattle.table.proofs.Steps.{next_passed, small_next, scan_ends, scan_goes_on, scan_stops}
use Rattle.table.proofs.reading.read.Goals as goal

pub loop-at-init : goal.loop-at-init
loop-at-init c = (omega arith, record { few_variables = omega arith; few_requests = omega arith }, (length c.args.table.now, omega arith, refl))

pub returns-in_err-state : goal.returns-in_err-state
unfolding reading
returns-in_err-state c =
    let stops : (fault : Fault) × (◌≡◌ {A = Step} c.step.result (Err fault)) × (c.in_err-state.field-0.0 ≡ record { fault = fault; place = c.loop-at.at }) =
    search rules in
    let told : ◌≡◌ {A = Reading} c.from_residual.result (Err c.in_err-state.field-0.0) = search rules in
    rw (le-ltb 32768 (length c.args.table.now) c.if-table-gt-MOST_BYTES.false, told, stops.2)
    (scan_stops c.loop-at.invariant.2.0 c.args.table.now c.loop-at.at c.loop-at.state c.loop-at-test.true
    c.loop-at.invariant.2.1 stops.0 (sym c.step.ensures ∙ stops.1)
    ∙ c.loop-at.invariant.2.2)

pub number-requires : goal.number-requires
number-requires c =
    let goes : ◌≡◌ {A = Step} c.step.result (Ok c.in_ok-state.state) = search rules in
    omega (arith, (next_passed c.args.table.now c.loop-at.at c.loop-at.state c.in_ok-state.state (sym c.step.ensures ∙ goes)).whole)

pub loop-at-preserved : goal.loop-at-preserved
loop-at-preserved c =
    let goes : ◌≡◌ {A = Step} c.step.result (Ok c.in_ok-state.state) = search rules in
    let passed = next_passed c.args.table.now c.loop-at.at c.loop-at.state c.in_ok-state.state (sym c.step.ensures ∙ goes) in (
      omega (arith, passed.whole),
      small_next c.args.table.now c.loop-at.at c.loop-at.state c.in_ok-state.state c.loop-at.invariant.1 passed,
      (
        c.loop-at.invariant.2.0 - 1,
        omega arith,
        scan_goes_on c.loop-at.invariant.2.0 c.args.table.now c.loop-at.at c.loop-at.state c.loop-at-test.true c.loop-at.invariant.2.1
            c.in_ok-state.state _ (omega (arith, c.number.ensures.0)) (sym c.step.ensures ∙ goes)
            ∙ c.loop-at.invariant.2.2,
      ),
    )

pub returns : goal.returns
unfolding reading
returns c = rw (le-ltb 32768 (length c.args.table.now) c.if-table-gt-MOST_BYTES.false)
    (c.ending.ensures ∙ sym (scan_ends c.loop-at.invariant.2.0 c.args.table.now c.loop-at.at c.loop-at.state c.loop-at-test.false) ∙ c.loop-at.invariant.2.2)
