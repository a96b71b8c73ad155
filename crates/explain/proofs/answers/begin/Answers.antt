-- `explain::answers::begin` meets its contract.
use Rattle.std.proofs.Common.{sym, ◌∙◌, eqb-true}
use Rattle.std.proofs.lemmas.Bool.{eqb-false}
use Rattle.explain.specs.Ranking.{question_over}
use Rattle.explain.proofs.Starting.{begins_all, begins_empty, begins_open, begins_host_fails}
use Rattle.explain.proofs.answers.begin.Goals as goal

pub returns-then-ask : goal.returns-then-ask
returns-then-ask c = begins_all (question_over c.args.ranked.now) c.args.flags.now _
    c.ask.result (c.fill.ensures.after (λ value same. same)) c.ask.ensures c.if-ask.true

pub returns-then-is_empty : goal.returns-then-is_empty
returns-then-is_empty c = begins_empty (question_over c.args.ranked.now) c.args.flags.now _
    c.ask.result (c.fill.ensures.after (λ value same. same)) c.ask.ensures
    c.if-ask.false _ (c.fill-2.ensures.after (λ value same. same)) c.fill.ensures.len (eqb-true _ 0 (sym c.is_empty.ensures ∙ c.if-is_empty.true))

pub returns-then-ask-2 : goal.returns-then-ask-2
returns-then-ask-2 c = begins_open (question_over c.args.ranked.now) c.args.flags.now _
    c.ask.result (c.fill.ensures.after (λ value same. same)) c.ask.ensures
    c.if-ask.false _ (c.fill-2.ensures.after (λ value same. same)) c.fill.ensures.len (eqb-false _ 0 (sym c.is_empty.ensures ∙ c.if-is_empty.false))
    c.ask-2.result c.ask-2.ensures c.if-ask-2.true

pub returns : goal.returns
returns c = begins_host_fails (question_over c.args.ranked.now) c.args.flags.now _
    c.ask.result (c.fill.ensures.after (λ value same. same)) c.ask.ensures
    c.if-ask.false _ (c.fill-2.ensures.after (λ value same. same)) c.fill.ensures.len (eqb-false _ 0 (sym c.is_empty.ensures ∙ c.if-is_empty.false))
    c.ask-2.result c.ask-2.ensures c.if-ask-2.false
