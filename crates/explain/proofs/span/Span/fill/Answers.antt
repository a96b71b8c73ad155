-- `explain::span::Span::fill` meets its contract.
use Rattle.std.proofs.Common.{arith}
use Rattle.explain.proofs.Filling.{fill_is}
use Rattle.explain.proofs.span.Span.fill.Goals as goal

pub returns : goal.returns
returns c = fill_is c.args.value c.args.self.from c.args.self.count _ c.args.flags.now _ (omega arith) c.requires
    (c.fill.ensures.after (λ value same. same))
