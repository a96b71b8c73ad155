-- The numbers first, then the head before them: the whole report.
use Rattle.report.proofs.Whole.{whole}
use Rattle.report.proofs.write.Goals as goal

pub returns : goal.returns
returns c = whole _ _ _ _ _ _ _ _ _ c.requires.enough c.put_numbers-k.ensures c.put_head.ensures
