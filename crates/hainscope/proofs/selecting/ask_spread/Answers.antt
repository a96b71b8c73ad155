-- `hainscope::selecting::ask_spread` meets its contract.
use Rattle.hainscope.proofs.Spreading.{spread_over, names_too_much_lem, may_ask, told_is}
use Rattle.hainscope.proofs.selecting.ask_spread.Goals as goal

pub returns-then-spread-ne0 : goal.returns-then-spread-ne0
returns-then-spread-ne0 c =
    let s = spread_over c.args.chosen.now c.args.table.frame.requests c.args.selection c.spread.result c.spread.new.requests c.requires c.spread.ensures in
    names_too_much_lem c.args.table.bytes.now c.args.table.frame c.args.selection c.spread.result s.1 c.if-spread-ne0.true

pub can_stand-requires : goal.can_stand-requires
can_stand-requires c =
    let s = spread_over c.args.chosen.now c.args.table.frame.requests c.args.selection c.spread.result c.spread.new.requests c.requires c.spread.ensures in
    may_ask c.args.table.bytes.now c.args.table.frame c.args.selection c.spread.result s.1 _ s.0

pub returns : goal.returns
returns c =
    let s = spread_over c.args.chosen.now c.args.table.frame.requests c.args.selection c.spread.result c.spread.new.requests c.requires c.spread.ensures in
    told_is c.args.table.bytes.now c.args.table.frame c.args.selection c.spread.result s.1 _ s.0 c.if-spread-ne0.false c.can_stand.result c.can_stand.ensures
