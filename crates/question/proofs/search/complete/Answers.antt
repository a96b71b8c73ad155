use Rattle.std.proofs.Common.{arith}
use Rattle.question.proofs.Searching.{reached_start}
use Rattle.question.proofs.Turns.{may_look, look_met, look_fails, may_take_back, search_fails}
use Rattle.question.proofs.Turns.{last_decision, room_again, turned_back, fewer_back, trail_room, one_deeper, fewer_deeper}
use Rattle.question.proofs.search.complete.Goals as goal

pub loop-trail-init : goal.loop-trail-init
loop-trail-init c = rw c.new-trail.ensures reached_start

pub look-requires : goal.look-requires
look-requires c = may_look c.loop-trail.invariant c.requires.0

pub returns-in-Met : goal.returns-in-Met
returns-in-Met c = look_met c.loop-trail.invariant c.look.ensures c.in-Met.is

pub take_back-requires : goal.take_back-requires
take_back-requires c = may_take_back c.loop-trail.invariant

pub returns-in_default : goal.returns-in_default
returns-in_default c = search_fails (look_fails c.loop-trail.invariant c.look.ensures c.in-Fails.is) c.in_default.ensures

pub turn-requires : goal.turn-requires
turn-requires c =
    let failed = look_fails c.loop-trail.invariant c.look.ensures c.in-Fails.is in
    let decision = last_decision failed c.in-Some.ensures in
    record { room = omega (arith, room_again failed c.in-Some.ensures, c.requires.1); inside = decision.inside }

pub loop-trail-smaller-in-Fails : goal.loop-trail-smaller-in-Fails
loop-trail-smaller-in-Fails c = rw (c.turn.ensures.again, c.turn.ensures.other)
    (fewer_back (look_fails c.loop-trail.invariant c.look.ensures c.in-Fails.is) c.in-Some.ensures)

pub loop-trail-preserved-in-Fails : goal.loop-trail-preserved-in-Fails
loop-trail-preserved-in-Fails c = rw (c.turn.ensures.again, c.turn.ensures.other)
    (turned_back (look_fails c.loop-trail.invariant c.look.ensures c.in-Fails.is) c.in-Some.ensures)

pub push-requires : goal.push-requires
push-requires c = omega (arith, trail_room c.loop-trail.invariant c.look.ensures c.in-Open.is, c.requires.1)

pub loop-trail-smaller : goal.loop-trail-smaller
loop-trail-smaller c = rw c.push.ensures (fewer_deeper c.loop-trail.invariant c.look.ensures c.in-Open.is _)

pub loop-trail-preserved : goal.loop-trail-preserved
loop-trail-preserved c = rw c.push.ensures (one_deeper c.loop-trail.invariant c.look.ensures c.in-Open.is)
