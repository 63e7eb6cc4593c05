use Rattle.sv_commit.proofs.Asking.{asks-Text, asks-Element, asks-Hole, asks-Block, holds-none, holds-next, holds-all}
use Rattle.sv_commit.proofs.begin.+ask.Goals as goal

pub ask_all-loop-node-init : goal.ask_all-loop-node-init
ask_all-loop-node-init t c = holds-none c.args.asked.now

pub ask_all-loop-node-preserved : goal.ask_all-loop-node-preserved
ask_all-loop-node-preserved t c = holds-next c.args.asked.now c.loop-node.asked c.ask_one.new.asked c.args.nodes.now c.loop-node.node-index c.node-item.result c.loop-node-test.true c.node-item.is c.loop-node.invariant c.in_ok-ask_one.ensures

pub ask_all-returns : goal.ask_all-returns
ask_all-returns t c = holds-all c.args.asked.now c.loop-node.asked c.args.nodes.now c.loop-node.node-index c.loop-node-test.false c.loop-node.invariant

pub ask_one-returns-in-Text : goal.ask_one-returns-in-Text
ask_one-returns-in-Text t c = asks-Text c.ask.result c.args.asked.now c.ask.new.asked c.by_mark.result c.ask.ensures c.args.node.now c.in-Text.mark c.in-Text.text c.in-Text.is c.by_mark.ensures

pub ask_one-returns-in-Element : goal.ask_one-returns-in-Element
ask_one-returns-in-Element t c =
    asks-Element c.ask-in-Element.result c.args.asked.now c.ask-in-Element.new.asked c.by_mark-in-Element.result c.ask-in-Element.ensures c.args.node.now c.in-Element.own c.in-Element.parts c.in-Element.is c.by_mark-in-Element.ensures

pub ask_one-returns-in-Hole : goal.ask_one-returns-in-Hole
ask_one-returns-in-Hole t c = asks-Hole c.ask-in-Hole.result c.args.asked.now c.ask-in-Hole.new.asked c.by_place.result c.ask-in-Hole.ensures c.args.node.now c.in-Hole.place c.in-Hole.is c.by_place.ensures

pub ask_one-returns-in-Block : goal.ask_one-returns-in-Block
ask_one-returns-in-Block t c = asks-Block c.ask_all.result c.args.asked.now c.ask_all.new.asked c.args.node.now c.in-Block.parts c.as_slice.result.now c.in-Block.is c.as_slice.ensures c.ask_all.ensures
