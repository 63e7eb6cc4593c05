use Rattle.sv_order.specs.ReactiveOrder.{IsOrder}
use Rattle.sv_order.proofs.Laws.{order-once, order-behind, order-acyclic, found-order, found-cycle}
use Rattle.sv_order.proofs.sorting.order.Goals as goal

pub returns-in_ok-statements_of-in-Order : goal.returns-in_ok-statements_of-in-Order
returns-in_ok-statements_of-in-Order c =
    let o : IsOrder c.args.list.now c.in_ok-statements_of-in-Order.field-0.items =
    found-order c.args.list.now c.in_ok-found.found c.in-Order.points c.deref.result.now c.in_ok-statements_of-in-Order.field-0.items
    c.in_ok-found.ensures.found c.in-Order.is c.deref.ensures.value c.in_ok-statements_of-in-Order.ensures in
    record {
      order = o;
      once = order-once c.args.list.now c.in_ok-statements_of-in-Order.field-0.items o;
      behind = order-behind c.args.list.now c.in_ok-statements_of-in-Order.field-0.items o;
      acyclic = order-acyclic c.args.list.now c.in_ok-statements_of-in-Order.field-0.items o;
      cycle = tt;
    }

pub returns-in_ok-statements_of-in-Cycle-clause-cycle : goal.returns-in_ok-statements_of-in-Cycle-clause-cycle
returns-in_ok-statements_of-in-Cycle-clause-cycle c =
    found-cycle c.args.list.now c.in_ok-found.found c.in-Cycle.points c.deref-in-Cycle.result.now c.in_ok-statements_of-in-Cycle.field-0.items
    c.in_ok-found.ensures.found c.in-Cycle.is c.deref-in-Cycle.ensures.value c.in_ok-statements_of-in-Cycle.ensures
