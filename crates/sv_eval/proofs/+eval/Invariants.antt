-- Each call of the cycle takes steps, or room for calls, or goes down the ranks; a pure evaluation within another world begins anew, below all of them.
use Rattle.std.proofs.Common.{◌≡◌, ◌≤◌, ◌+◌, ◌-◌, ◌*◌, [], length, map, suc, drop, option_map, option_copied}
use Rattle.sv_value.specs.View.{view_of, entry_of}
use Rattle.sv_meaning.specs.Calls.{visited}
use Rattle.sv_meaning.specs.Context.{calls_of, expr_in, item_in, field_in, link_in, run_in, arm_in, decl_in, valued_in}
use Rattle.sv_meaning.specs.Listeners.{onward, heard_by}
use Rattle.sv_meaning.specs.Settling.{settled, settled_within}
use Rattle.sv_meaning.specs.Statements.{in_order, first_of, turns, item_turns}
use Rattle.sv_meaning.specs.Values.{all_values, all_after, all_texts, texts_after, parts_after, chained}
use Rattle.sv_eval.proofs.Measure.{budget}
use Rattle.sv_eval.proofs.+eval.Given as goal

abbrev pub decreases-values::eval : goal.decreases-values::eval
decreases-values::eval l = budget l.context.now l.world.now 0

abbrev pub decreases-statements::run : goal.decreases-statements::run
decreases-statements::run l = budget l.context.now l.world.now 0

abbrev pub decreases-values::eval_or : goal.decreases-values::eval_or
decreases-values::eval_or l = budget l.context.now l.world.now 1

abbrev pub decreases-values::eval_test : goal.decreases-values::eval_test
decreases-values::eval_test l = budget l.context.now l.world.now 1

abbrev pub decreases-statements::declare_one : goal.decreases-statements::declare_one
decreases-statements::declare_one l = budget l.context.now l.world.now 2

abbrev pub decreases-statements::declare_all : goal.decreases-statements::declare_all
decreases-statements::declare_all l = budget l.context.now l.world.now 3

abbrev pub decreases-values::eval_all : goal.decreases-values::eval_all
decreases-values::eval_all l = budget l.context.now l.world.now 1

abbrev pub decreases-values::eval_texts : goal.decreases-values::eval_texts
decreases-values::eval_texts l = budget l.context.now l.world.now 1

abbrev pub decreases-values::eval_template : goal.decreases-values::eval_template
decreases-values::eval_template l = budget l.context.now l.world.now 2

abbrev pub decreases-values::eval_link : goal.decreases-values::eval_link
decreases-values::eval_link l = budget l.context.now l.world.now 1

abbrev pub decreases-values::eval_links : goal.decreases-values::eval_links
decreases-values::eval_links l = budget l.context.now l.world.now 2

abbrev pub decreases-literals::eval_item : goal.decreases-literals::eval_item
decreases-literals::eval_item l = budget l.context.now l.world.now 1

abbrev pub decreases-literals::eval_field : goal.decreases-literals::eval_field
decreases-literals::eval_field l = budget l.context.now l.world.now 1

abbrev pub decreases-literals::eval_items : goal.decreases-literals::eval_items
decreases-literals::eval_items l = budget l.context.now l.world.now 2

abbrev pub decreases-literals::eval_fields : goal.decreases-literals::eval_fields
decreases-literals::eval_fields l = budget l.context.now l.world.now 2

abbrev pub decreases-values::eval_index : goal.decreases-values::eval_index
decreases-values::eval_index l = budget l.context.now l.world.now 1

abbrev pub decreases-values::eval_assign : goal.decreases-values::eval_assign
decreases-values::eval_assign l = budget l.context.now l.world.now 7

abbrev pub decreases-values::eval_dispatcher : goal.decreases-values::eval_dispatcher
decreases-values::eval_dispatcher l = budget l.context.now l.world.now 2

abbrev pub decreases-statements::run_all : goal.decreases-statements::run_all
decreases-statements::run_all l = budget l.context.now l.world.now 1

abbrev pub decreases-statements::run_or : goal.decreases-statements::run_or
decreases-statements::run_or l = budget l.context.now l.world.now 1

abbrev pub decreases-statements::run_item : goal.decreases-statements::run_item
decreases-statements::run_item l = budget l.context.now l.world.now 1

abbrev pub decreases-statements::run_items : goal.decreases-statements::run_items
decreases-statements::run_items l = budget l.context.now l.world.now 2

abbrev pub decreases-statements::run_each : goal.decreases-statements::run_each
decreases-statements::run_each l = budget l.context.now l.world.now 3

abbrev pub decreases-statements::run_if : goal.decreases-statements::run_if
decreases-statements::run_if l = budget l.context.now l.world.now 2

abbrev pub decreases-statements::run_loop : goal.decreases-statements::run_loop
decreases-statements::run_loop l = budget l.context.now l.world.now 2

abbrev pub decreases-statements::run_for : goal.decreases-statements::run_for
decreases-statements::run_for l = budget l.context.now l.world.now 3

abbrev pub decreases-statements::run_block : goal.decreases-statements::run_block
decreases-statements::run_block l = budget l.context.now l.world.now 2

abbrev pub decreases-statements::run_kind : goal.decreases-statements::run_kind
decreases-statements::run_kind l = budget l.context.now l.world.now 20

abbrev pub decreases-calls::call_value : goal.decreases-calls::call_value
decreases-calls::call_value l = budget l.context.now l.world.now 1

abbrev pub decreases-calls::visit_items : goal.decreases-calls::visit_items
decreases-calls::visit_items l = budget l.context.now l.world.now 2

abbrev pub decreases-calls::visit : goal.decreases-calls::visit
decreases-calls::visit l = budget l.context.now l.world.now 3

abbrev pub decreases-calls::call_on_store : goal.decreases-calls::call_on_store
decreases-calls::call_on_store l = budget l.context.now l.world.now 7

abbrev pub decreases-calls::call_field : goal.decreases-calls::call_field
decreases-calls::call_field l = budget l.context.now l.world.now 2

abbrev pub decreases-calls::call_on_list : goal.decreases-calls::call_on_list
decreases-calls::call_on_list l = budget l.context.now l.world.now 4

abbrev pub decreases-calls::call_of_value : goal.decreases-calls::call_of_value
decreases-calls::call_of_value l = budget l.context.now l.world.now 2

abbrev pub decreases-calls::call_method : goal.decreases-calls::call_method
decreases-calls::call_method l = budget l.context.now l.world.now 8

abbrev pub decreases-calls::call_math_method : goal.decreases-calls::call_math_method
decreases-calls::call_math_method l = budget l.context.now l.world.now 2

abbrev pub decreases-calls::eval_quotient : goal.decreases-calls::eval_quotient
decreases-calls::eval_quotient l = budget l.context.now l.world.now 3

abbrev pub decreases-calls::call_rounding : goal.decreases-calls::call_rounding
decreases-calls::call_rounding l = budget l.context.now l.world.now 4

abbrev pub decreases-calls::call_math : goal.decreases-calls::call_math
decreases-calls::call_math l = budget l.context.now l.world.now 5

abbrev pub decreases-calls::call_console : goal.decreases-calls::call_console
decreases-calls::call_console l = budget l.context.now l.world.now 2

abbrev pub decreases-calls::call_member : goal.decreases-calls::call_member
decreases-calls::call_member l = budget l.context.now l.world.now 1

abbrev pub decreases-calls::call_built : goal.decreases-calls::call_built
decreases-calls::call_built l = budget l.context.now l.world.now 6

abbrev pub decreases-calls::call_conversion : goal.decreases-calls::call_conversion
decreases-calls::call_conversion l = budget l.context.now l.world.now 1

abbrev pub decreases-calls::call_plain : goal.decreases-calls::call_plain
decreases-calls::call_plain l = budget l.context.now l.world.now 2

abbrev pub decreases-calls::call_name : goal.decreases-calls::call_name
decreases-calls::call_name l = budget l.context.now l.world.now 3

abbrev pub decreases-calls::eval_call : goal.decreases-calls::eval_call
decreases-calls::eval_call l = budget l.context.now l.world.now 4

abbrev pub decreases-calls::call_function : goal.decreases-calls::call_function
decreases-calls::call_function l = budget l.context.now l.world.now 300

abbrev pub decreases-listeners::dispatch : goal.decreases-listeners::dispatch
decreases-listeners::dispatch l = budget l.context.now l.world.now 290

abbrev pub decreases-listeners::hear : goal.decreases-listeners::hear
decreases-listeners::hear l = budget l.context.now l.world.now 280

abbrev pub decreases-listeners::call_listener : goal.decreases-listeners::call_listener
decreases-listeners::call_listener l = budget l.context.now l.world.now 2

abbrev pub decreases-listeners::tell_part : goal.decreases-listeners::tell_part
decreases-listeners::tell_part l = budget l.context.now l.world.now 3

abbrev pub decreases-values::eval_kind : goal.decreases-values::eval_kind
decreases-values::eval_kind l = budget l.context.now l.world.now 20

abbrev pub decreases-listeners::tell : goal.decreases-listeners::tell
decreases-listeners::tell l = budget l.context.now l.world.now (4 * l.room + 10)

abbrev pub decreases-listeners::tell_all : goal.decreases-listeners::tell_all
decreases-listeners::tell_all l = budget l.context.now l.world.now (4 * l.room + 13)

abbrev pub decreases-listeners::tell_attr : goal.decreases-listeners::tell_attr
decreases-listeners::tell_attr l = budget l.context.now l.world.now (4 * l.room + 12)

abbrev pub decreases-settling::call_apart : goal.decreases-settling::call_apart
decreases-settling::call_apart l = budget l.context.now l.world.now 2

abbrev pub decreases-settling::derive : goal.decreases-settling::derive
decreases-settling::derive l = budget l.context.now l.world.now 3

abbrev pub decreases-settling::compute : goal.decreases-settling::compute
decreases-settling::compute l = budget l.context.now l.world.now 4

abbrev pub decreases-settling::make_derived : goal.decreases-settling::make_derived
decreases-settling::make_derived l = budget l.context.now l.world.now 4

abbrev pub decreases-settling::settle : goal.decreases-settling::settle
decreases-settling::settle l = budget l.context.now l.world.now 5

abbrev pub decreases-settling::set : goal.decreases-settling::set
decreases-settling::set l = budget l.context.now l.world.now 6

abbrev pub decreases-settling::set_store : goal.decreases-settling::set_store
decreases-settling::set_store l = budget l.context.now l.world.now 6

abbrev pub decreases-values::eval_bump : goal.decreases-values::eval_bump
decreases-values::eval_bump l = budget l.context.now l.world.now 7

abbrev pub decreases-listeners::eval_part : goal.decreases-listeners::eval_part
decreases-listeners::eval_part l = 1024 * 100048 + 1

abbrev pub invariant-values::eval_all-loop-code : goal.invariant-values::eval_all-loop-code
invariant-values::eval_all-loop-code l = record {
  same : all_values (map (expr_in l.context) l.codes) l.fn.locals l.fn.world ≡ all_after (map view_of l.values.items) (map (λ e. e.means) (map (expr_in l.context) (drop l.code-index l.codes))) l.locals l.world;
  fewer : l.world.turn.steps ≤ l.fn.world.turn.steps;
}

abbrev pub invariant-values::eval_texts-loop-part : goal.invariant-values::eval_texts-loop-part
invariant-values::eval_texts-loop-part l = record {
  same : all_texts l.span (map (expr_in l.context) l.parts) l.fn.locals l.fn.world ≡ texts_after l.span l.texts.items (map (λ e. e.means) (map (expr_in l.context) (drop l.part-index l.parts))) l.locals l.world;
  fewer : l.world.turn.steps ≤ l.fn.world.turn.steps;
}

abbrev pub invariant-literals::eval_items-loop-part : goal.invariant-literals::eval_items-loop-part
invariant-literals::eval_items-loop-part l = record {
  same : parts_after l.span [] (map (item_in l.context) l.parts) l.fn.locals l.fn.world ≡ parts_after l.span (map view_of l.made.items) (map (item_in l.context) (drop l.part-index l.parts)) l.locals l.world;
  fewer : l.world.turn.steps ≤ l.fn.world.turn.steps;
}

abbrev pub invariant-literals::eval_fields-loop-part : goal.invariant-literals::eval_fields-loop-part
invariant-literals::eval_fields-loop-part l = record {
  same : parts_after l.span [] (map (field_in l.context) l.parts) l.fn.locals l.fn.world ≡ parts_after l.span (map entry_of l.made.items) (map (field_in l.context) (drop l.part-index l.parts)) l.locals l.world;
  fewer : l.world.turn.steps ≤ l.fn.world.turn.steps;
}

abbrev pub invariant-values::eval_links-loop-link : goal.invariant-values::eval_links-loop-link
invariant-values::eval_links-loop-link l = record {
  same : chained l.span (view_of l.fn.value) (map (link_in l.context) l.links) l.fn.locals l.fn.world ≡ chained l.span (view_of l.so_far) (map (link_in l.context) (drop l.link-index l.links)) l.locals l.world;
  fewer : l.world.turn.steps ≤ l.fn.world.turn.steps;
}

abbrev pub invariant-calls::visit_items-loop-i : goal.invariant-calls::visit_items-loop-i
invariant-calls::visit_items-loop-i l = record {
  same : visited (calls_of l.context) l.visit.method l.visit.span (view_of l.visit.function.now) [] (view_of l.fn.held) 0 (map view_of l.visit.items.now) l.fn.world ≡ visited (calls_of l.context) l.visit.method l.visit.span (view_of l.visit.function.now) (map view_of l.made.items) (view_of l.so_far) l.i (map view_of (drop l.i l.visit.items.now)) l.world;
  fewer : l.world.turn.steps ≤ l.fn.world.turn.steps;
}

abbrev pub invariant-listeners::tell_all-loop-attr : goal.invariant-listeners::tell_all-loop-attr
invariant-listeners::tell_all-loop-attr l = record {
  same : heard_by (onward l.room l.context.program.now (calls_of l.context) l.event.name.now) l.context.program.now (calls_of l.context) l.event.name.now l.hearer.owner.number l.hearer.locals l.attrs (view_of l.event.object.now) l.fn.world ≡ heard_by (onward l.room l.context.program.now (calls_of l.context) l.event.name.now) l.context.program.now (calls_of l.context) l.event.name.now l.hearer.owner.number l.hearer.locals (drop l.attr-index l.attrs) (view_of l.event.object.now) l.world;
  fewer : l.world.turn.steps ≤ l.fn.world.turn.steps;
}

abbrev pub invariant-settling::settle-loop-round : goal.invariant-settling::settle-loop-round
invariant-settling::settle-loop-round l = record {
  same : settled (calls_of l.context).derives l.fn.world ≡ settled_within (length l.fn.world.states.derived - l._round) (calls_of l.context).derives l.world;
  fewer : l.world.turn.steps ≤ l.fn.world.turn.steps;
}

abbrev pub invariant-statements::run_all-loop-stmt : goal.invariant-statements::run_all-loop-stmt
invariant-statements::run_all-loop-stmt l = record {
  same : in_order (map (run_in l.context) l.stmts) l.fn.locals l.fn.world ≡ in_order (map (run_in l.context) (drop l.stmt-index l.stmts)) l.locals l.world;
  fewer : l.world.turn.steps ≤ l.fn.world.turn.steps;
}

abbrev pub invariant-statements::declare_all-loop-decl : goal.invariant-statements::declare_all-loop-decl
invariant-statements::declare_all-loop-decl l = record {
  same : in_order (map (decl_in l.context) l.decls) l.fn.locals l.fn.world ≡ in_order (map (decl_in l.context) (drop l.decl-index l.decls)) l.locals l.world;
  fewer : l.world.turn.steps ≤ l.fn.world.turn.steps;
}

abbrev pub invariant-statements::run_if-loop-arm : goal.invariant-statements::run_if-loop-arm
invariant-statements::run_if-loop-arm l = record {
  same : first_of (map (arm_in l.context) l.arms) (option_map (run_in l.context) l.last) l.fn.locals l.fn.world ≡ first_of (map (arm_in l.context) (drop l.arm-index l.arms)) (option_map (run_in l.context) l.last) l.locals l.world;
  fewer : l.world.turn.steps ≤ l.fn.world.turn.steps;
}

abbrev pub invariant-statements::run_loop-loop : goal.invariant-statements::run_loop-loop
invariant-statements::run_loop-loop l = record {
  same : turns (suc l.fn.world.turn.steps) l.span (valued_in l.context (option_copied l.turn.test)) (valued_in l.context (option_copied l.turn.next)) (run_in l.context l.turn.body.now) l.fn.locals l.fn.world ≡ turns (l.end - l.counter) l.span (valued_in l.context (option_copied l.turn.test)) (valued_in l.context (option_copied l.turn.next)) (run_in l.context l.turn.body.now) l.locals l.world;
  fewer : l.world.turn.steps ≤ l.fn.world.turn.steps;
}

abbrev pub invariant-statements::run_items-loop-item : goal.invariant-statements::run_items-loop-item
invariant-statements::run_items-loop-item l = record {
  same : item_turns l.name (map view_of l.items) (run_in l.context l.body) l.fn.locals l.fn.world ≡ item_turns l.name (map view_of (drop l.item-index l.items)) (run_in l.context l.body) l.locals l.world;
  fewer : l.world.turn.steps ≤ l.fn.world.turn.steps;
}
