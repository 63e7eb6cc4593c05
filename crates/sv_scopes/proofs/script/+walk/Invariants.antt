use Rattle.std.proofs.Common.{map, drop}
use Rattle.sv_scopes.specs.Parts.{in_turn}
use Rattle.sv_scopes.specs.Script as spec
use Rattle.sv_scopes.proofs.Leaving.{Leaves}
use Rattle.sv_scopes.proofs.script.+walk.Given as goal

abbrev pub invariant-find_all-loop-of : goal.invariant-find_all-loop-of
invariant-find_all-loop-of l = Leaves l.fn.found l.found (in_turn (map spec.alone (map spec.expr_parts l.list))) (in_turn (map spec.alone (map spec.expr_parts (drop l.of-index l.list))))

abbrev pub invariant-find_items-loop-item : goal.invariant-find_items-loop-item
invariant-find_items-loop-item l = Leaves l.fn.found l.found (in_turn (map spec.entry_parts l.items)) (in_turn (map spec.entry_parts (drop l.item-index l.items)))

abbrev pub invariant-find_fields-loop-field : goal.invariant-find_fields-loop-field
invariant-find_fields-loop-field l = Leaves l.fn.found l.found (in_turn (map spec.field_parts l.fields)) (in_turn (map spec.field_parts (drop l.field-index l.fields)))

abbrev pub invariant-find_links-loop-link : goal.invariant-find_links-loop-link
invariant-find_links-loop-link l = Leaves l.fn.found l.found (in_turn (map spec.link_parts l.links)) (in_turn (map spec.link_parts (drop l.link-index l.links)))

abbrev pub invariant-find_stmts-loop-stmt : goal.invariant-find_stmts-loop-stmt
invariant-find_stmts-loop-stmt l = Leaves l.fn.found l.found (in_turn (map spec.stmt_parts l.stmts)) (in_turn (map spec.stmt_parts (drop l.stmt-index l.stmts)))

abbrev pub invariant-find_decls-loop-decl : goal.invariant-find_decls-loop-decl
invariant-find_decls-loop-decl l = Leaves l.fn.found l.found (spec.decls l.by (map spec.decl_parts l.decls)) (spec.decls l.by (map spec.decl_parts (drop l.decl-index l.decls)))

abbrev pub invariant-find_arms-loop-arm : goal.invariant-find_arms-loop-arm
invariant-find_arms-loop-arm l = Leaves l.fn.found l.found (in_turn (map spec.arm_parts l.arms)) (in_turn (map spec.arm_parts (drop l.arm-index l.arms)))
