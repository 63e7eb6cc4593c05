use Rattle.std.proofs.Common.{◌≡◌, ◌++◌, map, drop}
use Rattle.sv_names.specs.Uses.{in_turn, together, expr_uses, entry_uses, field_uses, link_uses, arm_uses, decl_parts, stmt_parts}
use Rattle.sv_names.proofs.uses.+walk.Given as goal

abbrev pub invariant-find_all-loop-of : goal.invariant-find_all-loop-of
invariant-find_all-loop-of l = record {
  scope : l.walk.scope ≡ l.fn.walk.scope;
  uses : l.fn.walk.uses ++ in_turn (map expr_uses l.list) l.fn.walk.scope ≡ l.walk.uses ++ in_turn (map expr_uses (drop l.of-index l.list)) l.fn.walk.scope;
}

abbrev pub invariant-find_items-loop-item : goal.invariant-find_items-loop-item
invariant-find_items-loop-item l = record {
  scope : l.walk.scope ≡ l.fn.walk.scope;
  uses : l.fn.walk.uses ++ in_turn (map entry_uses l.items) l.fn.walk.scope ≡ l.walk.uses ++ in_turn (map entry_uses (drop l.item-index l.items)) l.fn.walk.scope;
}

abbrev pub invariant-find_fields-loop-field : goal.invariant-find_fields-loop-field
invariant-find_fields-loop-field l = record {
  scope : l.walk.scope ≡ l.fn.walk.scope;
  uses : l.fn.walk.uses ++ in_turn (map field_uses l.fields) l.fn.walk.scope ≡ l.walk.uses ++ in_turn (map field_uses (drop l.field-index l.fields)) l.fn.walk.scope;
}

abbrev pub invariant-find_links-loop-link : goal.invariant-find_links-loop-link
invariant-find_links-loop-link l = record {
  scope : l.walk.scope ≡ l.fn.walk.scope;
  uses : l.fn.walk.uses ++ in_turn (map link_uses l.links) l.fn.walk.scope ≡ l.walk.uses ++ in_turn (map link_uses (drop l.link-index l.links)) l.fn.walk.scope;
}

abbrev pub invariant-find_arms-loop-arm : goal.invariant-find_arms-loop-arm
invariant-find_arms-loop-arm l = record {
  scope : l.walk.scope ≡ l.fn.walk.scope;
  uses : l.fn.walk.uses ++ in_turn (map arm_uses l.arms) l.fn.walk.scope ≡ l.walk.uses ++ in_turn (map arm_uses (drop l.arm-index l.arms)) l.fn.walk.scope;
}

abbrev pub invariant-find_decls-loop-decl : goal.invariant-find_decls-loop-decl
invariant-find_decls-loop-decl l = record {
  scope : l.walk.scope ≡ l.fn.walk.scope;
  uses : l.fn.walk.uses ++ (together (map decl_parts l.decls)).uses l.fn.walk.scope ≡ l.walk.uses ++ (together (map decl_parts (drop l.decl-index l.decls))).uses l.fn.walk.scope;
}

abbrev pub invariant-find_stmts-loop-stmt : goal.invariant-find_stmts-loop-stmt
invariant-find_stmts-loop-stmt l = record {
  scope : l.walk.scope ≡ l.fn.walk.scope;
  uses : l.fn.walk.uses ++ (together (map stmt_parts l.stmts)).uses l.fn.walk.scope ≡ l.walk.uses ++ (together (map stmt_parts (drop l.stmt-index l.stmts))).uses l.fn.walk.scope;
}
