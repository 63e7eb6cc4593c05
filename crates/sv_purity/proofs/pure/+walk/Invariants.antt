use Rattle.std.proofs.Common.{◌≡◌, map, drop}
use Rattle.sv_purity.specs.First.{outcome}
use Rattle.sv_purity.specs.Pure.{each, together, asked, entry_places, field_places, link_places, arm_places, decl_part, stmt_part}
use Rattle.sv_purity.specs.Scopes.{visible}
use Rattle.sv_purity.proofs.pure.+walk.Given as goal

abbrev pub invariant-check_exprs-loop-e : goal.invariant-check_exprs-loop-e
invariant-check_exprs-loop-e l = outcome (each (map (λ part. part.places) (map asked l.list)) l.names (visible l.scope)) ≡ outcome (each (map (λ part. part.places) (map asked (drop l.e-index l.list))) l.names (visible l.scope))

abbrev pub invariant-check_items-loop-item : goal.invariant-check_items-loop-item
invariant-check_items-loop-item l = outcome (each (map entry_places l.items) l.names (visible l.scope)) ≡ outcome (each (map entry_places (drop l.item-index l.items)) l.names (visible l.scope))

abbrev pub invariant-check_fields-loop-of : goal.invariant-check_fields-loop-of
invariant-check_fields-loop-of l = outcome (each (map field_places l.fields) l.names (visible l.scope)) ≡ outcome (each (map field_places (drop l.of-index l.fields)) l.names (visible l.scope))

abbrev pub invariant-check_links-loop-link : goal.invariant-check_links-loop-link
invariant-check_links-loop-link l = outcome (each (map link_places l.list) l.names (visible l.scope)) ≡ outcome (each (map link_places (drop l.link-index l.list)) l.names (visible l.scope))

abbrev pub invariant-check_arms-loop-of : goal.invariant-check_arms-loop-of
invariant-check_arms-loop-of l = outcome (each (map arm_places l.list) l.names (visible l.scope)) ≡ outcome (each (map arm_places (drop l.of-index l.list)) l.names (visible l.scope))

abbrev pub invariant-check_decls-loop-decl : goal.invariant-check_decls-loop-decl
invariant-check_decls-loop-decl l = outcome ((together (map decl_part l.list)).places l.names (visible l.scope)) ≡ outcome ((together (map decl_part (drop l.decl-index l.list))).places l.names (visible l.scope))

abbrev pub invariant-check_stmts-loop-of : goal.invariant-check_stmts-loop-of
invariant-check_stmts-loop-of l = outcome ((together (map stmt_part l.stmts)).places l.names (visible l.scope)) ≡ outcome ((together (map stmt_part (drop l.of-index l.stmts))).places l.names (visible l.scope))
