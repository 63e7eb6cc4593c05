use Rattle.std.proofs.Common.{◌≡◌, ◌++◌, map, drop}
use Rattle.sv_effects.specs.Signs.{place, in_turn, together, asked, entry_signs, field_signs, link_signs, arm_signs, decl_part, stmt_part}
use Rattle.sv_effects.proofs.signs.+walk.Given as goal

abbrev pub invariant-find_all-loop-of : goal.invariant-find_all-loop-of
invariant-find_all-loop-of l = record {
  locals : l.walk.locals ≡ l.fn.walk.locals;
  signs : l.fn.walk.signs ++ in_turn (map (λ part. part.signs) (map asked l.list)) (place l.names l.handed l.fn.walk.locals) ≡ l.walk.signs ++ in_turn (map (λ part. part.signs) (map asked (drop l.of-index l.list))) (place l.names l.handed l.fn.walk.locals);
}

abbrev pub invariant-find_items-loop-item : goal.invariant-find_items-loop-item
invariant-find_items-loop-item l = record {
  locals : l.walk.locals ≡ l.fn.walk.locals;
  signs : l.fn.walk.signs ++ in_turn (map entry_signs l.items) (place l.names l.handed l.fn.walk.locals) ≡ l.walk.signs ++ in_turn (map entry_signs (drop l.item-index l.items)) (place l.names l.handed l.fn.walk.locals);
}

abbrev pub invariant-find_fields-loop-field : goal.invariant-find_fields-loop-field
invariant-find_fields-loop-field l = record {
  locals : l.walk.locals ≡ l.fn.walk.locals;
  signs : l.fn.walk.signs ++ in_turn (map field_signs l.fields) (place l.names l.handed l.fn.walk.locals) ≡ l.walk.signs ++ in_turn (map field_signs (drop l.field-index l.fields)) (place l.names l.handed l.fn.walk.locals);
}

abbrev pub invariant-find_links-loop-link : goal.invariant-find_links-loop-link
invariant-find_links-loop-link l = record {
  locals : l.walk.locals ≡ l.fn.walk.locals;
  signs : l.fn.walk.signs ++ in_turn (map link_signs l.links) (place l.names l.handed l.fn.walk.locals) ≡ l.walk.signs ++ in_turn (map link_signs (drop l.link-index l.links)) (place l.names l.handed l.fn.walk.locals);
}

abbrev pub invariant-find_stmts-loop-of : goal.invariant-find_stmts-loop-of
invariant-find_stmts-loop-of l = record {
  locals : l.walk.locals ≡ l.fn.walk.locals;
  signs : l.fn.walk.signs ++ (together (map stmt_part l.stmts)).signs (place l.names l.handed l.fn.walk.locals) ≡ l.walk.signs ++ (together (map stmt_part (drop l.of-index l.stmts))).signs (place l.names l.handed l.fn.walk.locals);
}

abbrev pub invariant-find_decls-loop-decl : goal.invariant-find_decls-loop-decl
invariant-find_decls-loop-decl l = record {
  locals : l.walk.locals ≡ l.fn.walk.locals;
  signs : l.fn.walk.signs ++ (together (map decl_part l.list)).signs (place l.names l.handed l.fn.walk.locals) ≡ l.walk.signs ++ (together (map decl_part (drop l.decl-index l.list))).signs (place l.names l.handed l.fn.walk.locals);
}

abbrev pub invariant-find_arms-loop-of : goal.invariant-find_arms-loop-of
invariant-find_arms-loop-of l = record {
  locals : l.walk.locals ≡ l.fn.walk.locals;
  signs : l.fn.walk.signs ++ in_turn (map arm_signs l.list) (place l.names l.handed l.fn.walk.locals) ≡ l.walk.signs ++ in_turn (map arm_signs (drop l.of-index l.list)) (place l.names l.handed l.fn.walk.locals);
}
