use Rattle.std.proofs.Common.{◌≡◌, map, drop}
use Rattle.sv_lower.specs.Does.{each}
use Rattle.sv_lower.specs.Inside.{made_in}
use Rattle.sv_lower.specs.Lower.{all, expr_made, entry_made, field_made, link_made, arm_made, decl_made, stmt_made}
use Rattle.sv_lower.proofs.Loops.{ahead}
use Rattle.sv_lower.proofs.+lower.Given as goal

abbrev pub «invariant-lists::lower_exprs-loop-of» : goal.«invariant-lists::lower_exprs-loop-of»
«invariant-lists::lower_exprs-loop-of» l = made_in l.inside (each (all (map expr_made l.list))) l.fn.functions ≡ ahead l.codes (made_in l.inside (each (all (map expr_made (drop l.of-index l.list)))) l.functions)

abbrev pub «invariant-lists::lower_items-loop-item» : goal.«invariant-lists::lower_items-loop-item»
«invariant-lists::lower_items-loop-item» l = made_in l.inside (each (all (map entry_made l.items))) l.fn.functions ≡ ahead l.codes (made_in l.inside (each (all (map entry_made (drop l.item-index l.items)))) l.functions)

abbrev pub «invariant-lists::lower_fields-loop-of» : goal.«invariant-lists::lower_fields-loop-of»
«invariant-lists::lower_fields-loop-of» l = made_in l.inside (each (all (map field_made l.fields))) l.fn.functions ≡ ahead l.codes (made_in l.inside (each (all (map field_made (drop l.of-index l.fields)))) l.functions)

abbrev pub «invariant-lists::lower_links-loop-link» : goal.«invariant-lists::lower_links-loop-link»
«invariant-lists::lower_links-loop-link» l = made_in l.inside (each (all (map link_made l.links))) l.fn.functions ≡ ahead l.codes (made_in l.inside (each (all (map link_made (drop l.link-index l.links)))) l.functions)

abbrev pub «invariant-statements::lower_stmts-loop-of» : goal.«invariant-statements::lower_stmts-loop-of»
«invariant-statements::lower_stmts-loop-of» l = made_in l.inside (each (all (map stmt_made l.stmts))) l.fn.functions ≡ ahead l.codes (made_in l.inside (each (all (map stmt_made (drop l.of-index l.stmts)))) l.functions)

abbrev pub «invariant-statements::lower_decls-loop-decl» : goal.«invariant-statements::lower_decls-loop-decl»
«invariant-statements::lower_decls-loop-decl» l = made_in l.inside (each (all (map decl_made l.decls))) l.fn.functions ≡ ahead l.codes (made_in l.inside (each (all (map decl_made (drop l.decl-index l.decls)))) l.functions)

abbrev pub «invariant-statements::lower_arms-loop-arm» : goal.«invariant-statements::lower_arms-loop-arm»
«invariant-statements::lower_arms-loop-arm» l = made_in l.inside (each (all (map arm_made l.arms))) l.fn.functions ≡ ahead l.codes (made_in l.inside (each (all (map arm_made (drop l.arm-index l.arms)))) l.functions)
