use Rattle.std.proofs.Common.{sym, ◌∙◌, map, length, ◌+◌, ◌≤◌, arith}
use Rattle.std.specs.String.{string_bytes}
use Rattle.std.proofs.lemmas.Grind.{common_steps}
use Rattle.sv_base.proofs.Tables.{Interned, found, added, still_table}
use Rattle.sv_base.proofs.names.Names.intern.Goals as goal

pub returns-in-Some-clause-number : goal.returns-in-Some-clause-number
returns-in-Some-clause-number c = (found _ _ _ _ c.self.view_is c.self.invariant c.in-Some.ensures.index c.in-Some.ensures.within).number

pub returns-in-Some-clause-table : goal.returns-in-Some-clause-table
returns-in-Some-clause-table c = (found _ _ _ _ c.self.view_is c.self.invariant c.in-Some.ensures.index c.in-Some.ensures.within).table

pub returns-in-Some-clause-known : goal.returns-in-Some-clause-known
returns-in-Some-clause-known c = (found _ _ _ _ c.self.view_is c.self.invariant c.in-Some.ensures.index c.in-Some.ensures.within).known

pub returns-in-Some-clause-only : goal.returns-in-Some-clause-only
returns-in-Some-clause-only c = (found _ _ _ _ c.self.view_is c.self.invariant c.in-Some.ensures.index c.in-Some.ensures.within).only

whole : (c : goal.In_ok-at) → Interned c.args.self.now (map string_bytes c.insert_full.new.self.keys) c.args.text.now c.in_ok-at.at
whole c =
    added c.args.text.now c.self.inside.texts.keys c.insert_full.new.self.keys c.in_ok-owned.owned c.args.self.now c.in_ok-at.at c.in_ok-owned.ensures.ok
    c.self.view_is c.in_ok-at.ensures.keys c.in_ok-at.ensures.index (sym c.in_default.ensures.found) c.in_ok-at.ensures.unique

pub invariant_of-self-2 : goal.invariant_of-self-2
invariant_of-self-2 c =
    let more : length c.insert_full.new.self.keys ≤ length c.self.inside.texts.keys + 1 = grind (arith, common_steps, c.in_ok-at.ensures.len) in
    still_table c.self.inside.texts.keys c.insert_full.new.self.keys c.in_ok-owned.owned c.self.invariant
    (λ full. c.if-len-eq-NAME_LIMIT.false (c.len.ensures.len ∙ full)) more c.in_ok-at.ensures.unique

pub returns-clause-number : goal.returns-clause-number
returns-clause-number c = (whole c).number

pub returns-clause-table : goal.returns-clause-table
returns-clause-table c = (whole c).table

pub returns-clause-known : goal.returns-clause-known
returns-clause-known c = (whole c).known

pub returns-clause-only : goal.returns-clause-only
returns-clause-only c = (whole c).only
