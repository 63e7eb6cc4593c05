use Rattle.std.proofs.Common.{rules, ◌<◌, length, [], ℕ, arith}
use Rattle.std.proofs.lemmas.List.Elements.{All-cons, All-nil}
use Rattle.sv_imports.proofs.Leading.{table-none, table-more}
use Rattle.sv_imports.proofs.cycles.leads_table.Goals as goal

pub loop-start-init : goal.loop-start-init
loop-start-init c = table-none c.args.links.now c.new-table.result.items (search rules)

pub reached-requires : goal.reached-requires
reached-requires c =
    let P = λ (p : ℕ). p < length c.args.links.now in
    record {
      whole = c.requires.whole;
      within = All-cons P c.loop-start.start [] (omega arith) (All-nil P);
    }

pub loop-start-preserved : goal.loop-start-preserved
loop-start-preserved c =
    table-more c.args.links.now c.loop-start.start c.loop-start.table.items c.push.new.self.items c.in_ok-row.row c.loop-start.invariant c.in_ok-row.ensures c.in_ok-push.ensures.items
