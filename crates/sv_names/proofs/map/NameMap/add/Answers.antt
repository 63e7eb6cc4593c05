use Rattle.std.proofs.Common.{rules, ◌≡◌, true, false, sym, ap, ◌∙◌}
use Rattle.std.specs.Prelude.{is_some}
use Rattle.std.specs.Map.{lookup}
use Rattle.sv_names.specs.NameMap.{with_entry}
use Rattle.sv_names.proofs.Entries.{ref_eq, entry_new, entry_kept}
use Rattle.sv_names.proofs.map.NameMap.add.Goals as goal

pub returns-in_ok-insert : goal.returns-in_ok-insert
returns-in_ok-insert c =
    let v : c.self.inside.numbers.entries ≡ c.args.self.now = cc in
    let k : c.contains_key.result ≡ false = search rules in
    c.in_ok-insert.ensures.entries ∙ entry_new c.self.inside.numbers.entries c.args.name c.args.number (sym c.contains_key.ensures ∙ k)
    ∙ ap (λ z. with_entry z (c.args.name, c.args.number)) v

pub returns-else-not-contains_key : goal.returns-else-not-contains_key
returns-else-not-contains_key c =
    let v : c.self.inside.numbers.entries ≡ c.args.self.now = cc in
    let k : c.contains_key.result ≡ true = search rules in
    entry_kept c.args.self.now c.args.name c.args.number (ap (λ z. is_some (lookup (ref_eq c.args.name) z)) (sym v) ∙ sym c.contains_key.ensures ∙ k)
