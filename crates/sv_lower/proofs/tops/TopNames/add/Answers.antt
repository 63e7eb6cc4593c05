use Rattle.std.proofs.Common.{rules, ◌≡◌, true, false, refl, sym, ap, ◌∙◌}
use Rattle.std.specs.Prelude.{is_some}
use Rattle.std.specs.Map.{lookup}
use Rattle.sv_lower.specs.Tops.{Tops, with_known}
use Rattle.sv_lower.proofs.Naming.{ref_eq, known_new, known_kept, same_tops}
use Rattle.sv_lower.proofs.tops.TopNames.add.Goals as goal

pub returns-in_ok-insert : goal.returns-in_ok-insert
returns-in_ok-insert c =
    let v : c.self.inside.known.entries ≡ c.args.self.now.known = ap (λ (t : Tops). t.known) c.self.view_is in
    let k : c.contains_key.result ≡ false = search rules in
    same_tops _ _ _ _ _ _ (ap (λ (t : Tops). t.names) c.self.view_is)
    (c.in_ok-insert.ensures.entries ∙ known_new c.self.inside.known.entries c.args.name c.args.known (sym c.contains_key.ensures ∙ k)
    ∙ ap (λ z. with_known z (c.args.name, c.args.known)) v)
    (ap (λ (t : Tops). t.words) c.self.view_is)

pub returns-else-not-contains_key : goal.returns-else-not-contains_key
returns-else-not-contains_key c =
    let v : c.self.inside.known.entries ≡ c.args.self.now.known = ap (λ (t : Tops). t.known) c.self.view_is in
    let k : c.contains_key.result ≡ true = search rules in
    same_tops _ _ _ _ _ _ refl (known_kept c.args.self.now.known c.args.name c.args.known (ap (λ z. is_some (lookup (ref_eq c.args.name) z)) (sym v) ∙ sym c.contains_key.ensures ∙ k)) refl
