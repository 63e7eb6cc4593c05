use Rattle.std.proofs.Common.{ap, sym, ◌∙◌, map}
use Rattle.sv_value.specs.Value.{fields}
use Rattle.sv_value.specs.Object.{get}
use Rattle.sv_value.specs.View.{entry_of}
use Rattle.sv_value.proofs.Search.{field_at}
use Rattle.sv_value.proofs.value.Obj.get.Goals as goal

pub find_field-requires : goal.find_field-requires
find_field-requires c =
    let shown = c.as_slice-pairs.ensures.value ∙ ap (λ v. v.items) c.deref.ensures in
    rw shown c.self.invariant.ordered

pub returns-in-Some : goal.returns-in-Some
returns-in-Some c =
    let shown = c.as_slice-pairs.ensures.value ∙ ap (λ v. v.items) c.deref.ensures in
    let whole = ap (λ l. fields (map entry_of l)) shown ∙ c.self.view_is in
    ap (λ fs. get fs c.args.key.now) (sym whole)
    ∙ field_at c.as_slice-pairs.result.now c.args.key.now c.in-Some.place c.index-pairs-place.result (rw shown c.self.invariant.ordered) c.in-Some.ensures

pub returns-in-None : goal.returns-in-None
returns-in-None c =
    let shown = c.as_slice-pairs.ensures.value ∙ ap (λ v. v.items) c.deref.ensures in
    let whole = ap (λ l. fields (map entry_of l)) shown ∙ c.self.view_is in
    ap (λ fs. get fs c.args.key.now) (sym whole) ∙ c.in-None.ensures
