use Rattle.std.proofs.Common.{ap, sym, subst, ◌∙◌, length}
use Rattle.std.specs.List.{All}
use Rattle.std.specs.Prelude.{Result, Ok, Err, IfOk}
use Rattle.sv_white.specs.White.{kept}
use Rattle.sv_fragments.specs.Pieces.{IsNumber}
use Rattle.sv_fragments.proofs.Nodes.{kept_made}
use Rattle.sv_fragments.proofs.Kept.{kept_all}
use Rattle.sv_fragments.proofs.pieces.kept_nodes.Goals as goal

if_ok : {A E : Type 0} (result : Result A E) {P Q : A → Type 0} → ((x : A) → P x → Q x) → IfOk result P → IfOk result Q
if_ok (Ok x) f p = f x p
if_ok (Err e) f p = tt

pub returns-clause-made : goal.returns-clause-made
returns-clause-made t =
    if_ok t.kept.result
    (λ left is. kept_made t.args.nodes.now t.args.strips t.in_ok-pieces.pieces.items left.items (is ∙ ap (kept t.args.strips) t.deref.ensures.value) t.in_ok-pieces.ensures.made)
    t.kept.ensures

pub returns-clause-numbers : goal.returns-clause-numbers
returns-clause-numbers t =
    let count = length t.args.nodes.now in
    if_ok t.kept.result
    (λ left is. subst (All (IsNumber count)) (sym (is ∙ ap (kept t.args.strips) t.deref.ensures.value)) (kept_all (IsNumber count) (λ text. tt) t.args.strips t.in_ok-pieces.pieces.items t.in_ok-pieces.ensures.numbers))
    t.kept.ensures
