-- What is found in parts in turn, and what loops leave to be found.
use Rattle.std.proofs.Common.{◌≡◌, List, Option, None, Some, option_map, map, ◌++◌, append_assoc, append-nil, ap, sym, subst, ◌∙◌}
use Rattle.sv_ast.specs.declared.names.Ref.{Ref}
use Rattle.sv_base.specs.declared.names.Name.{Name}
use Rattle.sv_code.specs.declared.fragments.Frag
use Rattle.sv_code.specs.declared.fragments.Frag.{Frag as AnyFrag, Frag-F, fold-roll-Frag}
use Rattle.sv_code.specs.declared.fragments.FragArm.{FragArm}
use Rattle.sv_code.specs.declared.parts.Part.{Part}
use Rattle.sv_deps.specs.Looks.{Looked, Looks, Node, Finds, nothing, both, in_turn, given, within, part, nodes, row_names, plain, frag, arm, node, arm_looks}
use Rattle.sv_deps.specs.declared.looks.Seen.{Seen}

-- what is found in all from the start is what is found in the rest, behind what there is now
pub record Onward (initial now : Seen) (all rest : Looked) : Type 0 where
  pub cells : initial.cells ++ all.cells ≡ now.cells ++ rest.cells
  pub locals : initial.locals ++ all.locals ≡ now.locals ++ rest.locals

-- what is found in two parts in turn
pub finds_both : (a b c : Seen) (first second : Looks) (own : List Ref) → Finds a b (first own) → Finds b c (second own) → Finds a c (both first second own)
finds_both a b c first second own x y = record {
  cells = y.cells ∙ ap (λ z. z ++ (second own).cells) x.cells ∙ append_assoc a.cells (first own).cells (second own).cells;
  locals = y.locals ∙ ap (λ z. z ++ (second own).locals) x.locals ∙ append_assoc a.locals (first own).locals (second own).locals;
}

-- nothing is found where nothing changed
pub finds_nothing : (a : Seen) (own : List Ref) → Finds a a (nothing own)
finds_nothing a own = record { cells = sym (append-nil a.cells); locals = sym (append-nil a.locals) }

if_is : (arms : List FragArm) (last : Option (List AnyFrag)) → node (Frag.If arms last) ≡ plain (both (in_turn (map arm_looks arms)) (given (option_map (λ l. nodes (map node l)) last)))
unfolding Frag.roll-Frag denote.Hole.Carrier.roll
if_is arms None = fold-roll-Frag Node Looks frag arm (Frag-F.If arms None)
if_is arms (Some list) = fold-roll-Frag Node Looks frag arm (Frag-F.If arms (Some list))

each_is : (list : Part) (item : Name) (index : Option Name) (key : Option Part) (body : List AnyFrag) (none : Option (List AnyFrag)) → node (Frag.Each list item index key body none)
    ≡ plain (both (part list) (both (within (row_names item index) (both (given (option_map part key)) (nodes (map node body)))) (given (option_map (λ l. nodes (map node l)) none))))
unfolding Frag.roll-Frag denote.Hole.Carrier.roll
each_is list item index key body None = fold-roll-Frag Node Looks frag arm (Frag-F.Each list item index key body None)
each_is list item index key body (Some shown) = fold-roll-Frag Node Looks frag arm (Frag-F.Each list item index key body (Some shown))

-- what may be absent, and is
pub finds_absent : (list : Option (List AnyFrag)) (a : Seen) (own : List Ref) → list ≡ None → Finds a a (given (option_map (λ l. nodes (map node l)) list) own)
finds_absent list a own is = subst (λ l. Finds a a (given (option_map (λ l. nodes (map node l)) l) own)) (sym is) (finds_nothing a own)

-- what may be absent, and is there
pub finds_present : (list : Option (List AnyFrag)) (shown shown' : List AnyFrag) (a b : Seen) (own : List Ref) → list ≡ Some shown → shown' ≡ shown → Finds a b (nodes (map node shown') own)
    → Finds a b (given (option_map (λ l. nodes (map node l)) list) own)
finds_present list shown shown' a b own is same found =
    subst (λ l. Finds a b (given (option_map (λ l. nodes (map node l)) l) own)) (sym is) (subst (λ l. Finds a b (nodes (map node l) own)) same found)

-- the branches of an if block, and then its `else`
pub if_on : (n : AnyFrag) (arms arms' : List FragArm) (last : Option (List AnyFrag)) (a b c : Seen) (own : List Ref) → n ≡ Frag.If arms last → arms' ≡ arms
    → Finds a b (in_turn (map arm_looks arms') own) → Finds b c (given (option_map (λ l. nodes (map node l)) last) own) → Finds a c ((node n).looks own)
if_on n arms arms' last a b c own is same x y =
    subst (Finds a c) (sym (ap (λ m. (node m).looks own) is ∙ ap (λ m. m.looks own) (if_is arms last)))
    (finds_both a b c (in_turn (map arm_looks arms)) (given (option_map (λ l. nodes (map node l)) last)) own (subst (λ l. Finds a b (in_turn (map arm_looks l) own)) same x) y)

-- the list of an each block, its row, and then its `else`
pub each_on : (n : AnyFrag) (list : Part) (item : Name) (index : Option Name) (key : Option Part) (body body' : List AnyFrag) (none : Option (List AnyFrag)) (a b c d : Seen) (own : List Ref) → n ≡ Frag.Each list item index key body none → body' ≡ body
    → Finds a b (part list own) → Finds b c (within (row_names item index) (both (given (option_map part key)) (nodes (map node body'))) own) → Finds c d (given (option_map (λ l. nodes (map node l)) none) own) → Finds a d ((node n).looks own)
each_on n list item index key body body' none a b c d own is same x y z =
    let row = λ (l : List AnyFrag). within (row_names item index) (both (given (option_map part key)) (nodes (map node l))) in
    let other = given (option_map (λ l. nodes (map node l)) none) in
    subst (Finds a d) (sym (ap (λ m. (node m).looks own) is ∙ ap (λ m. m.looks own) (each_is list item index key body none)))
    (finds_both a b d (part list) (both (row body) other) own x (finds_both b c d (row body) other own (subst (λ l. Finds b c (row l own)) same y) z))
