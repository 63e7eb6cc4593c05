-- Names that are added to what the top of a file has, in turn.
use Rattle.std.proofs.Common.{◌≡◌, List, [], ◌∷◌, ◌++◌, map, refl, sym, ap, ◌∙◌}
use Rattle.sv_ast.specs.declared.names.Ref.{Ref}
use Rattle.sv_base.specs.Names.{Table}
use Rattle.sv_code.specs.declared.known.Known.{Known}
use Rattle.sv_lower.specs.Tops.{Tops, with_known, with_all}
use Rattle.sv_lower.specs.Words.{words}
use Rattle.sv_compile.specs.declared.constants.Given.{Given}
use Rattle.sv_compile.specs.TopLevel.{cells_from, given_name, all_built, tops}

abbrev Pairs : Type 0
Pairs = List (Ref × Known)

pub with_all_append : (known a b : List (Ref × Known)) → with_all known (a ++ b) ≡ with_all (with_all known a) b
with_all_append known [] b = refl
with_all_append known (k ∷ a) b = with_all_append (with_known known k) a b

-- some names more
abbrev more : Pairs → Tops → Tops
more list t = record t { known = with_all t.known list }

abbrev known_by : Tops → Pairs → Tops
known_by t known = record t { known = known }

pub four_added : (a b c d : List (Ref × Known)) (t0 t1 t2 t3 t4 : Tops) → t1 ≡ record t0 { known = with_all t0.known a } → t2 ≡ record t1 { known = with_all t1.known b } → t3 ≡ record t2 { known = with_all t2.known c }
    → t4 ≡ record t3 { known = with_all t3.known d } → t4 ≡ record t0 { known = with_all t0.known (a ++ (b ++ (c ++ d))) }
four_added a b c d t0 t1 t2 t3 t4 e1 e2 e3 e4 =
    let k = with_all t0.known a in
    e4 ∙ ap (more d) (e3 ∙ ap (more c) (e2 ∙ ap (more b) e1))
    ∙ ap (known_by t0) (sym (with_all_append t0.known a (b ++ (c ++ d)) ∙ with_all_append k b (c ++ d) ∙ with_all_append (with_all k b) c d))

pub tops_are : (table : Table) (cells : List Ref) (given : List Given) (t0 t1 t2 t3 : Tops) → t0 ≡ record { names = table; known = []; words = words table } → t1 ≡ record t0 { known = with_all t0.known (cells_from 0 cells) }
    → t2 ≡ record t1 { known = with_all t1.known (map given_name given) } → t3 ≡ record t2 { known = with_all t2.known (all_built table) } → t3 ≡ tops table cells given
tops_are table cells given t0 t1 t2 t3 e0 e1 e2 e3 =
    let own = cells_from 0 cells in
    let named = map given_name given in
    let built = all_built table in
    let start : Tops = record { names = table; known = []; words = words table } in
    e3 ∙ ap (more built) (e2 ∙ ap (more named) (e1 ∙ ap (more own) e0))
    ∙ ap (known_by start) (sym (with_all_append [] own (named ++ built) ∙ with_all_append (with_all [] own) named built))
