-- Names that are added to those that are known.
use Rattle.std.proofs.Common.{◌≡◌, ℕ, ◌+◌, ◌<◌, Bool, true, false, cond, List, [], ◌∷◌, ◌++◌, length, drop, map, filter, get_or, Option, None, append_assoc, refl, sym, ap, ◌∙◌}
use Rattle.std.specs.Prelude.{not}
use Rattle.std.specs.List.{flat_map}
use Rattle.std.proofs.lemmas.List.{drop_more}
use Rattle.sv_ast.specs.declared.files.SourceFile.{SourceFile}
use Rattle.sv_ast.specs.declared.names.Ref.{Ref}
use Rattle.sv_ast.specs.declared.script_tree.Import.{Import}
use Rattle.sv_ast.specs.declared.script_tree.ImportName.{ImportName}
use Rattle.sv_ast.specs.declared.script_tree.Stmt.{Stmt}
use Rattle.sv_names.specs.NameMap.{Entries, with_entries}
use Rattle.sv_names.proofs.Entries.{with_entries_append}
use Rattle.sv_effects.specs.Known.{names_without, module_at, named_by, given_name, given_names}

-- ---- names that are added

-- the names of one more statement were added
pub points_more : (f : Stmt → Entries) (points more : Entries) (stmts : List Stmt) (i : ℕ) (s : Stmt) → i < length stmts → s ≡ get_or stmts i s → more ≡ with_entries points (f s)
    → with_entries points (flat_map f (drop i stmts)) ≡ with_entries more (flat_map f (drop (i + 1) stmts))
points_more f points more stmts i s within is e =
    let rest = flat_map f (drop (i + 1) stmts) in
    ap (λ l. with_entries points (flat_map f l)) (drop_more stmts i s within ∙ ap (λ x. x ∷ drop (i + 1) stmts) (sym is))
    ∙ with_entries_append points (f s) rest ∙ ap (λ k. with_entries k rest) (sym e)

pub named_cons : (points given : Entries) (s : ImportName) (specs : List ImportName)
    → with_entries points (flat_map (named_by given) (s ∷ specs)) ≡ with_entries (with_entries points (named_by given s)) (flat_map (named_by given) specs)
named_cons points given s specs = with_entries_append points (named_by given s) (flat_map (named_by given) specs)

-- an import of what is no module gives no functions
pub none_given : (given : List Entries) (specs : List ImportName) → flat_map (given_name given None) specs ≡ []
none_given given [] = refl
none_given given (s ∷ specs) = none_given given specs

pub nothing_given : (points : Entries) (files : List SourceFile) (given : List Entries) (i : Import) (from : List ℕ) → None ≡ module_at files from → from ≡ i.from → points ≡ with_entries points (given_names files given i)
nothing_given points files given i from n e =
    sym (ap (with_entries points) (ap (λ m. flat_map (given_name given m) i.names) (sym (n ∙ ap (module_at files) e)) ∙ none_given given i.names))

-- ---- names of others

next_name : (test : ℕ → Bool) (k : Ref × ℕ) (points : Entries) → names_without test (k ∷ points) ≡ cond (test k.1) [] (k.0 ∷ []) ++ names_without test points
next_name test k points = by (test k.1)
  where
    by : (b : Bool) → map (λ (p : Ref × ℕ). p.0) (cond (not b) (k ∷ filter (λ p. not (test p.1)) points) (filter (λ p. not (test p.1)) points)) ≡ cond b [] (k.0 ∷ []) ++ map (λ (p : Ref × ℕ). p.0) (filter (λ p. not (test p.1)) points)
    by true = refl
    by false = refl

-- one more name was put to the others, or passed over
pub names_more : (test : ℕ → Bool) (all names new : List Ref) (left rest : Entries) (k : Ref × ℕ) → all ≡ names ++ names_without test left → left ≡ k ∷ rest → new ≡ names ++ cond (test k.1) [] (k.0 ∷ []) → all ≡ new ++ names_without test rest
names_more test all names new left rest k a l n =
    a ∙ ap (λ z. names ++ names_without test z) l ∙ ap (λ z. names ++ z) (next_name test k rest) ∙ sym (append_assoc names (cond (test k.1) [] (k.0 ∷ [])) (names_without test rest)) ∙ ap (λ z. z ++ names_without test rest) (sym n)
