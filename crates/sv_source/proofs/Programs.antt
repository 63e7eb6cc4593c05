-- The functions of code, and those that are written in the pieces of a program, are alike.
use Rattle.std.proofs.Common.{◌≡◌, ℕ, List, [], ◌∷◌, ◌++◌, map, refl, sym, subst, ◌∙◌}
use Rattle.sv_ast.specs.declared.names.Ref.{Ref}
use Rattle.sv_ast.specs.declared.names.Ref.TheVariants.{Plain, Store}
use Rattle.sv_ast.specs.declared.script_tree.Expr.{Expr}
use Rattle.sv_ast.specs.declared.script_tree.Stmt.{Stmt}
use Rattle.sv_code.proofs.Each.{each_of}
use Rattle.sv_code.specs.Names.{Each}
use Rattle.sv_code.specs.declared.functions.Function.{Function}
use Rattle.sv_lower.specs.Lower.{of_expr, of_stmts, stmt_made}
use Rattle.sv_lower.specs.Tops.{Tops}
use Rattle.sv_meaning.specs.Calls.{Caller}
use Rattle.sv_meaning.specs.Env.{Env, numbers}
use Rattle.sv_meaning.specs.Functions.{Mode}
use Rattle.sv_meaning.specs.Functions as code
use Rattle.sv_meaning.specs.Sight.{Ground}
use Rattle.sv_meaning.specs.Statements.{run_all}
use Rattle.sv_meaning.specs.Values.{value}
use Rattle.sv_names.specs.Distinct.{has}
use Rattle.sv_names.specs.Locals.{name_of}
use Rattle.sv_names.specs.declared.uses.Use.{Use}
use Rattle.sv_world.specs.declared.world.World.{World}
use Rattle.sv_source.specs.Functions.{Acts, Fun, writable}
use Rattle.sv_source.specs.Functions as script
use Rattle.sv_source.specs.Open.{heads, is_among, AreOfTop}
use Rattle.sv_source.specs.Programs.{Piece, Script, Part, IsProper, code_behind, codes_behind, codes, code_writable, found_behind, all_behind, functions, Opens}
use Rattle.sv_source.specs.Script.{does, in_turn, of_tree, of_lines, stmt_told, expr_told}
use Rattle.sv_source.proofs.Alike.{AreAlike, IsFront, Agrees, LineAlike, SeenAlike}
use Rattle.sv_source.proofs.Calls.{caller_same}
use Rattle.sv_source.proofs.Lines.{means_of, turns_of}
use Rattle.sv_source.proofs.Names.{Stands, UsesTell, among_names, at_top}
use Rattle.sv_source.proofs.Scopes.{same_at}
use Rattle.sv_source.proofs.Tables.{Beside, just_agree, two_agree}
use Rattle.sv_source.proofs.Trees.{expr_means, stmt_means}

-- ---- names

-- nothing is open at the top
none_used : (us : List Use) → UsesTell [] [] us
none_used us = each_of (λ u. is_among [] u.name ≡ has u.name []) (λ u. none u.name) us
  where
    none : (n : Ref) → is_among [] n ≡ has n []
    none (Plain x) = refl
    none (Store x) = refl

-- where the names that are open are those that the scopes around declare
opens_stand : (xs : List ℕ) (locals : List Ref) → ((n : Ref) → is_among xs n ≡ has n locals) → Stands xs locals []
opens_stand xs locals h = record { plain = λ x. sym (h (Store x)); only = λ n e. sym (h n) ∙ e; tells = tt }

opens_used : (xs : List ℕ) (locals : List Ref) → ((n : Ref) → is_among xs n ≡ has n locals) → (us : List Use) → UsesTell xs locals us
opens_used xs locals h us = each_of (λ u. is_among xs u.name ≡ has u.name locals) (λ u. h u.name) us

-- ---- pieces

codes_append : (before after : List Piece) (p : Piece) (fs : List Function) → codes_behind (before ++ p ∷ after) fs ≡ codes_behind after (code_behind p (codes_behind before fs))
codes_append [] after p fs = refl
codes_append (b ∷ before) after p fs = codes_append before after p (code_behind b fs)

all_append : (before after : List Piece) (p : Piece) (ms : List Fun) → all_behind (before ++ p ∷ after) ms ≡ all_behind after (found_behind p (all_behind before ms))
all_append [] after p ms = refl
all_append (b ∷ before) after p ms = all_append before after p (found_behind b ms)

proper_front : (before after : List Piece) (p : Piece) → Each IsProper (before ++ p ∷ after) → Each IsProper before
proper_front [] after p h = tt
proper_front (b ∷ before) after p h = (h.0, proper_front before after p h.1)

proper_rest : (before after : List Piece) (p : Piece) → Each IsProper (before ++ p ∷ after) → Each IsProper (p ∷ after)
proper_rest [] after p h = h
proper_rest (b ∷ before) after p h = proper_rest before after p h.1

module _ (all : List Function) where
  pub lines_agree : (tops : Tops) → AreOfTop tops → (stmts : List Stmt) → Agrees all (Beside (LineAlike all [] [])) (of_stmts stmts tops []) (of_lines stmts tops [])
  lines_agree tops own [] = just_agree (IsFront all) (AreAlike all) (Beside (LineAlike all [] [])) [] [] tt
  lines_agree tops own (s ∷ stmts) =
      two_agree (IsFront all) (AreAlike all) (LineAlike all [] []) (Beside (LineAlike all [] [])) (Beside (LineAlike all [] [])) (λ y ys. y ∷ ys) (λ y ys. y ∷ ys) ((stmt_made s).makes tops []) ((stmt_told s).means tops []) (of_stmts stmts tops []) (of_lines stmts tops [])
      (λ a b c d h k. (h, k)) (stmt_means all tops own s [] [] [] at_top (none_used ((stmt_told s).found.uses []))) (lines_agree tops own stmts)

  pub tree_agrees : (tops : Tops) → AreOfTop tops → (xs : List ℕ) (locals : List Ref) → ((n : Ref) → is_among xs n ≡ has n locals) → (e : Expr) → Agrees all (SeenAlike all xs) (of_expr e tops locals) (of_tree e tops locals)
  tree_agrees tops own xs locals h e = expr_means all tops own e xs locals [] (opens_stand xs locals h) (opens_used xs locals h ((expr_told e).found []))

  -- what a piece adds
  record Adds (p : Piece) : Type 0 where
    grows : (fs : List Function) → IsFront all (code_behind p fs) → IsFront all fs
    both : (fs : List Function) (ms : List Fun) → IsFront all (code_behind p fs) → AreAlike all fs ms → AreAlike all (code_behind p fs) (found_behind p ms)

  adds : (p : Piece) → IsProper p → Adds p
  adds (Script tops stmts) h =
      let r : Agrees all (Beside (LineAlike all [] [])) (of_stmts stmts tops []) (of_lines stmts tops []) = lines_agree tops h stmts in
      record { grows = r.grows; both = λ fs ms front alike. (r.both fs ms front alike).0 }
  adds (Part tops locals e) h =
      let r : Agrees all (SeenAlike all (numbers (map name_of locals))) (of_expr e tops locals) (of_tree e tops locals) = tree_agrees tops h.0 (numbers (map name_of locals)) locals (among_names locals h.1) e in
      record { grows = r.grows; both = λ fs ms front alike. (r.both fs ms front alike).0 }

  all_grow : (pieces : List Piece) → Each IsProper pieces → (fs : List Function) → IsFront all (codes_behind pieces fs) → IsFront all fs
  all_grow [] h fs front = front
  all_grow (p ∷ pieces) h fs front = (adds p h.0).grows fs (all_grow pieces h.1 (code_behind p fs) front)

  all_alike : (pieces : List Piece) → Each IsProper pieces → (fs : List Function) (ms : List Fun) → IsFront all (codes_behind pieces fs) → AreAlike all fs ms → AreAlike all (codes_behind pieces fs) (all_behind pieces ms)
  all_alike [] h fs ms front alike = alike
  all_alike (p ∷ pieces) h fs ms front alike = all_alike pieces h.1 (code_behind p fs) (found_behind p ms) front ((adds p h.0).both fs ms (all_grow pieces h.1 (code_behind p fs) front) alike)

  first_alike : AreAlike all (code_writable ∷ []) (writable ∷ [])
  first_alike = (record { handed = refl; taken = refl; own = refl; acts = tt }, tt)

-- the functions of a program
pub table_alike : (pieces : List Piece) → Each IsProper pieces → AreAlike (codes pieces) (codes pieces) (functions pieces)
table_alike pieces h = all_alike (codes pieces) pieces h (code_writable ∷ []) (writable ∷ []) (λ n f e. e) (first_alike (codes pieces))

-- where one of the pieces stands
pub record Stood (before after : List Piece) (p : Piece) (all : List Function) : Type 0 where
  pub front : IsFront all (code_behind p (codes before))
  pub alike : AreAlike all (codes before) (functions before)

pub stood : (before after : List Piece) (p : Piece) → Each IsProper (before ++ p ∷ after) → Stood before after p (codes (before ++ p ∷ after))
stood before after p h =
    let all : List Function = codes (before ++ p ∷ after) in
    let there : IsFront all (codes_behind after (code_behind p (codes before))) = subst (IsFront all) (codes_append before after p (code_writable ∷ [])) (λ n f e. e) in
    let rest : Each IsProper (p ∷ after) = proper_rest before after p h in
    let front : IsFront all (code_behind p (codes before)) = all_grow all after rest.1 (code_behind p (codes before)) there in
    record { front = front; alike = all_alike all before (proper_front before after p h) (code_writable ∷ []) (writable ∷ []) ((adds all p rest.0).grows (codes before) front) (first_alike all) }

-- ---- the laws

pub tree_same : (before after : List Piece) (tops : Tops) (locals : List Ref) (e : Expr) → Each IsProper (before ++ Part tops locals e ∷ after) → (g : Ground) (call : Caller) (owner : ℕ) → g.program.functions ≡ codes (before ++ Part tops locals e ∷ after) → (env : Env) (w : World) → Opens env locals
    → value g call owner (of_expr e tops locals (codes before)).0 env w ≡ does ((of_tree e tops locals (functions before)).0.sees g call owner) env w
tree_same before after tops locals e h g call owner p env w o =
    let all : List Function = codes (before ++ Part tops locals e ∷ after) in
    let s : Stood before after (Part tops locals e) all = stood before after (Part tops locals e) h in
    let own : AreOfTop tops = (proper_rest before after (Part tops locals e) h).0.0 in
    let r : Agrees all (SeenAlike all (heads env)) (of_expr e tops locals) (of_tree e tops locals) = tree_agrees all tops own (heads env) locals o e in
    same_at (heads env) _ _ (means_of all (heads env) [] _ _ (r.both (codes before) (functions before) s.front s.alike).1 g call owner p) env w refl

pub lines_alike : (before after : List Piece) (tops : Tops) (stmts : List Stmt) → Each IsProper (before ++ Script tops stmts ∷ after)
    → Beside (LineAlike (codes (before ++ Script tops stmts ∷ after)) [] []) (of_stmts stmts tops [] (codes before)).0 (of_lines stmts tops [] (functions before)).0
lines_alike before after tops stmts h =
    let all : List Function = codes (before ++ Script tops stmts ∷ after) in
    let s : Stood before after (Script tops stmts) all = stood before after (Script tops stmts) h in
    ((lines_agree all tops (proper_rest before after (Script tops stmts) h).0 stmts).both (codes before) (functions before) s.front s.alike).1

pub calls_same : (pieces : List Piece) → Each IsProper pieces → (mode : Mode) (g : Ground) → g.program.functions ≡ codes pieces → (room : ℕ) → code.caller mode g room ≡ script.caller (functions pieces) mode g room
calls_same pieces h mode g p room = caller_same (codes pieces) (functions pieces) (table_alike pieces h) mode room g p

pub stmts_same : (before after : List Piece) (tops : Tops) (stmts : List Stmt) → Each IsProper (before ++ Script tops stmts ∷ after) → (g : Ground) (call : Caller) (owner : ℕ) → g.program.functions ≡ codes (before ++ Script tops stmts ∷ after) → (w : World)
    → run_all g call owner (of_stmts stmts tops [] (codes before)).0 [] w ≡ in_turn (of_lines stmts tops [] (functions before)).0 g call owner [] w
stmts_same before after tops stmts h g call owner p w = same_at [] _ _ (turns_of (codes (before ++ Script tops stmts ∷ after)) [] [] _ _ (lines_alike before after tops stmts h) g call owner p) [] w refl
