-- What expressions and statements of each form do, by what their parts do.
use Rattle.std.proofs.Common.{◌≡◌, ℕ, [], ◌∷◌, ◌++◌, append_assoc, refl, sym, ap, ◌∙◌, Bool, List, map, Option, None}
use Rattle.std.proofs.lemmas.List.{append-nil, map-append}
use Rattle.sv_ast.specs.declared.operators.AssignOp.{AssignOp}
use Rattle.sv_ast.specs.declared.operators.Op.{Op}
use Rattle.sv_ast.specs.declared.operators.Op.TheVariants.{Div}
use Rattle.sv_base.specs.declared.names.Name.{Name}
use Rattle.sv_base.specs.declared.span.Span.{Span}
use Rattle.sv_code.specs.declared.code.Code.{Code, fold_out-Code}
use Rattle.sv_code.specs.declared.code.CodeField.{CodeField}
use Rattle.sv_code.specs.declared.code.CodeItem.{CodeItem}
use Rattle.sv_code.specs.declared.code.CodeLink.{CodeLink, fold_out-CodeLink}
use Rattle.sv_code.specs.declared.code.CodeKind
use Rattle.sv_code.specs.declared.code.CodeKind.{CodeKind as AnyKind, CodeKind-F, fold-roll-CodeKind}
use Rattle.sv_code.specs.declared.functions.CodeStmt.{CodeStmt, fold_out-CodeStmt}
use Rattle.sv_code.specs.declared.functions.CodeStmtKind
use Rattle.sv_code.specs.declared.functions.CodeStmtKind.{CodeStmtKind as AnyStmt, CodeStmtKind-F, fold-roll-CodeStmtKind}
use Rattle.sv_code.specs.declared.known.Known.{Known}
use Rattle.sv_ops.specs.Answer.{list_made, object_made}
use Rattle.sv_value.specs.Value.{Val}
use Rattle.sv_world.specs.declared.world.World.{World}
use Rattle.sv_meaning.specs.Context.{ground_of, calls_of, expr_in, value_in, item_in, field_in, link_in, kind_in, run_in, doing_in}
use Rattle.sv_meaning.specs.Env.{Env, opened}
use Rattle.sv_meaning.specs.Outcome.{Meaning, Flow, and_then, doing, counted, answered}
use Rattle.sv_meaning.specs.Statements.{Doing, Counts, Arm, done, scoped, in_order, stmt_kind_step, arm_step, stmt_step}
use Rattle.sv_meaning.specs.Values.{Expr, Link, Ratio, Puts, plain, chain, dividing, last_division, parts_after, template_step, assign_step, bump_step, call_step, dispatcher_step, field_step, item_step, kind_step, code_step, link_step}
use Rattle.sv_meaning.specs.declared.context.Context.{Context}

-- an expression by its form, which takes a step
pub value_is : (c : Context) (e : Code) → value_in c e ≡ counted e.span (kind_in c e.kind e.span).means
value_is c e = ap (λ x. x.means) (fold_out-Code (Puts (List ℕ × Val)) (Puts Val) (Span → Expr) Expr Link field_step item_step (kind_step (ground_of c) (calls_of c) c.owner.number) (code_step (ground_of c) (calls_of c) c.owner.number) link_step e)

-- the place of an expression
pub span_is : (c : Context) (e : Code) → (expr_in c e).span ≡ e.span
span_is c e = ap (λ x. x.span) (fold_out-Code (Puts (List ℕ × Val)) (Puts Val) (Span → Expr) Expr Link field_step item_step (kind_step (ground_of c) (calls_of c) c.owner.number) (code_step (ground_of c) (calls_of c) c.owner.number) link_step e)

pub list_is : (c : Context) (k : AnyKind) (ps : List CodeItem) (s : Span) → k ≡ CodeKind.List ps → kind_in c k s ≡ plain s (λ env w. and_then (parts_after s [] (map (item_in c) ps) env w) (λ vs. doing (answered s (list_made vs))))
unfolding CodeKind.roll-CodeKind denote.Hole.Carrier.roll
list_is c k ps s i =
    ap (λ z. kind_in c z s) i
    ∙ ap (λ m. m s) (fold-roll-CodeKind (Puts (List ℕ × Val)) (Puts Val) (Span → Expr) Expr Link field_step item_step (kind_step (ground_of c) (calls_of c) c.owner.number) (code_step (ground_of c) (calls_of c) c.owner.number) link_step (CodeKind-F.List ps))

pub object_is : (c : Context) (k : AnyKind) (ps : List CodeField) (s : Span) → k ≡ CodeKind.Object ps → kind_in c k s ≡ plain s (λ env w. and_then (parts_after s [] (map (field_in c) ps) env w) (λ es. doing (answered s (object_made es))))
unfolding CodeKind.roll-CodeKind denote.Hole.Carrier.roll
object_is c k ps s i =
    ap (λ z. kind_in c z s) i
    ∙ ap (λ m. m s) (fold-roll-CodeKind (Puts (List ℕ × Val)) (Puts Val) (Span → Expr) Expr Link field_step item_step (kind_step (ground_of c) (calls_of c) c.owner.number) (code_step (ground_of c) (calls_of c) c.owner.number) link_step (CodeKind-F.Object ps))

pub template_is : (c : Context) (k : AnyKind) (es : List Code) (s : Span) → k ≡ CodeKind.Template es → kind_in c k s ≡ plain s (template_step s (map (expr_in c) es))
unfolding CodeKind.roll-CodeKind denote.Hole.Carrier.roll
template_is c k es s i =
    ap (λ z. kind_in c z s) i
    ∙ ap (λ m. m s) (fold-roll-CodeKind (Puts (List ℕ × Val)) (Puts Val) (Span → Expr) Expr Link field_step item_step (kind_step (ground_of c) (calls_of c) c.owner.number) (code_step (ground_of c) (calls_of c) c.owner.number) link_step (CodeKind-F.Template es))

pub called_is : (c : Context) (k : AnyKind) (of : Code) (args : List Code) (s : Span) → k ≡ CodeKind.Call of args → kind_in c k s ≡ plain s (call_step (expr_in c of).callee (ground_of c) (calls_of c) c.owner.number (expr_in c of) (map (expr_in c) args) s)
unfolding CodeKind.roll-CodeKind denote.Hole.Carrier.roll
called_is c k of args s i =
    ap (λ z. kind_in c z s) i
    ∙ ap (λ m. m s) (fold-roll-CodeKind (Puts (List ℕ × Val)) (Puts Val) (Span → Expr) Expr Link field_step item_step (kind_step (ground_of c) (calls_of c) c.owner.number) (code_step (ground_of c) (calls_of c) c.owner.number) link_step (CodeKind-F.Call of args))

pub dispatcher_is : (c : Context) (k : AnyKind) (n : ℕ) (at : Span) (args : List Code) (s : Span) → k ≡ CodeKind.Dispatcher n at args → kind_in c k s ≡ plain s (dispatcher_step n c.owner.number at s (map (expr_in c) args))
unfolding CodeKind.roll-CodeKind denote.Hole.Carrier.roll
dispatcher_is c k n at args s i =
    ap (λ z. kind_in c z s) i
    ∙ ap (λ m. m s) (fold-roll-CodeKind (Puts (List ℕ × Val)) (Puts Val) (Span → Expr) Expr Link field_step item_step (kind_step (ground_of c) (calls_of c) c.owner.number) (code_step (ground_of c) (calls_of c) c.owner.number) link_step (CodeKind-F.Dispatcher n at args))

pub assign_is : (c : Context) (k : AnyKind) (x : Known) (at : Span) (op : AssignOp) (e : Code) (s : Span) → k ≡ CodeKind.Assign x at op e → kind_in c k s ≡ plain s (assign_step op (ground_of c) (calls_of c) c.owner.number x at s (value_in c e))
unfolding CodeKind.roll-CodeKind denote.Hole.Carrier.roll
assign_is c k x at op e s i =
    ap (λ z. kind_in c z s) i
    ∙ ap (λ m. m s) (fold-roll-CodeKind (Puts (List ℕ × Val)) (Puts Val) (Span → Expr) Expr Link field_step item_step (kind_step (ground_of c) (calls_of c) c.owner.number) (code_step (ground_of c) (calls_of c) c.owner.number) link_step (CodeKind-F.Assign x at op e))

pub bump_is : (c : Context) (k : AnyKind) (x : Known) (at : Span) (up prefix : Bool) (s : Span) → k ≡ CodeKind.Bump x at up prefix → kind_in c k s ≡ plain s (bump_step (ground_of c) (calls_of c) c.owner.number x at up prefix s)
unfolding CodeKind.roll-CodeKind denote.Hole.Carrier.roll
bump_is c k x at up prefix s i =
    ap (λ z. kind_in c z s) i
    ∙ ap (λ m. m s) (fold-roll-CodeKind (Puts (List ℕ × Val)) (Puts Val) (Span → Expr) Expr Link field_step item_step (kind_step (ground_of c) (calls_of c) c.owner.number) (code_step (ground_of c) (calls_of c) c.owner.number) link_step (CodeKind-F.Bump x at up prefix))

-- a statement by its form
pub run_is : (c : Context) (s : CodeStmt) → run_in c s ≡ done (doing_in c s.kind) s.span
run_is c s = fold_out-CodeStmt Doing Arm (Meaning Flow) (stmt_kind_step (ground_of c) (calls_of c) c.owner.number) (arm_step (ground_of c) (calls_of c) c.owner.number) (stmt_step (ground_of c) (calls_of c) c.owner.number) s

pub block_does : (c : Context) (k : AnyStmt) (names : List Name) (stmts : List CodeStmt) → k ≡ CodeStmtKind.Block names stmts → doing_in c k ≡ Counts (λ s. scoped (opened names) (in_order (map (run_in c) stmts)))
unfolding CodeStmtKind.roll-CodeStmtKind denote.Hole.Carrier.roll
block_does c k names stmts i =
    ap (doing_in c) i
    ∙ fold-roll-CodeStmtKind Doing Arm (Meaning Flow) (stmt_kind_step (ground_of c) (calls_of c) c.owner.number) (arm_step (ground_of c) (calls_of c) c.owner.number) (stmt_step (ground_of c) (calls_of c) c.owner.number) (CodeStmtKind-F.Block names stmts)

-- whether an expression is a quotient
pub chain_ratio : (c : Context) (e : Code) (first : Code) (rest : List CodeLink) → e.kind ≡ CodeKind.Chain first rest → (expr_in c e).ratio ≡ last_division e.span (value_in c first) [] (map (link_in c) rest)
unfolding CodeKind.roll-CodeKind denote.Hole.Carrier.roll
chain_ratio c e first rest i =
    ap (λ x. x.ratio) (fold_out-Code (Puts (List ℕ × Val)) (Puts Val) (Span → Expr) Expr Link field_step item_step (kind_step (ground_of c) (calls_of c) c.owner.number) (code_step (ground_of c) (calls_of c) c.owner.number) link_step e)
    ∙ ap (λ z. (kind_in c z e.span).ratio) i
    ∙ ap (λ m. (m e.span).ratio) (fold-roll-CodeKind (Puts (List ℕ × Val)) (Puts Val) (Span → Expr) Expr Link field_step item_step (kind_step (ground_of c) (calls_of c) c.owner.number) (code_step (ground_of c) (calls_of c) c.owner.number) link_step (CodeKind-F.Chain first rest))

-- the operator of a link, and its right side
pub link_is : (c : Context) (l : CodeLink) → link_in c l ≡ record { op = l.op; right = value_in c l.right }
link_is c l = fold_out-CodeLink (Puts (List ℕ × Val)) (Puts Val) (Span → Expr) Expr Link field_step item_step (kind_step (ground_of c) (calls_of c) c.owner.number) (code_step (ground_of c) (calls_of c) c.owner.number) link_step l

-- the operators behind a value, the last of them apart
pub last_division_is : (s : Span) (m : Meaning Val) (before links : List Link) (l : Link) → last_division s m before (links ++ l ∷ []) ≡ dividing l.op (record { top = chain s m (before ++ links); bottom = l.right })
last_division_is s m before [] l = rw append-nil refl
last_division_is s m before (x ∷ []) l = last_division_is s m (before ++ x ∷ []) [] l ∙ rw (append-nil) refl
last_division_is s m before (x ∷ (y ∷ xs)) l = last_division_is s m (before ++ x ∷ []) (y ∷ xs) l ∙ rw append_assoc refl

pub quotient_is : (c : Context) (e first : Code) (rest before : List CodeLink) (last : CodeLink) → e.kind ≡ CodeKind.Chain first rest → rest ≡ before ++ last ∷ [] → (expr_in c e).ratio ≡ dividing last.op (record { top = chain e.span (value_in c first) (map (link_in c) before); bottom = value_in c last.right })
quotient_is c e first rest before last i j =
    chain_ratio c e first rest i
    ∙ ap (λ z. last_division e.span (value_in c first) [] (map (link_in c) z)) j
    ∙ ap (λ z. last_division e.span (value_in c first) [] z) (map-append (link_in c) before (last ∷ []))
    ∙ last_division_is e.span (value_in c first) [] (map (link_in c) before) (link_in c last)
    ∙ ap (λ l. dividing l.op (record { top = chain e.span (value_in c first) (map (link_in c) before); bottom = l.right })) (link_is c last)

pub not_dividing : (op : Op) (r : Ratio) → (op ≡ Div → ⊥) → dividing op r ≡ None
not_dividing Div r h = absurd (h refl)
not_dividing _ r h = refl
