-- What the refusals of the parsers say.
use Rattle.std.proofs.Common.{◌≡◌, ◌≤◌, ◌-◌, ◌⊎◌, inl, inr, ℕ, Bool, true, false, cond, List, [], length, take, drop, refl, ap, sym, ◌∙◌, subst, arith, length-drop, length-append}
use Rattle.std.proofs.lemmas.List.{append-nil, take-append-drop}
use Rattle.std.proofs.lemmas.Str.{IsUtf8-from_is_utf8, is_utf8-from_IsUtf8}
use Rattle.std.specs.Prelude.{Ok, Err}
use Rattle.std.specs.Str.{IsUtf8, is_utf8}
use Rattle.sv_base.specs.declared.limits.TheConstants.{NEST_LIMIT}
use Rattle.sv_ast.specs.declared.refusals.Kind.{Kind}
use Rattle.sv_ast.specs.declared.refusals.Kind.TheVariants.{NotUtf8, TooDeep, NumberTooWide}
use Rattle.sv_ast.specs.declared.refusals.Refused.{Refused}
use Rattle.sv_lex.specs.Bytes.{stopped_at}
use Rattle.sv_lex.specs.Reader.{Input, Outcome, Parser}
use Rattle.sv_lex.proofs.Ends.{Ends}
use Rattle.sv_expr.specs.Laws.{IsLimited}
use Rattle.sv_expr.specs.Limits.{Limits, real}
use Rattle.sv_script.specs.Calls.{HasTree, input_of}
use Rattle.sv_script.specs.Closed.{ScriptAt, ModuleAt}
use Rattle.sv_script.specs.Laws.{Complete, Blamed, IsExpression, read_expression}
use Rattle.sv_script.specs.Script.{component, file_module, expression}
use Rattle.sv_script.proofs.Agree.{expression_complete, expression_blamed, script_complete, script_blamed, module_complete, module_blamed}
use Rattle.sv_markup.specs.Calls.{ComponentAt, ModuleFileAt, is_limit, of_text}
use Rattle.sv_markup.specs.Files.{top}
use Rattle.sv_markup.specs.Grammar.{TopAt}
use Rattle.sv_markup.proofs.Agree as markup
use Rattle.sv_blame.specs.Blame.{Blame, BlameFile, plainly, with_room, ExpressionRefusals, ScriptRefusals, ModuleScriptRefusals, ComponentRefusals, ModuleRefusals, SourceRefusals}
use Rattle.sv_blame.specs.Places.{Placed}
use Rattle.sv_blame.specs.Signs.{signs}
use Rattle.sv_blame.specs.Stands.{Stands}
use Rattle.sv_blame.proofs.Behind.{AtBehind, BadBehind, behind}
use Rattle.sv_blame.proofs.Causes.{IsWide, IsDeep, script_by_number, script_by_depth, module_by_number, module_by_depth, expression_by_number, expression_by_depth, top_by_number, top_by_depth, no_tree_but, not_wide, not_deep}
use Rattle.sv_blame.proofs.Frame.{Any, Tells}
use Rattle.sv_blame.proofs.Leaves.{Fine}
use Rattle.sv_blame.proofs.Scripts.{component_tells, module_tells, expression_tells}
use Rattle.sv_blame.proofs.Stands.{Room, frame}
use Rattle.sv_blame.proofs.Top.{top_tells}

-- a refusal is placed, where that is told
told : {A : Type 0} (At : Input → Type 0) (Bad : Refused → Type 0) (Q : A → Type 0) (i : Input) (r : Outcome A) (cause : Refused) → r ≡ Err cause → Tells At Bad Q i r → Bad cause
told At Bad Q i (Ok p) cause e h = absurd (cc)
told At Bad Q i (Err x) cause e h = let same : x ≡ cause = cc in subst Bad same h.is

-- ---- there is no tree

limits_by : (kind : Kind) → (kind ≡ TooDeep) ⊎ (kind ≡ NumberTooWide) → is_limit kind ≡ true
limits_by kind (inl e) = ap is_limit e
limits_by kind (inr e) = ap is_limit e

module _ {L A : Type 0} (read : L → Parser A) (Is : L → Input → A → Input → Type 0) (all : Complete read Is) (why : Blamed read Is)
    (limits : L) (i : Input) (r : Refused) (h : read limits i ≡ Err r) where
  no_tree : HasTree (Is limits) i → ⊥
  no_tree t = let both : ◌≡◌ {A = Outcome A} (Err r) (Ok (t.0, t.1)) = sym h ∙ all limits i t.1 t.0 t.2 in cc

  none_at_all : is_limit r.kind ≡ false → (wide : L) → HasTree (Is wide) i → ⊥
  none_at_all s wide t = by (why limits wide i t.1 t.0 t.2)
    where
      by : (read limits i ≡ Ok (t.0, t.1)) ⊎ IsLimited (read limits i) → ⊥
      by (inl g) = let both : ◌≡◌ {A = Outcome A} (Err r) (Ok (t.0, t.1)) = sym h ∙ g in cc
      by (inr l) =
          let both : ◌≡◌ {A = Outcome A} (Err l.0) (Err r) = sym l.1 ∙ h in let same : l.0 ≡ r = cc in
          let yes : is_limit r.kind ≡ true = subst (λ (e : Refused). is_limit e.kind ≡ true) same (limits_by l.0.kind l.2) in
          let no : true ≡ false = sym yes ∙ s in cc

  module _ (rank : L → Limits)
      (by_number : (wide : L) → (rank wide).nest ≤ (rank limits).nest → (rank wide).links ≤ (rank limits).links → (o : Input) (x : A) → Is wide i x o → Ends IsWide (read limits i) (x, o))
      (by_depth : (wide : L) → (rank wide).number ≤ (rank limits).number → (o : Input) (x : A) → Is wide i x o → Ends IsDeep (read limits i) (x, o)) where
    none_as_deep : r.kind ≡ TooDeep → (wide : L) → (rank wide).nest ≤ (rank limits).nest → (rank wide).links ≤ (rank limits).links → HasTree (Is wide) i → ⊥
    none_as_deep kind wide nest links t = no_tree_but IsWide (read limits i) r (t.0, t.1) h (not_wide r kind) (by_number wide nest links t.1 t.0 t.2)

    none_as_wide : r.kind ≡ NumberTooWide → (wide : L) → (rank wide).number ≤ (rank limits).number → HasTree (Is wide) i → ⊥
    none_as_wide kind wide number t = no_tree_but IsDeep (read limits i) r (t.0, t.1) h (not_deep r kind) (by_depth wide number t.1 t.0 t.2)

    -- where a tree has one of the rule in it
    blamed : {B : Type 0} (At : L → Input → B → Input → Type 0) → ((limits : L) → HasTree (At limits) i → HasTree (Is limits) i) → (bytes : List ℕ) → Placed bytes i.file r
        → i.at ≤ r.at.from
        → Blame rank At limits bytes i r
    blamed At inner bytes placed behind = record {
      placed = placed;
      behind = behind;
      none = λ t. no_tree (inner limits t);
      at_all = λ s wide t. none_at_all s wide (inner wide t);
      deep = λ s wide nest links t. none_as_deep s wide nest links (inner wide t);
      wide = λ s wide number t. none_as_wide s wide number (inner wide t);
    }

-- ---- expressions and scripts

room : (bytes : List ℕ) (p : ℕ) → Room bytes real.nest p
room bytes p = omega arith

take_size : (n : ℕ) (z : List ℕ) → n ≤ length z → length (take n z) ≡ n
take_size n z le = let parts = length-append (take n z) (drop n z) in let whole = ap length (take-append-drop n z) in let size = length-drop n z in omega arith

rest_stands : (file : ℕ) (bytes : List ℕ) (from : ℕ) (names : List (List ℕ)) → from ≤ length bytes → Stands bytes [] file (input_of file (drop from bytes) from names)
rest_stands file bytes from names within = let size = length-drop from bytes in record { text = append-nil (drop from bytes); size = omega arith; file = refl }

pub expression_refusals : ExpressionRefusals
expression_refusals file bytes from opened names cause within few signs h =
    let i = input_of file (drop from bytes) from names in
    let d = NEST_LIMIT - opened in
    let f = frame bytes [] file in
    let s = rest_stands file bytes from names within in
    let is = told (AtBehind f from) (BadBehind f from) (Fine (BadBehind f from)) _ (expression real d i) cause h
    (expression_tells real (behind f from) d i (s, omega arith) (omega (arith, few, signs))) in
    blamed read_expression IsExpression expression_complete expression_blamed (real, d) i cause h with_room
    (λ wide nest links o x t. expression_by_number real wide.0 d wide.1 nest links i o x t) (λ wide number o x t. expression_by_depth real wide.0 d wide.1 number i o x t)
    IsExpression (λ within t. t) bytes is.0 is.1

pub script_refusals : ScriptRefusals
script_refusals file bytes from to names cause order within h =
    let text = take to bytes in
    let i = input_of file (drop from text) from names in
    let f = frame text [] file in
    let size = take_size to bytes within in
    let s = rest_stands file text from names (omega arith) in
    let is = told (AtBehind f from) (BadBehind f from) Any i (component real i) cause h (component_tells real (behind f from) i (s, omega arith) (room text from)) in
    blamed component ScriptAt script_complete script_blamed real i cause h plainly
    (λ wide nest links o x t. script_by_number real wide nest links i o x t) (λ wide number o x t. script_by_depth real wide number i o x t)
    ScriptAt (λ within t. t) text is.0 is.1

module_placed : (file : ℕ) (bytes : List ℕ) (names : List (List ℕ)) (cause : Refused) → file_module real (input_of file bytes 0 names) ≡ Err cause → Placed bytes file cause
module_placed file bytes names cause h =
    let i = input_of file bytes 0 names in
    let At = Stands bytes [] file in let Bad = Placed bytes file in
    told At Bad Any i (file_module real i) cause h (module_tells real (frame bytes [] file) i (rest_stands file bytes 0 names (omega arith)) (room bytes 0))

-- where a tree has a module in it
module_blamed_in : {B : Type 0} (At : Limits → Input → B → Input → Type 0) (file : ℕ) (bytes : List ℕ) (names : List (List ℕ)) (cause : Refused)
    → ((limits : Limits) → HasTree (At limits) (input_of file bytes 0 names) → HasTree (ModuleAt limits) (input_of file bytes 0 names))
    → file_module real (input_of file bytes 0 names) ≡ Err cause → Blame plainly At real bytes (input_of file bytes 0 names) cause
module_blamed_in At file bytes names cause inner h =
    let i = input_of file bytes 0 names in
    blamed file_module ModuleAt module_complete module_blamed real i cause h plainly
    (λ wide nest links o x t. module_by_number real wide nest links i o x t) (λ wide number o x t. module_by_depth real wide number i o x t)
    At inner bytes (module_placed file bytes names cause h) (omega arith)

pub module_script_refusals : ModuleScriptRefusals
module_script_refusals file bytes names cause h = module_blamed_in ModuleAt file bytes names cause (λ limits t. t) h

-- ---- files

in_component : (limits : Limits) (i : Input) → HasTree (ComponentAt limits) i → HasTree (TopAt limits) i
in_component limits i t = (t.2.found, t.1, t.2.parts)

in_module : (limits : Limits) (i : Input) → HasTree (ModuleFileAt limits) i → HasTree (ModuleAt limits) i
in_module limits i t = (t.0.script.stmts, t.1, t.2.script)

no_text : (z : List ℕ) → is_utf8 z ≡ false → IsUtf8 z → ⊥
no_text z e u = let yes = is_utf8-from_IsUtf8 z u in let no : true ≡ false = sym yes ∙ e in cc

-- a file that is text is refused as its rule does, and another one as none
module _ {A B : Type 0} (rule : Parser A) (At : Limits → Input → B → Input → Type 0) (i : Input) (cause : Refused) (at : i.at ≤ 0) where
  abbrev of_text_by : (b : Bool) → Outcome A
  of_text_by b = cond b (rule i) (Err (stopped_at NotUtf8 0 i))

  no_text_blame : ((limits : Limits) → HasTree (At limits) i → IsUtf8 i.text) → is_utf8 i.text ≡ false → stopped_at NotUtf8 0 i ≡ cause → BlameFile At i cause
  no_text_blame texts bad same =
      let no : (limits : Limits) → HasTree (At limits) i → ⊥ = (λ limits t. no_text i.text bad (texts limits t)) in
      subst (BlameFile At i) same (record {
        blame = record {
          placed = record { file = refl; order = omega arith; within = omega arith; written = no_text i.text bad };
          behind = at;
          none = no real;
          at_all = λ s wide t. no wide t;
          deep = λ s wide nest links t. no wide t;
          wide = λ s wide number t. no wide t;
        };
        text = λ n. refl;
      })

  file_blame : ((limits : Limits) → HasTree (At limits) i → IsUtf8 i.text) → (rule i ≡ Err cause → Blame plainly At real i.text i cause) → of_text rule i ≡ Err cause
      → BlameFile At i cause
  file_blame texts blame h = by (is_utf8 i.text) refl h
    where
      by : (b : Bool) → is_utf8 i.text ≡ b → of_text_by b ≡ Err cause → BlameFile At i cause
      by true e h = record { blame = blame h; text = λ n. absurd (n (IsUtf8-from_is_utf8 i.text e)) }
      by false e h = no_text_blame texts e (let same : stopped_at NotUtf8 0 i ≡ cause = cc in same)

pub component_refusals : ComponentRefusals
component_refusals file bytes names cause h =
    let i = input_of file bytes 0 names in
    let At = Stands bytes [] file in let Bad = Placed bytes file in
    file_blame (top real) ComponentAt i cause (omega arith) (λ limits t. t.2.text)
    (λ h. blamed top TopAt markup.complete markup.blamed real i cause h plainly
    (λ wide nest links o x t. top_by_number real wide nest links i o x t) (λ wide number o x t. top_by_depth real wide number i o x t)
    ComponentAt (λ limits t. in_component limits i t) bytes
    (told At Bad Any i (top real i) cause h (top_tells bytes file i (rest_stands file bytes 0 names (omega arith)))) (omega arith)) h

pub module_refusals : ModuleRefusals
module_refusals file bytes names cause h =
    let i = input_of file bytes 0 names in
    file_blame (file_module real) ModuleFileAt i cause (omega arith) (λ limits t. t.2.text)
    (λ h. module_blamed_in ModuleFileAt file bytes names cause (λ limits t. in_module limits i t) h) h

pub source_refusals : SourceRefusals
source_refusals file bytes names cause = (λ h. component_refusals file bytes names cause h.told, λ h. module_refusals file bytes names cause h.told)
