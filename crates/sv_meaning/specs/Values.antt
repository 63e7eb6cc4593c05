-- What expressions do (ECMA-262, section 13, in the subset that docs/language.md gives). Each node takes a step before its parts.
use Rattle.std.specs.Prelude.{ℕ, Bool, true, false, not, ◌&&◌, List, [], ◌∷◌, ◌++◌, length, map, Option, Some, None, is_some, option_and_then, slice_get, if◌then◌else◌}
use Rattle.sv_ast.specs.declared.operators.AssignOp.{AssignOp}
use Rattle.sv_ast.specs.declared.operators.AssignOp.TheVariants.{Set}
use Rattle.sv_ast.specs.declared.operators.Op.{Op}
use Rattle.sv_ast.specs.declared.operators.Op.TheVariants.{Div}
use Rattle.sv_base.specs.declared.names.Name.{Name}
use Rattle.sv_base.specs.declared.span.Span.{Span}
use Rattle.sv_code.specs.declared.code.Code.{Code, Code-F, fold-Code}
use Rattle.sv_code.specs.declared.code.CodeField.{CodeField, CodeField-F, fold-CodeField}
use Rattle.sv_code.specs.declared.code.CodeItem.{CodeItem, CodeItem-F, fold-CodeItem}
use Rattle.sv_code.specs.declared.code.CodeKind.{CodeKind, CodeKind-F, fold-CodeKind}
use Rattle.sv_code.specs.declared.code.CodeLink.{CodeLink, CodeLink-F, fold-CodeLink}
use Rattle.sv_code.specs.declared.functions.Function.{Function}
use Rattle.sv_code.specs.declared.known.BuiltIn.{BuiltIn}
use Rattle.sv_code.specs.declared.known.BuiltIn.TheVariants as built
use Rattle.sv_code.specs.declared.known.Known.{Known}
use Rattle.sv_code.specs.declared.known.Known.TheVariants as known
use Rattle.sv_code.specs.declared.known.Life.{Life}
use Rattle.sv_code.specs.declared.known.Life.TheVariants as life
use Rattle.sv_code.specs.declared.known.Method.{Method}
use Rattle.sv_code.specs.declared.known.Method.TheVariants as method
use Rattle.sv_code.specs.declared.known.Property.{Property}
use Rattle.sv_instance.specs.Callbacks.{with_callback}
use Rattle.sv_instance.specs.declared.callbacks.When.{When}
use Rattle.sv_instance.specs.declared.callbacks.When.TheVariants as when
use Rattle.sv_ops.specs.Answer.{Answer, Refuses, gives, spelled, text_made, list_made, object_made, function_made}
use Rattle.sv_ops.specs.Math.{to_text, to_boolean}
use Rattle.sv_ops.specs.Members.{Spread, Takes, TakesNone, member, length_of, index, spread, spread_fields, or_undefined}
use Rattle.sv_ops.specs.Numbers.{bumped, negated, quotient}
use Rattle.sv_ops.specs.Operators.{binary, stops, assigned}
use Rattle.sv_ops.specs.Texts.{between}
use Rattle.sv_ops.specs.declared.faults.FaultKind.TheVariants.{NotAFunction, NoMember, NotText, BadKey, UseBeforeInit}
use Rattle.sv_states.specs.Context.{context_of}
use Rattle.sv_states.specs.States.{is_derived}
use Rattle.sv_value.specs.Change.{truthy}
use Rattle.sv_value.specs.Key.{key_of}
use Rattle.sv_value.specs.Object.{get}
use Rattle.sv_value.specs.Value.{Val, undefined, null, boolean, number, text, list, object, store, items}
use Rattle.sv_value.specs.Words.{text_of}
use Rattle.sv_value.specs.declared.key.Key.{Key}
use Rattle.sv_world.specs.Setup.{set_up}
use Rattle.sv_meaning.specs.Calls.{Caller, call_value, first, second, is_function, is_on_list, is_on_text, is_on_store, is_of_math, on_list, on_text, on_store, of_math, log, make_store, make_derived}
use Rattle.sv_meaning.specs.Env.{Env, look}
use Rattle.sv_meaning.specs.Outcome.{Ends, Fails, Done, Failed, Meaning, Deed, and_then, kept, doing, given, either, counted, spent, answered}
use Rattle.sv_meaning.specs.Sight.{Ground, read, set}

-- ---- what is made of the parts of an expression

-- what a part puts behind the items or the fields so far, in a literal at a place
abbrev pub Puts : Type 0 → Type 0
Puts A = Span → List A → Meaning (List A)

-- an operator with its right side
pub record Link : Type 0 where
  pub op : Op
  pub right : Meaning Val

-- how an expression is called: as a value; as what `svelte` gives; as `writable`; as `derived`; as `String` or `Boolean`; or as a member of an
-- expression, which may be `Math` or `console`
pub data Callee : Type 0 where
  Plain : Callee
  Lives : Life → Callee
  Stores : Callee
  Derives : Callee
  Converts : BuiltIn → Callee
  On : Option BuiltIn → Meaning Val → Property → Callee

-- a chain whose last operator is `/`: what is divided, and by what
pub record Ratio : Type 0 where
  pub top : Meaning Val
  pub bottom : Meaning Val

-- an expression: its place, what it does, how it is called, whether it is `Math` or `console`, and whether it is a quotient
pub record Expr : Type 0 where
  pub span : Span
  pub means : Meaning Val
  pub callee : Callee
  pub built : Option BuiltIn
  pub ratio : Option Ratio

-- an expression that is only evaluated
abbrev pub plain : Span → Meaning Val → Expr
plain s m = record { span = s; means = m; callee = Plain; built = None; ratio = None }

-- the values of expressions from left to right, behind some
abbrev pub all_after : List Val → List (Meaning Val) → Meaning (List Val)
all_after vs [] env w = Done vs env w
all_after vs (m ∷ ms) env w = and_then (m env w) (λ v. all_after (vs ++ v ∷ []) ms)

abbrev pub all_values : List Expr → Meaning (List Val)
all_values es = all_after [] (map (λ e. e.means) es)

-- what is done with the values of the arguments
abbrev pub with_args : List Expr → (List Val → Deed Val) → Meaning Val
with_args args go env w = and_then (all_values args env w) (λ vs. doing (go vs))

-- the text of a value that has one
abbrev pub texted_at : Span → Val → Deed (List ℕ)
texted_at s v = given NotText s (text_of v)

-- the texts of expressions from left to right, behind some, for a template at a place: each is made before the next expression is evaluated
abbrev pub texts_after : Span → List (List ℕ) → List (Meaning Val) → Meaning (List (List ℕ))
texts_after s ts [] env w = Done ts env w
texts_after s ts (m ∷ ms) env w = and_then (m env w) (λ v env' w'. and_then (kept env' (texted_at s v w')) (λ t. texts_after s (ts ++ t ∷ []) ms))

abbrev pub all_texts : Span → List Expr → Meaning (List (List ℕ))
all_texts s es = texts_after s [] (map (λ e. e.means) es)

-- a template: the texts of its parts, joined
abbrev pub template_step : Span → List Expr → Meaning Val
template_step s es env w = and_then (all_texts s es env w) (λ ts. doing (answered s (spelled 0 (between [] ts))))

-- ---- names, members and literals

abbrev pub word_at : Option (List ℕ) → List ℕ
word_at None = []
word_at (Some t) = t

-- the text of a property's word
abbrev pub word_of : Ground → Property → List ℕ
word_of g p = word_at (slice_get g.program.names p.name.0)

abbrev pub member_of : Option Method → Val → List ℕ → Answer
member_of (Some method.Length) v word = length_of v word
member_of _ v word = member v word

abbrev pub put_all : {A : Type 0} → Spread A → Span → List A → Deed (List A)
put_all (Takes xs) s made w = spent (length xs) s (Ends (made ++ xs)) w
put_all (TakesNone k) s made w = Fails k s w

-- an item or a field that is put in takes a step
abbrev pub put_one : {A : Type 0} → Span → List A → A → Deed (List A)
put_one s made x w = spent 1 s (Ends (made ++ x ∷ [])) w

abbrev pub item_step : {E : Type 0} → CodeItem-F (Puts (List ℕ × Val)) (Puts Val) E Expr Link → Puts Val
item_step (CodeItem-F.One e) s made env w = and_then (e.means env w) (λ v. doing (put_one s made v))
item_step (CodeItem-F.«CodeItem::Spread» e) s made env w = and_then (e.means env w) (λ v. doing (put_all (spread v) e.span made))

abbrev pub field_step : {E : Type 0} → CodeField-F (Puts (List ℕ × Val)) (Puts Val) E Expr Link → Puts (List ℕ × Val)
field_step (CodeField-F.Pair key e) s made env w = and_then (e.means env w) (λ v. doing (put_one s made (key, v)))
field_step (CodeField-F.«CodeField::Spread» e) s made env w = and_then (e.means env w) (λ v. doing (put_all (spread_fields v) e.span made))

abbrev pub parts_after : {A : Type 0} → Span → List A → List (Puts A) → Meaning (List A)
parts_after s made [] env w = Done made env w
parts_after s made (p ∷ ps) env w = and_then (p s made env w) (λ made'. parts_after s made' ps)

abbrev pub link_step : {A B C : Type 0} → CodeLink-F A B C Expr Link → Link
link_step l = record { op = l.op; right = l.right.means }

-- ---- chains

abbrev pub linked : Bool → Link → Span → Val → Meaning Val
linked true l s v env w = Done v env w
linked false l s v env w = and_then (l.right env w) (λ u. doing (answered s (binary l.op v u)))

-- what the operators behind a value make of it
abbrev pub chained : Span → Val → List Link → Meaning Val
chained s v [] env w = Done v env w
chained s v (l ∷ ls) env w = and_then (linked (stops l.op v) l s v env w) (λ u. chained s u ls)

abbrev pub chain : Span → Meaning Val → List Link → Meaning Val
chain s m ls env w = and_then (m env w) (λ v. chained s v ls)

-- the last operator where it is `/`, and what stands before it
abbrev pub dividing : Op → Ratio → Option Ratio
dividing Div r = Some r
dividing _ r = None

abbrev pub last_division : Span → Meaning Val → List Link → List Link → Option Ratio
last_division s m before [] = None
last_division s m before (l ∷ []) = dividing l.op (record { top = chain s m before; bottom = l.right })
last_division s m before (l ∷ (k ∷ ls)) = last_division s m (before ++ l ∷ []) (k ∷ ls)

-- ---- members and dispatchers

-- an item or a field by the value of an expression
abbrev pub indexed : Span → Meaning Val → Meaning Val → Meaning Val
indexed s m n env w = and_then (m env w) (λ v env' w'. and_then (n env' w') (λ k. doing (answered s (index v k))))

-- a call of `createEventDispatcher`, which stands at a place, gives a function; what it is handed is evaluated and dropped
abbrev pub dispatcher_step : (code owner : ℕ) → (at : Span) → Span → List Expr → Meaning Val
dispatcher_step c owner at s args = counted at (with_args args (λ vs. answered s (function_made c owner [])))

-- ---- arrows

-- the values of names, behind some, where each has one
abbrev pub captured_after : List Val → List Name → Env → Option (List Val)
captured_after vs [] env = Some vs
captured_after vs (x ∷ xs) env = option_and_then (λ v. captured_after (vs ++ v ∷ []) xs env) (look x.0 env)

abbrev pub holding : (code owner : ℕ) → Option (List Val) → Answer
holding c o None = Refuses UseBeforeInit
holding c o (Some vs) = function_made c o vs

-- the function that an arrow makes
abbrev pub arrow : Option Function → (code owner : ℕ) → Env → Answer
arrow None c o env = gives undefined
arrow (Some f) c o env = holding c o (captured_after [] f.captured env)

-- ---- assignments of names that stand at a place

-- the value of a name and an operand give the name a new one
abbrev pub updated : Ground → Caller → ℕ → Known → (at : Span) → AssignOp → Span → Val → Meaning Val → Meaning Val
updated g call owner x at op s a m env w = and_then (m env w) (λ b env' w'. and_then (kept env' (answered s (assigned op a b) w')) (λ v. set g call owner x v at))

abbrev pub assign_step : AssignOp → Ground → Caller → ℕ → Known → (at : Span) → Span → Meaning Val → Meaning Val
assign_step Set g call owner x at s m env w = and_then (m env w) (λ v. set g call owner x v at)
assign_step op g call owner x at s m env w = and_then (read g owner x at env w) (λ a. updated g call owner x at op s a m)

abbrev pub bump_step : Ground → Caller → ℕ → Known → (at : Span) → (up prefix : Bool) → Span → Meaning Val
bump_step g call owner x at up prefix s env w =
    and_then (read g owner x at env w) (λ a env' w'. and_then (kept env' (answered s (bumped up a) w')) (λ v env'' w''. and_then (set g call owner x v at env'' w'') (λ u. Done (if prefix then v else a))))

-- ---- calls

-- a function that runs at a moment of the life of the owner
abbrev pub call_at : When → ℕ → Span → Val → Deed Val
call_at at owner s f w = if is_function f then Ends undefined (set_up (λ u. record u { callbacks = with_callback at f u.callbacks }) w owner) else Fails NotAFunction s w

abbrev pub keyed : Option Key → Span → (Key → Deed Val) → Deed Val
keyed None s go w = Fails BadKey s w
keyed (Some k) s go w = go k w

abbrev pub with_key : Span → Val → (Key → Deed Val) → Deed Val
with_key s v go = keyed (key_of v) s go

abbrev pub context_set : ℕ → Val → Key → Deed Val
context_set owner v k w = Ends v (set_up (λ u. record u { contexts = record { key = k; value = v } ∷ u.contexts }) w owner)

-- what `svelte` gives, called
abbrev pub life_call : Life → ℕ → Span → List Val → Deed Val
life_call life.OnMount owner s args = call_at when.Mount owner s (first args)
life_call life.BeforeUpdate owner s args = call_at when.Before owner s (first args)
life_call life.AfterUpdate owner s args = call_at when.After owner s (first args)
life_call life.OnDestroy owner s args = call_at when.Destroy owner s (first args)
life_call life.SetContext owner s args = with_key s (first args) (context_set owner (second args))
life_call life.GetContext owner s args = with_key s (first args) (λ k w. Ends (or_undefined (context_of w.states owner k)) w)
life_call life.CreateEventDispatcher owner s args = Ends undefined

abbrev pub convert : BuiltIn → Val → Answer
convert built.String v = to_text v
convert built.Boolean v = to_boolean v
convert _ v = gives undefined

-- `Math.floor` and `Math.trunc` of a quotient
abbrev pub rounds : Option Method → Option Bool
rounds (Some method.Trunc) = Some true
rounds (Some method.Floor) = Some false
rounds _ = None

-- whether there is a method, and it is one of some
abbrev pub is_one : (Method → Bool) → Option Method → Bool
is_one p None = false
is_one p (Some m) = p m

abbrev pub divide : Bool → Span → Span → Ratio → Meaning Val
divide truncates s at r = counted at (λ env w. and_then (r.top env w) (λ a env' w'. and_then (r.bottom env' w') (λ b. doing (answered s (quotient truncates a b)))))

abbrev pub math_call : Option Method → Span → Span → List Expr → Meaning Val
math_call (Some m) s at args = either (is_of_math m) (with_args args (λ vs. answered s (of_math m vs))) (λ env w. Failed NoMember at w)
math_call None s at args = λ env w. Failed NoMember at w

abbrev pub ratio_or : Option Ratio → Bool → Span → Span → Meaning Val → Meaning Val
ratio_or (Some r) truncates s at other = divide truncates s at r
ratio_or None truncates s at other = other

abbrev pub divided_or : Option Bool → Option Method → Span → Span → List Expr → Meaning Val
divided_or (Some truncates) m s at (e ∷ []) = ratio_or e.ratio truncates s e.span (math_call m s at (e ∷ []))
divided_or _ m s at args = math_call m s at args

-- a call of a method of `Math` or `console`; faults of the member stand at it
abbrev pub built_call : BuiltIn → Option Method → Span → Span → List Expr → Meaning Val
built_call built.Math m s at args = divided_or (rounds m) m s at args
built_call built.Console (Some method.Log) s at args = with_args args (log s)
built_call _ m s at args = λ env w. Failed NoMember at w

-- a call of a field; a pure evaluation calls none
abbrev pub field_call : Bool → Caller → Span → Val → List Val → Deed Val
field_call true call s f vs w = Fails NotAFunction s w
field_call false call s f vs w = call_value call s f vs w

-- a member that is called although it is no method: its value is
abbrev pub value_call : Ground → Caller → Val → Property → Span → Span → List Expr → Meaning Val
value_call g call v p s at args env w = and_then (kept env (answered at (member_of p.method v (word_of g p)) w)) (λ f. with_args args (call_value call s f))

-- a method that there is, called with the values of the arguments
abbrev pub named_call : Option Method → List Expr → (Method → List Val → Deed Val) → Meaning Val
named_call None args go = Done undefined
named_call (Some m) args go = with_args args (go m)

-- a call of a member of a value, which is looked at before the arguments; a derived store has no methods
abbrev pub method_call : Ground → Caller → Property → Span → Span → List Expr → Val → Meaning Val
method_call g call p s at args (object fs) = with_args args (field_call (is_some g.sight) call s (or_undefined (get fs (word_of g p))))
method_call g call p s at args (list vs) = either (is_one is_on_list p.method) (named_call p.method args (λ m. on_list m call s (items vs))) (value_call g call (list vs) p s at args)
method_call g call p s at args (text t) = either (is_one is_on_text p.method) (named_call p.method args (λ m us. answered s (on_text m t us))) (value_call g call (text t) p s at args)
method_call g call p s at args (store id) = λ env w. either (is_one is_on_store p.method && not (is_derived w.states id)) (named_call p.method args (λ m. on_store m call s id)) (value_call g call (store id) p s at args) env w
method_call g call p s at args v = λ env w. Failed NoMember at w

abbrev pub call_step : Callee → Ground → Caller → ℕ → Expr → List Expr → Span → Meaning Val
call_step Plain g call owner of args s env w = and_then (of.means env w) (λ f. with_args args (call_value call s f))
call_step (Lives l) g call owner of args s env w = counted of.span (with_args args (life_call l owner s)) env w
call_step Stores g call owner of args s env w = counted of.span (with_args args (λ vs. make_store (first vs))) env w
call_step Derives g call owner of args s env w = counted of.span (with_args args (make_derived g.program call owner s)) env w
call_step (Converts b) g call owner of args s env w = counted of.span (with_args args (λ vs. answered s (convert b (first vs)))) env w
call_step (On (Some b) m p) g call owner of args s env w = counted of.span (λ env' w'. and_then (m env' w') (λ v. built_call b p.method s of.span args)) env w
call_step (On None m p) g call owner of args s env w = counted of.span (λ env' w'. and_then (m env' w') (method_call g call p s of.span args)) env w

-- ---- each form, with what is made of its parts

abbrev pub callee_of : Known → Callee
callee_of (known.Life l) = Lives l
callee_of known.Writable = Stores
callee_of known.Derived = Derives
callee_of (known.BuiltIn built.String) = Converts built.String
callee_of (known.BuiltIn built.Boolean) = Converts built.Boolean
callee_of _ = Plain

abbrev pub built_of : Known → Option BuiltIn
built_of (known.BuiltIn built.Math) = Some built.Math
built_of (known.BuiltIn built.Console) = Some built.Console
built_of _ = None

module _ (g : Ground) (call : Caller) (owner : ℕ) where
  abbrev pub kind_step : CodeKind-F (Puts (List ℕ × Val)) (Puts Val) (Span → Expr) Expr Link → Span → Expr
  kind_step CodeKind-F.Undefined s = plain s (Done undefined)
  kind_step CodeKind-F.Null s = plain s (Done null)
  kind_step (CodeKind-F.Bool b) s = plain s (Done (boolean b))
  kind_step (CodeKind-F.Num n) s = plain s (Done (number n))
  kind_step (CodeKind-F.Text t) s = plain s (doing (answered s (text_made t)))
  kind_step (CodeKind-F.Read x) s = record { span = s; means = read g owner x s; callee = callee_of x; built = built_of x; ratio = None }
  kind_step (CodeKind-F.List ps) s = plain s (λ env w. and_then (parts_after s [] ps env w) (λ vs. doing (answered s (list_made vs))))
  kind_step (CodeKind-F.Object ps) s = plain s (λ env w. and_then (parts_after s [] ps env w) (λ es. doing (answered s (object_made es))))
  kind_step (CodeKind-F.Template es) s = plain s (template_step s es)
  kind_step (CodeKind-F.Arrow c) s = plain s (λ env w. kept env (answered s (arrow (slice_get g.program.functions c) c owner env) w))
  kind_step (CodeKind-F.Assign x at op e) s = plain s (assign_step op g call owner x at s e.means)
  kind_step (CodeKind-F.Bump x at up prefix) s = plain s (bump_step g call owner x at up prefix s)
  kind_step (CodeKind-F.Chain e ls) s = record (plain s (chain s e.means ls)) { ratio = last_division s e.means [] ls }
  kind_step (CodeKind-F.Not e) s = plain s (λ env w. and_then (e.means env w) (λ v. Done (boolean (not (truthy v)))))
  kind_step (CodeKind-F.Minus e) s = plain s (λ env w. and_then (e.means env w) (λ v. doing (answered s (negated v))))
  kind_step (CodeKind-F.Choose test first second) s = plain s (λ env w. and_then (test.means env w) (λ v. either (truthy v) first.means second.means))
  kind_step (CodeKind-F.Member e p) s = record (plain s (λ env w. and_then (e.means env w) (λ v. doing (answered s (member_of p.method v (word_of g p)))))) { callee = On e.built e.means p }
  kind_step (CodeKind-F.Index e at) s = plain s (indexed s e.means at.means)
  kind_step (CodeKind-F.Call e args) s = plain s (call_step e.callee g call owner e args s)
  kind_step (CodeKind-F.Dispatcher c at args) s = plain s (dispatcher_step c owner at s args)

  abbrev pub code_step : Code-F (Puts (List ℕ × Val)) (Puts Val) (Span → Expr) Expr Link → Expr
  code_step c = record (c.kind c.span) { span = c.span; means = counted c.span (c.kind c.span).means }

  abbrev pub expr_of : Code → Expr
  expr_of = fold-Code (Puts (List ℕ × Val)) (Puts Val) (Span → Expr) Expr Link field_step item_step kind_step code_step link_step

  abbrev pub kind_of : CodeKind → Span → Expr
  kind_of = fold-CodeKind (Puts (List ℕ × Val)) (Puts Val) (Span → Expr) Expr Link field_step item_step kind_step code_step link_step

  abbrev pub item_of : CodeItem → Puts Val
  item_of = fold-CodeItem (Puts (List ℕ × Val)) (Puts Val) (Span → Expr) Expr Link field_step item_step kind_step code_step link_step

  abbrev pub field_of : CodeField → Puts (List ℕ × Val)
  field_of = fold-CodeField (Puts (List ℕ × Val)) (Puts Val) (Span → Expr) Expr Link field_step item_step kind_step code_step link_step

  abbrev pub link_of : CodeLink → Link
  link_of = fold-CodeLink (Puts (List ℕ × Val)) (Puts Val) (Span → Expr) Expr Link field_step item_step kind_step code_step link_step

  -- what an expression does
  abbrev pub value : Code → Meaning Val
  value c = (expr_of c).means
