-- What is made of parts in turn does what is told of them, where each part does: combinators, lists, functions and calls.
use Rattle.std.proofs.Common.{◌≡◌, ℕ, Bool, true, false, List, [], ◌∷◌, ◌++◌, Option, None, Some, length, map, option_map, refl, sym, subst, if◌then◌else◌}
use Rattle.sv_ast.specs.declared.names.Named.{Named}
use Rattle.sv_ast.specs.declared.names.Ref.{Ref}
use Rattle.sv_base.specs.declared.span.Span.{Span}
use Rattle.sv_code.proofs.Each.{each_front, each_back}
use Rattle.sv_code.specs.Names.{Each}
use Rattle.sv_code.specs.declared.code.Code.{Code}
use Rattle.sv_code.specs.declared.code.CodeKind.{CodeKind, out-CodeKind}
use Rattle.sv_code.specs.declared.functions.Function.{Function}
use Rattle.sv_code.specs.declared.functions.FunctionBody.{FunctionBody}
use Rattle.sv_lower.specs.Does.{each, given, within}
use Rattle.sv_lower.specs.Lower.{Made, Lowers, trees, BodyMade, EntryMade, KindMade, FieldMade, StmtKindMade, ArmMade, DeclMade, ExprMade, LinkMade, StmtMade, body_made, entry_made, kind_made, field_made, stmt_kind_made, arm_made, decl_made, expr_made, link_made, stmt_made, function, dispatcher, reads_dispatcher, store_of}
use Rattle.sv_lower.specs.Tops.{Tops}
use Rattle.sv_names.specs.Distinct.{has}
use Rattle.sv_names.specs.Uses.{Found, Parts, named, together, optional, scope_of, head_of, body_parts, stmt_parts, read, assigned, bumped}
use Rattle.sv_source.specs.Functions.{Acts, Body, Gives, Runs, Fun, Finds, teller}
use Rattle.sv_source.specs.Open.{is_among, IsPlain}
use Rattle.sv_source.specs.Script.{Told, Seen, Declared, Form, Reacting, Naming, Line, does, at, runs, value_if, line_if, acting, declaring, step_at, all_found, perhaps_found, BodyTold, EntryTold, KindTold, FieldTold, StmtKindTold, ArmTold, DeclTold, ExprTold, LinkTold, StmtTold, body_told, entry_told, kind_told, field_told, stmt_kind_told, arm_told, decl_told, expr_told, link_told, stmt_told, arrow_form, dispatcher_form, call_form, in_turn}
use Rattle.sv_source.proofs.Alike.{BodyAlike, FunAlike, AreAlike, IsFront, Agrees, NumberAlike, KindAlike, SeenAlike}
use Rattle.sv_source.proofs.Names.{Stands, UsesTell, InBody, in_body, body_names}
use Rattle.sv_source.proofs.Tables.{Beside, Perhaps, beside_more, beside_length, get_more, get_last, just_agree, one_agree, two_agree, followed_agree}
use Rattle.sv_ast.specs.declared.operators.Op.{Op}
use Rattle.sv_code.specs.declared.code.CodeLink.{CodeLink}
use Rattle.sv_code.specs.declared.functions.CodeArm.{CodeArm}
use Rattle.sv_code.specs.declared.functions.CodeStmt.{CodeStmt}
use Rattle.sv_code.specs.declared.functions.CodeStmtKind.{CodeStmtKind}
use Rattle.sv_meaning.specs.Statements.{Arm}
use Rattle.sv_meaning.specs.Values.{Link}
use Rattle.sv_code.specs.declared.code.CodeKind.TheVariants as code
use Rattle.sv_lower.specs.Lower as lower
use Rattle.sv_names.specs.Uses as uses
use Rattle.sv_source.specs.Functions as functions
use Rattle.sv_source.specs.Script as script
use Rattle.sv_source.proofs.Forms as form

-- ---- what is made of parts

abbrev pub linked : Op → Code → CodeLink
linked op c = record { op = op; right = c }

abbrev pub links : Op → Seen → Acts Link
links op e g call owner = record { op = op; right = does (e.sees g call owner) }

abbrev pub coded : Span → CodeKind → Code
coded s k = record { span = s; kind = k }

abbrev pub branch_code : Code → CodeStmt → CodeArm
branch_code c turn = record { test = c; body = turn }

abbrev pub branch_told : Seen → Acts Line → Acts Arm
branch_told x l g call owner = record { test = does (x.sees g call owner); body = runs (l g call owner) }

abbrev pub line_coded : Span → CodeStmtKind → CodeStmt
line_coded s k = record { span = s; kind = k }

abbrev pub line_told : Span → Acts Form → Acts Line
line_told s f g call owner = record { span = s; form = f g call owner }

module _ (all : List Function) (tops : Tops) where
  -- what is made of a part does what is told of it, inside whatever scopes it stands
  abbrev pub Good : {A B : Type 0} → (List ℕ → List Ref → A → B → Type 0) → Lowers A → Finds B → Found → Type 0
  Good R l m found = (xs : List ℕ) (locals scope : List Ref) → Stands xs locals scope → UsesTell xs locals (found scope) → Agrees all (R xs locals) (l tops locals) (m tops locals)

  -- ---- combinators, for these tables

  pub by_just : {A B : Type 0} (Q : A → B → Type 0) (a : A) (b : B) → Q a b → Agrees all Q (λ s. (a, s)) (λ t. (b, t))
  by_just Q a b r = just_agree (IsFront all) (AreAlike all) Q a b r

  pub by_one : {A B C D : Type 0} {R : A → B → Type 0} (Q : C → D → Type 0) (f : A → C) (h : B → D) {one : List Function → A × List Function} {two : List Fun → B × List Fun} → ((a : A) (b : B) → R a b → Q (f a) (h b)) → Agrees all R one two
      → Agrees all Q (λ s. (f (one s).0, (one s).1)) (λ t. (h (two t).0, (two t).1))
  by_one {R = R} Q f h {one = one} {two = two} k r = one_agree (IsFront all) (AreAlike all) R Q f h one two k r

  pub by_two : {A B C D E F : Type 0} {R : A → B → Type 0} {R' : C → D → Type 0} (Q : E → F → Type 0) (f : A → C → E) (h : B → D → F) {one : List Function → A × List Function} {two : List Fun → B × List Fun} {one' : List Function → C × List Function} {two' : List Fun → D × List Fun}
      → ((a : A) (b : B) (c : C) (d : D) → R a b → R' c d → Q (f a c) (h b d)) → Agrees all R one two → Agrees all R' one' two'
      → Agrees all Q (λ s. (f (one s).0 (one' (one s).1).0, (one' (one s).1).1)) (λ t. (h (two t).0 (two' (two t).1).0, (two' (two t).1).1))
  by_two {R = R} {R' = R'} Q f h {one = one} {two = two} {one' = one'} {two' = two'} k r r' = two_agree (IsFront all) (AreAlike all) R R' Q f h one two one' two' k r r'

  -- ---- lists, and what may be absent

  pub list_good : {T A B : Type 0} (R : List ℕ → List Ref → A → B → Type 0) (made : T → Made T (Lowers A)) (told : T → Told Found (Finds B)) (ps : List ((x : T) × Good R (made x).makes (told x).means (told x).found)) (xs : List ℕ) (locals scope : List Ref)
      → Stands xs locals scope → UsesTell xs locals (uses.in_turn (all_found (map told (map (λ p. p.0) ps))) scope)
      → Agrees all (Beside (R xs locals)) (each (lower.all (map made (map (λ p. p.0) ps))) tops locals) (each (script.all (map told (map (λ p. p.0) ps))) tops locals)
  list_good R made told [] xs locals scope h u = by_just (Beside (R xs locals)) [] [] tt
  list_good R made told (p ∷ ps) xs locals scope h u =
      by_two (Beside (R xs locals)) (λ y ys. y ∷ ys) (λ y ys. y ∷ ys) (λ a b c d r r'. (r, r')) (p.1 xs locals scope h (each_front (λ u. is_among xs u.name ≡ has u.name locals) ((told p.0).found scope) (uses.in_turn (all_found (map told (map (λ p. p.0) ps))) scope) u))
      (list_good R made told ps xs locals scope h (each_back (λ u. is_among xs u.name ≡ has u.name locals) ((told p.0).found scope) (uses.in_turn (all_found (map told (map (λ p. p.0) ps))) scope) u))

  pub parts_good : {T A B : Type 0} (R : List ℕ → List Ref → A → B → Type 0) (made : T → Made T (Lowers A)) (told : T → Told Parts (Finds B)) (ps : List ((x : T) × Good R (made x).makes (told x).means (told x).found.uses)) (xs : List ℕ) (locals scope : List Ref)
      → Stands xs locals scope → UsesTell xs locals ((together (all_found (map told (map (λ p. p.0) ps)))).uses scope)
      → Agrees all (Beside (R xs locals)) (each (lower.all (map made (map (λ p. p.0) ps))) tops locals) (each (script.all (map told (map (λ p. p.0) ps))) tops locals)
  parts_good R made told [] xs locals scope h u = by_just (Beside (R xs locals)) [] [] tt
  parts_good R made told (p ∷ ps) xs locals scope h u =
      by_two (Beside (R xs locals)) (λ y ys. y ∷ ys) (λ y ys. y ∷ ys) (λ a b c d r r'. (r, r')) (p.1 xs locals scope h (each_front (λ u. is_among xs u.name ≡ has u.name locals) ((told p.0).found.uses scope) ((together (all_found (map told (map (λ p. p.0) ps)))).uses scope) u))
      (parts_good R made told ps xs locals scope h (each_back (λ u. is_among xs u.name ≡ has u.name locals) ((told p.0).found.uses scope) ((together (all_found (map told (map (λ p. p.0) ps)))).uses scope) u))

  pub maybe_good : {T A B : Type 0} (R : List ℕ → List Ref → A → B → Type 0) (made : T → Made T (Lowers A)) (told : T → Told Found (Finds B)) (o : Option ((x : T) × Good R (made x).makes (told x).means (told x).found)) (xs : List ℕ) (locals scope : List Ref)
      → Stands xs locals scope → UsesTell xs locals (uses.given (perhaps_found (option_map told (option_map (λ p. p.0) o))) scope)
      → Agrees all (Perhaps (R xs locals)) (given (lower.perhaps (option_map made (option_map (λ p. p.0) o))) tops locals) (given (script.perhaps (option_map told (option_map (λ p. p.0) o))) tops locals)
  maybe_good R made told None xs locals scope h u = by_just (Perhaps (R xs locals)) None None tt
  maybe_good R made told (Some p) xs locals scope h u = by_one (Perhaps (R xs locals)) Some Some (λ a b r. r) (p.1 xs locals scope h u)

  pub part_good : {T A B : Type 0} (R : List ℕ → List Ref → A → B → Type 0) (made : T → Made T (Lowers A)) (told : T → Told Parts (Finds B)) (o : Option ((x : T) × Good R (made x).makes (told x).means (told x).found.uses)) (xs : List ℕ) (locals scope : List Ref)
      → Stands xs locals scope → UsesTell xs locals ((optional (perhaps_found (option_map told (option_map (λ p. p.0) o)))).uses scope)
      → Agrees all (Perhaps (R xs locals)) (given (lower.perhaps (option_map made (option_map (λ p. p.0) o))) tops locals) (given (script.perhaps (option_map told (option_map (λ p. p.0) o))) tops locals)
  part_good R made told None xs locals scope h u = by_just (Perhaps (R xs locals)) None None tt
  part_good R made told (Some p) xs locals scope h u = by_one (Perhaps (R xs locals)) Some Some (λ a b r. r) (p.1 xs locals scope h u)

  -- ---- functions

  front_less : (fs : List Function) (f : Function) → IsFront all (fs ++ f ∷ []) → IsFront all fs
  front_less fs f h n g e = h n g (get_more fs f g n e)

  put_alike : (s : Span) (ps : List Named) (parts : Parts) (locals : List Ref) (b : FunctionBody) (b' : Body) (fs : List Function) (ms : List Fun) → BodyAlike all (body_names ps parts locals) b b' → IsFront all (fs ++ function s ps parts locals b ∷ []) → AreAlike all fs ms
      → AreAlike all (fs ++ function s ps parts locals b ∷ []) (ms ++ functions.function ps parts locals b' ∷ []) × NumberAlike all (length fs) (length ms, functions.function ps parts locals b')
  put_alike s ps parts locals b b' fs ms r front alike = (
    beside_more (FunAlike all) fs ms (function s ps parts locals b) (functions.function ps parts locals b') alike (record { handed = refl; taken = refl; own = refl; acts = r }),
    record { number = beside_length (FunAlike all) fs ms alike; function = function s ps parts locals b; there = front (length fs) (function s ps parts locals b) (get_last fs (function s ps parts locals b)); takes = refl },
  )

  numbered_good : (s : Span) (ps : List Named) (parts parts' : Parts) → parts ≡ parts' → (l : Lowers FunctionBody) (m : Finds Body) (locals : List Ref)
      → Agrees all (BodyAlike all (body_names ps parts' locals)) (within (scope_of ps parts') l tops locals) (within (scope_of ps parts') m tops locals)
      → Agrees all (NumberAlike all) (lower.numbered s ps parts l tops locals) (functions.numbered ps parts' m tops locals)
  numbered_good s ps parts parts' same l m locals h =
      subst (λ z. Agrees all (NumberAlike all) (lower.numbered s ps z l tops locals) (functions.numbered ps parts' m tops locals)) (sym same)
      (followed_agree (IsFront all) (AreAlike all) (BodyAlike all (body_names ps parts' locals)) (NumberAlike all) (λ b. lower.put (function s ps parts' locals b)) (λ b. functions.put (functions.function ps parts' locals b))
      (within (scope_of ps parts') l tops locals) (within (scope_of ps parts') m tops locals) (λ b fs front. front_less fs (function s ps parts' locals b) front) (λ b b' fs ms r front alike. put_alike s ps parts' locals b b' fs ms r front alike) h)

  pub function_good : (s : Span) (ps : List Named) (parts parts' : Parts) → parts ≡ parts' → Each IsPlain parts'.declares → (l : Lowers FunctionBody) (m : Finds Body) → Good (λ xs locals. BodyAlike all xs) l m parts'.uses → (xs : List ℕ) (locals scope : List Ref) → Stands xs locals scope
      → Agrees all (NumberAlike all) (lower.numbered s ps parts l tops locals) (functions.numbered ps parts' m tops locals)
  function_good s ps parts parts' same plain l m good xs locals scope h =
      let i : InBody ps parts' locals = in_body ps parts' locals plain h.plain in
      numbered_good s ps parts parts' same l m locals (good (body_names ps parts' locals) (scope_of ps parts' ++ locals) (scope_of ps parts') i.stands i.used)

  -- ---- calls

  called_grows : (b : Bool) (x y : CodeKind) (fs : List Function) (f : Function) → IsFront all (let r : CodeKind × List Function = if b then (x, fs ++ f ∷ []) else (y, fs) in r.1) → IsFront all fs
  called_grows true x y fs f h = front_less fs f h
  called_grows false x y fs f h = h

  called_both : (xs : List ℕ) (s : Span) (b : Bool) (c : Code) (cs : List Code) (e : Seen) (es : List Seen) → SeenAlike all xs c e → Beside (SeenAlike all xs) cs es → (fs : List Function) (ms : List Fun) → AreAlike all fs ms
      → (let r : CodeKind × List Function = if b then (code.Dispatcher (length fs) c.span cs, fs ++ dispatcher s ∷ []) else (code.Call c cs, fs) in
      let r' : Seen × List Fun = if b then (dispatcher_form s (length ms) e es, ms ++ teller ∷ []) else (call_form s e es, ms) in
      AreAlike all r.1 r'.1 × KindAlike all xs s r.0 r'.0)
  called_both xs s true c cs e es r h fs ms alike =
      (beside_more (FunAlike all) fs ms (dispatcher s) teller alike (record { handed = refl; taken = refl; own = refl; acts = tt }), form.dispatcher_alike all xs s (length fs) (length ms) (beside_length (FunAlike all) fs ms alike) c e cs es r h)
  called_both xs s false c cs e es r h fs ms alike = (alike, form.call_alike all xs s c e cs es r h)

  called_alike : (xs : List ℕ) (s : Span) (c : Code) (cs : List Code) (e : Seen) (es : List Seen) → SeenAlike all xs c e → Beside (SeenAlike all xs) cs es → (fs : List Function) (ms : List Fun) → AreAlike all fs ms
      → AreAlike all (lower.called s (c, cs) fs).1 (script.called s (e, es) ms).1 × KindAlike all xs s (lower.called s (c, cs) fs).0 (script.called s (e, es) ms).0
  called_alike xs s c cs e es r h fs ms alike =
      subst (λ b. let r : CodeKind × List Function = lower.called s (c, cs) fs in let r' : Seen × List Fun = if b then (dispatcher_form s (length ms) e es, ms ++ teller ∷ []) else (call_form s e es, ms) in AreAlike all r.1 r'.1 × KindAlike all xs s r.0 r'.0) r.tells
      (called_both xs s (reads_dispatcher (out-CodeKind c.kind)) c cs e es r h fs ms alike)

  abbrev CalledR : List ℕ → Code × List Code → Seen × List Seen → Type 0
  CalledR xs p q = SeenAlike all xs p.0 q.0 × Beside (SeenAlike all xs) p.1 q.1

  pub call_good : (xs : List ℕ) (s : Span) (one : List Function → Code × List Function) (two : List Fun → Seen × List Fun) (one' : List Function → List Code × List Function) (two' : List Fun → List Seen × List Fun)
      → Agrees all (SeenAlike all xs) one two → Agrees all (Beside (SeenAlike all xs)) one' two'
      → Agrees all (KindAlike all xs s) (λ fs. lower.called s ((one fs).0, (one' (one fs).1).0) (one' (one fs).1).1) (λ ms. script.called s ((two ms).0, (two' (two ms).1).0) (two' (two ms).1).1)
  call_good xs s one two one' two' r r' =
      followed_agree (IsFront all) (AreAlike all) (CalledR xs) (KindAlike all xs s) (lower.called s) (script.called s)
      (λ fs. (((one fs).0, (one' (one fs).1).0), (one' (one fs).1).1)) (λ ms. (((two ms).0, (two' (two ms).1).0), (two' (two ms).1).1))
      (λ p fs front. called_grows (reads_dispatcher (out-CodeKind p.0.kind)) (code.Dispatcher (length fs) p.0.span p.1) (code.Call p.0 p.1) fs (dispatcher s) front)
      (λ p q fs ms h front alike. called_alike xs s p.0 p.1 q.0 q.1 h.0 h.1 fs ms alike)
      (by_two (CalledR xs) (λ c cs. (c, cs)) (λ e es. (e, es)) (λ a b c d h k. (h, k)) r r')
