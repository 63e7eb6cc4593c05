-- What a refusal says of the grammar.
use Rattle.std.proofs.Common.{◌≡◌, ◌⊎◌, inl, inr, Bool, true, false, refl, ap, sym, ◌∙◌, subst, List, ℕ}
use Rattle.std.proofs.Math.Seq.{take-length}
use Rattle.std.proofs.lemmas.Str.{IsUtf8-from_is_utf8, is_utf8-from_IsUtf8}
use Rattle.std.specs.Prelude.{Ok, Err}
use Rattle.std.specs.Str.{IsUtf8, is_utf8}
use Rattle.sv_ast.specs.declared.refusals.Kind.{Kind}
use Rattle.sv_ast.specs.declared.refusals.Kind.TheVariants.{TooDeep, NumberTooWide}
use Rattle.sv_ast.specs.declared.refusals.ParseError.{ParseError}
use Rattle.sv_ast.specs.declared.refusals.ParseError.TheVariants as errors
use Rattle.sv_ast.specs.declared.refusals.Refused.{Refused}
use Rattle.sv_lex.specs.Reader.{Input, Outcome, Parser, Fails}
use Rattle.sv_expr.specs.Laws.{IsLimited}
use Rattle.sv_expr.specs.Limits.{Limits, real}
use Rattle.sv_script.specs.Calls as scripts
use Rattle.sv_script.specs.Calls.{HasTree}
use Rattle.sv_script.specs.Closed.{ModuleAt}
use Rattle.sv_script.specs.Laws.{Complete, Blamed}
use Rattle.sv_script.specs.Script.{file_module}
use Rattle.sv_script.proofs.Agree.{module_complete, module_blamed}
use Rattle.sv_markup.specs.Calls.{is_limit, Refuses, ComponentAt, ModuleFileAt}
use Rattle.sv_markup.specs.Files.{top}
use Rattle.sv_markup.specs.Grammar.{TopAt}
use Rattle.sv_markup.proofs.Agree.{complete, blamed}

-- a limit is another cause than the grammar
limits_by : (kind : Kind) → (kind ≡ TooDeep) ⊎ (kind ≡ NumberTooWide) → is_limit kind ≡ true
limits_by kind (inl e) = ap is_limit e
limits_by kind (inr e) = ap is_limit e

module _ {A : Type 0} (read : Limits → Parser A) (Is : Limits → Input → A → Input → Type 0) (all : Complete read Is) (why : Blamed read Is) where
  no_tree : (i : Input) (r : Refused) → read real i ≡ Err r → HasTree (Is real) i → ⊥
  no_tree i r h t = let both : ◌≡◌ {A = Outcome A} (Err r) (Ok (t.0, t.1)) = sym h ∙ all real i t.1 t.0 t.2 in cc

  no_cause : (i : Input) (r : Refused) → read real i ≡ Err r → is_limit r.kind ≡ false → (wide : Limits) → HasTree (Is wide) i → ⊥
  no_cause i r h s wide t = by (why real wide i t.1 t.0 t.2)
    where
      by : (read real i ≡ Ok (t.0, t.1)) ⊎ IsLimited (read real i) → ⊥
      by (inl g) = let both : ◌≡◌ {A = Outcome A} (Err r) (Ok (t.0, t.1)) = sym h ∙ g in cc
      by (inr l) =
          let both : ◌≡◌ {A = Outcome A} (Err l.0) (Err r) = sym l.1 ∙ h in let same : l.0 ≡ r = cc in
          let yes : is_limit r.kind ≡ true = subst (λ (e : Refused). is_limit e.kind ≡ true) same (limits_by l.0.kind l.2) in
          let no : true ≡ false = sym yes ∙ s in cc

  -- trees of files that have one of the rule in them
  refuses : {B : Type 0} (At : Limits → Input → B → Input → Type 0) (i : Input) → ((limits : Limits) → HasTree (At limits) i → HasTree (Is limits) i)
      → (e : ParseError) → Fails (read real i) e → Refuses At i e i.known
  refuses At i inner errors.NoMemory h = take-length i.known
  refuses At i inner (errors.Refused r) h = (λ t. no_tree i r h (inner real t), λ s wide t. no_cause i r h s wide (inner wide t), refl)

in_component : (limits : Limits) (i : Input) → HasTree (ComponentAt limits) i → HasTree (TopAt limits) i
in_component limits i t = (t.2.found, t.1, t.2.parts)

in_module : (limits : Limits) (i : Input) → HasTree (ModuleFileAt limits) i → HasTree (ModuleAt limits) i
in_module limits i t = (t.0.script.stmts, t.1, t.2.script)

pub component_refuses : (i : Input) (e : ParseError) → Fails (top real i) e → Refuses ComponentAt i e i.known
component_refuses i e h = refuses top TopAt complete blamed ComponentAt i (λ limits t. in_component limits i t) e h

-- a module is refused as its script is
pub module_refuses : (i : Input) (e : ParseError) (new : List (List ℕ)) → Fails (file_module real i) e → scripts.Refuses ModuleAt real i e i.known new → Refuses ModuleFileAt i e new
module_refuses i errors.NoMemory new h s = s
module_refuses i (errors.Refused r) new h s =
    let mine = refuses file_module ModuleAt module_complete module_blamed ModuleFileAt i (λ limits t. in_module limits i t) (errors.Refused r) h in (mine.0, mine.1, s.2)

-- ---- bytes that are no text

pub utf8_no : (z : List ℕ) → (IsUtf8 z → ⊥) → false ≡ is_utf8 z
utf8_no z n = by (is_utf8 z) refl
  where
    by : (b : Bool) → is_utf8 z ≡ b → false ≡ is_utf8 z
    by true e = absurd (n (IsUtf8-from_is_utf8 z e))
    by false e = sym e

pub utf8_yes : (z : List ℕ) → IsUtf8 z → true ≡ is_utf8 z
utf8_yes z u = sym (is_utf8-from_IsUtf8 z u)

no_text : (i : Input) → is_utf8 i.text ≡ false → IsUtf8 i.text → ⊥
no_text i e u = let yes = is_utf8-from_IsUtf8 i.text u in let no : true ≡ false = sym yes ∙ e in cc

pub no_component : (i : Input) (e : ParseError) (r : Refused) → e ≡ errors.Refused r → is_utf8 i.text ≡ false → Refuses ComponentAt i e i.known
no_component i e r h bad = subst (λ e. Refuses ComponentAt i e i.known) (sym h) (λ t. no_text i bad t.2.text, λ s wide t. no_text i bad t.2.text, refl)

pub no_module : (i : Input) (e : ParseError) (r : Refused) → e ≡ errors.Refused r → is_utf8 i.text ≡ false → Refuses ModuleFileAt i e i.known
no_module i e r h bad = subst (λ e. Refuses ModuleFileAt i e i.known) (sym h) (λ t. no_text i bad t.2.text, λ s wide t. no_text i bad t.2.text, refl)
