-- Braces, values and modifiers that are read are in the grammar.
use Rattle.std.proofs.Common.{◌≡◌, ◌≤◌, ◌+◌, ◌-◌, ℕ, zero, suc, List, [], ◌∷◌, ◌++◌, length, drop, refl, sym, subst, arith}
use Rattle.std.specs.Prelude.{◌==◌, nat_le, Option, Some, None, Ok}
use Rattle.sv_ast.specs.declared.markup_tree.AttrKind.TheVariants.{On}
use Rattle.sv_ast.specs.declared.markup_tree.AttrPart.{AttrPart}
use Rattle.sv_ast.specs.declared.markup_tree.AttrValue.{AttrValue}
use Rattle.sv_ast.specs.declared.markup_tree.AttrValue.TheVariants.{Parts}
use Rattle.sv_ast.specs.declared.markup_tree.Modifiers.{Modifiers}
use Rattle.sv_lex.specs.declared.lexeme.Lexeme.TheVariants as k
use Rattle.sv_lex.specs.Literals.{moved}
use Rattle.sv_lex.specs.Reader.{Input, left, name}
use Rattle.sv_lex.proofs.Steps.{Holds, holds_then, holds_weaker, holds_if, holds_test, holds_expect}
use Rattle.sv_expr.specs.Grammar.{Target}
use Rattle.sv_expr.specs.Limits.{Limits}
use Rattle.sv_expr.specs.Rules.{target}
use Rattle.sv_expr.proofs.SoundLeaves.{target_holds}
use Rattle.sv_expr.proofs.SoundLists.{holds_self, leb_true, append_one, append_none}
use Rattle.sv_tags.specs.declared.directives.Tag.{Tag}
use Rattle.sv_tags.specs.declared.holes.Filling.{Filling}
use Rattle.sv_tags.specs.declared.holes.Filling.TheVariants as filling
use Rattle.sv_tags.specs.declared.holes.Hole.{Hole}
use Rattle.sv_tags.specs.declared.texts.Quote.{Quote}
use Rattle.sv_tags.specs.declared.texts.Setting.TheVariants.{Quoted, Unquoted}
use Rattle.sv_tags.specs.Attributes as a
use Rattle.sv_tags.specs.Attributes.{no_modifiers, with_modifier, modifiers_from, all_modifiers, modifiers}
use Rattle.sv_tags.specs.Classes.{first}
use Rattle.sv_tags.specs.Directives.{name_at, is_element}
use Rattle.sv_tags.specs.Grammar as g
use Rattle.sv_script.specs.Script.{expression}
use Rattle.sv_tags.specs.Holes.{read_target, read_name, filled, opened, braces}
use Rattle.sv_script.specs.Closed.{ExpressionAt}
use Rattle.sv_tags.specs.Texts.{closing, text}
use Rattle.sv_tags.specs.Values as v
use Rattle.sv_tags.specs.Values.{quote_of, in_braces, unquoted, part, parts_from, parts, in_quotes, assigned, value, only_braces, directive_value}
use Rattle.sv_tags.proofs.Bytes.{same, other, byte_left, left-moved}

-- ---- modifiers

shorter : (k n : ℕ) (i : Input) → first i.text ≡ 124 → left i ≤ suc n → left (moved (1 + k) i) ≤ n
shorter k n i h le = let some = byte_left i (omega (arith, h)) in let size = left-moved (1 + k) i in omega arith

modifiers_from_holds : (n : ℕ) (m : Modifiers) (i : Input) → left i ≤ n → Holds (g.ModifiersAt i m) (modifiers_from n m i)
unfolding modifiers_from
modifiers_from_holds zero m i le = g.no_modifier (λ h. let some = byte_left i (omega (arith, h)) in absurd (omega arith))
modifiers_from_holds (suc n) m i le = holds_if (g.ModifiersAt i m) (first i.text == 124) _ _
    (λ h. by (with_modifier (name_at (drop 1 i.text)) m) refl (same (first i.text) 124 h)
    (λ found. modifiers_from_holds n found (moved (1 + length (name_at (drop 1 i.text))) i)))
    (λ h. g.no_modifier (other (first i.text) 124 h))
  where
    by : (o : Option Modifiers) → with_modifier (name_at (drop 1 i.text)) m ≡ o → first i.text ≡ 124
        → ((found : Modifiers) → left (moved (1 + length (name_at (drop 1 i.text))) i) ≤ n
        → Holds (g.ModifiersAt (moved (1 + length (name_at (drop 1 i.text))) i) found) (modifiers_from n found (moved (1 + length (name_at (drop 1 i.text))) i)))
        → Holds (g.ModifiersAt i m) (a.modifier_by (modifiers_from n) o i)
    by None e h more = tt
    by (Some found) e h more = holds_weaker _ (g.ModifiersAt i m) _ (λ all o rest. g.modifier h e rest) (more found (shorter (length (name_at (drop 1 i.text))) n i h le))

pub listener_holds : (tag : Tag) (i : Input) → Holds (g.ListenerAt tag i) (modifiers tag On i)
unfolding modifiers all_modifiers
listener_holds tag i = holds_if (g.ListenerAt tag i) (is_element tag) _ _
    (λ h. holds_weaker (g.ModifiersAt i no_modifiers) (g.ListenerAt tag i) _ (λ m o found. g.of_element h found) (modifiers_from_holds (left i) no_modifiers i (omega arith)))
    (λ h. g.of_component h)

-- ---- braces and values, where expressions that are read are in the grammar

module _ (limits : Limits) (holding : (d : ℕ) (i : Input) → Holds (ExpressionAt limits d i) (expression limits d i)) where
  filled_holds : (f : Filling) (d : ℕ) (i : Input) → Holds (g.FilledAt limits f d i) (filled limits f d i)
  unfolding read_target read_name
  filled_holds filling.Value d i = holds_weaker (ExpressionAt limits d i) (g.FilledAt limits filling.Value d i) _ (λ x o h. g.holds_value h) (holding d i)
  filled_holds filling.Target d i = holds_then (Target i) (g.FilledAt limits filling.Target d i) (target i) _ (target_holds i) (λ ref o h. g.holds_target h)
  filled_holds filling.Name d i =
      holds_then (λ found o. name i ≡ Ok (found, o)) (g.FilledAt limits filling.Name d i) (name i) _ (holds_self (name i)) (λ found o h. g.holds_name h)

  pub braces_holds : (f : Filling) (d : ℕ) (i : Input) → first i.text ≡ 123 → Holds (g.BracesAt limits f d i) (braces limits f d i)
  unfolding braces opened
  braces_holds f d i h = holds_test (g.BracesAt limits f d i) (nat_le 1 d) _ _ _
      (λ e. holds_then (g.FilledAt limits f (d - 1) (moved 1 i)) (g.BracesAt limits f d i) (filled limits f (d - 1) (moved 1 i)) _ (filled_holds f (d - 1) (moved 1 i))
      (λ x j found. holds_expect (g.BracesAt limits f d i) k.RBrace j _ (λ c. g.in_braces h (leb_true 1 d e) found c)))
      (λ e. tt)

  module _ (d : ℕ) where
    abbrev IsShown : Filling → Input → AttrValue → Input → Type 0
    IsShown f i value o = (h : Hole) × (value ≡ Parts (v.shown h ∷ [])) × g.BracesAt limits f d i h o

    in_braces_holds : (f : Filling) (i : Input) → first i.text ≡ 123 → Holds (IsShown f i) (in_braces limits d f i)
    unfolding in_braces
    in_braces_holds f i h = holds_then (g.BracesAt limits f d i) (IsShown f i) (braces limits f d i) _ (braces_holds f d i h) (λ x o found. (x, refl, found))

    abbrev More : Quote → List AttrPart → Input → List AttrPart → Input → Type 0
    More quote found i all o = (xs : List AttrPart) × (all ≡ found ++ xs) × g.PartsAt limits quote d i xs o

    -- one part, and what it makes of those behind it
    abbrev Leads : Quote → Input → AttrPart → Input → Type 0
    Leads quote i x j = (xs : List AttrPart) (o : Input) → g.PartsAt limits quote d j xs o → g.PartsAt limits quote d i (x ∷ xs) o

    part_holds : (quote : Quote) (i : Input) → Holds (Leads quote i) (part limits d quote i)
    unfolding part
    part_holds quote i = holds_if (Leads quote i) (first i.text == 123) _ _
        (λ h. holds_then (g.BracesAt limits filling.Value d i) (Leads quote i) (braces limits filling.Value d i) _ (braces_holds filling.Value d i (same (first i.text) 123 h))
        (λ x j found xs o rest. g.show found rest))
        (λ h. holds_then (λ t j. text (Quoted quote) i ≡ Ok (t, j)) (Leads quote i) (text (Quoted quote) i) _ (holds_self (text (Quoted quote) i))
        (λ t j found xs o rest. g.words found rest))

    parts_from_holds : (quote : Quote) (n : ℕ) (found : List AttrPart) (i : Input) → Holds (More quote found i) (parts_from limits d quote n found i)
    unfolding parts_from
    parts_from_holds quote zero found i = tt
    parts_from_holds quote (suc n) found i = holds_if (More quote found i) (first i.text == closing quote) _ _
        (λ h. ([], append_none found, g.no_part (same (first i.text) (closing quote) h)))
        (λ h. holds_then (Leads quote i) (More quote found i) (part limits d quote i) _ (part_holds quote i)
        (λ x j one. holds_weaker (More quote (found ++ x ∷ []) j) (More quote found i) _
        (λ all o m. (x ∷ m.0, append_one found x m.0 all m.1, one m.0 o m.2)) (parts_from_holds quote n (found ++ x ∷ []) j)))

    parts_holds : (quote : Quote) (i : Input) → Holds (g.PartsAt limits quote d i) (parts limits d quote i)
    unfolding parts
    parts_holds quote i = holds_weaker (More quote [] i) (g.PartsAt limits quote d i) _ (λ all o m. subst (λ xs. g.PartsAt limits quote d i xs o) (sym m.1) m.2)
        (parts_from_holds quote (left i) [] i)

    pub value_holds : (i : Input) → Holds (g.ValueAt limits d i) (value limits d i)
    unfolding value assigned in_quotes unquoted
    value_holds i = holds_if Q (first i.text == 61) _ _
        (λ h. let e = same (first i.text) 61 h in holds_if Q (first j.text == 123) _ _
        (λ b. holds_weaker (IsShown filling.Value j) Q _ (λ x o found. shown e x o found) (in_braces_holds filling.Value j (same (first j.text) 123 b)))
        (λ b. by (quote_of (first j.text)) refl e))
        (λ h. g.no_value (other (first i.text) 61 h))
      where
        Q : AttrValue → Input → Type 0
        Q = g.ValueAt limits d i

        j : Input
        j = moved 1 i

        shown : first i.text ≡ 61 → (x : AttrValue) (o : Input) → IsShown filling.Value j x o → g.ValueAt limits d i x o
        shown e x o found = subst (λ x. g.ValueAt limits d i x o) (sym found.1) (g.braced e found.2)

        by : (q : Option Quote) → quote_of (first j.text) ≡ q → first i.text ≡ 61 → Holds (g.ValueAt limits d i) (v.unbraced limits d q j)
        by None q e = holds_then (λ t o. text Unquoted j ≡ Ok (t, o)) (g.ValueAt limits d i) (text Unquoted j) _ (holds_self (text Unquoted j)) (λ t o found. g.unquoted e found)
        by (Some quote) q e = holds_then (g.PartsAt limits quote d (moved 1 j)) (g.ValueAt limits d i) (parts limits d quote (moved 1 j)) _ (parts_holds quote (moved 1 j))
            (λ found o all. g.in_quotes e q all)

    pub given_holds : (f : Filling) (i : Input) → Holds (g.GivenAt limits f d i) (directive_value limits d f i)
    unfolding directive_value only_braces
    given_holds f i = holds_if (g.GivenAt limits f d i) (first i.text == 61) _ _
        (λ h. let e = same (first i.text) 61 h in holds_if (g.GivenAt limits f d i) (first (moved 1 i).text == 123) _ _
        (λ b. holds_weaker (IsShown f (moved 1 i)) (g.GivenAt limits f d i) _ (λ x o found. shown e x o found) (in_braces_holds f (moved 1 i) (same (first (moved 1 i).text) 123 b)))
        (λ b. tt))
        (λ h. g.not_given (other (first i.text) 61 h))
      where
        shown : first i.text ≡ 61 → (x : AttrValue) (o : Input) → IsShown f (moved 1 i) x o → g.GivenAt limits f d i x o
        shown e x o found = subst (λ x. g.GivenAt limits f d i x o) (sym found.1) (g.given e found.2)
