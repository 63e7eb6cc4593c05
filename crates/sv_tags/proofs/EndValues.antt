-- Braces, values and modifiers of the grammar are read, each from its parts.
use Rattle.std.proofs.Common.{◌≡◌, ◌≤◌, ◌+◌, ◌-◌, inl, inr, ℕ, zero, suc, Bool, true, false, cond, List, [], ◌∷◌, ◌++◌, length, drop, refl, ap, ◌∙◌, subst, arith}
use Rattle.std.specs.Prelude.{◌==◌, nat_le, Some, None, Ok, Err}
use Rattle.sv_ast.specs.declared.markup_tree.AttrKind.TheVariants.{On}
use Rattle.sv_ast.specs.declared.markup_tree.AttrPart.{AttrPart}
use Rattle.sv_ast.specs.declared.markup_tree.AttrPart.TheVariants.{Text}
use Rattle.sv_ast.specs.declared.markup_tree.AttrValue.{AttrValue}
use Rattle.sv_ast.specs.declared.markup_tree.Modifiers.{Modifiers}
use Rattle.sv_ast.specs.declared.refusals.Kind.TheVariants.{TooDeep}
use Rattle.sv_ast.specs.declared.refusals.Refused.{Refused}
use Rattle.sv_ast.specs.declared.script_tree.Expr.{Expr}
use Rattle.sv_lex.specs.declared.lexeme.Lexeme.TheVariants as k
use Rattle.sv_lex.specs.Bytes.{stopped_at}
use Rattle.sv_lex.specs.Literals.{moved}
use Rattle.sv_lex.specs.Reader.{Input, left}
use Rattle.sv_lex.proofs.Ends.{Ends, ends_then, expect_yes}
use Rattle.sv_lex.proofs.Progress.{next-le}
use Rattle.sv_expr.specs.Limits.{Limits}
use Rattle.sv_expr.proofs.EndLeaves.{target_ends}
use Rattle.sv_expr.proofs.EndLists.{joined}
use Rattle.sv_expr.proofs.SoundLists.{append_none}
use Rattle.sv_tags.specs.declared.directives.Tag.{Tag}
use Rattle.sv_tags.specs.declared.holes.Filling.{Filling}
use Rattle.sv_tags.specs.declared.holes.Hole.{Hole}
use Rattle.sv_tags.specs.declared.texts.Quote.{Quote}
use Rattle.sv_tags.specs.declared.texts.Quote.TheVariants.{Double, Single}
use Rattle.sv_tags.specs.declared.texts.Setting.TheVariants.{Quoted, Unquoted}
use Rattle.sv_tags.specs.Attributes.{modifiers_from, all_modifiers, modifiers}
use Rattle.sv_tags.specs.Classes.{first}
use Rattle.sv_tags.specs.Directives.{name_at}
use Rattle.sv_tags.specs.Grammar as g
use Rattle.sv_script.specs.Script.{expression}
use Rattle.sv_tags.specs.Holes.{read_target, read_name, filled, opened, braces}
use Rattle.sv_script.specs.Closed.{ExpressionAt}
use Rattle.sv_tags.specs.Texts.{closing, ends_at}
use Rattle.sv_tags.specs.Values.{shown, quote_of, in_braces, unquoted, part, parts_from, parts, in_quotes, assigned, value, only_braces, directive_value}
use Rattle.sv_tags.proofs.Bytes.{is_same, is_other, byte_left, left-moved}
use Rattle.sv_tags.proofs.Lengths.{text_stands}
use Rattle.sv_tags.proofs.Ways.{shorter, filled_way}

-- ---- modifiers

fewer : (k n : ℕ) (i : Input) → first i.text ≡ 124 → left i ≤ suc n → left (moved (1 + k) i) ≤ n
fewer k n i h le = let some = byte_left i (omega (arith, h)) in let size = left-moved (1 + k) i in omega arith

modifiers_read : {i o : Input} {m all : Modifiers} → g.ModifiersAt i m all o → (n : ℕ) → left i ≤ n → modifiers_from n m i ≡ Ok (all, o)
unfolding modifiers_from
modifiers_read (g.no_modifier h) zero le = refl
modifiers_read (g.no_modifier {i = i} h) (suc n) le = rw (is_other (first i.text) 124 h) refl
modifiers_read (g.modifier {i = i} h e rest) zero le = let some = byte_left i (omega (arith, h)) in absurd (omega arith)
modifiers_read (g.modifier {i = i} h e rest) (suc n) le =
    rw (is_same (first i.text) 124 h, e) (modifiers_read rest n (fewer (length (name_at (drop 1 i.text))) n i h le))

pub listener_read : {tag : Tag} {i o : Input} {m : Modifiers} → g.ListenerAt tag i m o → modifiers tag On i ≡ Ok (m, o)
unfolding modifiers all_modifiers
listener_read (g.of_element {i = i} h m) = rw h (modifiers_read m (left i) (omega arith))
listener_read (g.of_component h) = rw h refl

-- ---- braces

-- what refuses: no room for a construct that the grammar has, where its limits are others; and what expressions are in braces
pub record Cause (limits wide : Limits) (P : Refused → Type 0) (d m : ℕ) : Type 0 where
  pub full : (i : Input) → nat_le 1 d ≡ false → 1 ≤ m → P (stopped_at TooDeep i.at i)
  pub inner : (i o : Input) (x : Expr) → ExpressionAt wide (m - 1) i x o → Ends P (expression limits (d - 1) i) (x, o)
  pub shorter : (n : ℕ) (i o : Input) (x : Expr) → ExpressionAt wide n i x o → left o ≤ left i

-- ---- bytes that begin values

closing_some : (quote : Quote) → 1 ≤ closing quote
closing_some Double = omega arith
closing_some Single = omega arith

-- where a test says that a text doesn't end, the byte is none that it ends at
unequal : (test : ℕ → Bool) (b c : ℕ) → test b ≡ false → test c ≡ true → (b == c) ≡ false
unequal test b c h ends = is_other b c (λ e. let f : test b ≡ true = ap test e ∙ ends in absurd (cc))

closes : (quote : Quote) → ends_at (Quoted quote) (closing quote) ≡ true
closes Double = refl
closes Single = refl

opens : (quote : Quote) → ends_at (Quoted quote) 123 ≡ true
opens Double = refl
opens Single = refl

apart : (quote : Quote) (b : ℕ) → b ≡ 123 → (b == closing quote) ≡ false
apart Double b h = is_other b 34 (λ e. absurd (omega (arith, h, e)))
apart Single b h = is_other b 39 (λ e. absurd (omega (arith, h, e)))

no_quote : (b : ℕ) → ends_at Unquoted b ≡ false → quote_of b ≡ None
no_quote b h = rw (unequal (ends_at Unquoted) b 34 h refl, unequal (ends_at Unquoted) b 39 h refl) refl

no_brace : (b : ℕ) (quote : Quote) → quote_of b ≡ Some quote → (b == 123) ≡ false
no_brace b quote h = is_other b 123 (λ e. let f : quote_of 123 ≡ Some quote = subst (λ c. quote_of c ≡ Some quote) e h in absurd (cc))

module _ (limits wide : Limits) (P : Refused → Type 0) (d m : ℕ) (cause : Cause limits wide P d m) where
  filled_ends : {f : Filling} {i o : Input} {x : Expr} → g.FilledAt wide f (m - 1) i x o → Ends P (filled limits f (d - 1) i) (x, o)
  unfolding read_target read_name
  filled_ends (g.holds_value {i = i} {o = o} x) = cause.inner i o _ x
  filled_ends (g.holds_target t) = ends_then P _ _ (target_ends P t) (inl refl)
  filled_ends (g.holds_name n) = ends_then P _ _ (inl n) (inl refl)

  abbrev Opens : Bool → Input → Type 0
  Opens b i = Ends {A = Unit {0}} P (cond b (Ok (tt, i)) (Err (stopped_at TooDeep i.at i))) (tt, i)

  pub opened_ends : (i : Input) → 1 ≤ m → Ends P (opened d i) (tt, i)
  unfolding opened
  opened_ends i le = by (nat_le 1 d) refl
    where
      by : (b : Bool) → nat_le 1 d ≡ b → Opens b i
      by true e = inl refl
      by false e = inr (stopped_at TooDeep i.at i, refl, cause.full i e le)

  pub braces_ends : {f : Filling} {i o : Input} {h : Hole} → g.BracesAt wide f m i h o → Ends P (braces limits f d i) (h, o)
  unfolding braces
  braces_ends (g.in_braces {i = i} {j = j} h le x c) =
      ends_then P _ _ (opened_ends i le) (ends_then P _ _ (filled_ends x) (ends_then P _ _ (inl (expect_yes k.RBrace j c)) (inl refl)))

  braces_first : {f : Filling} {i o : Input} {h : Hole} → g.BracesAt wide f m i h o → first i.text ≡ 123
  braces_first (g.in_braces h le x c) = h

  braces_less : {f : Filling} {i o : Input} {h : Hole} → g.BracesAt wide f m i h o → left o + 1 ≤ left i
  braces_less (g.in_braces {i = i} {j = j} h le x c) =
      let some = byte_left i (omega (arith, h)) in let size = left-moved 1 i in
      let inside = filled_way shorter wide cause.shorter x in let end = next-le j in
      omega arith

  parts_end : {quote : Quote} {i o : Input} {xs : List AttrPart} → g.PartsAt wide quote m i xs o → (n : ℕ) → left i ≤ n → (found : List AttrPart)
      → Ends P (parts_from limits d quote n found i) (found ++ xs, o)
  unfolding parts_from part
  parts_end (g.no_part {quote = quote} {i = i} h) zero le found = let byte = closing_some quote in let some = byte_left i (omega (arith, h, byte)) in absurd (omega arith)
  parts_end (g.no_part {quote = quote} {i = i} h) (suc n) le found = rw (is_same (first i.text) (closing quote) h) (inl (ap (λ all. Ok (all, moved 1 i)) (append_none found)))
  parts_end (g.words {quote = quote} {i = i} {j = j} t rest) zero le found = let stands = text_stands (Quoted quote) i j _ t in let less = stands.moves in absurd (omega arith)
  parts_end (g.words {quote = quote} {i = i} {j = j} {t = t} {parts = xs} h rest) (suc n) le found =
      let stands = text_stands (Quoted quote) i j _ h in let less = stands.moves in
      joined P found (Text t) xs (rw (
        unequal (ends_at (Quoted quote)) (first i.text) (closing quote) stands.begins (closes quote),
        unequal (ends_at (Quoted quote)) (first i.text) 123 stands.begins (opens quote),
      )
      (ends_then P _ _ (ends_then P _ _ (inl h) (inl refl)) (parts_end rest n (omega arith) (found ++ Text t ∷ []))))
  parts_end (g.show b rest) zero le found = let less = braces_less b in absurd (omega arith)
  parts_end (g.show {quote = quote} {i = i} {h = h} {parts = xs} b rest) (suc n) le found =
      let less = braces_less b in
      joined P found (shown h) xs (rw (apart quote (first i.text) (braces_first b), is_same (first i.text) 123 (braces_first b))
      (ends_then P _ _ (ends_then P _ _ (braces_ends b) (inl refl)) (parts_end rest n (omega arith) (found ++ shown h ∷ []))))

  pub value_ends : {i o : Input} {v : AttrValue} → g.ValueAt wide m i v o → Ends P (value limits d i) (v, o)
  unfolding value assigned in_quotes unquoted in_braces parts
  value_ends (g.no_value {i = i} h) = rw (is_other (first i.text) 61 h) (inl refl)
  value_ends (g.braced {i = i} h b) = rw (is_same (first i.text) 61 h, is_same (first (moved 1 i).text) 123 (braces_first b)) (ends_then P _ _ (braces_ends b) (inl refl))
  value_ends (g.in_quotes {i = i} {quote = quote} h q xs) =
      rw (is_same (first i.text) 61 h, no_brace (first (moved 1 i).text) quote q, q)
      (ends_then P _ _ (parts_end xs (left (moved 1 (moved 1 i))) (omega arith) []) (inl refl))
  value_ends (g.unquoted {i = i} {o = o} h t) =
      let stands = text_stands Unquoted (moved 1 i) o _ t in
      rw (is_same (first i.text) 61 h, unequal (ends_at Unquoted) (first (moved 1 i).text) 123 stands.begins refl, no_quote (first (moved 1 i).text) stands.begins)
      (ends_then P _ _ (inl t) (inl refl))

  pub given_ends : {f : Filling} {i o : Input} {v : AttrValue} → g.GivenAt wide f m i v o → Ends P (directive_value limits d f i) (v, o)
  unfolding directive_value only_braces in_braces
  given_ends (g.not_given {i = i} h) = rw (is_other (first i.text) 61 h) (inl refl)
  given_ends (g.given {i = i} h b) = rw (is_same (first i.text) 61 h, is_same (first (moved 1 i).text) 123 (braces_first b)) (ends_then P _ _ (braces_ends b) (inl refl))
