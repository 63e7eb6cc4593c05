-- What the attributes of a component's tag and of a slot pass.
use Rattle.std.proofs.Common.{◌≡◌, ◌⊎◌, inl, inr, ℕ, Bool, true, false, ◌||◌, List, [], Option, Some, None, option_map, unwrap_or, refl, sym, ap, ◌∙◌, subst, true≢false, Ok}
use Rattle.sv_attributes.specs.Values.{alone}
use Rattle.sv_base.specs.declared.names.Name.{Name}
use Rattle.sv_base.specs.declared.span.Span.{Span}
use Rattle.sv_code.specs.Names.{Each}
use Rattle.sv_code.specs.Parts.{of_value, of_attr}
use Rattle.sv_code.specs.Within.{IsWithin}
use Rattle.sv_code.specs.declared.fragments.FragAttr.{FragAttr}
use Rattle.sv_code.specs.declared.fragments.FragAttr.TheVariants as attr
use Rattle.sv_code.specs.declared.fragments.FragValue.{FragValue}
use Rattle.sv_code.specs.declared.fragments.FragValue.TheVariants as value
use Rattle.sv_code.specs.declared.fragments.FragValuePart.{FragValuePart}
use Rattle.sv_code.specs.declared.parts.Part.{Part}
use Rattle.sv_code.specs.declared.program.Program.{Program}
use Rattle.sv_fresh.specs.Slots as fresh
use Rattle.sv_fresh.specs.Values.{value_at, texts_at, value_by}
use Rattle.sv_local.specs.Versions.{AreVersions}
use Rattle.sv_ops.specs.Texts.{between}
use Rattle.sv_parts.specs.Parts.{evaluated}
use Rattle.sv_parts.specs.Sides.{Sides, moved}
use Rattle.sv_parts.specs.Tags.{passed_name, passed_value}
use Rattle.sv_parts.specs.Values.{unvalued, passed, alone_step, joined_step, bare, parts_step, value_step}
use Rattle.sv_parts.specs.declared.state.State.{State}
use Rattle.sv_parts.specs.declared.values.Valued as found
use Rattle.sv_right.proofs.Attributes.{alone_within}
use Rattle.sv_right.proofs.Steps.{After, then_after, more_after, if_after, Grows, grows_same}
use Rattle.sv_right.proofs.Texts.{ArePieces, WereKept, IsJoined, joined_after, pieces_within, pieces_found, literal_there, or_left, or_right}
use Rattle.sv_right.proofs.Values.{Valued, evaluated_after, still_value}
use Rattle.sv_right.specs.Right.{joined_texts, value_texts, kept_texts, passed_at}
use Rattle.sv_value.specs.Value.{Val, text, boolean}
use Rattle.sv_view.specs.Level.{View}

-- what an attribute gives on a view
abbrev pub given_at : Program → View → FragAttr → Option Val
given_at p v (attr.Plain span name x) = fresh.passed_value p v x
given_at p v (attr.On handler reads) = None
given_at p v (attr.Bind span name part) = value_at p v part
given_at p v (attr.Class span name part) = None

under_name : (name : Name) (o : Option Val) → option_map (λ prop. prop.value) (option_map (fresh.prop_with name) o) ≡ o
under_name name None = refl
under_name name (Some x) = refl

pub passed_given : (p : Program) (v : View) (a : FragAttr) → passed_at p v a ≡ given_at p v a
passed_given p v (attr.Plain span name x) = under_name name (fresh.passed_value p v x)
passed_given p v (attr.On handler reads) = refl
passed_given p v (attr.Bind span name part) = under_name name (value_at p v part)
passed_given p v (attr.Class span name part) = refl

-- what is passed with some texts, where on a view a value is given and texts are kept: anew, or what was given before still is
pub record IsPassed (was now : Option Val) (before kept : List (List ℕ)) (is_new : Bool) (s : State) (x : found.Valued) (u : State) : Type 0 where
  pub texts : x.texts ≡ kept
  pub given : (value : Val) → x.value ≡ Some value → now ≡ Some value
  pub anew : is_new ≡ true → x.value ≡ None → ⊥
  pub stays : is_new ≡ false → x.value ≡ None → (was ≡ now) × (before ≡ kept)
  pub grows : Grows s u

-- ---- one expression alone

alone_after : (p : Program) (part : Part) (is_new : Bool) (at : Sides) (s : State) → IsWithin p part → (is_new ≡ false → AreVersions at.old at.new) →
    After (alone_step p part is_new at s) (IsPassed (value_at p at.old part) (value_at p at.new part) [] [] is_new s)
alone_after p part is_new at s fits all =
    if_after (is_new || moved part.reads at) _ (Ok (unvalued, s)) (IsPassed (value_at p at.old part) (value_at p at.new part) [] [] is_new s)
    (λ _. then_after (evaluated p part at s) (λ x u. Ok (passed x, u)) (Valued p part at.new s) (IsPassed (value_at p at.old part) (value_at p at.new part) [] [] is_new s) (evaluated_after p part at s)
    (λ x v e. record { texts = refl; given = λ z q. e.0 ∙ q; anew = λ _ q. absurd (cc); stays = λ _ q. absurd (cc); grows = e.1 }))
    (λ e. record {
      texts = refl;
      given = λ z q. absurd (cc);
      anew = λ q _. absurd (true≢false (sym q ∙ or_left is_new (moved part.reads at) e));
      stays = λ q _. (still_value p part at fits (all q) (or_right is_new (moved part.reads at) e), refl);
      grows = grows_same s;
    })

-- ---- joined texts

-- no text is kept of what is new; else those are kept that the old view gives
abbrev pub WerePassed : List (List ℕ) → Sides → Bool → List (List ℕ) → Type 0
WerePassed texts at is_new olds = ((olds ≡ []) × (is_new ≡ true)) ⊎ (AreVersions at.old at.new × (olds ≡ texts))

passed_kept : (p : Program) (parts : List FragValuePart) (at : Sides) (is_new : Bool) (olds : List (List ℕ)) → WerePassed (unwrap_or (texts_at p at.old parts) []) at is_new olds → WereKept p parts at is_new olds
passed_kept p parts at is_new olds (inl h) = inl (h.0, (λ q. absurd (true≢false (sym h.1 ∙ q))))
passed_kept p parts at is_new olds (inr h) = by (texts_at p at.old parts) refl h.1
  where
    by : (o : Option (List (List ℕ))) → texts_at p at.old parts ≡ o → olds ≡ unwrap_or o [] → WereKept p parts at is_new olds
    by None is e = inl (e, (λ _ q. literal_there p at.old parts [] q is))
    by (Some texts) is e = inr (h.0, subst (ArePieces p at.old 0 parts) (sym e) (pieces_found p at.old parts texts is))

joined_passed : (p : Program) (span : Span) (parts : List FragValuePart) (olds : List (List ℕ)) (is_new : Bool) (at : Sides) (s : State) → Each (IsWithin p) (of_value (value.Parts parts)) →
    WerePassed (joined_texts p at.old parts None) at is_new olds →
    After (joined_step p span parts olds is_new at s) (IsPassed (value_by p at.old parts None) (value_by p at.new parts None) (joined_texts p at.old parts None) (joined_texts p at.new parts None) is_new s)
joined_passed p span parts olds is_new at s fits were =
    more_after (joined_step p span parts olds is_new at s) (IsJoined p at parts olds is_new s) (IsPassed (value_by p at.old parts None) (value_by p at.new parts None) (joined_texts p at.old parts None) (joined_texts p at.new parts None) is_new s)
    (joined_after p span parts olds is_new at s (pieces_within p parts fits) (passed_kept p parts at is_new olds were))
    (λ x u j. record {
      texts = sym (ap (λ o. unwrap_or o []) j.texts);
      given = λ z q. ap (option_map (λ texts. text (between [] texts))) j.texts ∙ ap Some (sym (j.whole z q));
      anew = j.given;
      stays = λ _ q. (
        ap (option_map (λ texts. text (between [] texts))) ((j.stay q).1 ∙ sym (ap Some (j.stay q).0) ∙ sym j.texts),
        ap (λ o. unwrap_or o []) ((j.stay q).1 ∙ sym (ap Some (j.stay q).0) ∙ sym j.texts),
      );
      grows = j.grows;
    })

-- ---- values

agree_now : (at : Sides) (is_new : Bool) (olds : List (List ℕ)) → WerePassed [] at is_new olds → is_new ≡ false → AreVersions at.old at.new
agree_now at is_new olds (inl h) q = absurd (true≢false (sym h.1 ∙ q))
agree_now at is_new olds (inr h) q = h.0

parts_passed : (p : Program) (span : Span) (parts : List FragValuePart) (o : Option Part) (olds : List (List ℕ)) (is_new : Bool) (at : Sides) (s : State) → alone parts ≡ o →
    Each (IsWithin p) (of_value (value.Parts parts)) → WerePassed (joined_texts p at.old parts o) at is_new olds →
    After (parts_step p span parts o olds is_new at s) (IsPassed (value_by p at.old parts o) (value_by p at.new parts o) (joined_texts p at.old parts o) (joined_texts p at.new parts o) is_new s)
parts_passed p span parts None olds is_new at s is fits were = joined_passed p span parts olds is_new at s fits were
parts_passed p span parts (Some part) olds is_new at s is fits were = alone_after p part is_new at s (alone_within p parts part is fits) (agree_now at is_new olds were)

bare_passed : (is_new : Bool) (s : State) → IsPassed (Some (boolean true)) (Some (boolean true)) [] [] is_new s (bare is_new) s
bare_passed true s = record { texts = refl; given = λ z q. q; anew = λ _ q. absurd (cc); stays = λ q _. absurd (true≢false q); grows = grows_same s }
bare_passed false s = record { texts = refl; given = λ z q. absurd (cc); anew = λ q _. absurd (true≢false (sym q)); stays = λ _ _. (refl, refl); grows = grows_same s }

value_passed : (p : Program) (span : Span) (x : FragValue) (olds : List (List ℕ)) (is_new : Bool) (at : Sides) (s : State) → Each (IsWithin p) (of_value x) → WerePassed (value_texts p at.old x) at is_new olds →
    After (value_step p span x olds is_new at s) (IsPassed (fresh.passed_value p at.old x) (fresh.passed_value p at.new x) (value_texts p at.old x) (value_texts p at.new x) is_new s)
value_passed p span value.Bare olds is_new at s fits were = bare_passed is_new s
value_passed p span (value.Parts parts) olds is_new at s fits were = parts_passed p span parts (alone parts) olds is_new at s refl fits were

-- ---- attributes

-- an attribute that passes a value
pub attr_passed : (p : Program) (a : FragAttr) (name : Name) (olds : List (List ℕ)) (is_new : Bool) (at : Sides) (s : State) → passed_name a ≡ Some name → Each (IsWithin p) (of_attr a) →
    WerePassed (kept_texts p at.old a) at is_new olds →
    After (passed_value p a olds is_new at s) (IsPassed (given_at p at.old a) (given_at p at.new a) (kept_texts p at.old a) (kept_texts p at.new a) is_new s)
attr_passed p (attr.Plain span own x) name olds is_new at s e fits were = value_passed p span x olds is_new at s fits were
attr_passed p (attr.On handler reads) name olds is_new at s e fits were = absurd (cc)
attr_passed p (attr.Bind span own part) name olds is_new at s e fits were = alone_after p part is_new at s fits.0 (agree_now at is_new olds were)
attr_passed p (attr.Class span own part) name olds is_new at s e fits were = absurd (cc)

-- the texts that are kept of an attribute, whatever it is
pub attr_texts : (p : Program) (a : FragAttr) (olds : List (List ℕ)) (is_new : Bool) (at : Sides) (s : State) → Each (IsWithin p) (of_attr a) → WerePassed (kept_texts p at.old a) at is_new olds →
    After (passed_value p a olds is_new at s) (λ x u. (x.texts ≡ kept_texts p at.new a) × Grows s u)
attr_texts p (attr.Plain span own x) olds is_new at s fits were =
    more_after (value_step p span x olds is_new at s) (IsPassed (fresh.passed_value p at.old x) (fresh.passed_value p at.new x) (value_texts p at.old x) (value_texts p at.new x) is_new s)
    (λ y u. (y.texts ≡ value_texts p at.new x) × Grows s u) (value_passed p span x olds is_new at s fits were) (λ y u h. (h.texts, h.grows))
attr_texts p (attr.On handler reads) olds is_new at s fits were = (refl, grows_same s)
attr_texts p (attr.Bind span own part) olds is_new at s fits were =
    more_after (alone_step p part is_new at s) (IsPassed (value_at p at.old part) (value_at p at.new part) [] [] is_new s) (λ y u. (y.texts ≡ []) × Grows s u)
    (alone_after p part is_new at s fits.0 (agree_now at is_new olds were)) (λ y u h. (h.texts, h.grows))
attr_texts p (attr.Class span own part) olds is_new at s fits were = (refl, grows_same s)
