-- What is claimed on a view follows on each view that agrees with it: form by form.
use Rattle.std.proofs.Common.{◌≡◌, ℕ, suc, Bool, true, ◌||◌, List, [], ◌∷◌, map, length, Option, Some, None, unwrap_or, refl, sym, ap, ◌∙◌, subst}
use Rattle.std.specs.Prelude.{slice_get}
use Rattle.sv_agree.proofs.Fitting.{IsIn, AreIn, IsKeyIn, same_in, same_attrs, tag_look, tag_attrs, tag_agrees, in_row, rows_agree}
use Rattle.sv_agree.proofs.Pairs.{Follows, Follow, pairs_append, pairs_each}
use Rattle.sv_agree.proofs.Scopes.{or_true, row_with}
use Rattle.sv_agree.proofs.Values.{IsSame, text_same, states_same, succeed_same, all_kept, prop_stays, choose_same, tests_same}
use Rattle.sv_agree.specs.Agreeing.{OfOwners, slot_in_tag, AgreesWith, AgreesAbove, in_any}
use Rattle.sv_agree.specs.Scopes.{Scope, StaysIn}
use Rattle.sv_attributes.specs.Each as lists
use Rattle.sv_code.proofs.Each.{each_mono}
use Rattle.sv_code.specs.Names.{Each}
use Rattle.sv_code.specs.Parts as parts
use Rattle.sv_code.specs.Within.{IsWithin}
use Rattle.sv_code.specs.declared.fragments.FragAttr.{FragAttr}
use Rattle.sv_code.specs.declared.parts.Part.{Part}
use Rattle.sv_code.specs.declared.parts.Reading.{Reading}
use Rattle.sv_code.specs.declared.program.Program.{Program}
use Rattle.sv_code.specs.declared.tags.Tag.{Tag}
use Rattle.sv_fresh.specs.Blocks.{choose}
use Rattle.sv_plan.specs.Lists.{Head, row_view}
use Rattle.sv_plan.specs.Slots.{prop_named, content_view}
use Rattle.sv_right.proofs.Forms.{literal_layer, text_layer, element_layer, if_layer, key_layer}
use Rattle.sv_right.proofs.Rows.{each_layer}
use Rattle.sv_right.proofs.Slots.{slot_layer}
use Rattle.sv_right.proofs.Standing.{Layer}
use Rattle.sv_right.proofs.Tags.{tag_layer}
use Rattle.sv_right.specs.Claims.{Claimer, Walker, Filled, claim_each, rows_claims, none_claims, slot_claims}
use Rattle.sv_right.specs.Right.{IsTagTrue}
use Rattle.sv_right.specs.Succeeds.{tests_succeed}
use Rattle.sv_shapes.specs.Shapes.{Opened, props_in, arm_in, list_in, rows_in, parts_in}
use Rattle.sv_shapes.specs.declared.shape.Row.{Row}
use Rattle.sv_shapes.specs.declared.shape.Shape.{Shape}
use Rattle.sv_shapes.specs.declared.shape.SlotProp.{SlotProp}
use Rattle.sv_view.specs.Level.{View}
use Rattle.sv_view.specs.View.{owner_of}

pub in_first : (a b : Bool) → a ≡ true → (a || b) ≡ true
in_first a b e = ap (λ c. c || b) e

module _ (p : Program) (depth : ℕ) where
  -- ---- slots

  -- content that is given follows on the views of owners
  abbrev pub FilledAgrees : Option Filled → Option Filled → View → View → Type 0
  FilledAgrees None None v v' = Unit {0}
  FilledAgrees None (Some f') v v' = ⊥
  FilledAgrees (Some f) None v v' = ⊥
  FilledAgrees (Some f) (Some f') v v' =
      (props : List SlotProp) (shapes : List Shape) → Follow p depth (f.walk (content_view f.lets props v) shapes) (f'.walk (content_view f'.lets props v') shapes)

  content_agrees : (filled filled' : Option Filled) (own own' : Walker) (v v' : View) (held : Opened) → FilledAgrees filled filled' v v' →
      Follow p depth (own v (parts_in held)) (own' v' (parts_in held)) → Follow p depth (slot_claims filled own v held) (slot_claims filled' own' v' held)
  content_agrees None None own own' v v' held fill agree = agree
  content_agrees None (Some f') own own' v v' held fill agree = absurd fill
  content_agrees (Some f) None own own' v v' held fill agree = absurd fill
  content_agrees (Some f) (Some f') own own' v v' held fill agree = fill (props_in held) (parts_in held)

  module _ (owners : OfOwners) where
    abbrev pub Agrees : Scope → Bool → View → View → Type 0
    Agrees scope slot v v' = AgreesWith scope slot owners v v'

    -- what is claimed of a fragment follows on each view that agrees within a scope, and whose owner's does where a slot stands there
    abbrev pub AgreesOne : Scope → Bool → Claimer → Claimer → Type 0
    AgreesOne scope slot claim claim' = (v v' : View) (old : Option Shape) → Agrees scope slot v v' → Follow p depth (claim v old) (claim' v' old)

    abbrev pub AgreesAll : Scope → Bool → Walker → Walker → Type 0
    AgreesAll scope slot claims claims' = (v v' : View) (shapes : List Shape) → Agrees scope slot v v' → Follow p depth (claims v shapes) (claims' v' shapes)

    abbrev pub AgreesLayer : Scope → Bool → Layer → Layer → Type 0
    AgreesLayer scope slot layer layer' = (v v' : View) (held : Opened) → Agrees scope slot v v' → Follow p depth (layer v held) (layer' v' held)

    -- ---- fragments beside one another

    -- a slot that stands in a part stands in the whole
    pub all_wider : (scope : Scope) (part whole : Bool) (claims claims' : Walker) → (part ≡ true → whole ≡ true) → AgreesAll scope part claims claims' → AgreesAll scope whole claims claims'
    all_wider scope part whole claims claims' wider agrees v v' shapes a = agrees v v' shapes (a.0, λ e. a.1 (wider e))

    count_same : {A : Type 0} (claim claim' : A → Claimer) (xs : List A) → length (map claim xs) ≡ length (map claim' xs)
    count_same claim claim' [] = refl
    count_same claim claim' (x ∷ xs) = ap suc (count_same claim claim' xs)

    walk_from : {A : Type 0} (scope : Scope) (slot : A → Bool) (claim claim' : A → Claimer) (v v' : View) (shapes : List Shape) (i : ℕ) (xs : List A) →
        Each (λ x. AgreesOne scope (slot x) (claim x) (claim' x)) xs → Agrees scope (in_any (map slot xs)) v v' →
        Follow p depth (lists.each (λ c j. c v (slice_get shapes j)) i (map claim xs)) (lists.each (λ c j. c v' (slice_get shapes j)) i (map claim' xs))
    walk_from scope slot claim claim' v v' shapes i [] agree a = tt
    walk_from scope slot claim claim' v v' shapes i (x ∷ xs) agree a =
        pairs_append (Follows p depth) (claim x v (slice_get shapes i)) (lists.each (λ c j. c v (slice_get shapes j)) (suc i) (map claim xs)) (claim' x v' (slice_get shapes i))
        (lists.each (λ c j. c v' (slice_get shapes j)) (suc i) (map claim' xs)) (agree.0 v v' (slice_get shapes i) (a.0, λ e. a.1 (in_first (slot x) (in_any (map slot xs)) e)))
        (walk_from scope slot claim claim' v v' shapes (suc i) xs agree.1 (a.0, λ e. a.1 (or_true (slot x) (in_any (map slot xs)) e)))

    pub walk_agrees : {A : Type 0} (scope : Scope) (slot : A → Bool) (claim claim' : A → Claimer) (xs : List A) → Each (λ x. AgreesOne scope (slot x) (claim x) (claim' x)) xs →
        AgreesAll scope (in_any (map slot xs)) (claim_each (map claim xs)) (claim_each (map claim' xs))
    walk_agrees scope slot claim claim' xs agree v v' shapes a = (record { holds = λ h. h ∙ count_same claim claim' xs; tags = tt }, walk_from scope slot claim claim' v v' shapes 0 xs agree a)

    -- ---- texts and elements

    pub agrees_literal : (scope : Scope) (slot : Bool) → AgreesLayer scope slot literal_layer literal_layer
    agrees_literal scope slot v v' held a = (record { holds = λ h. h; tags = tt }, tt)

    pub agrees_text : (scope : Scope) (slot : Bool) (part : Part) → IsIn p scope part → AgreesLayer scope slot (text_layer part) (text_layer part)
    agrees_text scope slot part fits v v' held a = (record { holds = λ h. (h.0, h.1 ∙ text_same p v v' part (same_in p scope part v v' fits a.0)); tags = tt }, tt)

    pub agrees_element : (scope : Scope) (slot : Bool) (attrs : List FragAttr) (claims claims' : Walker) → AreIn p scope attrs → AgreesAll scope slot claims claims' →
        AgreesLayer scope slot (element_layer attrs claims) (element_layer attrs claims')
    agrees_element scope slot attrs claims claims' fits agrees v v' held a =
        let same = same_attrs p scope attrs v v' fits a.0 in
        (record { holds = λ h. ((h.0.0, succeed_same p v v' attrs same h.0.1), h.1 ∙ states_same p v v' attrs same); tags = tt }, agrees v v' (parts_in held) a)

    -- ---- slots

    pub agrees_slot : (scope : Scope) (slot : Bool) (attrs : List FragAttr) (filled filled' : Option Filled) (own own' : Walker) → AreIn p scope attrs →
        ((v v' : View) → owners (owner_of v) (owner_of v') → FilledAgrees filled filled' v v') → AgreesAll scope slot own own' → AgreesLayer scope true (slot_layer attrs filled own) (slot_layer attrs filled' own')
    agrees_slot scope slot attrs filled filled' own own' fits fill agrees v v' held a = (
      record { holds = λ h. (h.0, λ name. prop_stays p v v' name attrs (prop_named name (props_in held)) (same_attrs p scope attrs v v' fits a.0) (h.1 name)); tags = tt },
      content_agrees filled filled' own own' v v' held (fill v v' (a.1 refl)) (agrees v v' (parts_in held) (a.0, λ e. a.1 refl)),
    )

    -- ---- if blocks and key blocks

    pub agrees_if : (scope : Scope) (slot : Bool) (ts ts' : List Part) (claims claims' : ℕ → Walker) → ts ≡ ts' → Each (IsIn p scope) ts → ((i : ℕ) → AgreesAll scope slot (claims i) (claims' i)) →
        AgreesLayer scope slot (if_layer ts claims) (if_layer ts' claims')
    agrees_if scope slot ts ts' claims claims' same fits agrees v v' held a = (
      record {
        holds = λ h.
            let each = each_mono (IsIn p scope) (IsSame p v v') (λ t k. same_in p scope t v v' k a.0) ts fits in (
              subst (λ zs. tests_succeed p v' zs ≡ true) same (sym (tests_same p v v' ts each) ∙ h.0),
              h.1 ∙ ap Some (choose_same p v v' ts 0 each ∙ ap (λ zs. choose p v' zs 0) same),
            );
        tags = tt;
      },
      agrees (unwrap_or (arm_in held) 0) v v' (parts_in held) a,
    )

    pub agrees_key : (scope : Scope) (slot : Bool) (part : Part) (claims claims' : Walker) → IsIn p scope part → AgreesAll scope slot claims claims' → AgreesLayer scope slot (key_layer part claims) (key_layer part claims')
    agrees_key scope slot part claims claims' fits agrees v v' held a = (record { holds = λ h. (h.0, h.1 ∙ same_in p scope part v v' fits a.0); tags = tt }, agrees v v' (parts_in held) a)

    -- ---- each blocks

    body_agrees : (scope : Scope) (slot : Bool) (h : Head) (claims claims' : Walker) (n : ℕ) (v v' : View) (rows : List Row) → AgreesAll (in_row h scope) slot claims claims' → Agrees scope slot v v' →
        Follow p depth (rows_claims h claims n v rows) (rows_claims h claims' n v' rows)
    body_agrees scope slot h claims claims' n v v' rows agrees a =
        pairs_each (Follows p depth) (λ (row : Row) i. claims (row_view h n i row.item v) row.parts) (λ (row : Row) i. claims' (row_view h n i row.item v') row.parts)
        (λ row i. agrees (row_view h n i row.item v) (row_view h n i row.item v') row.parts (row_with scope slot owners h n i row.item v v' a)) 0 rows

    none_agrees : (scope : Scope) (slot : Bool) (none none' : Walker) (v v' : View) (rows : List Row) (shapes : List Shape) → AgreesAll scope slot none none' → Agrees scope slot v v' →
        Follow p depth (none_claims none v rows shapes) (none_claims none' v' rows shapes)
    none_agrees scope slot none none' v v' [] shapes agrees a = agrees v v' shapes a
    none_agrees scope slot none none' v v' (row ∷ rows) shapes agrees a = tt

    pub agrees_each : (scope : Scope) (slot : Bool) (h : Head) (claims claims' none none' : Walker) → IsIn p scope h.list → IsKeyIn p (in_row h scope) h.key → AgreesAll (in_row h scope) slot claims claims' →
        AgreesAll scope slot none none' → AgreesLayer scope slot (each_layer h claims none) (each_layer h claims' none')
    agrees_each scope slot h claims claims' none none' list key agrees agrees_none v v' held a =
        let n = unwrap_or (list_in held) 0 in
        let rows = rows_in held in (
          record { holds = rows_agree p scope h v v' held list key a.0; tags = tt },
          pairs_append (Follows p depth) (rows_claims h claims n v rows) (none_claims none v rows (parts_in held)) (rows_claims h claims' n v' rows) (none_claims none' v' rows (parts_in held))
              (body_agrees scope slot h claims claims' n v v' rows agrees a) (none_agrees scope slot none none' v v' rows (parts_in held) agrees_none a),
        )

  -- ---- component tags

  pub agrees_tag : (scope : Scope) (tags tags' : List (Option ℕ)) (tag : ℕ) (reads : Reading) → ((t : Tag) → slice_get p.tags tag ≡ Some t → Each (IsWithin p) (parts.of_attrs t.attrs)) →
      StaysIn p scope.reading (tag_look scope.bound tag reads) → AgreesLayer (AgreesAbove p depth tags tags') scope (slot_in_tag p depth tag) (tag_layer tags tag) (tag_layer tags' tag)
  agrees_tag scope tags tags' tag reads within stays v v' held a = (
    record {
      holds = by (slice_get p.tags tag) refl;
      tags = record { tag = refl; held = refl; content = λ t is. (tag_agrees p scope.reading scope.bound tag reads t v v' is stays a.0, a.1) };
    },
    tt,
  ) where
    by : (o : Option Tag) → slice_get p.tags tag ≡ o → IsTagTrue p v o held → IsTagTrue p v' o held
    by None is k = k
    by (Some t) is k = (k.0, k.1 ∙ all_kept p v v' t.attrs (tag_attrs p scope.reading scope.bound tag reads t v v' is (within t is) stays a.0))
