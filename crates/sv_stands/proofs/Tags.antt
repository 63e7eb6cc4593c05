-- What component tags lend: a child is made, is lent the view, or stays with the one that it has.
use Rattle.std.proofs.lemmas.List.{append-nil}
use Rattle.std.proofs.Common.{◌≡◌, ◌⊎◌, inl, inr, ℕ, Bool, true, false, ◌&&◌, List, [], ◌∷◌, ◌++◌, Option, Some, None, refl, sym, slice_get, if◌then◌else◌}
use Rattle.sv_code.specs.Names.{Each}
use Rattle.sv_code.specs.declared.program.Program.{Program}
use Rattle.sv_code.specs.declared.tags.Tag.{Tag}
use Rattle.sv_meaning.specs.Components.{component_at}
use Rattle.sv_parts.specs.Sides.{Sides, moved}
use Rattle.sv_parts.specs.Tags.{offers_step, props_given, props_at, shows_content, texts_of, view_for, create_step, keep_step, tag_by}
use Rattle.sv_parts.specs.declared.state.Effect.{Effect}
use Rattle.sv_parts.specs.declared.state.Effect.TheVariants as effect
use Rattle.sv_parts.specs.declared.state.Given.{Given}
use Rattle.sv_parts.specs.declared.state.Kept.{Kept}
use Rattle.sv_parts.specs.declared.state.State.{State}
use Rattle.sv_places.proofs.Changes.{Quiet, Ends, ends-then, ends-as}
use Rattle.sv_places.proofs.Quiet.{offers_quiet}
use Rattle.sv_shapes.specs.declared.shape.Shape.{Shape}
use Rattle.sv_shapes.specs.declared.shape.Shape.TheVariants as shape
use Rattle.sv_stands.proofs.Lending.{quiet_silent, lent_after}
use Rattle.sv_stands.specs.Holds.{Hold}
use Rattle.sv_places.specs.Any.{Any}
use Rattle.sv_stands.specs.Lent.{Lends, StaysLent, IsFor, PlanLends}
use Rattle.sv_view.specs.Level.{View}

module _ (p : Program) (tags : List (Option ℕ)) (k : ℕ) where
  abbrev pub hold_at : ℕ → View → Hold
  hold_at place v = record { place = place; tag = k; tags = tags; view = v }

  -- the hold that there was at a place, if there was one
  abbrev pub hold_or : Option ℕ → View → List Hold
  hold_or None v = []
  hold_or (Some place) v = hold_at place v ∷ []

  -- a tag at some place, with what it lends
  pub record IsTag (at : Sides) (befores : List Hold) (s : State) (x : Shape) (t : State) : Type 0 where
    pub place : ℕ
    pub texts : List (List (List ℕ))
    pub is : x ≡ shape.Tag place texts
    pub lent : PlanLends p befores (hold_at place at.new ∷ []) s t

  create_ends : (props : List Given) (texts : List (List (List ℕ))) (at : Sides) (s : State) → Ends (IsTag at [] s) (create_step k props texts at s)
  create_ends props texts at s = record {
    place = s.counters.next;
    texts = texts;
    is = refl;
    lent = record {
      effects = effect.Create s.counters.next k props at.new ∷ [];
      kept = [];
      effects_are = refl;
      kept_are = sym (append-nil s.kept);
      all = record { lent = (inl (inl (refl, refl, refl)), tt); effects_for = (inl (refl, refl, refl), tt); kept_for = tt };
    };
  }

  module _ (t : Tag) (is : slice_get p.tags k ≡ Some t) (at : Sides) (place : ℕ) where
    abbrev before : Hold
    before = hold_at place at.old

    abbrev now : Hold
    now = hold_at place at.new

    abbrev Stays : State → State → Type 0
    Stays s u = PlanLends p (before ∷ []) (now ∷ []) s u

    -- the place that stays
    abbrev stay : List Kept
    stay = record { place = place; locals = at.new.own.locals } ∷ []

    goes : (effects : List Effect) → Any (Lends now) effects ⊎ StaysLent p k at.old at.new → Each (IsFor (now ∷ [])) effects → (s u : State) → u.effects ≡ s.effects ++ effects → u.kept ≡ s.kept ++ stay → Stays s u
    goes effects q r s u e f = record {
      effects = effects;
      kept = stay;
      effects_are = e;
      kept_are = f;
      all = record {
        lent = (inr (inl (record { place = refl; tag = refl; tags = refl; stays = inl (refl, refl); lent = q })), tt);
        effects_for = r;
        kept_for = (inl (refl, refl), tt);
      };
    }

    keep_lends : (props : List Given) (s : State) → Ends (λ _ u. Stays s u) (keep_step place props (Some at.new) at s)
    keep_lends [] s = goes _ (inl (inl (refl, refl))) (inl (refl, refl), tt) s _ refl refl
    keep_lends (g ∷ props) s = goes _ (inl (inl (refl, refl))) (inl (refl, refl), tt) s _ refl refl

    keep_stays : StaysLent p k at.old at.new → (props : List Given) (s : State) → Ends (λ _ u. Stays s u) (keep_step place props None at s)
    keep_stays q [] s = goes [] (inr q) tt s _ (sym (append-nil s.effects)) refl
    keep_stays q (g ∷ props) s = goes _ (inr q) (tt, tt) s _ refl refl

    keep_ends : (props : List Given) (s : State) → Ends (λ _ u. Stays s u) (keep_step place props (view_for p t at) at s)
    keep_ends props s = by (shows_content (component_at p t.file)) (moved t.reads at) refl refl
      where
        by : (a b : Bool) → shows_content (component_at p t.file) ≡ a → moved t.reads at ≡ b → Ends (λ _ u. Stays s u) (keep_step place props (if a && b then Some at.new else None) at s)
        by true true e f = keep_lends props s
        by true false e f = keep_stays (record { tag = t; is_tag = is; stays = inr f }) props s
        by false b e f = keep_stays (record { tag = t; is_tag = is; stays = inl e }) props s

  pub tag_ends : (t : Tag) → slice_get p.tags k ≡ Some t → (old : Option ℕ) (texts : List (List (List ℕ))) (at : Sides) (s : State) → Ends (IsTag at (hold_or old at.old) s) (tag_by p k t old texts at s)
  tag_ends t is None texts at s =
      ends-then (λ _ u. Quiet s u) (IsTag at [] s) (offers_step p t.attrs [] true at s) _ ((offers_quiet p t.attrs [] true at).held s)
      (λ offers u q. ends-as (IsTag at [] u) (IsTag at [] s) (create_step k (props_given (props_at (component_at p t.file)) offers) (texts_of offers) at u)
      (λ x w c. record { place = c.place; texts = c.texts; is = c.is; lent = lent_after p [] (hold_at c.place at.new ∷ []) s u w (quiet_silent p s u q) c.lent })
      (create_ends (props_given (props_at (component_at p t.file)) offers) (texts_of offers) at u))
  tag_ends t is (Some place) texts at s =
      ends-then (λ _ u. Quiet s u) (IsTag at (hold_at place at.old ∷ []) s) (offers_step p t.attrs texts false at s) _ ((offers_quiet p t.attrs texts false at).held s)
      (λ offers u q. ends-then (λ _ w. Stays t is at place u w) (IsTag at (hold_at place at.old ∷ []) s) (keep_step place (props_given (props_at (component_at p t.file)) offers) (view_for p t at) at u) _
      (keep_ends t is at place (props_given (props_at (component_at p t.file)) offers) u)
      (λ _ w c. record { place = place; texts = texts_of offers; is = refl; lent = lent_after p (hold_at place at.old ∷ []) (hold_at place at.new ∷ []) s u w (quiet_silent p s u q) c }))
