-- What single steps change: new numbers, children that go, component tags, and texts.
use Rattle.std.proofs.lemmas.List.{append-nil}
use Rattle.std.proofs.Common.{◌≡◌, ℕ, ◌+◌, nat_eq, List, [], ◌∷◌, ◌++◌, map, Option, Some, None, refl, sym, ap, arith}
use Rattle.sv_code.specs.declared.fragments.FragAttr.{FragAttr}
use Rattle.sv_code.specs.declared.program.Program.{Program}
use Rattle.sv_parts.specs.Elements.{opening_by}
use Rattle.sv_parts.specs.Parts.{marked}
use Rattle.sv_parts.specs.Sides.{Sides}
use Rattle.sv_parts.specs.Tags.{create_step, keep_step}
use Rattle.sv_parts.specs.declared.state.Effect.{Effect}
use Rattle.sv_parts.specs.declared.state.Effect.TheVariants as effect
use Rattle.sv_parts.specs.declared.state.Given.{Given}
use Rattle.sv_parts.specs.declared.state.Kept.{Kept}
use Rattle.sv_parts.specs.declared.state.State.{State}
use Rattle.sv_places.proofs.Changes.{Load, nowhere, both, Grows, Change, Quiet, Ends, ends-then, change-on, change-as, quiet-change, grown-not, created, set, destroyed as gone}
use Rattle.sv_places.proofs.Counting.{count-joined, count-kept, destroyed-all, none-created, none-set, below-more}
use Rattle.sv_places.proofs.Loads.{loads}
use Rattle.sv_places.proofs.Quiet.{attrs_quiet}
use Rattle.sv_places.specs.Keeping.{created_at, set_at, destroyed_at, created_by, set_by, destroyed_by}
use Rattle.sv_places.specs.Numbers.{count}
use Rattle.sv_shapes.specs.Places.{places_all}
use Rattle.sv_shapes.specs.declared.shape.Shape.{Shape}
use Rattle.sv_shapes.specs.declared.shape.Shape.TheVariants as shape
use Rattle.sv_tokens.specs.Counting.{one}
use Rattle.sv_shapes.specs.declared.shape.AttrState.{AttrState}
use Rattle.sv_tokens.specs.declared.element.Typed.{Typed}
use Rattle.sv_view.specs.Level.{View}

-- ---- effects behind those before

module _ (n : ℕ) (s : State) (more : List Effect) where
  abbrev after : State
  after = record s { effects = s.effects ++ more }

  pub created-after : created n after ≡ created n s + count n (created_at more)
  created-after = count-joined n created_by s.effects more

  pub set-after : set n after ≡ set n s + count n (set_at more)
  set-after = count-joined n set_by s.effects more

  pub gone-after : gone n after ≡ gone n s + count n (destroyed_at more)
  gone-after = count-joined n destroyed_by s.effects more

grown-after : (s : State) (more : List Effect) → Grows s (record s { effects = s.effects ++ more })
grown-after s more = record { effects = more; kept = []; effects_are = refl; kept_are = sym (append-nil s.kept) }

module _ (n : ℕ) where
  -- children go
  pub destroyed-change : (parts : List Shape) (s : State) → Change n (loads n parts) nowhere s (record s { effects = s.effects ++ map effect.Destroy (places_all parts) })
  destroyed-change parts s = record {
    grows = grown-after s more;
    lost = omega (arith, created-after n s more, gone-after n s more, all, no_created);
    there = omega (arith, created-after n s more, no_created);
    set = omega (arith, set-after n s more, no_set);
    next = omega arith;
    numbers = omega arith;
    made = omega (arith, created-after n s more, no_created);
  }
    where
      more : List Effect
      more = map effect.Destroy (places_all parts)

      all : count n (destroyed_at more) ≡ count n (places_all parts)
      all = ap (count n) (destroyed-all (places_all parts))

      no_created : count n (created_at more) ≡ 0
      no_created = ap (count n) (none-created (places_all parts))

      no_set : count n (set_at more) ≡ 0
      no_set = ap (count n) (none-set (places_all parts))

  -- a number is given to a text or an element
  abbrev pub mark : ℕ → Load
  mark at = record { places = 0; numbers = one (nat_eq n at) }

  pub numbered-change : (s : State) → Change n nowhere (mark s.counters.next) s (record s { counters = record s.counters { next = s.counters.next + 1 } })
  numbered-change s = record {
    grows = grown-not s _ refl refl;
    lost = omega arith;
    there = omega arith;
    set = omega arith;
    next = omega arith;
    numbers = omega (arith, below-more n s.counters.next);
    made = omega (arith, below-more n s.counters.next);
  }

  -- a mark stays
  pub marked-change : (at : ℕ) (s : State) → Change n (mark at) (mark at) s s
  marked-change at s = record { grows = grown-not s s refl refl; lost = omega arith; there = omega arith; set = omega arith; next = omega arith; numbers = omega arith; made = omega arith }

  -- a step that adds nothing, and then another
  pub after-quiet : (a b : Load) (s t u : State) → Quiet s t → Change n a b t u → Change n a b s u
  after-quiet a b s t u q k = change-as n (both nowhere a) (both nowhere b) a b s u (omega arith) (omega arith) (omega arith) (omega arith) (change-on n nowhere nowhere a b s t u (quiet-change n s t q) k)

  pub before-quiet : (a b : Load) (s t u : State) → Change n a b s t → Quiet t u → Change n a b s u
  before-quiet a b s t u k q = change-as n (both a nowhere) (both b nowhere) a b s u (omega arith) (omega arith) (omega arith) (omega arith) (change-on n a b nowhere nowhere s t u k (quiet-change n t u q))

  -- ---- texts and elements

  abbrev pub mark_or : Option ℕ → Load
  mark_or None = nowhere
  mark_or (Some at) = mark at

  pub marked-ends : (old : Option ℕ) (s : State) → Ends (λ at t. Change n (mark_or old) (mark at) s t) (marked old s)
  marked-ends None s = numbered-change s
  marked-ends (Some at) s = marked-change at s

  pub opening-ends : (p : Program) (attrs : List FragAttr) (old : Option ℕ) (typed : Option Typed) (states : List AttrState) (at : Sides) (s : State) → Ends (λ o t. Change n (mark_or old) (mark o.mark) s t) (opening_by p attrs old typed states at s)
  opening-ends p attrs None typed states at s =
      ends-then (λ _ t. Quiet (record s { counters = record s.counters { next = s.counters.next + 1 } }) t) _ _ _ ((attrs_quiet p attrs [] at).held _)
      (λ states t q. before-quiet nowhere (mark s.counters.next) s _ t (numbered-change s) q)
  opening-ends p attrs (Some mark) typed states at s =
      ends-then (λ _ t. Quiet s t) _ _ _ ((attrs_quiet p attrs states at).held s) (λ new t q. after-quiet _ _ s t t q (marked-change mark t))

  -- ---- component tags

  abbrev pub tag_at : ℕ → Load
  tag_at place = record { places = one (nat_eq n place) + 0; numbers = one (nat_eq n place) + 0 }

  -- a child is made at a new place
  pub create-ends : (k : ℕ) (props : List Given) (texts : List (List (List ℕ))) (at : Sides) (s : State) →
      Ends (λ x t. (x ≡ shape.Tag s.counters.next texts) × Change n nowhere (tag_at s.counters.next) s t) (create_step k props texts at s)
  create-ends k props texts at s = (
    refl,
    record {
      grows = record { effects = more; kept = []; effects_are = refl; kept_are = sym (append-nil s.kept) };
      lost = omega (arith, created-after n s more, gone-after n s more);
      there = omega (arith, created-after n s more);
      set = omega (arith, set-after n s more);
      next = omega arith;
      numbers = omega (arith, below-more n s.counters.next);
      made = omega (arith, created-after n s more, below-more n s.counters.next);
    },
  )
    where
      more : List Effect
      more = effect.Create s.counters.next k props at.new ∷ []

  -- a place is remembered, after nothing or a child was set something
  pub remembered-change : (kept : Kept) (s : State) → Change n (tag_at kept.place) (tag_at kept.place) s (record s { kept = s.kept ++ kept ∷ [] })
  remembered-change kept s = record {
    grows = record { effects = []; kept = kept ∷ []; effects_are = sym (append-nil s.effects); kept_are = refl };
    lost = omega arith;
    there = omega (arith, count-kept n s.kept (kept ∷ []));
    set = omega (arith, count-kept n s.kept (kept ∷ []));
    next = omega arith;
    numbers = omega arith;
    made = omega arith;
  }

  set-change : (props : List Given) (view : Option View) (kept : Kept) (s : State) → Change n (tag_at kept.place) (tag_at kept.place) s (record s { effects = s.effects ++ effect.Set kept.place props view ∷ []; kept = s.kept ++ kept ∷ [] })
  set-change props view kept s = record {
    grows = record { effects = more; kept = kept ∷ []; effects_are = refl; kept_are = refl };
    lost = omega (arith, created-after n s more, gone-after n s more);
    there = omega (arith, created-after n s more, count-kept n s.kept (kept ∷ []));
    set = omega (arith, set-after n s more, count-kept n s.kept (kept ∷ []));
    next = omega arith;
    numbers = omega arith;
    made = omega (arith, created-after n s more);
  }
    where
      more : List Effect
      more = effect.Set kept.place props view ∷ []

  pub keep-ends : (place : ℕ) (props : List Given) (view : Option View) (at : Sides) (s : State) → Ends (λ _ t. Change n (tag_at place) (tag_at place) s t) (keep_step place props view at s)
  keep-ends place [] None at s = remembered-change (record { place = place; locals = at.new.own.locals }) s
  keep-ends place [] (Some view) at s = set-change [] (Some view) (record { place = place; locals = at.new.own.locals }) s
  keep-ends place (g ∷ props) view at s = set-change (g ∷ props) view (record { place = place; locals = at.new.own.locals }) s
