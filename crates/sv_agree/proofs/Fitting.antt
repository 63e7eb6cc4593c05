-- What fits in a scope has the same value on views that agree there.
use Rattle.std.proofs.Common.{◌≡◌, ℕ, true, List, [], Option, Some, None, unwrap_or, refl, sym, ap, ◌∙◌, subst}
use Rattle.std.specs.Option.{option_and_then}
use Rattle.std.specs.Prelude.{slice_get}
use Rattle.sv_agree.proofs.Scopes.{IsSeenIn, seen_in, alike_at, part_look, value_same, or_true, inside, row_agrees}
use Rattle.sv_agree.proofs.Values.{IsSame, attrs_in}
use Rattle.sv_agree.specs.Scopes.{Scope, only, AgreesAt, StaysIn}
use Rattle.sv_base.specs.declared.names.Name.{Name}
use Rattle.sv_code.proofs.Each.{each_mono, each_of}
use Rattle.sv_code.specs.Content as content
use Rattle.sv_code.specs.Content.{Look, ByTag, Sees, is_bound, row_names}
use Rattle.sv_code.specs.Names.{Each}
use Rattle.sv_code.specs.Parts as parts
use Rattle.sv_code.specs.Within.{IsWithin}
use Rattle.sv_code.specs.declared.fragments.FragAttr.{FragAttr}
use Rattle.sv_code.specs.declared.parts.Part.{Part}
use Rattle.sv_code.specs.declared.parts.Reading.{Reading}
use Rattle.sv_code.specs.declared.program.Program.{Program}
use Rattle.sv_code.specs.declared.tags.Tag.{Tag}
use Rattle.sv_local.specs.Looks.{AreAlikeAt}
use Rattle.sv_plan.specs.Lists.{Head, row_view, items_in}
use Rattle.sv_right.proofs.Lists.{some_same}
use Rattle.sv_right.specs.Right.{AreRowsTrue, key_by}
use Rattle.sv_shapes.specs.Shapes.{Opened, list_in}
use Rattle.sv_value.specs.Key.{key_of}
use Rattle.sv_value.specs.Value.{Val}
use Rattle.sv_view.specs.Level.{View}

abbrev pub tag_look : List Name → ℕ → Reading → Look
tag_look bound tag reads = record { by = ByTag tag; bound = bound; reads = reads }

-- the scope of a row
abbrev pub in_row : Head → Scope → Scope
in_row h scope = inside (row_names h.item h.index) scope

-- views that are alike at what a reading has agree where nothing else may be looked at
pub only_at : (reads : Reading) (v v' : View) → AreAlikeAt reads v v' → AgreesAt (only reads) v v'
only_at reads v v' a = record { one = a.one; cells = a.cells; locals = a.locals }

module _ (p : Program) where
  -- ---- what fits in a scope has the same value on views that agree there

  -- a part is within what it looks at, and that stays within a scope
  abbrev pub IsIn : Scope → Part → Type 0
  IsIn scope part = IsWithin p part × StaysIn p scope.reading (part_look scope.bound part)

  pub same_in : (scope : Scope) (part : Part) (v v' : View) → IsIn scope part → AgreesAt scope v v' → IsSame p v v' part
  same_in scope part v v' fits a = value_same p scope part v v' fits.0 (seen_in p scope.reading (part_look scope.bound part) fits.1) a

  -- so it is with attributes
  abbrev pub AreIn : Scope → List FragAttr → Type 0
  AreIn scope attrs = Each (IsWithin p) (parts.of_attrs attrs) × Each (StaysIn p scope.reading) (content.of_attrs attrs scope.bound)

  pub same_attrs : (scope : Scope) (attrs : List FragAttr) (v v' : View) → AreIn scope attrs → AgreesAt scope v v' → Each (IsSame p v v') (parts.of_attrs attrs)
  same_attrs scope attrs v v' fits a =
      attrs_in p scope v v' a attrs fits.0 (each_mono (StaysIn p scope.reading) (IsSeenIn scope.reading) (seen_in p scope.reading) (content.of_attrs attrs scope.bound) fits.1)

  -- the attributes of a tag look at nothing but what the tag looks at
  pub tag_attrs : (reading : Option Reading) (bound : List Name) (tag : ℕ) (reads : Reading) (t : Tag) (v v' : View) → slice_get p.tags tag ≡ Some t → Each (IsWithin p) (parts.of_attrs t.attrs) →
      StaysIn p reading (tag_look bound tag reads) → AgreesAt (record { reading = reading; bound = bound }) v v' → Each (IsSame p v v') (parts.of_attrs t.attrs)
  tag_attrs None bound tag reads t v v' is within stays a =
      attrs_in p (record { reading = None; bound = bound }) v v' a t.attrs within (each_of (IsSeenIn None) (λ look. tt) (content.of_attrs t.attrs bound))
  tag_attrs (Some outer) bound tag reads t v v' is within stays a =
      attrs_in p (only reads) v v' (only_at reads v v' (alike_at (Some outer) (tag_look bound tag reads) v v' stays.0 a)) t.attrs within
      (subst (λ (z : Tag). Each (IsSeenIn (Some reads)) (content.of_attrs z.attrs [])) (some_same (sym stays.1.there ∙ is)) stays.1.holds.attrs)

  -- views agree at what a tag looks at for its content
  pub tag_agrees : (reading : Option Reading) (bound : List Name) (tag : ℕ) (reads : Reading) (t : Tag) (v v' : View) → slice_get p.tags tag ≡ Some t → StaysIn p reading (tag_look bound tag reads) →
      AgreesAt (record { reading = reading; bound = bound }) v v' → AgreesAt (only t.reads) v v'
  tag_agrees None bound tag reads t v v' is stays a = record { one = a.one; cells = λ n e. a.cells n refl; locals = λ x e. a.locals x (or_true (is_bound x bound) true refl) }
  tag_agrees (Some outer) bound tag reads t v v' is stays a =
      only_at t.reads v v'
      (alike_at (Some reads) (tag_look [] tag t.reads) v v' (subst (λ (z : Tag). Sees reads [] z.reads) (some_same (sym stays.1.there ∙ is)) stays.1.holds.content)
      (only_at reads v v' (alike_at (Some outer) (tag_look bound tag reads) v v' stays.0 a)))

  -- ---- each blocks

  -- a key is within what it looks at, and that stays within the scope of a row
  abbrev pub IsKeyIn : Scope → Option Part → Type 0
  IsKeyIn scope None = Unit {0}
  IsKeyIn scope (Some key) = IsIn scope key

  key_same : (scope : Scope) (h : Head) (key : Option Part) (n i : ℕ) (item : Val) (v v' : View) → IsKeyIn (in_row h scope) key → AgreesAt scope v v' → key_by p h key n v i item ≡ key_by p h key n v' i item
  key_same scope h None n i item v v' fits a = refl
  key_same scope h (Some key) n i item v v' fits a =
      ap (option_and_then key_of) (same_in (in_row h scope) key (row_view h n i item v) (row_view h n i item v') fits (row_agrees scope h n i item v v' a))

  pub rows_agree : (scope : Scope) (h : Head) (v v' : View) (held : Opened) → IsIn scope h.list → IsKeyIn (in_row h scope) h.key → AgreesAt scope v v' → AreRowsTrue p h v held → AreRowsTrue p h v' held
  rows_agree scope h v v' held list key a k = record {
    is = k.is;
    items = sym (ap (option_and_then items_in) (same_in scope h.list v v' list a)) ∙ k.items;
    keys = λ i row e. sym (key_same scope h h.key (unwrap_or (list_in held) 0) i row.item v v' key a) ∙ k.keys i row e;
    once = k.once;
    idle = k.idle;
  }
