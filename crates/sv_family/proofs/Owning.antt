-- A component in whose markup a `<slot>` stands has a cell for its owner's view.
use Rattle.std.proofs.Common.{◌≡◌, ℕ, zero, suc, ◌<◌, ◌≤◌, true, List, [], ◌∷◌, length, Option, None, Some, refl, sym, ap, subst, ◌∙◌, arith, inl, inr, is_some, slice_get}
use Rattle.std.specs.List.{All}
use Rattle.std.specs.Option.{option_and_then, option_to_list}
use Rattle.std.specs.Prelude.{if◌then◌else◌}
use Rattle.std.proofs.lemmas.Bool.{lt-ltb, le-leb}
use Rattle.std.proofs.lemmas.List.Elements.{All-head, All-tail}
use Rattle.sv_base.specs.declared.limits.TheConstants.{CELL_LIMIT}
use Rattle.sv_code.proofs.Each.{each_back}
use Rattle.sv_code.specs.Compiled.{IsCompiled, IsFile, IsCode, counts, size_of}
use Rattle.sv_code.specs.Content as looks
use Rattle.sv_code.specs.Content.{Look, ByTag, BySlot, Stands, HasView, SeesViewBy, SeesView, IsViewSeen, AreContentsSeen, of_frags, of_tag}
use Rattle.sv_code.specs.Names.{Each}
use Rattle.sv_code.specs.declared.fragments.Frag.{Frag}
use Rattle.sv_code.specs.declared.fragments.LetName.{LetName}
use Rattle.sv_code.specs.declared.parts.Reading.{Reading}
use Rattle.sv_code.specs.declared.program.Component.{Component}
use Rattle.sv_code.specs.declared.program.FileCode.{FileCode}
use Rattle.sv_code.specs.declared.program.FileCode.TheVariants as file_code
use Rattle.sv_code.specs.declared.program.Program.{Program}
use Rattle.sv_code.specs.declared.program.ProgramFile.{ProgramFile}
use Rattle.sv_code.specs.declared.tags.Tag.{Tag}
use Rattle.sv_family.proofs.Rebound.{IsFree, content_moves, content_back}
use Rattle.sv_family.specs.Kin.{is_cell_in}
use Rattle.sv_family.specs.Owners.{SlotsAreOwned}
use Rattle.sv_flush.specs.Creation.{cell_count}
use Rattle.sv_meaning.specs.Components.{component_in, component_at}
use Rattle.sv_places.specs.Any.{Any}
use Rattle.sv_stands.specs.Standing.{HasSlot, here, inside}

-- ---- lists

some_same : {A : Type 0} {x y : A} → Some x ≡ Some y → x ≡ y
some_same e = cc

-- of each of some things something is so, and of one of them another thing
each_any : {A : Type 0} (P Q : A → Type 0) (G : Type 0) → ((x : A) → P x → Q x → G) → (xs : List A) → Each P xs → Any Q xs → G
each_any P Q G f [] h q = absurd (q)
each_any P Q G f (x ∷ xs) h (inl q) = f x h.0 q
each_any P Q G f (x ∷ xs) h (inr q) = each_any P Q G f xs h.1 q

each_at : {A : Type 0} (Q : A → Type 0) (xs : List A) (i : ℕ) (x : A) → Each Q xs → slice_get xs i ≡ Some x → Q x
each_at Q [] i x h e = absurd (cc)
each_at Q (y ∷ xs) zero x h e = subst Q (some_same e) h.0
each_at Q (y ∷ xs) (suc i) x h e = each_at Q xs i x h.1 e

all_at : {A : Type 0} (Q : A → Type 0) (xs : List A) (i : ℕ) (x : A) → All Q xs → slice_get xs i ≡ Some x → Q x
all_at Q [] i x h e = absurd (cc)
all_at Q (y ∷ xs) zero x h e = subst Q (some_same e) (All-head Q y xs h)
all_at Q (y ∷ xs) (suc i) x h e = all_at Q xs i x (All-tail Q y xs h) e

-- ---- the owner's view

module _ (p : Program) (view : Option ℕ) where
  -- each slot looks at the owner's view, whatever names are round it
  sees_free : (depth : ℕ) → IsFree (SeesView p.tags view depth)
  sees_free zero = record { moves = λ by reads from to h. tt }
  sees_free (suc depth) = record { moves = λ by reads from to h. h }

  -- also in markup as the content of a tag
  pub sees_as_content : (depth : ℕ) (lets : List LetName) (list : List Frag) → Each (SeesView p.tags view depth) (of_frags list []) → Each (SeesView p.tags view depth) (looks.of_content lets list)
  sees_as_content depth lets list h = content_back (SeesView p.tags view depth) (sees_free depth) lets list h

  has_view : (reads : Reading) (o : Option ℕ) → HasView reads o → is_some o ≡ true
  has_view reads None h = absurd (h)
  has_view reads (Some cell) h = refl

  -- the content of a tag in there is seen one tag less deep
  tag_sees : (k : ℕ) (t : Tag) → slice_get p.tags k ≡ Some t → (depth : ℕ) (look : Look) → SeesView p.tags view (suc depth) look → look.by ≡ ByTag k → Each (SeesView p.tags view depth) (of_frags t.content [])
  tag_sees k t is depth look h e = by (subst (λ l. SeesViewBy (SeesView p.tags view depth) p.tags view look.reads l) e h)
    where
      by : Stands (λ u. Each (SeesView p.tags view depth) (of_tag u)) p.tags k → Each (SeesView p.tags view depth) (of_frags t.content [])
      by s =
          content_moves (SeesView p.tags view depth) (sees_free depth) t.lets t.content
          (each_back (SeesView p.tags view depth) (looks.of_attrs t.attrs []) (looks.of_content t.lets t.content)
          (subst (λ u. Each (SeesView p.tags view depth) (of_tag u)) (some_same (sym s.there ∙ is)) s.holds))

  -- so the content of a tag in some markup is seen at any depth, where the markup is
  pub content_sees : (frags : List Frag) (k : ℕ) (t : Tag) → slice_get p.tags k ≡ Some t → Any (λ look. look.by ≡ ByTag k) (of_frags frags []) →
      ((depth : ℕ) → Each (SeesView p.tags view depth) (of_frags frags [])) → (depth : ℕ) → Each (SeesView p.tags view depth) (of_frags t.content [])
  content_sees frags k t is q h depth =
      each_any (SeesView p.tags view (suc depth)) (λ look. look.by ≡ ByTag k) (Each (SeesView p.tags view depth) (of_frags t.content [])) (λ look n e. tag_sees k t is depth look n e) (of_frags frags []) (h (suc depth)) q

  slot_has_view : (frags : List Frag) → HasSlot p frags → ((depth : ℕ) → Each (SeesView p.tags view depth) (of_frags frags [])) → is_some view ≡ true
  slot_has_view frags (here _ q) h =
      each_any (SeesView p.tags view 1) (λ look. look.by ≡ BySlot) (is_some view ≡ true)
      (λ look k e. has_view look.reads view (subst (λ l. SeesViewBy (SeesView p.tags view 0) p.tags view look.reads l) e k)) (of_frags frags []) (h 1) q
  slot_has_view frags (inside _ k t q is s) h = slot_has_view t.content s (content_sees frags k t is q h)

-- ---- components

-- the file of a component
record FileOf (p : Program) (file : ℕ) (c : Component) : Type 0 where
  of : ProgramFile
  stands : slice_get p.files file ≡ Some of
  code : of.code ≡ file_code.Component c

component_code : (code : FileCode) (c : Component) → component_in code ≡ Some c → code ≡ file_code.Component c
component_code (file_code.Component d) c e = ap file_code.Component (some_same e)
component_code (file_code.Module m) c e = absurd (cc)

file_of : (p : Program) (file : ℕ) (c : Component) → component_at p file ≡ Some c → FileOf p file c
file_of p file c e = by (slice_get p.files file) refl e
  where
    by : (o : Option ProgramFile) → slice_get p.files file ≡ o → option_and_then (λ f. component_in f.code) o ≡ Some c → FileOf p file c
    by None is q = absurd (cc)
    by (Some f) is q = record { of = f; stands = is; code = component_code f.code c q }

few_cells : (c : Component) → length c.cells ≤ CELL_LIMIT → cell_count c ≡ length c.cells
few_cells c few = ap (λ b. if b then length c.cells else 255) (le-leb (length c.cells) 255 (omega (arith, few)))

-- the view's cell is one of a component with so many cells
view_below : (view : Option ℕ) (cells : ℕ) → is_some view ≡ true → All (λ n. n < cells) (option_to_list view) → is_cell_in cells view ≡ true
view_below None cells some below = absurd (cc)
view_below (Some v) cells some below = lt-ltb v cells (All-head (λ n. n < cells) v [] below)

-- each slot of a component looks at the owner's view
pub component_sees : (p : Program) → AreContentsSeen p → (file : ℕ) (c : Component) → component_at p file ≡ Some c → (depth : ℕ) → Each (SeesView p.tags c.view depth) (of_frags c.markup [])
component_sees p contents file c e =
    let f = file_of p file c e in
    subst (IsViewSeen p.tags) f.code (each_at (λ x. IsViewSeen p.tags x.code) p.files file f.of contents.views f.stands)

pub slots_are_owned : (p : Program) → AreContentsSeen p → IsCompiled p → SlotsAreOwned p
slots_are_owned p contents compiled file c e s =
    let f = file_of p file c e in
    let is = subst (λ code. IsCode (counts p (size_of code)) code) f.code (all_at (IsFile p) p.files file f.of compiled.files f.stands).code in
    ap (λ n. is_cell_in n c.view) (few_cells c is.few) ∙ view_below c.view (length c.cells) (slot_has_view p c.view c.markup s (component_sees p contents file c e)) is.view
