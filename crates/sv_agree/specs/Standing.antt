-- Component tags stand on views that agree, where the views of the instances in whose markup they are do.
use Rattle.std.specs.Prelude.{◌≡◌, ℕ, List, [], ◌∷◌, Option, Some, None, slice_get}
use Rattle.sv_agree.specs.Agreeing.{AgreesFor}
use Rattle.sv_agree.specs.Scopes.{Scope, only, FitsIn}
use Rattle.sv_code.specs.Content.{AreContentsSeen}
use Rattle.sv_code.specs.Within.{ArePartsWithin}
use Rattle.sv_code.specs.declared.fragments.Frag.{Frag}
use Rattle.sv_code.specs.declared.program.Program.{Program}
use Rattle.sv_code.specs.declared.tags.Tag.{Tag}
use Rattle.sv_right.specs.Claims.{Claim, OfTag, claims}
use Rattle.sv_shapes.specs.Shapes.{Opened}
use Rattle.sv_shapes.specs.declared.shape.Shape.{Shape}
use Rattle.sv_view.specs.Level.{View}

-- a component's tag in the markup of an instance, by the tags of the levels of the view on which it stands, and what is held of it
pub record Stood : Type 0 where
  pub tags : List (Option ℕ)
  pub tag : ℕ
  pub view : View
  pub held : Opened

-- the tag of which something is claimed
abbrev pub stood_in : Claim → Option Stood
stood_in (OfTag tags tag v held) = Some (record { tags = tags; tag = tag; view = v; held = held })
stood_in _ = None

-- a fact of two things, if both are there; else neither is
abbrev pub OfBoth : {A : Type 0} → (A → A → Type 0) → Option A → Option A → Type 0
OfBoth R None None = Unit {0}
OfBoth R None (Some b) = ⊥
OfBoth R (Some a) None = ⊥
OfBoth R (Some a) (Some b) = R a b

-- a fact of the two things at each place of two lists, which are equally long
abbrev pub Pairs : {A : Type 0} → (A → A → Type 0) → List A → List A → Type 0
Pairs R [] [] = Unit {0}
Pairs R [] (y ∷ ys) = ⊥
Pairs R (x ∷ xs) [] = ⊥
Pairs R (x ∷ xs) (y ∷ ys) = R x y × Pairs R xs ys

-- the same is held of the same tag, on views that agree at what its content looks at, however deep slots stand in there
pub record StandsAlike (p : Program) (a b : Stood) : Type 0 where
  pub tag : a.tag ≡ b.tag
  pub held : a.held ≡ b.held
  pub content : (t : Tag) → slice_get p.tags a.tag ≡ Some t → (depth : ℕ) → AgreesFor p depth (only t.reads) a.tags b.tags t.content a.view b.view

-- so it is with the tags of two claims
abbrev pub ClaimsStandAlike : Program → Claim → Claim → Type 0
ClaimsStandAlike p c d = OfBoth (StandsAlike p) (stood_in c) (stood_in d)

-- what is claimed on two views that agree, however deep slots stand, is claimed of the same component tags, on views that agree
abbrev pub TagsStandAlike : Type 0
TagsStandAlike = (p : Program) (scope : Scope) (tags tags' : List (Option ℕ)) (frags : List Frag) (v v' : View) (shapes : List Shape) → ArePartsWithin p → AreContentsSeen p →
    FitsIn p scope frags → ((depth : ℕ) → AgreesFor p depth scope tags tags' frags v v') → Pairs (ClaimsStandAlike p) (claims p tags frags v shapes) (claims p tags' frags v' shapes)
