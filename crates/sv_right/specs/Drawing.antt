-- Where shapes are right, what is drawn of what they hold is what is drawn of evaluations.
use Rattle.std.specs.Prelude.{◌≡◌, ℕ, List, [], ◌∷◌, Option}
use Rattle.sv_base.specs.declared.names.Name.{Name}
use Rattle.sv_code.specs.Names.{Each}
use Rattle.sv_code.specs.declared.fragments.Frag.{Frag}
use Rattle.sv_document.specs.declared.tree.Node.{Node}
use Rattle.sv_fresh.specs.Fresh.{Descent, tag_nodes, slotted, walker}
use Rattle.sv_fresh.specs.Scene.{Page, Tags}
use Rattle.sv_fresh.specs.declared.source.Source.{Source}
use Rattle.sv_fresh.specs.declared.source.Source.TheVariants.{Evaluated, Recorded}
use Rattle.sv_local.specs.Looks.{AreOfOne}
use Rattle.sv_right.specs.Claims.{Claim, OfTag, claims}
use Rattle.sv_right.specs.Right.{AreRight}
use Rattle.sv_shapes.specs.Shapes.{place_in}
use Rattle.sv_shapes.specs.declared.shape.Shape.{Shape}
use Rattle.sv_value.specs.Value.{Val}
use Rattle.sv_view.specs.Level.{Level, View}
use Rattle.sv_view.specs.View.{look}
use Rattle.sv_view.specs.declared.view.At.TheVariants as at

-- two views of one instance that give the same values
pub record AreAlike (v v' : View) : Type 0 where
  pub one : AreOfOne v v'
  pub cells : (n : ℕ) → look v (at.Cell n) ≡ look v' (at.Cell n)
  pub locals : (x : Name) → look v (at.Local x) ≡ look v' (at.Local x)

abbrev pub AreOwnersAlike : List (List (Option Val)) → List (List (Option Val)) → List Level → List Level → Type 0
AreOwnersAlike ms ms' [] [] = Unit {0}
AreOwnersAlike ms ms' [] (l' ∷ ls') = ⊥
AreOwnersAlike ms ms' (l ∷ ls) [] = ⊥
AreOwnersAlike ms ms' (l ∷ ls) (l' ∷ ls') =
    AreAlike (record { own = l; owners = ls; modules = ms }) (record { own = l'; owners = ls'; modules = ms' }) × AreOwnersAlike ms ms' ls ls'

-- so it is at each level
pub record AreAllAlike (v v' : View) : Type 0 where
  pub own : AreAlike v v'
  pub owners : AreOwnersAlike v.modules v'.modules v.owners v'.owners

-- views of the same instances that have the same locals, at each level
abbrev pub AreLevelsNamed : List Level → List Level → Type 0
AreLevelsNamed [] [] = Unit {0}
AreLevelsNamed [] (l' ∷ ls') = ⊥
AreLevelsNamed (l ∷ ls) [] = ⊥
AreLevelsNamed (l ∷ ls) (l' ∷ ls') = ((l.inst ≡ l'.inst) × (l.locals ≡ l'.locals)) × AreLevelsNamed ls ls'

abbrev pub AreNamed : View → View → Type 0
AreNamed v v' = AreLevelsNamed (v.own ∷ v.owners) (v'.own ∷ v'.owners)

-- a page whose source is another one
abbrev pub from_source : Source → Page → Page
from_source source page = record page { source = source }

-- the child at the place of each tag is drawn alike, by some ways to draw it, on views that are alike to the one on which the tag stands
abbrev pub DrawsAlike : Page → Descent → Descent → Claim → Type 0
DrawsAlike page fresh drawn (OfTag tags k v held) =
    (now kept : View) → AreAllAlike v now → AreNamed now kept →
    tag_nodes (from_source Evaluated page) fresh tags k now (place_in held) ≡ tag_nodes (from_source Recorded page) drawn tags k kept (place_in held)
DrawsAlike page fresh drawn _ = Unit {0}

-- the nodes of some fragments in the markup of an instance
abbrev pub nodes_of : Page → Descent → Tags → List Frag → View → List Shape → List Node
nodes_of page descend tags frags v shapes = walker page descend tags (slotted page descend tags) frags v shapes

-- where shapes are right on a view, and children are drawn alike, what they hold gives the nodes that evaluations give on any view with the same values
abbrev pub HoldsWhatEvaluates : Type 0
HoldsWhatEvaluates = (page : Page) (fresh drawn : Descent) (tags : Tags) (frags : List Frag) (v now kept : View) (shapes : List Shape) → AreRight page.program tags frags v shapes →
    AreAllAlike v now → AreNamed now kept → Each (DrawsAlike page fresh drawn) (claims page.program tags frags v shapes) →
    nodes_of (from_source Evaluated page) fresh tags frags now shapes ≡ nodes_of (from_source Recorded page) drawn tags frags kept shapes
