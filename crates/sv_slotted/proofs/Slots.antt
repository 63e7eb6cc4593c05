-- The attributes that an element shows ascend by slot, which is the number of the attribute in the template.
use Rattle.std.proofs.Common.{◌≡◌, ◌≤◌, ℕ, suc, List, [], ◌∷◌, ◌++◌, Bool, true, false, Option, Some, None, refl, arith}
use Rattle.std.specs.Prelude.{if◌then◌else◌}
use Rattle.sv_attributes.specs.Attr.{placed}
use Rattle.sv_attributes.specs.Attributes.{attr_at, attributes}
use Rattle.sv_attributes.specs.Class.{class_at}
use Rattle.sv_attributes.specs.Each.{each}
use Rattle.sv_code.specs.declared.fragments.FragAttr.{FragAttr}
use Rattle.sv_code.specs.declared.fragments.FragAttr.TheVariants as frag_attr
use Rattle.sv_code.specs.declared.program.Program.{Program}
use Rattle.sv_live.specs.Attributes.{IsAbove, IsAscending}
use Rattle.sv_shapes.specs.declared.shape.AttrState.{AttrState}
use Rattle.sv_tokens.specs.declared.element.Attr.{Attr}
use Rattle.sv_tokens.specs.declared.element.Attribute.{Attribute}

-- none, or one at that slot
pub data IsAt : ℕ → List Attribute → Type 0 where
  none_at : (i : ℕ) → IsAt i []
  one_at : (i : ℕ) (a : Attribute) → a.slot ≡ i → IsAt i (a ∷ [])

placed-at : (i : ℕ) (name : List ℕ) (o : Option Attr) → IsAt i (placed i name o)
placed-at i name None = none_at i
placed-at i name (Some a) = one_at i (record { slot = i; name = name; value = a }) refl

if-at : (i : ℕ) (b : Bool) (xs ys : List Attribute) → IsAt i xs → IsAt i ys → IsAt i (if b then xs else ys)
if-at i true xs ys x y = x
if-at i false xs ys x y = y

class-at : (p : Program) (attrs : List FragAttr) (states : List AttrState) (i : ℕ) → IsAt i (class_at p attrs states i)
class-at p attrs states i = if-at i _ _ [] (placed-at i _ _) (none_at i)

attr-at : (p : Program) (attrs : List FragAttr) (states : List AttrState) (a : FragAttr) (i : ℕ) → IsAt i (attr_at p attrs states a i)
attr-at p attrs states (frag_attr.Plain span name value) i = if-at i _ _ _ (class-at p attrs states i) (placed-at i _ _)
attr-at p attrs states (frag_attr.On handler reads) i = none_at i
attr-at p attrs states (frag_attr.Bind span name target) i = placed-at i _ _
attr-at p attrs states (frag_attr.Class span name test) i = class-at p attrs states i

-- the slots ascend from that one on
abbrev IsFrom : ℕ → List Attribute → Type 0
IsFrom i [] = Unit {0}
IsFrom i (a ∷ rest) = (i ≤ a.slot) × IsAbove a.slot rest

from-more : (i : ℕ) (xs ys : List Attribute) → IsAt i xs → IsFrom (suc i) ys → IsFrom i (xs ++ ys)
from-more i xs [] (none_at _) from = tt
from-more i xs (y ∷ ys) (none_at _) from = let later = from.0 in (omega (arith, later), from.1)
from-more i xs [] (one_at _ a at) from = (omega (arith, at), tt)
from-more i xs (y ∷ ys) (one_at _ a at) from = let later = from.0 in (omega (arith, at), (omega (arith, at, later), from.1))

from-each : (p : Program) (attrs : List FragAttr) (states : List AttrState) (i : ℕ) (left : List FragAttr) → IsFrom i (each (attr_at p attrs states) i left)
from-each p attrs states i [] = tt
from-each p attrs states i (a ∷ left) = from-more i (attr_at p attrs states a i) _ (attr-at p attrs states a i) (from-each p attrs states (suc i) left)

from-ascending : (i : ℕ) (xs : List Attribute) → IsFrom i xs → IsAscending xs
from-ascending i [] from = tt
from-ascending i (a ∷ rest) from = from.1

pub attributes-ascend : (p : Program) (attrs : List FragAttr) (states : List AttrState) → IsAscending (attributes p attrs states)
attributes-ascend p attrs states = from-ascending 0 _ (from-each p attrs states 0 attrs)
