-- A child's view before one owner's view agrees with that before another one, where the owners' views agree at what the child's tag looks at: the
-- constants of module files are the same at all levels of a view.
use Rattle.std.proofs.Common.{◌≡◌, ℕ, List, [], ◌∷◌, Option, Some, None, refl, ap}
use Rattle.std.specs.Prelude.{slice_get}
use Rattle.sv_agree.specs.Agreeing.{OfOwners, AgreesForTag, AgreesAbove, AgreesFor}
use Rattle.sv_agree.specs.Scopes.{Scope, only, everything, AgreesAt}
use Rattle.sv_code.specs.declared.fragments.Frag.{Frag}
use Rattle.sv_code.specs.declared.program.Program.{Program}
use Rattle.sv_code.specs.declared.tags.Tag.{Tag}
use Rattle.sv_value.specs.Value.{Val}
use Rattle.sv_view.specs.Level.{Level, View}
use Rattle.sv_view.specs.View.{view_from}

abbrev Modules : Type 0
Modules = List (List (Option Val))

-- ---- other constants of module files

at_modules : (scope : Scope) (l l' : Level) (ls ls' : List Level) (ms ms' ns : Modules) →
    AgreesAt scope (record { own = l; owners = ls; modules = ms }) (record { own = l'; owners = ls'; modules = ms' }) →
    AgreesAt scope (record { own = l; owners = ls; modules = ns }) (record { own = l'; owners = ls'; modules = ns })
at_modules scope l l' ls ls' ms ms' ns a = record { one = record { inst = a.one.inst; constants = a.one.constants; modules = refl }; cells = a.cells; locals = a.locals }

-- a fact of owners' views stays one with other constants
abbrev Stays : OfOwners → Type 0
Stays owners = (ms ms' ns : Modules) (ls ls' : List Level) → owners (view_from ls ms) (view_from ls' ms') → owners (view_from ls ns) (view_from ls' ns)

tag_modules : (p : Program) (depth : ℕ) (t : Option Tag) (owners : OfOwners) → Stays owners → Stays (AgreesForTag p depth t owners)
tag_modules p depth None owners f ms ms' ns ls ls' a = tt
tag_modules p depth (Some t) owners f ms ms' ns [] [] a = absurd a
tag_modules p depth (Some t) owners f ms ms' ns [] (l' ∷ ls') a = absurd a
tag_modules p depth (Some t) owners f ms ms' ns (l ∷ ls) [] a = absurd a
tag_modules p depth (Some t) owners f ms ms' ns (l ∷ ls) (l' ∷ ls') a = (at_modules (only t.reads) l l' ls ls' ms ms' ns a.0, λ e. f ms ms' ns ls ls' (a.1 e))

above_modules : (p : Program) (depth : ℕ) (tags tags' : List (Option ℕ)) → Stays (AgreesAbove p depth tags tags')
above_modules p depth [] tags' ms ms' ns ls ls' a = a
above_modules p depth (None ∷ tags) tags' ms ms' ns ls ls' a = a
above_modules p depth (Some k ∷ tags) [] ms ms' ns ls ls' a = a
above_modules p depth (Some k ∷ tags) (tag ∷ tags') ms ms' ns ls ls' a =
    (a.0, tag_modules p depth (slice_get p.tags k) (AgreesAbove p depth tags tags') (λ xs xs' ys rs rs' b. above_modules p depth tags tags' xs xs' ys rs rs' b) ms ms' ns ls ls' a.1)

-- ---- a child's views

same_look : (v v' : View) → v.own ≡ v'.own → v.modules ≡ v'.modules → AgreesAt everything v v'
same_look v v' own modules = record {
  one = record { inst = ap (λ l. l.inst) own; constants = ap (λ l. l.constants) own; modules = modules };
  cells = λ n e. rw (own) refl;
  locals = λ x e. rw (own) refl;
}

owners_agree : (p : Program) (depth k : ℕ) (t : Tag) (tags tags' : List (Option ℕ)) (o o' : View) (ls ls' : List Level) (ms ms' : Modules) → slice_get p.tags k ≡ Some t → ms ≡ ms' →
    ls ≡ o.own ∷ o.owners → ls' ≡ o'.own ∷ o'.owners → AgreesFor p depth (only t.reads) tags tags' t.content o o' →
    AgreesForTag p depth (slice_get p.tags k) (AgreesAbove p depth tags tags') (view_from ls ms) (view_from ls' ms')
owners_agree p depth k t tags tags' o o' ls ls' ms ms' is same owners owners' a =
    rw (is, same, owners, owners')
    (tag_modules p depth (Some t) (AgreesAbove p depth tags tags') (above_modules p depth tags tags') o.modules o'.modules ms' (o.own ∷ o.owners) (o'.own ∷ o'.owners) a)

-- the views of the child of a tag, before two views on which that stands
pub child_agrees : (p : Program) (depth k : ℕ) (t : Tag) (tags tags' : List (Option ℕ)) (frags : List Frag) (o o' v v' : View) → slice_get p.tags k ≡ Some t → v.own ≡ v'.own → v.modules ≡ v'.modules →
    v.owners ≡ o.own ∷ o.owners → v'.owners ≡ o'.own ∷ o'.owners → AgreesFor p depth (only t.reads) tags tags' t.content o o' →
    AgreesFor p depth everything (Some k ∷ tags) (Some k ∷ tags') frags v v'
child_agrees p depth k t tags tags' frags o o' v v' is own modules owners owners' a =
    (same_look v v' own modules, λ e. (refl, owners_agree p depth k t tags tags' o o' v.owners v'.owners v.modules v'.modules is modules owners owners' a))
