-- Views agree where nothing moved, back, in turn, and with those that give the same values.
use Rattle.std.proofs.Common.{ℕ, List, [], ◌∷◌, Option, Some, None, refl, sym, ◌∙◌, subst}
use Rattle.std.specs.Prelude.{slice_get}
use Rattle.sv_agree.specs.Agreeing.{OfOwners, AgreesForTag, AgreesAbove}
use Rattle.sv_agree.specs.Onward.{StillViewsAgree, ViewsAgreeBack, ViewsAgreeInTurn, AlikeViewsAgree}
use Rattle.sv_agree.specs.Scopes.{Scope, only, AgreesAt}
use Rattle.sv_code.specs.declared.program.Program.{Program}
use Rattle.sv_code.specs.declared.tags.Tag.{Tag}
use Rattle.sv_local.proofs.Parts.{still_cells, still_locals}
use Rattle.sv_local.specs.Looks.{AreOfOne}
use Rattle.sv_right.proofs.Lists.{some_same}
use Rattle.sv_right.specs.Drawing.{AreAlike, AreOwnersAlike}
use Rattle.sv_value.specs.Value.{Val}
use Rattle.sv_view.specs.Level.{Level, View}
use Rattle.sv_view.specs.View.{view_from, owner_of}

-- ---- where nothing moved

pub still : StillViewsAgree
still reads v v' versions h =
    record { one = versions.one; cells = λ n e. versions.cells n (still_cells reads v v' n h e); locals = λ x e. versions.locals x (still_locals reads v v' x h e) }

-- ---- back

at_back : (scope : Scope) (v v' : View) → AgreesAt scope v v' → AgreesAt scope v' v
at_back scope v v' a = record {
  one = record { inst = sym a.one.inst; constants = sym a.one.constants; modules = sym a.one.modules };
  cells = λ n e. sym (a.cells n e);
  locals = λ x e. sym (a.locals x e);
}

tag_back : (p : Program) (depth : ℕ) (t : Option Tag) (owners back : OfOwners) (o o' : Option View) → ((x x' : Option View) → owners x x' → back x' x) → AgreesForTag p depth t owners o o' →
    AgreesForTag p depth t back o' o
tag_back p depth None owners back o o' f a = tt
tag_back p depth (Some t) owners back None None f a = a
tag_back p depth (Some t) owners back None (Some v') f a = a
tag_back p depth (Some t) owners back (Some v) None f a = a
tag_back p depth (Some t) owners back (Some v) (Some v') f a = (at_back (only t.reads) v v' a.0, λ e. f (owner_of v) (owner_of v') (a.1 e))

above_back : (p : Program) (depth : ℕ) (tags tags' : List (Option ℕ)) (o o' : Option View) → AgreesAbove p depth tags tags' o o' → AgreesAbove p depth tags' tags o' o
above_back p depth [] [] o o' a = a
above_back p depth [] (None ∷ tags') o o' a = refl
above_back p depth [] (Some k ∷ tags') o o' a = absurd (cc)
above_back p depth (None ∷ tags) [] o o' a = refl
above_back p depth (None ∷ tags) (None ∷ tags') o o' a = refl
above_back p depth (None ∷ tags) (Some k ∷ tags') o o' a = absurd (cc)
above_back p depth (Some k ∷ tags) [] o o' a = absurd a
above_back p depth (Some k ∷ tags) (None ∷ tags') o o' a = absurd (cc a.0)
above_back p depth (Some k ∷ tags) (Some j ∷ tags') o o' a = (
  sym a.0,
  subst (λ i. AgreesForTag p depth (slice_get p.tags i) (AgreesAbove p depth tags' tags) o' o) (sym (some_same a.0))
      (tag_back p depth (slice_get p.tags k) (AgreesAbove p depth tags tags') (AgreesAbove p depth tags' tags) o o' (λ x x' b. above_back p depth tags tags' x x' b) a.1),
)

pub back : ViewsAgreeBack
back p depth scope tags tags' frags v v' a = (at_back scope v v' a.0, λ e. above_back p depth tags tags' (owner_of v) (owner_of v') (a.1 e))

-- ---- in turn

one_in_turn : (v v' v'' : View) → AreOfOne v v' → AreOfOne v' v'' → AreOfOne v v''
one_in_turn v v' v'' a b = record { inst = a.inst ∙ b.inst; constants = a.constants ∙ b.constants; modules = a.modules ∙ b.modules }

at_in_turn : (scope : Scope) (v v' v'' : View) → AgreesAt scope v v' → AgreesAt scope v' v'' → AgreesAt scope v v''
at_in_turn scope v v' v'' a b = record { one = one_in_turn v v' v'' a.one b.one; cells = λ n e. a.cells n e ∙ b.cells n e; locals = λ x e. a.locals x e ∙ b.locals x e }

tag_in_turn : (p : Program) (depth : ℕ) (t : Option Tag) (first second both : OfOwners) (o o' o'' : Option View) → ((x x' x'' : Option View) → first x x' → second x' x'' → both x x'') →
    AgreesForTag p depth t first o o' → AgreesForTag p depth t second o' o'' → AgreesForTag p depth t both o o''
tag_in_turn p depth None first second both o o' o'' f a b = tt
tag_in_turn p depth (Some t) first second both None None o'' f a b = absurd a
tag_in_turn p depth (Some t) first second both None (Some v') o'' f a b = absurd a
tag_in_turn p depth (Some t) first second both (Some v) None o'' f a b = absurd a
tag_in_turn p depth (Some t) first second both (Some v) (Some v') None f a b = absurd b
tag_in_turn p depth (Some t) first second both (Some v) (Some v') (Some v'') f a b = (at_in_turn (only t.reads) v v' v'' a.0 b.0, λ e. f (owner_of v) (owner_of v') (owner_of v'') (a.1 e) (b.1 e))

above_in_turn : (p : Program) (depth : ℕ) (tags tags' tags'' : List (Option ℕ)) (o o' o'' : Option View) → AgreesAbove p depth tags tags' o o' → AgreesAbove p depth tags' tags'' o' o'' → AgreesAbove p depth tags tags'' o o''
above_in_turn p depth [] [] tags'' o o' o'' a b = b
above_in_turn p depth [] (None ∷ tags') tags'' o o' o'' a b = b
above_in_turn p depth [] (Some k ∷ tags') tags'' o o' o'' a b = absurd (cc)
above_in_turn p depth (None ∷ tags) [] tags'' o o' o'' a b = b
above_in_turn p depth (None ∷ tags) (None ∷ tags') tags'' o o' o'' a b = b
above_in_turn p depth (None ∷ tags) (Some k ∷ tags') tags'' o o' o'' a b = absurd (cc)
above_in_turn p depth (Some k ∷ tags) [] tags'' o o' o'' a b = absurd a
above_in_turn p depth (Some k ∷ tags) (None ∷ tags') tags'' o o' o'' a b = absurd (cc a.0)
above_in_turn p depth (Some k ∷ tags) (Some j ∷ tags') [] o o' o'' a b = absurd b
above_in_turn p depth (Some k ∷ tags) (Some j ∷ tags') (tag ∷ tags'') o o' o'' a b = (
  b.0 ∙ a.0,
  tag_in_turn p depth (slice_get p.tags k) (AgreesAbove p depth tags tags') (AgreesAbove p depth tags' tags'') (AgreesAbove p depth tags tags'') o o' o''
      (λ x x' x'' c d. above_in_turn p depth tags tags' tags'' x x' x'' c d) a.1 (subst (λ i. AgreesForTag p depth (slice_get p.tags i) (AgreesAbove p depth tags' tags'') o' o'') (some_same a.0) b.1),
)

pub in_turn : ViewsAgreeInTurn
in_turn p depth scope tags tags' tags'' frags v v' v'' a b = (at_in_turn scope v v' v'' a.0 b.0, λ e. above_in_turn p depth tags tags' tags'' (owner_of v) (owner_of v') (owner_of v'') (a.1 e) (b.1 e))

-- ---- with the same values

at_alike : (scope : Scope) (v v' v'' : View) → AgreesAt scope v v' → AreAlike v' v'' → AgreesAt scope v v''
at_alike scope v v' v'' a h = record { one = one_in_turn v v' v'' a.one h.one; cells = λ n e. a.cells n e ∙ h.cells n; locals = λ x e. a.locals x e ∙ h.locals x }

-- what agrees with the view that some levels make agrees with that which others make
abbrev GoesOver : List (List (Option Val)) → List (List (Option Val)) → OfOwners → Type 0
GoesOver ms ms' owners = (o : Option View) (ls ls' : List Level) → AreOwnersAlike ms ms' ls ls' → owners o (view_from ls ms) → owners o (view_from ls' ms')

tag_alike : (p : Program) (depth : ℕ) (t : Option Tag) (owners : OfOwners) (ms ms' : List (List (Option Val))) → GoesOver ms ms' owners → GoesOver ms ms' (AgreesForTag p depth t owners)
tag_alike p depth None owners ms ms' f o ls ls' h a = tt
tag_alike p depth (Some t) owners ms ms' f o [] [] h a = a
tag_alike p depth (Some t) owners ms ms' f o [] (l' ∷ ls') h a = absurd h
tag_alike p depth (Some t) owners ms ms' f o (l ∷ ls) [] h a = absurd h
tag_alike p depth (Some t) owners ms ms' f None (l ∷ ls) (l' ∷ ls') h a = absurd a
tag_alike p depth (Some t) owners ms ms' f (Some v) (l ∷ ls) (l' ∷ ls') h a = (
  at_alike (only t.reads) v (record { own = l; owners = ls; modules = ms }) (record { own = l'; owners = ls'; modules = ms' }) a.0 h.0,
  λ e. f (owner_of v) ls ls' h.1 (a.1 e),
)

above_alike : (p : Program) (depth : ℕ) (tags tags' : List (Option ℕ)) (ms ms' : List (List (Option Val))) → GoesOver ms ms' (AgreesAbove p depth tags tags')
above_alike p depth [] tags' ms ms' o ls ls' h a = a
above_alike p depth (None ∷ tags) tags' ms ms' o ls ls' h a = a
above_alike p depth (Some k ∷ tags) [] ms ms' o ls ls' h a = a
above_alike p depth (Some k ∷ tags) (tag ∷ tags') ms ms' o ls ls' h a =
    (a.0, tag_alike p depth (slice_get p.tags k) (AgreesAbove p depth tags tags') ms ms' (λ x rs rs' q b. above_alike p depth tags tags' ms ms' x rs rs' q b) o ls ls' h a.1)

pub alike : AlikeViewsAgree
alike p depth scope tags tags' frags v v' v'' a h =
    (at_alike scope v v' v'' a.0 h.own, λ e. above_alike p depth tags tags' v'.modules v''.modules (owner_of v) v'.owners v''.owners h.owners (a.1 e))
