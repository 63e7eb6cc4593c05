-- Claims beside holds: fragments beside one another, rows, and what is given to slots.
use Rattle.std.proofs.Common.{◌≡◌, ℕ, suc, Bool, true, ◌||◌, List, [], ◌∷◌, ◌++◌, Option, Some, None, refl, sym, ap, ap₂, ◌∙◌, unwrap_or}
use Rattle.std.specs.List.{cons_option, filter_map}
use Rattle.std.specs.Prelude.{slice_get}
use Rattle.sv_agree.specs.Holding.{hold_of}
use Rattle.sv_attributes.specs.Each as lists
use Rattle.sv_places.proofs.Walks.{both-true}
use Rattle.sv_places.specs.Fits.{Fitter, AllFitter, is_empty, fit_each, rows_fit}
use Rattle.sv_plan.specs.Lists.{Head, row_view}
use Rattle.sv_plan.specs.Slots.{content_view}
use Rattle.sv_right.specs.Claims as claims
use Rattle.sv_right.specs.Claims.{Claim, Claimer, Walker, claim_each, none_claims, slot_claims}
use Rattle.sv_shapes.specs.Shapes.{Opened, opened}
use Rattle.sv_shapes.specs.declared.shape.Row.{Row}
use Rattle.sv_shapes.specs.declared.shape.Shape.{Shape, Shape-F, out-Shape}
use Rattle.sv_shapes.specs.declared.shape.SlotProp.{SlotProp}
use Rattle.sv_stands.specs.Holds as holds
use Rattle.sv_stands.specs.Holds.{Hold, Holder, AllHolder, hold_each, rows_hold, slot_holds}
use Rattle.sv_view.specs.Level.{View}

-- ---- lists

cons_append : {B : Type 0} (o : Option B) (ys zs : List B) → cons_option o (ys ++ zs) ≡ cons_option o ys ++ zs
cons_append None ys zs = refl
cons_append (Some y) ys zs = refl

-- what is found in two lists is found in each
found_append : {A B : Type 0} (f : A → Option B) (xs ys : List A) → filter_map f (xs ++ ys) ≡ filter_map f xs ++ filter_map f ys
found_append f [] ys = refl
found_append f (x ∷ xs) ys = ap (cons_option (f x)) (found_append f xs ys) ∙ cons_append (f x) (filter_map f xs) (filter_map f ys)

-- numbers from a later one on are later numbers
each_later : {A B : Type 0} (f : A → ℕ → List B) (i : ℕ) (xs : List A) → lists.each f (suc i) xs ≡ lists.each (λ x j. f x (suc j)) i xs
each_later f i [] = refl
each_later f i (x ∷ xs) = ap (λ ys. f x (suc i) ++ ys) (each_later f (suc i) xs)

-- ---- what is told of holds

-- the holds that claims tell
abbrev pub told : List Claim → List Hold
told cs = filter_map hold_of cs

pub told_append : (cs ds : List Claim) → told (cs ++ ds) ≡ told cs ++ told ds
told_append cs ds = found_append hold_of cs ds

-- claims on a fragment tell what its holder does, and nothing where nothing was shown
pub record OneTells (fit : Fitter) (hold : Holder) (claim : Claimer) : Type 0 where
  pub bare : (v : View) → told (claim v None) ≡ []
  pub shown : (v : View) (x : Shape) → fit x ≡ true → told (claim v (Some x)) ≡ hold v x

-- so it is with fragments beside one another
pub record Tells (fit : AllFitter) (hold : AllHolder) (walk : Walker) : Type 0 where
  pub empty : fit [] ≡ true
  pub none : (v : View) → hold v [] ≡ []
  pub same : (v : View) (shapes : List Shape) → fit shapes ≡ true → told (walk v shapes) ≡ hold v shapes

-- where nothing was shown, nothing is told
pub tells_none : (fit : AllFitter) (hold : AllHolder) (walk : Walker) → Tells fit hold walk → (v : View) → told (walk v []) ≡ []
tells_none fit hold walk k v = k.same v [] k.empty ∙ k.none v

-- ---- fragments beside one another

-- claims beside their fitters and holders
abbrev pub EachTells : List Fitter → List Holder → List Claimer → Type 0
EachTells [] [] [] = Unit {0}
EachTells [] [] (claim ∷ claims) = ⊥
EachTells [] (hold ∷ holds) claims = ⊥
EachTells (fit ∷ fits) [] claims = ⊥
EachTells (fit ∷ fits) (hold ∷ holds) [] = ⊥
EachTells (fit ∷ fits) (hold ∷ holds) (claim ∷ claims) = OneTells fit hold claim × EachTells fits holds claims

-- the claims on fragments without the count of the shapes
abbrev claims_on : List Claimer → View → List Shape → List Claim
claims_on claimers v shapes = lists.each (λ claim i. claim v (slice_get shapes i)) 0 claimers

-- those on the first one and on the others
claims_next : (claim : Claimer) (claimers : List Claimer) (v : View) (x : Shape) (shapes : List Shape) →
    told (claims_on (claim ∷ claimers) v (x ∷ shapes)) ≡ told (claim v (Some x)) ++ told (claims_on claimers v shapes)
claims_next claim claimers v x shapes =
    told_append (claim v (Some x)) (lists.each (λ c j. c v (slice_get (x ∷ shapes) j)) 1 claimers)
    ∙ ap (λ cs. told (claim v (Some x)) ++ told cs) (each_later (λ c j. c v (slice_get (x ∷ shapes) j)) 0 claimers)

claims_bare : (claim : Claimer) (claimers : List Claimer) (v : View) → told (claims_on (claim ∷ claimers) v []) ≡ told (claim v None) ++ told (claims_on claimers v [])
claims_bare claim claimers v =
    told_append (claim v None) (lists.each (λ c j. c v (slice_get {X = Shape} [] j)) 1 claimers)
    ∙ ap (λ cs. told (claim v None) ++ told cs) (each_later (λ c j. c v (slice_get {X = Shape} [] j)) 0 claimers)

hold_none : (holds : List Holder) (v : View) → hold_each holds v [] ≡ []
hold_none [] v = refl
hold_none (hold ∷ holds) v = refl

hold_past : (v : View) (shapes : List Shape) → hold_each [] v shapes ≡ []
hold_past v [] = refl
hold_past v (x ∷ shapes) = refl

fit_none : (fits : List Fitter) → fit_each fits [] ≡ true
fit_none [] = refl
fit_none (fit ∷ fits) = refl

each_same : (fits : List Fitter) (holds : List Holder) (claims : List Claimer) → EachTells fits holds claims → (v : View) (shapes : List Shape) → fit_each fits shapes ≡ true →
    told (claims_on claims v shapes) ≡ hold_each holds v shapes
each_same [] [] [] q v [] e = refl
each_same [] [] [] q v (x ∷ shapes) e = refl
each_same [] [] (claim ∷ claims) q v shapes e = elim q [ ]
each_same [] (hold ∷ holds) claims q v shapes e = elim q [ ]
each_same (fit ∷ fits) [] claims q v shapes e = elim q [ ]
each_same (fit ∷ fits) (hold ∷ holds) [] q v shapes e = elim q [ ]
each_same (fit ∷ fits) (hold ∷ holds) (claim ∷ claims) q v [] e =
    claims_bare claim claims v ∙ ap₂ (λ xs ys. xs ++ ys) (q.0.bare v) (each_same fits holds claims q.1 v [] (fit_none fits) ∙ hold_none holds v)
each_same (fit ∷ fits) (hold ∷ holds) (claim ∷ claims) q v (x ∷ shapes) e =
    let both = both-true (fit x) (fit_each fits shapes) e in
    claims_next claim claims v x shapes ∙ ap₂ (λ xs ys. xs ++ ys) (q.0.shown v x both.0) (each_same fits holds claims q.1 v shapes both.1)

pub each_tells : (fits : List Fitter) (holds : List Holder) (claims : List Claimer) → EachTells fits holds claims → Tells (fit_each fits) (hold_each holds) (claim_each claims)
each_tells fits holds claims q = record { empty = fit_none fits; none = hold_none holds; same = each_same fits holds claims q }

-- ---- one layer

pub record LayerTells (fit : Shape-F Shape Row → Bool) (hold : View → Shape-F Shape Row → List Hold) (claim : View → Opened → List Claim) : Type 0 where
  pub bare : (v : View) → told (claim v None) ≡ []
  pub shown : (v : View) (y : Shape-F Shape Row) → fit y ≡ true → told (claim v (Some y)) ≡ hold v y

pub layer_tells : (fit : Shape-F Shape Row → Bool) (hold : View → Shape-F Shape Row → List Hold) (claim : View → Opened → List Claim) → LayerTells fit hold claim →
    OneTells (λ x. fit (out-Shape x)) (λ v x. hold v (out-Shape x)) (λ v old. claim v (opened old))
layer_tells fit hold claim k = record { bare = k.bare; shown = λ v x e. k.shown v (out-Shape x) e }

-- ---- each blocks

module _ (h : Head) (fit : AllFitter) (hold : AllHolder) (walk : Walker) (k : Tells fit hold walk) where
  pub rows_same : (n : ℕ) (v : View) (i : ℕ) (rows : List Row) → rows_fit fit rows ≡ true → told (lists.each (λ (row : Row) j. walk (row_view h n j row.item v) row.parts) i rows) ≡ rows_hold h hold n v i rows
  rows_same n v i [] e = refl
  rows_same n v i (r ∷ rows) e =
      let both = both-true (fit r.parts) (rows_fit fit rows) e in
      told_append (walk (row_view h n i r.item v) r.parts) (lists.each (λ (row : Row) j. walk (row_view h n j row.item v) row.parts) (suc i) rows)
      ∙ ap₂ (λ xs ys. xs ++ ys) (k.same (row_view h n i r.item v) r.parts both.0) (rows_same n v (suc i) rows both.1)

-- the branch for no rows shows nothing where there are some
pub none_same : (fit : AllFitter) (hold : AllHolder) (walk : Walker) → Tells fit hold walk → (v : View) (rows : List Row) (parts : List Shape) → fit parts ≡ true → (is_empty rows || is_empty parts) ≡ true →
    told (none_claims walk v rows parts) ≡ hold v parts
none_same fit hold walk k v [] parts e idle = k.same v parts e
none_same fit hold walk k v (r ∷ rows) [] e idle = sym (k.none v)
none_same fit hold walk k v (r ∷ rows) (x ∷ parts) e idle = absurd (cc)

-- ---- slots

-- what is given to a slot, with each of its props
abbrev pub FilledTells : Option AllFitter → Option holds.Filled → Option claims.Filled → Type 0
FilledTells None None None = Unit {0}
FilledTells None None (Some f) = ⊥
FilledTells None (Some g) filled = ⊥
FilledTells (Some fit) None filled = ⊥
FilledTells (Some fit) (Some g) None = ⊥
FilledTells (Some fit) (Some g) (Some f) = (props : List SlotProp) → Tells fit (λ v shapes. g.walk (content_view g.lets props v) shapes) (λ v shapes. f.walk (content_view f.lets props v) shapes)

pub content_tells : (fit : Option AllFitter) (held : Option holds.Filled) (filled : Option claims.Filled) → FilledTells fit held filled → (own : AllFitter) (hold : AllHolder) (walk : Walker) → Tells own hold walk → (props : List SlotProp) →
    Tells (unwrap_or fit own) (λ v parts. slot_holds held hold v props parts) (λ v parts. slot_claims filled walk v (Some (Shape-F.Slot props parts)))
content_tells None None None q own hold walk k props = k
content_tells None None (Some f) q own hold walk k props = elim q [ ]
content_tells None (Some g) filled q own hold walk k props = elim q [ ]
content_tells (Some fit) None filled q own hold walk k props = elim q [ ]
content_tells (Some fit) (Some g) None q own hold walk k props = elim q [ ]
content_tells (Some fit) (Some g) (Some f) q own hold walk k props = q props

-- a slot that isn't there has no props and no content
pub slot_bare : (filled : Option claims.Filled) (own : Walker) (v : View) → slot_claims filled own v None ≡ slot_claims filled own v (Some (Shape-F.Slot [] []))
slot_bare None own v = refl
slot_bare (Some f) own v = refl
