-- What is made of parts in turn reads nothing but what it looks at, and its looks are right, where so it is of each part.
use Rattle.std.proofs.Common.{◌≡◌, ℕ, zero, suc, false, List, [], ◌∷◌, ◌++◌, Option, None, Some, length, map, option_map, append_assoc, append-nil, refl, sym, ap, subst, ◌∙◌, slice_get, is_some, true≢false}
use Rattle.std.specs.List.{All}
use Rattle.std.proofs.lemmas.Bool.{or_from}
use Rattle.std.proofs.lemmas.List.Elements.{All-nil, All-cons, All-head, All-tail}
use Rattle.sv_ast.specs.declared.names.Ref.{Ref}
use Rattle.sv_base.specs.declared.names.Name.{Name}
use Rattle.sv_code.proofs.Each.{each_append, each_mono}
use Rattle.sv_code.specs.declared.functions.Function.{Function}
use Rattle.sv_code.specs.declared.parts.Part.{Part}
use Rattle.sv_code.specs.declared.parts.Reading.{Reading}
use Rattle.sv_code.specs.declared.tags.Handler.{Handler}
use Rattle.sv_code.specs.declared.tags.Tag.{Tag}
use Rattle.sv_code.specs.Content as looks
use Rattle.sv_code.specs.Content.{Look, Looker, ByPart, ByHandler, ByTag, BySlot, Stands, IsHandlerSeen, IsTagSeen, IsToldBy, IsTold, IsContentSeen, SeesViewBy, SeesView}
use Rattle.sv_code.specs.Names.{Each}
use Rattle.sv_code.specs.Parts.{in_turn, if_any, of_tag, of_handler}
use Rattle.sv_fragments.specs.declared.around.Tables.{Tables}
use Rattle.sv_fragments.specs.Builds.{Around, Builds}
use Rattle.sv_names.proofs.Same.{has-append}
use Rattle.sv_names.specs.Distinct.{has}
use Rattle.sv_scopes.specs.declared.scope.TheConstants.{VIEW}
use Rattle.sv_lower.specs.Does.{just, of_one, of_two, each, given, followed, within}
use Rattle.sv_within.specs.Staying.{StaysWithin, AreWithin, Begins, Grows, IsRight, Contents, IsMadeWithin}

-- ---- longer lists

pub begins_itself : {A : Type 0} (xs : List A) → Begins xs xs
begins_itself xs = record { added = []; is = sym (append-nil xs) }

pub begins_with_more : {A : Type 0} (xs more : List A) → Begins xs (xs ++ more)
begins_with_more xs more = record { added = more; is = refl }

pub begins_onward : {A : Type 0} (a b c : List A) → Begins a b → Begins b c → Begins a c
begins_onward a b c h k = record { added = h.added ++ k.added; is = k.is ∙ (ap (λ z. z ++ k.added) h.is ∙ append_assoc a h.added k.added) }

front_stands : {A : Type 0} (xs more : List A) (n : ℕ) (x : A) → slice_get xs n ≡ Some x → slice_get (xs ++ more) n ≡ Some x
front_stands [] more n x at = absurd (true≢false (ap is_some (sym at)))
front_stands (y ∷ xs) more zero x at = at
front_stands (y ∷ xs) more (suc n) x at = front_stands xs more n x at

pub last_stands : {A : Type 0} (xs : List A) (x : A) → slice_get (xs ++ x ∷ []) (length xs) ≡ Some x
last_stands [] x = refl
last_stands (y ∷ xs) x = last_stands xs x

still_stands : {A : Type 0} (P : A → Type 0) (a b : List A) (n : ℕ) → Begins a b → Stands P a n → Stands P b n
still_stands P a b n more h = record { item = h.item; there = ap (λ z. slice_get z n) more.is ∙ front_stands a more.added n h.item h.there; holds = h.holds }

-- ---- more in the tables

pub stays : (a b : List Function) → Begins a b → (part : Part) → StaysWithin a part → StaysWithin b part
stays a b e part h p more is = h p (e.added ++ more) (is ∙ (ap (λ z. z ++ more) e.is ∙ append_assoc a e.added more))

pub stay : (a b : List Function) → Begins a b → (parts : List Part) → Each (StaysWithin a) parts → Each (StaysWithin b) parts
stay a b e parts h = each_mono (StaysWithin a) (StaysWithin b) (stays a b e) parts h

pub told_stays : (a b : Tables) → Grows a b → (look : Look) → IsTold a.tags a.handlers look → IsTold b.tags b.handlers look
told_stays a b more look h = by look.by h
  where
    by : (l : Looker) → IsToldBy a.tags a.handlers look.reads l → IsToldBy b.tags b.handlers look.reads l
    by ByPart h = tt
    by (ByHandler n) h = still_stands (IsHandlerSeen look.reads) a.handlers b.handlers n more.handlers h
    by (ByTag n) h = still_stands (IsTagSeen look.reads) a.tags b.tags n more.tags h
    by BySlot h = tt

pub all_told : (a b : Tables) → Grows a b → (list : List Look) → Each (IsTold a.tags a.handlers) list → Each (IsTold b.tags b.handlers) list
all_told a b more list h = each_mono (IsTold a.tags a.handlers) (IsTold b.tags b.handlers) (told_stays a b more) list h

-- what a look is at stays the same, whatever is asked of the looks in tags
view_stays_by : (a b : List Tag) → Begins a b → (view : Option ℕ) (P Q : Look → Type 0) → ((look : Look) → P look → Q look) → (reads : Reading) (l : Looker) → SeesViewBy P a view reads l → SeesViewBy Q b view reads l
view_stays_by a b more view P Q f reads ByPart h = tt
view_stays_by a b more view P Q f reads (ByHandler n) h = tt
view_stays_by a b more view P Q f reads (ByTag n) h =
    let still = still_stands (λ t. Each P (looks.of_tag t)) a b n more h in record { item = still.item; there = still.there; holds = each_mono P Q f (looks.of_tag still.item) still.holds }
view_stays_by a b more view P Q f reads BySlot h = h

pub view_stays : (a b : List Tag) → Begins a b → (view : Option ℕ) (depth : ℕ) (look : Look) → SeesView a view depth look → SeesView b view depth look
view_stays a b more view zero look h = tt
view_stays a b more view (suc depth) look h = view_stays_by a b more view (SeesView a view depth) (SeesView b view depth) (view_stays a b more view depth) look.reads look.by h

right_stays : (cells : List Ref) (a b : Tables) → Grows a b → (look : Look) → IsRight cells a look → IsRight cells b look
right_stays cells a b more look is = record { below = is.below; told = told_stays a b more look is.told; views = λ view at depth. view_stays a.tags b.tags more.tags view depth look (is.views view at depth) }

pub all_right : (cells : List Ref) (a b : Tables) → Grows a b → (list : List Look) → Each (IsRight cells a) list → Each (IsRight cells b) list
all_right cells a b more list h = each_mono (IsRight cells a) (IsRight cells b) (right_stays cells a b more) list h

pub grows_not : (a : Tables) → Grows a a
grows_not a = record { functions = begins_itself a.functions; tags = begins_itself a.tags; handlers = begins_itself a.handlers }

pub grows_onward : (a b c : Tables) → Grows a b → Grows b c → Grows a c
grows_onward a b c h k = record {
  functions = begins_onward a.functions b.functions c.functions h.functions k.functions;
  tags = begins_onward a.tags b.tags c.tags h.tags k.tags;
  handlers = begins_onward a.handlers b.handlers c.handlers h.handlers k.handlers;
}

pub more_functions : (s : Tables) (functions : List Function) → Begins s.functions functions → Grows s (record s { functions = functions })
more_functions s functions more = record { functions = more; tags = begins_itself s.tags; handlers = begins_itself s.handlers }

pub more_handlers : (s : Tables) (h : Handler) → Grows s (record s { handlers = s.handlers ++ h ∷ [] })
more_handlers s h = record { functions = begins_itself s.functions; tags = begins_itself s.tags; handlers = begins_with_more s.handlers (h ∷ []) }

pub more_tags : (s : Tables) (t : Tag) → Grows s (record s { tags = s.tags ++ t ∷ [] })
more_tags s t = record { functions = begins_itself s.functions; tags = begins_with_more s.tags (t ∷ []); handlers = begins_itself s.handlers }

-- what stands in tags is told still
tags_told : (a b : Tables) → Grows a b → (list : List Tag) → Each (λ t. Each (IsTold a.tags a.handlers) (looks.of_tag t)) list → Each (λ t. Each (IsTold b.tags b.handlers) (looks.of_tag t)) list
tags_told a b more list h = each_mono (λ t. Each (IsTold a.tags a.handlers) (looks.of_tag t)) (λ t. Each (IsTold b.tags b.handlers) (looks.of_tag t)) (λ t. all_told a b more (looks.of_tag t)) list h

pub tables_stay : (s : Tables) (functions : List Function) → Begins s.functions functions → AreWithin s → AreWithin (record s { functions = functions })
tables_stay s functions e h = record {
  tags = each_mono (λ t. Each (StaysWithin s.functions) (of_tag t)) (λ t. Each (StaysWithin functions) (of_tag t)) (λ t. stay s.functions functions e (of_tag t)) s.tags h.tags;
  handlers = each_mono (λ x. Each (StaysWithin s.functions) (of_handler x)) (λ x. Each (StaysWithin functions) (of_handler x)) (λ x. stay s.functions functions e (of_handler x)) s.handlers h.handlers;
  seen = h.seen;
  told = h.told;
}

pub one_handler_more : (s : Tables) (h : Handler) → AreWithin s → Each (StaysWithin s.functions) (of_handler h) → AreWithin (record s { handlers = s.handlers ++ h ∷ [] })
one_handler_more s h sound own = record {
  tags = sound.tags;
  handlers = each_append (λ x. Each (StaysWithin s.functions) (of_handler x)) s.handlers (h ∷ []) sound.handlers (own, tt);
  seen = sound.seen;
  told = tags_told s (record s { handlers = s.handlers ++ h ∷ [] }) (more_handlers s h) s.tags sound.told;
}

pub one_tag_more : (s : Tables) (t : Tag) → AreWithin s → Each (StaysWithin s.functions) (of_tag t) → IsContentSeen t → Each (IsTold s.tags s.handlers) (looks.of_tag t) → AreWithin (record s { tags = s.tags ++ t ∷ [] })
one_tag_more s t sound own seen told =
    let after : Tables = record s { tags = s.tags ++ t ∷ [] } in
    let more = more_tags s t in
    record {
      tags = each_append (λ x. Each (StaysWithin s.functions) (of_tag x)) s.tags (t ∷ []) sound.tags (own, tt);
      handlers = sound.handlers;
      seen = each_append IsContentSeen s.tags (t ∷ []) sound.seen (seen, tt);
      told = each_append (λ x. Each (IsTold after.tags after.handlers) (looks.of_tag x)) s.tags (t ∷ []) (tags_told s after more s.tags sound.told) (all_told s after more (looks.of_tag t) told, tt);
    }

-- ---- parts, and the looks in something

-- those of something are those of another thing
pub record Same {A B : Type 0} (na : Contents A) (a : A) (nb : Contents B) (b : B) : Type 0 where
  pub parts : nb.parts b ≡ na.parts a
  pub looks : (bound : List Name) → nb.looks b bound ≡ na.looks a bound

-- there are none
pub record IsEmpty {A : Type 0} (na : Contents A) (a : A) : Type 0 where
  pub parts : na.parts a ≡ []
  pub looks : (bound : List Name) → na.looks a bound ≡ []

-- those of two things in turn
abbrev pub beside : {A B : Type 0} → Contents A → Contents B → Contents (A × B)
beside na nb = record { parts = λ p. na.parts p.0 ++ nb.parts p.1; looks = λ p. looks.both (na.looks p.0) (nb.looks p.1) }

-- those of several things
abbrev pub several : {A : Type 0} → Contents A → Contents (List A)
several na = record { parts = λ ys. in_turn (map na.parts ys); looks = λ ys. looks.in_turn (map na.looks ys) }

-- those of what may be absent
abbrev pub optional : {A : Type 0} → Contents A → Contents (Option A)
optional na = record { parts = if_any na.parts; looks = λ y. looks.given (option_map na.looks y) }

-- those of something inside a scope
abbrev pub inside : {A : Type 0} → List Name → Contents A → Contents A
inside names na = record { parts = na.parts; looks = λ a. looks.within names (na.looks a) }

-- ---- what is made in a component, inside whatever scopes, behind whatever tables

-- the owner's view is none of some names
abbrev pub HidesNoView : List Ref → Type 0
HidesNoView names = has VIEW names ≡ false

no_view_more : (names locals : List Ref) → HidesNoView names → HidesNoView locals → HidesNoView (names ++ locals)
no_view_more names locals h k = has-append VIEW names locals ∙ or_from (has VIEW names) (has VIEW locals) h k

abbrev pub Keeps : {A : Type 0} → Around → Contents A → Builds A → Type 0
Keeps around of make = (locals : List Ref) → HidesNoView locals → (before : Tables) → AreWithin before → IsMadeWithin around.cells of before (make around locals before)

module _ (around : Around) where
  abbrev Right : Tables → Look → Type 0
  Right s look = IsRight around.cells s look

  pub just_keeps : {A : Type 0} (of : Contents A) (x : A) → IsEmpty of x → Keeps around of (just x)
  just_keeps of x e locals free before sound = record {
    grows = grows_not before;
    parts = subst (Each (StaysWithin before.functions)) (sym e.parts) tt;
    looks = λ bound. subst (Each (Right before)) (sym (e.looks bound)) tt;
    tables = sound;
  }

  pub one_keeps : {A B : Type 0} (na : Contents A) (nb : Contents B) (make : A → B) (one : Builds A) → ((a : A) → Same na a nb (make a)) → Keeps around na one → Keeps around nb (of_one make one)
  one_keeps na nb make one e k locals free before sound =
      let first = k locals free before sound in
      let made = one around locals before in
      let same = e made.0 in
      record {
        grows = first.grows;
        parts = subst (Each (StaysWithin made.1.functions)) (sym same.parts) first.parts;
        looks = λ bound. subst (Each (Right made.1)) (sym (same.looks bound)) (first.looks bound);
        tables = first.tables;
      }

  pub two_keeps : {A B C : Type 0} (na : Contents A) (nb : Contents B) (nc : Contents C) (make : A → B → C) (one : Builds A) (two : Builds B)
      → ((a : A) (b : B) → Same (beside na nb) (a, b) nc (make a b)) → Keeps around na one → Keeps around nb two → Keeps around nc (of_two make one two)
  two_keeps na nb nc make one two e k l locals free before sound =
      let first = k locals free before sound in
      let a = one around locals before in
      let second = l locals free a.1 first.tables in
      let b = two around locals a.1 in
      let same = e a.0 b.0 in
      let Stay = StaysWithin b.1.functions in
      record {
        grows = grows_onward before a.1 b.1 first.grows second.grows;
        parts = subst (Each Stay) (sym same.parts) (each_append Stay (na.parts a.0) (nb.parts b.0) (stay a.1.functions b.1.functions second.grows.functions (na.parts a.0) first.parts) second.parts);
        looks = λ bound. subst (Each (Right b.1)) (sym (same.looks bound))
            (each_append (Right b.1) (na.looks a.0 bound) (nb.looks b.0 bound) (all_right around.cells a.1 b.1 second.grows (na.looks a.0 bound) (first.looks bound)) (second.looks bound));
        tables = second.tables;
      }

  pub followed_keeps : {A B : Type 0} (na : Contents A) (nb : Contents B) (one : Builds A) (next : A → Tables → B × Tables) (locals : List Ref)
      → ((s : Tables) → AreWithin s → (a : A) → Each (StaysWithin s.functions) (na.parts a) → ((bound : List Name) → Each (Right s) (na.looks a bound)) → IsMadeWithin around.cells nb s (next a s))
      → Keeps around na one → HidesNoView locals → (before : Tables) → AreWithin before → IsMadeWithin around.cells nb before (followed one next around locals before)
  followed_keeps na nb one next locals f k free before sound =
      let first = k locals free before sound in
      let a = one around locals before in
      let second = f a.1 first.tables a.0 first.parts first.looks in
      record { grows = grows_onward before a.1 (next a.0 a.1).1 first.grows second.grows; parts = second.parts; looks = second.looks; tables = second.tables }

  pub within_keeps : {A : Type 0} (of : Contents A) (names : List Ref) (make : Builds A) → HidesNoView names → Keeps around of make → Keeps around of (within names make)
  within_keeps of names make own k locals free = k (names ++ locals) (no_view_more names locals own free)

  pub inside_keeps : {A : Type 0} (of : Contents A) (names : List Name) (make : Builds A) → Keeps around of make → Keeps around (inside names of) make
  inside_keeps of names make k locals free before sound =
      let first = k locals free before sound in record { grows = first.grows; parts = first.parts; looks = λ bound. first.looks (names ++ bound); tables = first.tables }

  -- ---- lists, and what may be absent

  pub each_by : {A : Type 0} (of : Contents A) (all : Contents (List A)) → IsEmpty all [] → ((x : A) (xs : List A) → Same (beside of all) (x, xs) all (x ∷ xs)) → (makes : List (Builds A)) → All (Keeps around of) makes → Keeps around all (each makes)
  each_by of all none one [] h = just_keeps all [] none
  each_by of all none one (m ∷ makes) h =
      two_keeps of all all (λ x xs. x ∷ xs) m (each makes) one (All-head (Keeps around of) m makes h) (each_by of all none one makes (All-tail (Keeps around of) m makes h))

  pub each_keeps : {A : Type 0} (of : Contents A) (makes : List (Builds A)) → All (Keeps around of) makes → Keeps around (several of) (each makes)
  each_keeps of = each_by of (several of) (record { parts = refl; looks = λ bound. refl }) (λ x xs. record { parts = refl; looks = λ bound. refl })

  pub mapped : {X A : Type 0} (of : Contents A) (f : X → Builds A) (xs : List X) → ((x : X) → Keeps around of (f x)) → All (Keeps around of) (map f xs)
  mapped of f [] h = All-nil (Keeps around of)
  mapped of f (x ∷ xs) h = All-cons (Keeps around of) (f x) (map f xs) (h x) (mapped of f xs h)

  pub given_keeps : {X A : Type 0} (of : Contents A) (f : X → Builds A) (x : Option X) → ((x : X) → Keeps around of (f x)) → Keeps around (optional of) (given (option_map f x))
  given_keeps of f None h = just_keeps (optional of) None (record { parts = refl; looks = λ bound. refl })
  given_keeps of f (Some x) h = one_keeps of (optional of) Some (f x) (λ y. record { parts = refl; looks = λ bound. refl }) (h x)
