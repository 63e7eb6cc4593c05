-- Each list in what is made of parts in turn looks at what its key looks at, where so it is in each part.
use Rattle.std.proofs.Common.{◌≡◌, ℕ, List, [], ◌∷◌, ◌++◌, Option, None, Some, map, option_map, refl, sym, subst}
use Rattle.std.specs.List.{All}
use Rattle.std.specs.Prelude.{unwrap_or}
use Rattle.std.proofs.lemmas.List.Elements.{All-nil, All-cons, All-head, All-tail}
use Rattle.sv_ast.specs.declared.markup_tree.TagAttr.{TagAttr}
use Rattle.sv_ast.specs.declared.names.Ref.{Ref}
use Rattle.sv_base.specs.declared.names.Name.{Name}
use Rattle.sv_base.specs.declared.span.Span.{Span}
use Rattle.sv_code.proofs.Each.{each_append}
use Rattle.sv_code.specs.declared.fragments.Frag
use Rattle.sv_code.specs.declared.fragments.Frag.{Frag as AnyFrag, Frag-F, fold-roll-Frag}
use Rattle.sv_code.specs.declared.fragments.Frag.TheVariants as frag
use Rattle.sv_code.specs.declared.fragments.FragArm.{FragArm, fold-FragArm, fold-roll-FragArm}
use Rattle.sv_code.specs.declared.fragments.FragAttr.{FragAttr}
use Rattle.sv_code.specs.declared.parts.Part.{Part}
use Rattle.sv_code.specs.declared.parts.Reading.{Reading}
use Rattle.sv_fragments.specs.declared.around.Tables.{Tables}
use Rattle.sv_fragments.specs.Attributes.{lets, slot_name}
use Rattle.sv_fragments.specs.Builds.{Around, Builds}
use Rattle.sv_fragments.specs.Frags.{with_none}
use Rattle.sv_fragments.specs.Tags.{named_by}
use Rattle.sv_lower.specs.Does.{just, of_one, of_two, each, given, followed, within}
use Rattle.sv_within.proofs.Contents as contents
use Rattle.sv_within.specs.Keys.{Head, in_turn, frag_heads, arm_heads, heads_of, heads_all, IsHeadSeen, AreSeen, AreTagKeysSeen, AreMadeSeen}

abbrev Hs : Type 0
Hs = List Head

-- ---- the heads of what there is

-- the heads in something
abbrev pub Heads : Type 0 → Type 0
Heads A = A → Hs

-- there are none in a part or in attributes
abbrev pub nothing : {A : Type 0} → Heads A
nothing x = []

-- those in several things
abbrev pub several : {A : Type 0} → Heads A → Heads (List A)
several of xs = in_turn (map of xs)

-- those in content that may be absent
abbrev pub heads_if : Heads (Option (List AnyFrag))
heads_if frags = heads_all (unwrap_or frags [])

-- those in a branch of an if block
abbrev pub of_arm : Heads FragArm
of_arm = fold-FragArm Hs Hs frag_heads arm_heads

-- those in what stands in a tag
abbrev pub of_filled : Heads contents.Filled
of_filled f = heads_all f.content

-- a list with its key, where a row has some names
abbrev pub head_of : Name → Option Name → contents.Head → Head
head_of item index h = record { list = h.list; item = item; index = index; key = h.key }

abbrev pub of_head : Name → Option Name → Heads contents.Head
of_head item index h = head_of item index h ∷ []

-- those of a list with its rows
abbrev pub of_row : Heads contents.Row
of_row r = record { list = r.list; item = r.item; index = r.index; key = r.key } ∷ heads_all r.body

-- ---- those in each form

pub text_heads : (text : List ℕ) → heads_of (frag.Text text) ≡ []
unfolding Frag.roll-Frag denote.Hole.Carrier.roll
text_heads text = fold-roll-Frag Hs Hs frag_heads arm_heads (Frag-F.Text text)

pub show_heads : (shown : Part) → heads_of (frag.Show shown) ≡ []
unfolding Frag.roll-Frag denote.Hole.Carrier.roll
show_heads shown = fold-roll-Frag Hs Hs frag_heads arm_heads (Frag-F.Show shown)

pub element_heads : (span : Span) (name : List ℕ) (a : List FragAttr) (b : List AnyFrag) → heads_of (frag.Element span name a b) ≡ heads_all b
unfolding Frag.roll-Frag denote.Hole.Carrier.roll
element_heads span name a b = fold-roll-Frag Hs Hs frag_heads arm_heads (Frag-F.Element span name a b)

pub tag_heads : (n : ℕ) (reads : Reading) → heads_of (frag.Tag n reads) ≡ []
unfolding Frag.roll-Frag denote.Hole.Carrier.roll
tag_heads n reads = fold-roll-Frag Hs Hs frag_heads arm_heads (Frag-F.Tag n reads)

pub named_heads : (list : List TagAttr) (made : AnyFrag) → heads_of (named_by list made) ≡ heads_of made
unfolding Frag.roll-Frag denote.Hole.Carrier.roll
named_heads list made = fold-roll-Frag Hs Hs frag_heads arm_heads (Frag-F.Named (slot_name list) (lets list) made)

pub slot_heads : (span : Span) (name : List ℕ) (a : List FragAttr) (own : List AnyFrag) (reads : Reading) → heads_of (frag.Slot span name a own reads) ≡ heads_all own
unfolding Frag.roll-Frag denote.Hole.Carrier.roll
slot_heads span name a own reads = fold-roll-Frag Hs Hs frag_heads arm_heads (Frag-F.Slot span name a own reads)

pub if_heads : (arms : List FragArm) (last : Option (List AnyFrag)) → heads_of (frag.If arms last) ≡ several of_arm arms ++ heads_if last
unfolding Frag.roll-Frag denote.Hole.Carrier.roll
if_heads arms None = fold-roll-Frag Hs Hs frag_heads arm_heads (Frag-F.If arms None)
if_heads arms (Some last) = fold-roll-Frag Hs Hs frag_heads arm_heads (Frag-F.If arms (Some last))

pub each_heads : (r : contents.Row) (none : Option (List AnyFrag)) → heads_of (with_none r none) ≡ of_row r ++ heads_if none
unfolding Frag.roll-Frag denote.Hole.Carrier.roll
each_heads r None = fold-roll-Frag Hs Hs frag_heads arm_heads (Frag-F.Each r.list r.item r.index r.key r.body None)
each_heads r (Some none) = fold-roll-Frag Hs Hs frag_heads arm_heads (Frag-F.Each r.list r.item r.index r.key r.body (Some none))

pub key_heads : (shown : Part) (body : List AnyFrag) → heads_of (frag.Key shown body) ≡ heads_all body
unfolding Frag.roll-Frag denote.Hole.Carrier.roll
key_heads shown body = fold-roll-Frag Hs Hs frag_heads arm_heads (Frag-F.Key shown body)

pub arm_is : (test : Part) (body : List AnyFrag) → of_arm (record { test = test; body = body }) ≡ heads_all body
arm_is test body = fold-roll-FragArm Hs Hs frag_heads arm_heads (record { test = test; body = body })

-- ---- what is made in a component, inside whatever scopes, behind whatever tables

abbrev pub Keeps : {A : Type 0} → Around → Heads A → Builds A → Type 0
Keeps around of make = (locals : List Ref) (before : Tables) → AreTagKeysSeen before.tags → AreMadeSeen of (make around locals before)

pub both_seen : (front back : List Head) → AreSeen front → AreSeen back → AreSeen (front ++ back)
both_seen front back h k = each_append (λ (x : Head). IsHeadSeen x x.key) front back h k

module _ (around : Around) where
  pub just_keeps : {A : Type 0} (of : Heads A) (x : A) → of x ≡ [] → Keeps around of (just x)
  just_keeps of x e locals before seen = record { heads = subst AreSeen (sym e) tt; tags = seen }

  pub one_keeps : {A B : Type 0} (na : Heads A) (nb : Heads B) (make : A → B) (one : Builds A) → ((a : A) → nb (make a) ≡ na a) → Keeps around na one → Keeps around nb (of_one make one)
  one_keeps na nb make one e k locals before seen =
      let first = k locals before seen in record { heads = subst AreSeen (sym (e (one around locals before).0)) first.heads; tags = first.tags }

  pub two_keeps : {A B C : Type 0} (na : Heads A) (nb : Heads B) (nc : Heads C) (make : A → B → C) (one : Builds A) (two : Builds B) → ((a : A) (b : B) → nc (make a b) ≡ na a ++ nb b)
      → Keeps around na one → Keeps around nb two → Keeps around nc (of_two make one two)
  two_keeps na nb nc make one two e k l locals before seen =
      let first = k locals before seen in
      let a = one around locals before in
      let second = l locals a.1 first.tags in
      let b = two around locals a.1 in
      record { heads = subst AreSeen (sym (e a.0 b.0)) (both_seen (na a.0) (nb b.0) first.heads second.heads); tags = second.tags }

  pub followed_keeps : {A B : Type 0} (na : Heads A) (nb : Heads B) (one : Builds A) (next : A → Tables → B × Tables) (locals : List Ref)
      → ((s : Tables) → AreTagKeysSeen s.tags → (a : A) → AreSeen (na a) → AreMadeSeen nb (next a s)) → Keeps around na one → (before : Tables) → AreTagKeysSeen before.tags → AreMadeSeen nb (followed one next around locals before)
  followed_keeps na nb one next locals f k before seen =
      let first = k locals before seen in
      let a = one around locals before in
      f a.1 first.tags a.0 first.heads

  pub within_keeps : {A : Type 0} (of : Heads A) (names : List Ref) (make : Builds A) → Keeps around of make → Keeps around of (within names make)
  within_keeps of names make k locals = k (names ++ locals)

  pub each_keeps : {A : Type 0} (of : Heads A) (all : Heads (List A)) → all [] ≡ [] → ((x : A) (xs : List A) → all (x ∷ xs) ≡ of x ++ all xs) → (makes : List (Builds A)) → All (Keeps around of) makes → Keeps around all (each makes)
  each_keeps of all none one [] h = just_keeps all [] none
  each_keeps of all none one (m ∷ makes) h =
      two_keeps of all all (λ x xs. x ∷ xs) m (each makes) one (All-head (Keeps around of) m makes h) (each_keeps of all none one makes (All-tail (Keeps around of) m makes h))

  pub mapped : {X A : Type 0} (of : Heads A) (f : X → Builds A) (xs : List X) → ((x : X) → Keeps around of (f x)) → All (Keeps around of) (map f xs)
  mapped of f [] h = All-nil (Keeps around of)
  mapped of f (x ∷ xs) h = All-cons (Keeps around of) (f x) (map f xs) (h x) (mapped of f xs h)

  -- what may be absent, where there are no heads in it
  pub given_keeps : {X A : Type 0} (f : X → Builds A) (x : Option X) → ((x : X) → Keeps around nothing (f x)) → Keeps around nothing (given (option_map f x))
  given_keeps f None h = just_keeps nothing None refl
  given_keeps f (Some x) h = one_keeps nothing nothing Some (f x) (λ y. refl) (h x)
