-- What is found in fragments is what they look at: an induction over fragments, a lemma a form.
use Rattle.std.proofs.Common.{◌≡◌, ℕ, zero, suc, ◌+◌, ◌<◌, ◌≤◌, Bool, true, false, List, [], ◌∷◌, ◌++◌, Option, None, Some, map, option_map, refl, sym, ap, subst, ◌∙◌, arith, nat_eq, eq-eqb, ⊎_elim}
use Rattle.std.specs.Prelude.{if◌then◌else◌, ◌||◌}
use Rattle.std.specs.List.{All, list_any}
use Rattle.std.proofs.lemmas.Bool.{cases_lt, eqb-true, eqb-false}
use Rattle.std.proofs.lemmas.List.Elements.{All-head, All-tail}
use Rattle.std.proofs.lemmas.List.Folds.{list_any-append}
use Rattle.sv_ast.specs.declared.names.Ref.{Ref}
use Rattle.sv_ast.specs.declared.names.Ref.TheVariants.{Plain}
use Rattle.sv_base.specs.declared.names.Name.{Name}
use Rattle.sv_code.proofs.Each.{each_append, each_back, each_front, each_mono}
use Rattle.sv_code.specs.declared.fragments.Frag.{Frag, Frag-F, roll-Frag, map-Frag, fold-roll-Frag, ind-Frag}
use Rattle.sv_code.specs.declared.fragments.FragArm.{FragArm, FragArm-F, roll-FragArm, map-FragArm, fold-roll-FragArm}
use Rattle.sv_code.specs.declared.fragments.FragAttr.{FragAttr}
use Rattle.sv_code.specs.declared.fragments.FragAttr.TheVariants as attr_form
use Rattle.sv_code.specs.declared.fragments.FragValue.{FragValue}
use Rattle.sv_code.specs.declared.fragments.FragValue.TheVariants as value_form
use Rattle.sv_code.specs.declared.fragments.FragValuePart.{FragValuePart}
use Rattle.sv_code.specs.declared.fragments.FragValuePart.TheVariants as part_form
use Rattle.sv_code.specs.declared.fragments.LetName.{LetName}
use Rattle.sv_code.specs.declared.parts.Part.{Part}
use Rattle.sv_code.specs.declared.parts.Reading.{Reading}
use Rattle.sv_code.specs.Content as looks
use Rattle.sv_code.specs.Content.{Look, Looker, ByPart, ByHandler, ByTag, BySlot, Looks, Node, IsSeenBy, is_bound}
use Rattle.sv_code.specs.Names.{Each}
use Rattle.sv_code.specs.Within.{has_cell, has_local}
use Rattle.sv_deps.specs.Looks as deps
use Rattle.sv_deps.specs.Looks.{Looked, among_from, declared, others, gathered}
use Rattle.sv_deps.specs.Reading.{number_if}
use Rattle.sv_names.proofs.Same.{has-append, has-firsts}
use Rattle.sv_names.specs.Distinct.{has, firsts}
use Rattle.sv_within.proofs.Bools.{or_cases, or_first, or_second}
use Rattle.sv_within.proofs.Looking.{has_kept, named_has}

-- ---- facts of each

-- what follows of two facts of each
pub each_two : {A : Type 0} (P Q R : A → Type 0) → ((x : A) → P x → Q x → R x) → (xs : List A) → Each P xs → Each Q xs → Each R xs
each_two P Q R f [] h k = tt
each_two P Q R f (x ∷ xs) h k = (f x h.0 k.0, each_two P Q R f xs h.1 k.1)

pub each_from_all : {A : Type 0} (P : A → Type 0) (xs : List A) → All P xs → Each P xs
each_from_all P [] h = tt
each_from_all P (x ∷ xs) h = (All-head P x xs h, each_from_all P xs (All-tail P x xs h))

-- each is one of them
pub each_among : {A : Type 0} (test : A → A → Bool) → ((x : A) → test x x ≡ true) → (xs : List A) → Each (λ x. list_any (test x) xs ≡ true) xs
each_among test own [] = tt
each_among test own (y ∷ xs) = (
  or_first (test y y) (list_any (test y) xs) (own y),
  each_mono (λ x. list_any (test x) xs ≡ true) (λ x. list_any (test x) (y ∷ xs) ≡ true) (λ x h. or_second (test x y) (list_any (test x) xs) h) xs (each_among test own xs),
)

-- ---- names

abbrev pub same_name : Name → Name → Bool
same_name x y = nat_eq x.0 y.0

-- a name among some is a plain name among those
pub plain_has : (x : Name) (names : List Name) → has (Plain x) (map Plain names) ≡ is_bound x names
plain_has x [] = refl
plain_has x (y ∷ names) = ap (λ b. same_name x y || b) (plain_has x names)

declared_has : (x : Name) (names : List Name) → has (Plain x) (declared names) ≡ is_bound x names
declared_has x names = has-firsts (Plain x) (map Plain names) ∙ plain_has x names

-- what scopes declare is bound
abbrev pub Binds : List Ref → List Name → Type 0
Binds own bound = (x : Name) → has (Plain x) own ≡ true → is_bound x bound ≡ true

binds_more : (names : List Name) (own : List Ref) (bound : List Name) → Binds own bound → Binds (declared names ++ own) (names ++ bound)
binds_more names own bound h x k =
    list_any-append (same_name x) names bound
    ∙ or_cases (has (Plain x) (declared names)) (has (Plain x) own) (sym (has-append (Plain x) (declared names) own) ∙ k)
    (λ d. or_first (is_bound x names) (is_bound x bound) (sym (declared_has x names) ∙ d)) (λ o. or_second (is_bound x names) (is_bound x bound) (h x o))

-- ---- what is found

abbrev CellIn : Looked → ℕ → Type 0
CellIn found n = list_any (nat_eq n) found.cells ≡ true

abbrev LocalIn : Looked → List Name → Name → Type 0
LocalIn found bound x = (is_bound x bound || has (Plain x) found.locals) ≡ true

-- a look is at what was found, but for the names that are bound round it
pub record IsFound (found : Looked) (look : Look) : Type 0 where
  pub cells : Each (CellIn found) look.reads.cells
  pub locals : Each (LocalIn found look.bound) look.reads.locals

-- what looks are at is found, where what scopes declare is bound
pub record Finds (list : Looks) (found : deps.Looks) : Type 0 where
  pub all : (own : List Ref) (bound : List Name) → Binds own bound → Each (IsFound (found own)) (list bound)

any_first : (a b c : Bool) → (a || b) ≡ true → (a || (b || c)) ≡ true
any_first true b c h = refl
any_first false b c h = or_first b c h

any_second : (a b c : Bool) → (a || c) ≡ true → (a || (b || c)) ≡ true
any_second true b c h = refl
any_second false b c h = or_second b c h

module _ (a b : deps.Looks) (own : List Ref) where
  abbrev First : Looked
  First = a own

  abbrev Second : Looked
  Second = b own

  abbrev Whole : Looked
  Whole = deps.both a b own

  found_first : (look : Look) → IsFound First look → IsFound Whole look
  found_first look h = record {
    cells = each_mono (CellIn First) (CellIn Whole) (λ n k. list_any-append (nat_eq n) First.cells Second.cells ∙ or_first (list_any (nat_eq n) First.cells) (list_any (nat_eq n) Second.cells) k) look.reads.cells h.cells;
    locals = each_mono (LocalIn First look.bound) (LocalIn Whole look.bound) (λ x k. ap (λ z. is_bound x look.bound || z) (has-append (Plain x) First.locals Second.locals)
        ∙ any_first (is_bound x look.bound) (has (Plain x) First.locals) (has (Plain x) Second.locals) k) look.reads.locals h.locals;
  }

  found_second : (look : Look) → IsFound Second look → IsFound Whole look
  found_second look h = record {
    cells = each_mono (CellIn Second) (CellIn Whole) (λ n k. list_any-append (nat_eq n) First.cells Second.cells ∙ or_second (list_any (nat_eq n) First.cells) (list_any (nat_eq n) Second.cells) k) look.reads.cells h.cells;
    locals = each_mono (LocalIn Second look.bound) (LocalIn Whole look.bound) (λ x k. ap (λ z. is_bound x look.bound || z) (has-append (Plain x) First.locals Second.locals)
        ∙ any_second (is_bound x look.bound) (has (Plain x) First.locals) (has (Plain x) Second.locals) k) look.reads.locals h.locals;
  }

finds_nothing : (found : deps.Looks) → Finds looks.nothing found
finds_nothing found = record { all = λ own bound o. tt }

pub finds_both : (xs ys : Looks) (a b : deps.Looks) → Finds xs a → Finds ys b → Finds (looks.both xs ys) (deps.both a b)
finds_both xs ys a b h k = record {
  all = λ own bound o.
      each_append (IsFound (deps.both a b own)) (xs bound) (ys bound)
      (each_mono (IsFound (a own)) (IsFound (deps.both a b own)) (found_first a b own) (xs bound) (h.all own bound o))
      (each_mono (IsFound (b own)) (IsFound (deps.both a b own)) (found_second a b own) (ys bound) (k.all own bound o));
}

finds_within : (names : List Name) (xs : Looks) (a : deps.Looks) → Finds xs a → Finds (looks.within names xs) (deps.within (declared names) a)
finds_within names xs a h = record { all = λ own bound o. h.all (declared names ++ own) (names ++ bound) (binds_more names own bound o) }

-- a local is bound, or is none that scopes declare
local_found : (own : List Ref) (bound : List Name) (reads : Reading) → Binds own bound → (x : Name) → is_bound x reads.locals ≡ true → LocalIn (deps.read reads own) bound x
local_found own bound reads o x h = by (has (Plain x) own) refl
  where
    by : (b : Bool) → has (Plain x) own ≡ b → (is_bound x bound || has (Plain x) (others own reads.locals)) ≡ true
    by true e = or_first (is_bound x bound) (has (Plain x) (others own reads.locals)) (o x e)
    by false e = or_second (is_bound x bound) (has (Plain x) (others own reads.locals)) (has_kept own (map Plain reads.locals) (Plain x) e (plain_has x reads.locals ∙ h))

pub finds_one : (by : Looker) (reads : Reading) → Finds (looks.one by reads) (deps.read reads)
finds_one by reads = record {
  all = λ own bound o. (
    record {
      cells = each_among nat_eq (λ n. eq-eqb n n refl) reads.cells;
      locals = each_mono (λ x. is_bound x reads.locals ≡ true) (LocalIn (deps.read reads own) bound) (local_found own bound reads o) reads.locals
          (each_among same_name (λ x. eq-eqb x.0 x.0 refl) reads.locals);
    },
    tt,
  );
}

finds_part : (p : Part) → Finds (looks.of_part p) (deps.part p)
finds_part p = finds_one ByPart p.reads

-- ---- attributes

finds_list : {X : Type 0} (f : X → Looks) (g : X → deps.Looks) → ((x : X) → Finds (f x) (g x)) → (xs : List X) → Finds (looks.in_turn (map f xs)) (deps.in_turn (map g xs))
finds_list f g h [] = finds_nothing deps.nothing
finds_list f g h (x ∷ xs) = finds_both (f x) (looks.in_turn (map f xs)) (g x) (deps.in_turn (map g xs)) (h x) (finds_list f g h xs)

finds_value_part : (p : FragValuePart) → Finds (looks.of_value_part p) (deps.value_part p)
finds_value_part (part_form.Text text) = finds_nothing deps.nothing
finds_value_part (part_form.Show shown) = finds_part shown

finds_value : (v : FragValue) → Finds (looks.of_value v) (deps.value v)
finds_value value_form.Bare = finds_nothing deps.nothing
finds_value (value_form.Parts list) = finds_list looks.of_value_part deps.value_part finds_value_part list

finds_attr : (a : FragAttr) → Finds (looks.of_attr a) (deps.attr a)
finds_attr (attr_form.Plain span name value) = finds_value value
finds_attr (attr_form.On handler reads) = finds_one (ByHandler handler) reads
finds_attr (attr_form.Bind span name target) = finds_part target
finds_attr (attr_form.Class span name test) = finds_part test

pub finds_attrs : (attrs : List FragAttr) → Finds (looks.of_attrs attrs) (deps.attrs attrs)
finds_attrs attrs = finds_list looks.of_attr deps.attr finds_attr attrs

-- ---- fragments

-- in a node is found all that it looks at, and both go to a slot with a name, or neither does
pub record FindsNode (n : Node) (m : deps.Node) : Type 0 where
  pub named : n.named ≡ m.named
  pub looks : Finds n.looks m.looks

abbrev FindsFrag : Frag → Type 0
FindsFrag f = FindsNode (looks.node f) (deps.node f)

abbrev FindsArm : FragArm → Type 0
FindsArm a = Finds (looks.of_arm a) (deps.arm_looks a)

abbrev KnownFrag : Type 0
KnownFrag = (x : Frag) × FindsFrag x

abbrev KnownArm : Type 0
KnownArm = (x : FragArm) × FindsArm x

found_plain : (xs : Looks) (a : deps.Looks) → Finds xs a → FindsNode (looks.plain xs) (deps.plain a)
found_plain xs a h = record { named = refl; looks = h }

finds_nodes : (list : List KnownFrag) → Finds (looks.nodes (map looks.node (map (λ p. p.0) list))) (deps.nodes (map deps.node (map (λ p. p.0) list)))
finds_nodes [] = finds_nothing deps.nothing
finds_nodes (x ∷ list) =
    finds_both (looks.node x.0).looks (looks.nodes (map looks.node (map (λ p. p.0) list))) (deps.node x.0).looks (deps.nodes (map deps.node (map (λ p. p.0) list)))
    x.1.looks (finds_nodes list)

finds_arms : (list : List KnownArm) → Finds (looks.in_turn (map looks.of_arm (map (λ p. p.0) list))) (deps.in_turn (map deps.arm_looks (map (λ p. p.0) list)))
finds_arms [] = finds_nothing deps.nothing
finds_arms (x ∷ list) =
    finds_both (looks.of_arm x.0) (looks.in_turn (map looks.of_arm (map (λ p. p.0) list))) (deps.arm_looks x.0) (deps.in_turn (map deps.arm_looks (map (λ p. p.0) list)))
    x.1 (finds_arms list)

finds_key : (key : Option Part) → Finds (looks.given (option_map looks.of_part key)) (deps.given (option_map deps.part key))
finds_key None = finds_nothing deps.nothing
finds_key (Some p) = finds_part p

abbrev bare_frag : Frag-F KnownFrag KnownArm → Frag-F Frag FragArm
bare_frag = map-Frag KnownFrag KnownArm Frag FragArm (λ p. p.0) (λ p. p.0)

abbrev seen_frag : Frag-F Frag FragArm → Node
seen_frag x = looks.frag (map-Frag Frag FragArm Node Looks looks.node looks.of_arm x)

abbrev found_frag : Frag-F Frag FragArm → deps.Node
found_frag x = deps.frag (map-Frag Frag FragArm deps.Node deps.Looks deps.node deps.arm_looks x)

finds_row : (list : Part) (item : Name) (index : Option Name) (key : Option Part) (body : List KnownFrag) (last : Looks) (none : deps.Looks) → Finds last none
    → Finds (looks.both (looks.of_part list) (looks.both (looks.within (looks.row_names item index) (looks.both (looks.given (option_map looks.of_part key)) (looks.nodes (map looks.node (map (λ p. p.0) body))))) last))
    (deps.both (deps.part list) (deps.both (deps.within (deps.row_names item index) (deps.both (deps.given (option_map deps.part key)) (deps.nodes (map deps.node (map (λ p. p.0) body))))) none))
finds_row list item index key body last none h =
    finds_both _ _ _ _ (finds_part list)
    (finds_both _ _ _ _ (finds_within (looks.row_names item index) _ _ (finds_both _ _ _ _ (finds_key key) (finds_nodes body))) h)

frag_layer : (y : Frag-F KnownFrag KnownArm) → FindsNode (seen_frag (bare_frag y)) (found_frag (bare_frag y))
frag_layer (Frag-F.Text text) = found_plain _ _ (finds_nothing deps.nothing)
frag_layer (Frag-F.Show shown) = found_plain _ _ (finds_part shown)
frag_layer (Frag-F.Element span name attrs children) = found_plain _ _ (finds_both _ _ _ _ (finds_attrs attrs) (finds_nodes children))
frag_layer (Frag-F.Tag tag reads) = found_plain _ _ (finds_one (ByTag tag) reads)
frag_layer (Frag-F.Named slot lets node) = record { named = refl; looks = finds_within (looks.let_names lets) _ _ node.1.looks }
frag_layer (Frag-F.Slot span name attrs own reads) = found_plain _ _ (finds_both _ _ _ _ (finds_one BySlot reads) (finds_both _ _ _ _ (finds_attrs attrs) (finds_nodes own)))
frag_layer (Frag-F.If arms None) = found_plain _ _ (finds_both _ _ _ _ (finds_arms arms) (finds_nothing deps.nothing))
frag_layer (Frag-F.If arms (Some last)) = found_plain _ _ (finds_both _ _ _ _ (finds_arms arms) (finds_nodes last))
frag_layer (Frag-F.Each list item index key body None) = found_plain _ _ (finds_row list item index key body _ _ (finds_nothing deps.nothing))
frag_layer (Frag-F.Each list item index key body (Some none)) = found_plain _ _ (finds_row list item index key body _ _ (finds_nodes none))
frag_layer (Frag-F.Key shown body) = found_plain _ _ (finds_both _ _ _ _ (finds_part shown) (finds_nodes body))

abbrev bare_arm : FragArm-F KnownFrag KnownArm → FragArm-F Frag FragArm
bare_arm = map-FragArm KnownFrag KnownArm Frag FragArm (λ p. p.0) (λ p. p.0)

abbrev seen_arm : FragArm-F Frag FragArm → Looks
seen_arm x = looks.arm (map-FragArm Frag FragArm Node Looks looks.node looks.of_arm x)

abbrev found_arm : FragArm-F Frag FragArm → deps.Looks
found_arm x = deps.arm (map-FragArm Frag FragArm deps.Node deps.Looks deps.node deps.arm_looks x)

arm_layer : (y : FragArm-F KnownFrag KnownArm) → Finds (seen_arm (bare_arm y)) (found_arm (bare_arm y))
arm_layer y = finds_both _ _ _ _ (finds_part y.test) (finds_nodes y.body)

frag_step : (x : Frag-F Frag FragArm) (y : Frag-F KnownFrag KnownArm) → bare_frag y ≡ x → FindsFrag (roll-Frag x)
frag_step x y e =
    subst (λ n. FindsNode n (deps.node (roll-Frag x))) (sym (fold-roll-Frag Node Looks looks.frag looks.arm x))
    (subst (FindsNode (seen_frag x)) (sym (fold-roll-Frag deps.Node deps.Looks deps.frag deps.arm x)) (subst (λ z. FindsNode (seen_frag z) (found_frag z)) e (frag_layer y)))

arm_step : (x : FragArm-F Frag FragArm) (y : FragArm-F KnownFrag KnownArm) → bare_arm y ≡ x → FindsArm (roll-FragArm x)
arm_step x y e =
    subst (λ l. Finds l (deps.arm_looks (roll-FragArm x))) (sym (fold-roll-FragArm Node Looks looks.frag looks.arm x))
    (subst (Finds (seen_arm x)) (sym (fold-roll-FragArm deps.Node deps.Looks deps.frag deps.arm x)) (subst (λ z. Finds (seen_arm z) (found_arm z)) e (arm_layer y)))

finds_frag : (f : Frag) → FindsFrag f
finds_frag = ind-Frag FindsFrag FindsArm frag_step arm_step

-- ---- content

finds_part_of : (b : Bool) (names : List Name) (xs : Looks) (a : deps.Looks) → Finds xs a → Finds (if b then xs else looks.within names xs) (if b then a else deps.within (declared names) a)
finds_part_of true names xs a h = h
finds_part_of false names xs a h = finds_within names xs a h

finds_in_content : (names : List Name) (f : Frag) → Finds (looks.in_content names (looks.node f)) (deps.in_content (declared names) (deps.node f))
finds_in_content names f =
    let h = finds_frag f in
    subst (λ b. Finds (looks.in_content names (looks.node f)) (if b then (deps.node f).looks else deps.within (declared names) (deps.node f).looks)) h.named
    (finds_part_of (looks.node f).named names (looks.node f).looks (deps.node f).looks h.looks)

-- in content is found all that is looked at there
pub content_found : (lets : List LetName) (list : List Frag) → Each (IsFound (deps.content (deps.let_names lets) list [])) (looks.of_content lets list)
content_found lets list =
    let names = looks.let_names lets in
    (finds_list (λ f. looks.in_content names (looks.node f)) (λ f. deps.in_content (declared names) (deps.node f)) (finds_in_content names) list).all [] [] (λ x h. h)

-- what is so in content whatever names are bound there, is so in it as the content of a tag
pub each_in_content : (P : Look → Type 0) (lets : List LetName) (list : List Frag) → ((bound : List Name) → Each P (looks.of_frags list bound)) → Each P (looks.of_content lets list)
each_in_content P lets [] h = tt
each_in_content P lets (f ∷ list) h =
    let names = looks.let_names lets in
    let n = looks.node f in
    each_append P (looks.in_content names n []) (looks.of_content lets list) (by n.named (λ bound. each_front P (n.looks bound) (looks.of_frags list bound) (h bound)))
    (each_in_content P lets list (λ bound. each_back P (n.looks bound) (looks.of_frags list bound) (h bound)))
  where
    by : (b : Bool) → ((bound : List Name) → Each P ((looks.node f).looks bound)) → Each P ((if b then (looks.node f).looks else looks.within (looks.let_names lets) (looks.node f).looks) [])
    by true k = k []
    by false k = k (looks.let_names lets ++ [])

-- ---- what is gathered

number_among : (start count n : ℕ) (numbers : List ℕ) → start ≤ n → n < start + count → list_any (nat_eq n) numbers ≡ true → list_any (nat_eq n) (among_from start count numbers) ≡ true
number_among start zero n numbers low high h = absurd (omega (arith, low, high))
number_among start (suc count) n numbers low high h =
    by (number_if (list_any (nat_eq start) numbers) start) (among_from (suc start) count numbers) (nat_eq n start) refl here (λ le. number_among (suc start) count n numbers le (omega (arith, high)) h)
  where
    here : nat_eq n start ≡ true → list_any (nat_eq n) (number_if (list_any (nat_eq start) numbers) start) ≡ true
    here e =
        ap (λ b. list_any (nat_eq n) (number_if b start)) (ap (λ m. list_any (nat_eq m) numbers) (sym (eqb-true n start e)) ∙ h) ∙ or_first (nat_eq n start) false e

    by : (front rest : List ℕ) (b : Bool) → nat_eq n start ≡ b → (nat_eq n start ≡ true → list_any (nat_eq n) front ≡ true) → (suc start ≤ n → list_any (nat_eq n) rest ≡ true) → list_any (nat_eq n) (front ++ rest) ≡ true
    by front rest true e now later = list_any-append (nat_eq n) front rest ∙ or_first (list_any (nat_eq n) front) (list_any (nat_eq n) rest) (now e)
    by front rest false e now later =
        let next : suc start ≤ n = ⊎_elim (λ less. omega (arith, less)) (λ more. absurd (eqb-false n start e (omega (arith, low, more)))) (cases_lt start n) in
        list_any-append (nat_eq n) front rest ∙ or_second (list_any (nat_eq n) front) (list_any (nat_eq n) rest) (later next)

kept_either : (a b c : Bool) → (b ≡ true → c ≡ true) → (a || b) ≡ true → (a || c) ≡ true
kept_either true b c f h = refl
kept_either false b c f h = f h

-- what was found is seen, where it is below the count of cells
pub gathered_sees : (count : ℕ) (found : Looked) (look : Look) → IsFound found look → Each (λ n. n < count) look.reads.cells → IsSeenBy (gathered count found) look
gathered_sees count found look h below = record {
  cells = each_two (CellIn found) (λ n. n < count) (λ n. has_cell (gathered count found) n ≡ true) (λ n k lt. number_among 0 count n found.cells (omega arith) (omega (arith, lt)) k) look.reads.cells h.cells below;
  locals = each_mono (LocalIn found look.bound) (λ x. (is_bound x look.bound || has_local (gathered count found) x) ≡ true)
      (λ x k. kept_either (is_bound x look.bound) (has (Plain x) found.locals) (has_local (gathered count found) x)
      (λ o. named_has (firsts found.locals) (Plain x) (has-firsts (Plain x) found.locals ∙ o)) k)
      look.reads.locals h.locals;
}
