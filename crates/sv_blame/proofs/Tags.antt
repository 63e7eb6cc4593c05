-- Values, attributes and openings of tags tell.
use Rattle.std.proofs.Common.{◌≡◌, ◌≤◌, ◌+◌, ◌⊎◌, inl, inr, ℕ, zero, suc, Bool, true, false, not, ◌&&◌, ◌||◌, cond, List, [], ◌∷◌, ◌++◌, length, drop, refl, ap, sym, ◌∙◌, subst, arith, length-drop}
use Rattle.std.specs.Prelude.{◌==◌, slice_index, codes, is_some, Option, Some, None}
use Rattle.std.specs.Str.{bytes_eq}
use Rattle.std.specs.Cmp.Lexicographic.{bytes_decides}
use Rattle.sv_ast.specs.declared.markup_tree.AttrKind.{AttrKind}
use Rattle.sv_ast.specs.declared.markup_tree.AttrKind.TheVariants as kind
use Rattle.sv_ast.specs.declared.markup_tree.AttrPart.{AttrPart}
use Rattle.sv_ast.specs.declared.markup_tree.AttrValue.{AttrValue}
use Rattle.sv_ast.specs.declared.markup_tree.Modifiers.{Modifiers}
use Rattle.sv_ast.specs.declared.markup_tree.TagAttr.{TagAttr}
use Rattle.sv_ast.specs.declared.refusals.Kind.{Kind}
use Rattle.sv_ast.specs.declared.refusals.Kind.TheVariants.{Syntax, OutOfScope}
use Rattle.sv_lex.specs.declared.lexeme.Lexeme.TheVariants as k
use Rattle.sv_lex.specs.Bytes.{stopped_at}
use Rattle.sv_lex.specs.Literals.{moved}
use Rattle.sv_lex.specs.Look.{is_name}
use Rattle.sv_lex.specs.Reader.{Input, Outcome, next, left, len, spelling, knowing, name}
use Rattle.sv_expr.specs.Limits.{real}
use Rattle.sv_tags.specs.declared.classes.Class.TheVariants.{Blank, AttributeName}
use Rattle.sv_tags.specs.declared.directives.Tag.{Tag}
use Rattle.sv_tags.specs.declared.holes.Filling.{Filling}
use Rattle.sv_tags.specs.declared.holes.Filling.TheVariants as fill
use Rattle.sv_tags.specs.declared.texts.Quote.{Quote}
use Rattle.sv_tags.specs.declared.texts.Quote.TheVariants.{Double, Single}
use Rattle.sv_tags.specs.declared.texts.Setting.TheVariants.{Quoted, Unquoted}
use Rattle.sv_tags.specs.Attributes as a
use Rattle.sv_tags.specs.Attributes.{modifiers_from, all_modifiers, modifiers, is_on, with_modifier, settled, or_else, ascii_name, shorthand_of, shorthand, attr, named, attribute}
use Rattle.sv_tags.specs.Classes.{first, begins, front_len}
use Rattle.sv_tags.specs.Directives.{filling, name_at, kind_of, word, given_name, is_left_out, is_element, is_input, is_slot, suits, is_bare, misplaced, misplaced_by, misvalued, misvalued_by}
use Rattle.sv_tags.specs.Holes.{braces}
use Rattle.sv_tags.specs.Openings as o
use Rattle.sv_tags.specs.Openings.{names_slot, added, put, slot_named, end_len, has_blanks, past_blanks, lacks_slot, opening, finished, slot_name, more, attributes_from, attributes, opening_tag, with_end, nothing}
use Rattle.sv_tags.specs.Texts.{closing, text}
use Rattle.sv_tags.specs.Values as v
use Rattle.sv_tags.specs.Values.{quote_of, unquoted, in_braces, part, parts_from, parts, in_quotes, assigned, value, only_braces, directive_value, literal, is_literal}
use Rattle.sv_tags.proofs.Bytes.{same}
use Rattle.sv_blame.specs.LeftOut.{names_left_out, short_name, BeginsLeftOut}
use Rattle.sv_blame.specs.LeftOut as out
use Rattle.sv_blame.specs.Places.{begins_open}
use Rattle.sv_blame.proofs.Frame.{Any, Tells, stay, next-up, tells_from, tells_then, tells_choice, tells_if, tells_expect, goes, goes_on, stops}
use Rattle.sv_blame.proofs.Lengths.{some_byte, take_short}
use Rattle.sv_blame.proofs.Names.{name_tells}
use Rattle.sv_blame.proofs.Onward.{At, Bad, Fits, tokens, knows, on, here, syntax, unclosed, left_out, some_first, front_within}
use Rattle.sv_blame.proofs.Stands.{Room}
use Rattle.sv_blame.proofs.Texts.{text_tells, opened_then, braces_tells}

quote_some : (quote : Quote) → 1 ≤ closing quote
quote_some Double = omega arith
quote_some Single = omega arith

quoted_some : (b : ℕ) (quote : Quote) → quote_of b ≡ Some quote → 1 ≤ b
quoted_some zero quote h = absurd (cc)
quoted_some (suc b) quote h = omega arith

-- ---- why an attribute is refused

-- for the grammar's sake, or since a form of this name is left out
abbrev Why : List ℕ → Kind → Type 0
Why z kind = (kind ≡ Syntax) ⊎ ((kind ≡ OutOfScope) × (names_left_out z ≡ true))

abbrev WhyIf : List ℕ → Option Kind → Type 0
WhyIf z None = Unit {0}
WhyIf z (Some kind) = Why z kind

why_if : (z : List ℕ) (b : Bool) (x y : Option Kind) → (b ≡ true → WhyIf z x) → (b ≡ false → WhyIf z y) → WhyIf z (cond b x y)
why_if z true x y h g = h refl
why_if z false x y h g = g refl

by_word : (z : List ℕ) → is_left_out z ≡ true → names_left_out z ≡ true
by_word z h = ap (λ b. b || bytes_eq (name_at z) (codes "slot") || bytes_eq (name_at z) (codes "type")) h

by_slot : (z : List ℕ) → bytes_eq (name_at z) (codes "slot") ≡ true → names_left_out z ≡ true
by_slot z h = by (is_left_out z) (bytes_eq (name_at z) (codes "slot")) (bytes_eq (name_at z) (codes "type")) h
  where
    by : (a b c : Bool) → b ≡ true → (a || b || c) ≡ true
    by true b c h = refl
    by false true c h = refl
    by false false c h = absurd (cc)

by_type : (z : List ℕ) → bytes_eq (name_at z) (codes "type") ≡ true → names_left_out z ≡ true
by_type z h = by (is_left_out z) (bytes_eq (name_at z) (codes "slot")) (bytes_eq (name_at z) (codes "type")) h
  where
    by : (a b c : Bool) → c ≡ true → (a || b || c) ≡ true
    by true b c h = refl
    by false true c h = refl
    by false false true h = refl
    by false false false h = absurd (cc)

-- an attribute that is of a kind by its name
abbrev Named_as : AttrKind → List ℕ → Type 0
Named_as kind.Slot z = bytes_eq (name_at z) (codes "slot") ≡ true
Named_as _ z = Unit {0}

kind_named : (z : List ℕ) → Named_as (kind_of z) z
unfolding kind_of
kind_named z = pick (begins (word kind.On) z) kind.On _ tt (pick (begins (word kind.Bind) z) kind.Bind _ tt (pick (begins (word kind.Class) z) kind.Class _ tt
    (pick (begins (word kind.Let) z) kind.Let _ tt (last (bytes_eq (name_at z) (codes "slot")) refl))))
  where
    pick : (b : Bool) (x y : AttrKind) → Named_as x z → Named_as y z → Named_as (cond b x y) z
    pick true x y h g = h
    pick false x y h g = g

    last : (b : Bool) → bytes_eq (name_at z) (codes "slot") ≡ b → Named_as (cond b kind.Slot kind.Plain) z
    last true e = e
    last false e = tt

misplaced_why : (tag : Tag) (owned : Bool) (z : List ℕ) → WhyIf z (misplaced tag owned z)
unfolding misplaced
misplaced_why tag owned z = why_if z (length (name_at z) == 0) _ _ (λ e. inl refl) (λ e. why_if z (is_left_out z) _ _ (λ e. inr (refl, by_word z e)) (λ e. by (kind_of z) (kind_named z)))
  where
    plainly : (b : Bool) → WhyIf z (cond b (Some Syntax) None)
    plainly true = inl refl
    plainly false = tt

    by : (x : AttrKind) → Named_as x z → WhyIf z (misplaced_by x tag owned (given_name z))
    by kind.Plain h = tt
    by kind.Slot h = why_if z (is_slot tag) _ _ (λ e. inr (refl, by_slot z h)) (λ e. why_if z owned _ _ (λ e. tt) (λ e. inl refl))
    by kind.On h = plainly (length (given_name z) == 0 || not (suits kind.On tag (given_name z)))
    by kind.Bind h = plainly (length (given_name z) == 0 || not (suits kind.Bind tag (given_name z)))
    by kind.Class h = plainly (length (given_name z) == 0 || not (suits kind.Class tag (given_name z)))
    by kind.Let h = plainly (length (given_name z) == 0 || not (suits kind.Let tag (given_name z)))

pub second_true : (a b : Bool) → (a && b) ≡ true → b ≡ true
second_true true b h = h
second_true false b h = absurd (cc)

misvalued_why : (tag : Tag) (z : List ℕ) (v : AttrValue) → WhyIf z (misvalued tag z v)
unfolding misvalued
misvalued_why tag z v = by (kind_of z) refl
  where
    plainly : (b : Bool) → WhyIf z (cond b (Some Syntax) None)
    plainly true = inl refl
    plainly false = tt

    other_value : (b : Bool) → WhyIf z (cond b None (Some Syntax))
    other_value true = tt
    other_value false = inl refl

    plain_name : kind_of z ≡ kind.Plain → given_name z ≡ name_at z
    plain_name e = ap (λ x. name_at (drop (length (word x)) z)) e

    by : (x : AttrKind) → kind_of z ≡ x → WhyIf z (misvalued_by x tag (given_name z) v)
    by kind.Plain e = why_if z (is_literal v) _ _ (λ e. tt)
        (λ _. why_if z (is_input tag && bytes_eq (given_name z) (codes "type")) _ _
        (λ h. inr (refl, by_type z (ap (λ n. bytes_eq n (codes "type")) (sym (plain_name e)) ∙ second_true _ _ h)))
        (λ _. plainly (is_slot tag && bytes_eq (given_name z) (codes "name"))))
    by kind.Slot e = other_value (is_literal v)
    by kind.On e = tt
    by kind.Bind e = plainly (is_bare v && not (is_name (given_name z)))
    by kind.Class e = plainly (is_bare v && not (is_name (given_name z)))
    by kind.Let e = plainly (is_bare v && not (is_name (given_name z)))

or_else_why : (z : List ℕ) (x y : Option Kind) → WhyIf z x → WhyIf z y → WhyIf z (or_else x y)
or_else_why z None y h g = g
or_else_why z (Some kind) y h g = h

module _ (bytes : List ℕ) (number : ℕ) where
  -- an attribute that begins at a place
  abbrev Begun : ℕ → TagAttr → Type 0
  Begun n y = y.span.from ≡ n

  abbrev Starts : ℕ → Input → Outcome TagAttr → Type 0
  Starts n = Tells (At bytes number) (Bad bytes number) (Begun n)

  -- an attribute is refused at a place where its name is left out, or for another reason
  settled_tells : (z : List ℕ) (x : Option Kind) (y : TagAttr) (n : ℕ) (b i : Input) → At bytes number i → b.at ≤ i.at → y.span.from ≡ n → n ≤ i.at
      → (names_left_out z ≡ true → BeginsLeftOut (drop n bytes)) → WhyIf z x → Starts n b (settled x y i)
  settled_tells z None y n b i at le is from out why = goes at le is
  settled_tells z (Some kind) y n b i at le is from out why = stops (subst (λ m. Bad bytes number (stopped_at kind m i)) (sym is) (by why))
    where
      by : Why z kind → Bad bytes number (stopped_at kind n i)
      by (inl e) = subst (λ kind. Bad bytes number (stopped_at kind n i)) (sym e) (syntax bytes number n i at from)
      by (inr e) = subst (λ kind. Bad bytes number (stopped_at kind n i)) (sym e.0) (left_out bytes number n i at from (out e.1))

  -- ---- values

  unquoted_tells : (i : Input) → At bytes number i → Fits bytes number i (unquoted i)
  unfolding unquoted
  unquoted_tells i at = tells_then Any Any (text Unquoted i) _ (text_tells bytes number Unquoted i at) (λ x o s le q. goes s le tt)

  module _ (d : ℕ) where
    in_braces_tells : (f : Filling) (i : Input) → At bytes number i → Room bytes d i.at → first i.text ≡ 123 → Fits bytes number i (in_braces real d f i)
    unfolding in_braces
    in_braces_tells f i at room h = tells_then Any Any (braces real f d i) _ (braces_tells bytes number f d i at room h) (λ x o s le q. goes s le tt)

    part_tells : (quote : Quote) (i : Input) → At bytes number i → Room bytes d i.at → Fits bytes number i (part real d quote i)
    unfolding part
    part_tells quote i at room = tells_if Any (first i.text == 123) _ _
        (λ e. tells_then Any Any (braces real fill.Value d i) _ (braces_tells bytes number fill.Value d i at room (same (first i.text) 123 e)) (λ x o s le q. goes s le tt))
        (λ e. tells_then Any Any (text (Quoted quote) i) _ (text_tells bytes number (Quoted quote) i at) (λ x o s le q. goes s le tt))

    parts_from_tells : (quote : Quote) (n : ℕ) (found : List AttrPart) (i : Input) → At bytes number i → Room bytes d i.at → Fits bytes number i (parts_from real d quote n found i)
    unfolding parts_from
    parts_from_tells quote zero found i at room = stops (syntax bytes number i.at i at (omega arith))
    parts_from_tells quote (suc n) found i at room = tells_if Any (first i.text == closing quote) _ _
        (λ e. goes (on bytes number 1 i at (some_first bytes number (closing quote) i (same (first i.text) (closing quote) e) (quote_some quote))) (omega arith) tt)
        (λ e. tells_then Any Any (part real d quote i) _ (part_tells quote i at room)
        (λ x j s le q. tells_from Any (parts_from real d quote n (found ++ x ∷ []) j) le (parts_from_tells quote n (found ++ x ∷ []) j s ((tokens bytes number).room_up d i.at j.at le room))))

    in_quotes_tells : (quote : Quote) (i : Input) → At bytes number i → Room bytes d i.at → 1 ≤ length i.text → Fits bytes number i (in_quotes real d quote i)
    unfolding in_quotes parts
    in_quotes_tells quote i at room some =
        let le : i.at ≤ (moved 1 i).at = omega arith in
        tells_then Any Any (parts_from real d quote (left (moved 1 i)) [] (moved 1 i)) _
        (tells_from Any (parts_from real d quote (left (moved 1 i)) [] (moved 1 i)) le
        (parts_from_tells quote (left (moved 1 i)) [] (moved 1 i) (on bytes number 1 i at some) ((tokens bytes number).room_up d i.at (moved 1 i).at le room)))
        (λ x o s le q. goes s le tt)

    assigned_tells : (i : Input) → At bytes number i → Room bytes d i.at → Fits bytes number i (assigned real d i)
    unfolding assigned
    assigned_tells i at room = tells_if Any (first i.text == 123) _ _ (λ e. in_braces_tells fill.Value i at room (same (first i.text) 123 e)) (λ e. by (quote_of (first i.text)) refl)
      where
        by : (q : Option Quote) → quote_of (first i.text) ≡ q → Fits bytes number i (v.unbraced real d q i)
        by None e = unquoted_tells i at
        by (Some quote) e = in_quotes_tells quote i at room (some_first bytes number (first i.text) i refl (quoted_some (first i.text) quote e))

    -- behind the `=`
    equals : (i : Input) → At bytes number i → first i.text ≡ 61 → At bytes number (moved 1 i)
    equals i at h = on bytes number 1 i at (some_first bytes number 61 i h (omega arith))

    value_tells : (i : Input) → At bytes number i → Room bytes d i.at → Fits bytes number i (value real d i)
    unfolding value
    value_tells i at room = tells_if Any (first i.text == 61) _ _
        (λ e. (
        let le : i.at ≤ (moved 1 i).at = omega arith in
        tells_from Any (assigned real d (moved 1 i)) le (assigned_tells (moved 1 i) (equals i at (same (first i.text) 61 e)) ((tokens bytes number).room_up d i.at (moved 1 i).at le room))))
        (λ e. goes_on (stay i at) tt)

    only_braces_tells : (f : Filling) (i : Input) → At bytes number i → Room bytes d i.at → Fits bytes number i (only_braces real d f i)
    unfolding only_braces
    only_braces_tells f i at room =
        tells_if Any (first i.text == 123) _ _ (λ e. in_braces_tells f i at room (same (first i.text) 123 e)) (λ e. stops (syntax bytes number i.at i at (omega arith)))

    directive_value_tells : (f : Filling) (i : Input) → At bytes number i → Room bytes d i.at → Fits bytes number i (directive_value real d f i)
    unfolding directive_value
    directive_value_tells f i at room = tells_if Any (first i.text == 61) _ _
        (λ e. (
        let le : i.at ≤ (moved 1 i).at = omega arith in
        tells_from Any (only_braces real d f (moved 1 i)) le (only_braces_tells f (moved 1 i) (equals i at (same (first i.text) 61 e)) ((tokens bytes number).room_up d i.at (moved 1 i).at le room))))
        (λ e. goes_on (stay i at) tt)

  -- ---- attributes

  name_fits : (z : List ℕ) → length (name_at z) ≤ length z
  name_fits z = take_short (front_len AttributeName z) z

  modifiers_from_tells : (n : ℕ) (m : Modifiers) (i : Input) → At bytes number i → Fits bytes number i (modifiers_from n m i)
  unfolding modifiers_from
  modifiers_from_tells zero m i at = goes_on (stay i at) tt
  modifiers_from_tells (suc n) m i at = tells_if Any (first i.text == 124) _ _
      (λ e. by (with_modifier (name_at (drop 1 i.text)) m) (some_first bytes number 124 i (same (first i.text) 124 e) (omega arith)) (λ x j s. modifiers_from_tells n x j s))
      (λ e. goes_on (stay i at) tt)
    where
      by : (x : Option Modifiers) → 1 ≤ length i.text → ((x : Modifiers) (j : Input) → At bytes number j → Fits bytes number j (modifiers_from n x j))
          → Fits bytes number i (a.modifier_by (modifiers_from n) x i)
      by None some more = stops (syntax bytes number i.at i at (omega arith))
      by (Some x) some more =
          let len = 1 + length (name_at (drop 1 i.text)) in
          let size = length-drop 1 i.text in let fits = name_fits (drop 1 i.text) in
          tells_from Any (modifiers_from n x (moved len i)) (omega arith) (more x (moved len i) (on bytes number len i at (omega arith)))

  modifiers_tell : (tag : Tag) (x : AttrKind) (i : Input) → At bytes number i → Fits bytes number i (modifiers tag x i)
  unfolding modifiers all_modifiers
  modifiers_tell tag x i at = tells_if Any (is_on x && is_element tag) _ _ (λ e. modifiers_from_tells (left i) a.no_modifiers i at) (λ e. goes_on (stay i at) tt)

  ascii_tells : (b i : Input) → At bytes number i → b.at ≤ i.at → Fits bytes number b (ascii_name i)
  unfolding ascii_name
  ascii_tells b i at le =
      let up = next-up i in
      tells_if Any (front_len AttributeName (spelling i) == length (spelling i)) _ _
      (λ e. tells_from Any (name i) (omega arith) (name_tells (tokens bytes number) i at)) (λ e. stops ((tokens bytes number).syntax i at))

  short_is : (i : Input) → spelling (moved 1 i) ≡ short_name i.text
  unfolding spelling len
  short_is i = refl

  shorthand_of_tells : (tag : Tag) (owned : Bool) (b i : Input) → At bytes number b → first b.text ≡ 123 → At bytes number i → b.at ≤ i.at → spelling i ≡ short_name b.text
      → Starts b.at b (shorthand_of tag owned b.at i)
  unfolding shorthand_of
  shorthand_of_tells tag owned b i begins h at le named =
      tells_then Any (Begun b.at) (ascii_name i) _ (ascii_tells b i at le)
      (λ found j s le q. tells_expect (tokens bytes number) (Begun b.at) b k.RBrace j _ s le
      (λ s le c. settled_tells (spelling i) _ _ b.at b (next j) s le refl le
      (λ left. (
      let same = here bytes number b begins in
      subst BeginsLeftOut (sym same) (out.short h (ap names_left_out (sym named) ∙ left))))
      (or_else_why (spelling i) _ _ (misplaced_why tag owned (spelling i)) (misvalued_why tag (spelling i) _))))

  shorthand_tells : (tag : Tag) (owned : Bool) (d : ℕ) (i : Input) → At bytes number i → Room bytes d i.at → first i.text ≡ 123 → Starts i.at i (shorthand tag owned d i)
  unfolding shorthand
  shorthand_tells tag owned d i at room h = tells_if (Begun i.at) (begins (codes "{...") i.text) _ _
      (λ e. stops (left_out bytes number i.at i at (omega arith) (out.spread (ap (begins (codes "{...")) (here bytes number i at) ∙ e))))
      (λ e. opened_then bytes number (Begun i.at) i d i _ at room
      (λ le. shorthand_of_tells tag owned i (moved 1 i) at h (on bytes number 1 i at (some_first bytes number 123 i h (omega arith))) (omega arith) (short_is i)))

  module _ (d : ℕ) where
    value_by_tells : (f : Option Filling) (i : Input) → At bytes number i → Room bytes d i.at → Fits bytes number i (a.value_by real d f i)
    value_by_tells None i at room = value_tells d i at room
    value_by_tells (Some f) i at room = directive_value_tells d f i at room

    named_tells : (tag : Tag) (i : Input) → At bytes number i → Room bytes d i.at → Starts i.at i (named real d tag i)
    unfolding named
    named_tells tag i at room =
        let n = length (name_at i.text) in
        let j = moved n (knowing (given_name i.text) i) in
        let s = on bytes number n (knowing (given_name i.text) i) (knows bytes number (given_name i.text) i at) (name_fits i.text) in
        let le : i.at ≤ j.at = omega arith in
        tells_then Any (Begun i.at) (modifiers tag (kind_of i.text) j) _ (tells_from Any (modifiers tag (kind_of i.text) j) le (modifiers_tell tag (kind_of i.text) j s))
        (λ found m t up q. tells_then Any (Begun i.at) (a.value_by real d (filling (kind_of i.text)) m) _
        (tells_from Any (a.value_by real d (filling (kind_of i.text)) m) up (value_by_tells (filling (kind_of i.text)) m t ((tokens bytes number).room_up d i.at m.at up room)))
        (λ v o u top q. settled_tells i.text _ _ i.at i o u top refl top
        (λ left. subst BeginsLeftOut (sym (here bytes number i at)) (out.attribute left)) (misvalued_why tag i.text v)))

    attribute_tells : (tag : Tag) (owned : Bool) (i : Input) → At bytes number i → Room bytes d i.at → Starts i.at i (attribute real d tag owned i)
    unfolding attribute
    attribute_tells tag owned i at room = tells_if (Begun i.at) (first i.text == 123) _ _ (λ e. shorthand_tells tag owned d i at room (same (first i.text) 123 e))
        (λ e. by (misplaced tag owned i.text) (misplaced_why tag owned i.text))
      where
        by : (x : Option Kind) → WhyIf i.text x → Starts i.at i (a.placed real d x tag i)
        by None why = named_tells tag i at room
        by (Some kind) (inl e) = stops (subst (λ kind. Bad bytes number (stopped_at kind i.at i)) (sym e) (syntax bytes number i.at i at (omega arith)))
        by (Some kind) (inr e) =
            stops (subst (λ kind. Bad bytes number (stopped_at kind i.at i)) (sym e.0)
            (left_out bytes number i.at i at (omega arith) (subst BeginsLeftOut (sym (here bytes number i at)) (out.attribute e.1))))

    -- ---- openings

    named_len : (z : List ℕ) → bytes_eq (name_at z) (codes "name") ≡ true → 4 ≤ length z
    named_len z h = let e : name_at z ≡ codes "name" = (bytes_decides (name_at z) (codes "name")).0 h in let size = ap length e in let fits = name_fits z in omega arith

    slot_name_tells : (found : _) (i : Input) → At bytes number i → Room bytes d i.at → 4 ≤ length i.text → Fits bytes number i (slot_name real d found i)
    unfolding slot_name
    slot_name_tells found i at room four = tells_if Any (is_some found.slot) _ _ (λ e. stops (syntax bytes number i.at i at (omega arith)))
        (λ e. (
        let le : i.at ≤ (moved 4 i).at = omega arith in
        tells_then Any Any (value real d (moved 4 i)) _
        (tells_from Any (value real d (moved 4 i)) le (value_tells d (moved 4 i) (on bytes number 4 i at four) ((tokens bytes number).room_up d i.at (moved 4 i).at le room)))
        (λ v o s up q. by (literal v) o s up)))
      where
        by : (x : Option (List ℕ)) (o : Input) → At bytes number o → i.at ≤ o.at → Fits bytes number i (slot_named i.at found x o)
        by None o s le = stops (syntax bytes number i.at o s le)
        by (Some t) o s le = goes s le tt

    put_tells : (x : TagAttr) (found : _) (b i : Input) → At bytes number i → b.at ≤ i.at → x.span.from ≤ i.at → Fits bytes number b (put x found i)
    unfolding put
    put_tells x found b i at le from = by (added x found)
      where
        by : (y : _) → Fits bytes number b (o.put_by y x i)
        by None = stops (syntax bytes number x.span.from i at from)
        by (Some y) = goes at le tt

    more_tells : (tag : Tag) (owned : Bool) (found : _) (i : Input) → At bytes number i → Room bytes d i.at → Fits bytes number i (more real d tag owned found i)
    unfolding more
    more_tells tag owned found i at room = tells_if Any (names_slot tag i.text) _ _ (λ e. slot_name_tells found i at room (named_len i.text (second_true _ _ e)))
        (λ e. tells_then (Begun i.at) Any (attribute real d tag owned i) _ (attribute_tells tag owned i at room)
        (λ x j s le is. put_tells x found i j s le (omega (arith, le, is))))

    end_fits : (z : List ℕ) → end_len z ≤ length z
    end_fits [] = omega arith
    end_fits (b ∷ z) = by (b == 62) (b == 47) (slice_index z 0 == 62) refl
      where
        by : (t u w : Bool) → (slice_index z 0 == 62) ≡ w → cond t 1 (cond (u && w) 2 0) ≤ suc (length z)
        by true u w e = omega arith
        by false true true e =
            let is : slice_index z 0 ≡ 62 = same (slice_index z 0) 62 e in let there = some_byte z 0 (λ none. absurd (let no : 0 ≡ 62 = sym none ∙ is in omega arith)) in omega arith
        by false true false e = omega arith
        by false false w e = omega arith

    -- so many bytes are passed
    passed : (n : ℕ) (b i : Input) → At bytes number i → b.at ≤ i.at → n ≤ length i.text → At bytes number (moved n i) × (b.at ≤ (moved n i).at)
    passed n b i at le fits = (on bytes number n i at fits, omega arith)

    module _ (tag : Tag) (owned : Bool) (from : ℕ) (shown_open : begins_open (drop from bytes) ≡ true) where
      attributes_from_tells : (n : ℕ) (found : _) (i : Input) → At bytes number i → from ≤ i.at → Room bytes d i.at
          → Fits bytes number i (attributes_from real d tag owned from n found i)
      unfolding attributes_from
      attributes_from_tells zero found i at low room = stops (unclosed bytes number from i at low shown_open)
      attributes_from_tells (suc n) found i at low room =
          let j = past_blanks i in
          let s = on bytes number (front_len Blank i.text) i at (front_within Blank i.text) in
          let le : i.at ≤ j.at = omega arith in
          tells_if Any (end_len j.text == 0) _ _
          (λ e. tells_if Any (left j == 0) _ _ (λ e. stops (unclosed bytes number from j s (omega (arith, low, le)) shown_open))
          (λ e. tells_if Any (has_blanks i.text) _ _
          (λ e. tells_from Any _ le (tells_then Any Any (more real d tag owned found j) _ (more_tells tag owned found j s ((tokens bytes number).room_up d i.at j.at le room))
          (λ x m t up q. tells_from Any (attributes_from real d tag owned from n x m) up
          (attributes_from_tells n x m t (omega (arith, low, le, up)) ((tokens bytes number).room_up d i.at m.at (omega (arith, le, up)) room)))))
          (λ e. stops (syntax bytes number j.at j s (omega arith)))))
          (λ e. (let p = passed (end_len j.text) i j s le (end_fits j.text) in goes p.0 p.1 tt))

      finished_tells : (found : _) (i : Input) → At bytes number i → from ≤ i.at → Fits bytes number i (finished tag from found i)
      unfolding finished
      finished_tells found i at low = tells_choice Any (lacks_slot tag found.attrs) _ _ i (λ e. stops (syntax bytes number from i at low)) (λ e. goes_on (stay i at) tt)

      pub opening_tells : (i : Input) → At bytes number i → from ≤ i.at → Room bytes d i.at → Fits bytes number i (opening_tag real d tag owned from i)
      unfolding opening_tag attributes
      opening_tells i at low room =
          tells_then Any Any (attributes_from real d tag owned from (left i) nothing i) _ (attributes_from_tells (left i) nothing i at low room)
          (λ found o s le q. tells_from Any (finished tag from found o) le (finished_tells found o s (omega (arith, low, le))))
