-- The grammar of attributes and tags, by cases: one constructor for each of its lines. `Rule .. d i .. o` says that the text from `i` to `o` is the tree by the rule, with at most `d` constructs one inside another, within limits of links and numbers.
use Rattle.std.specs.Prelude.{◌≡◌, ◌≢◌, ◌≤◌, ◌+◌, ◌-◌, ℕ, Bool, true, false, List, [], ◌∷◌, length, drop, Some, None, Ok, codes}
use Rattle.sv_ast.specs.declared.markup_tree.AttrKind.TheVariants as kind
use Rattle.sv_ast.specs.declared.markup_tree.AttrPart.{AttrPart}
use Rattle.sv_ast.specs.declared.markup_tree.AttrPart.TheVariants.{Text}
use Rattle.sv_ast.specs.declared.markup_tree.AttrValue.{AttrValue}
use Rattle.sv_ast.specs.declared.markup_tree.AttrValue.TheVariants.{Bare, Parts}
use Rattle.sv_ast.specs.declared.markup_tree.Modifiers.{Modifiers}
use Rattle.sv_ast.specs.declared.markup_tree.TagAttr.{TagAttr}
use Rattle.sv_ast.specs.declared.names.Named.{Named}
use Rattle.sv_ast.specs.declared.names.Ref.{Ref}
use Rattle.sv_ast.specs.declared.names.Ref.TheVariants.{Plain}
use Rattle.sv_ast.specs.declared.script_tree.Expr.{Expr}
use Rattle.sv_ast.specs.declared.script_tree.ExprKind.TheVariants as e
use Rattle.sv_ast.specs.declared.script_tree.Stmt.{Stmt}
use Rattle.sv_lex.specs.declared.lexeme.Lexeme.TheVariants as k
use Rattle.sv_lex.specs.Literals.{moved}
use Rattle.sv_lex.specs.Reader.{Input, sees, next, spelling, span_from, name, knowing}
use Rattle.sv_expr.specs.Grammar.{Target}
use Rattle.sv_expr.specs.Limits.{Limits}
use Rattle.sv_expr.specs.Nodes.{node, form}
use Rattle.sv_tags.specs.declared.directives.Tag.{Tag}
use Rattle.sv_tags.specs.declared.holes.Filling.{Filling}
use Rattle.sv_tags.specs.declared.holes.Filling.TheVariants as filling
use Rattle.sv_tags.specs.declared.holes.Hole.{Hole}
use Rattle.sv_tags.specs.declared.openings.Found.{Found}
use Rattle.sv_tags.specs.declared.openings.Opening.{Opening}
use Rattle.sv_tags.specs.declared.texts.Quote.{Quote}
use Rattle.sv_tags.specs.declared.texts.Setting.TheVariants.{Quoted, Unquoted}
use Rattle.sv_tags.specs.Attributes.{no_modifiers, with_modifier, ascii_name, short, attr, or_else}
use Rattle.sv_tags.specs.Classes.{first, begins, before}
use Rattle.sv_tags.specs.Directives.{name_at, given_name, kind_of, misplaced, misvalued, is_element}
use Rattle.sv_tags.specs.Holes.{hole}
use Rattle.sv_tags.specs.Openings.{nothing, added, names_slot, with_slot, with_end, end_len, has_blanks, past_blanks, lacks_slot, opening}
use Rattle.sv_tags.specs.Raw.{has_attribute, cut, behind}
use Rattle.sv_script.specs.Closed.{ExpressionAt, ScriptAt}
use Rattle.sv_tags.specs.Texts.{closing, text}
use Rattle.sv_tags.specs.Values.{shown, quote_of, literal}

-- ---- modifiers

-- { '|' Modifier }, with those that came before
pub data ModifiersAt : Input → Modifiers → Modifiers → Input → Type 0 where
  no_modifier : {i : Input} {m : Modifiers} → first i.text ≢ 124 → ModifiersAt i m m i
  modifier : {i o : Input} {m n all : Modifiers} → first i.text ≡ 124 → with_modifier (name_at (drop 1 i.text)) m ≡ Some n
      → ModifiersAt (moved (1 + length (name_at (drop 1 i.text))) i) n all o → ModifiersAt i m all o

-- the modifiers of a listener, which those of elements alone have
pub data ListenerAt : Tag → Input → Modifiers → Input → Type 0 where
  of_element : {tag : Tag} {i o : Input} {m : Modifiers} → is_element tag ≡ true → ModifiersAt i no_modifiers m o → ListenerAt tag i m o
  of_component : {tag : Tag} {i : Input} → is_element tag ≡ false → ListenerAt tag i no_modifiers i

-- what stands behind the name of an attribute, which gets a number
abbrev pub behind_name : Input → Input
behind_name i = moved (length (name_at i.text)) (knowing (given_name i.text) i)

module _ (limits : Limits) where
  -- ---- braces

  -- Expr | Target | Name
  pub data FilledAt : Filling → ℕ → Input → Expr → Input → Type 0 where
    holds_value : {d : ℕ} {i o : Input} {x : Expr} → ExpressionAt limits d i x o → FilledAt filling.Value d i x o
    holds_target : {d : ℕ} {i o : Input} {ref : Ref} → Target i ref o → FilledAt filling.Target d i (form i o (e.Read ref)) o
    holds_name : {d : ℕ} {i o : Input} {found : Named} → name i ≡ Ok (found, o) → FilledAt filling.Name d i (node found.span (e.Read (Plain found.name))) o

  -- '{' .. '}', which is a construct
  pub data BracesAt : Filling → ℕ → Input → Hole → Input → Type 0 where
    in_braces : {f : Filling} {d : ℕ} {i j : Input} {x : Expr} → first i.text ≡ 123 → 1 ≤ d → FilledAt f (d - 1) (moved 1 i) x j → sees j ≡ k.RBrace
        → BracesAt f d i (hole i.at x (next j)) (next j)

  -- ---- values

  -- { Text | '{' Expr '}' } and the closing quote
  pub data PartsAt : Quote → ℕ → Input → List AttrPart → Input → Type 0 where
    no_part : {quote : Quote} {d : ℕ} {i : Input} → first i.text ≡ closing quote → PartsAt quote d i [] (moved 1 i)
    words : {quote : Quote} {d : ℕ} {i j o : Input} {t : List ℕ} {parts : List AttrPart} → text (Quoted quote) i ≡ Ok (t, j) → PartsAt quote d j parts o
        → PartsAt quote d i (Text t ∷ parts) o
    show : {quote : Quote} {d : ℕ} {i j o : Input} {h : Hole} {parts : List AttrPart} → BracesAt filling.Value d i h j → PartsAt quote d j parts o
        → PartsAt quote d i (shown h ∷ parts) o

  -- [ '=' ( '{' Expr '}' | quote Parts | Text ) ]
  pub data ValueAt : ℕ → Input → AttrValue → Input → Type 0 where
    no_value : {d : ℕ} {i : Input} → first i.text ≢ 61 → ValueAt d i Bare i
    braced : {d : ℕ} {i o : Input} {h : Hole} → first i.text ≡ 61 → BracesAt filling.Value d (moved 1 i) h o → ValueAt d i (Parts (shown h ∷ [])) o
    in_quotes : {d : ℕ} {i o : Input} {quote : Quote} {parts : List AttrPart} → first i.text ≡ 61 → quote_of (first (moved 1 i).text) ≡ Some quote
        → PartsAt quote d (moved 1 (moved 1 i)) parts o → ValueAt d i (Parts parts) o
    unquoted : {d : ℕ} {i o : Input} {t : List ℕ} → first i.text ≡ 61 → text Unquoted (moved 1 i) ≡ Ok (t, o) → ValueAt d i (Parts (Text t ∷ [])) o

  -- [ '=' '{' .. '}' ]
  pub data GivenAt : Filling → ℕ → Input → AttrValue → Input → Type 0 where
    not_given : {f : Filling} {d : ℕ} {i : Input} → first i.text ≢ 61 → GivenAt f d i Bare i
    given : {f : Filling} {d : ℕ} {i o : Input} {h : Hole} → first i.text ≡ 61 → BracesAt f d (moved 1 i) h o → GivenAt f d i (Parts (shown h ∷ [])) o

  -- ---- attributes

  -- an attribute that may stand on the tag with its value. `misplaced` and `misvalued` say what may not.
  pub data AttributeAt : Tag → Bool → ℕ → Input → TagAttr → Input → Type 0 where
    -- '{' Name '}'
    shorthand : {tag : Tag} {owned : Bool} {d : ℕ} {i j : Input} {found : Named} → first i.text ≡ 123 → begins (codes "{...") i.text ≡ false → 1 ≤ d
        → ascii_name (moved 1 i) ≡ Ok (found, j) → sees j ≡ k.RBrace
        → or_else (misplaced tag owned (spelling (moved 1 i))) (misvalued tag (spelling (moved 1 i)) (short (span_from i.at (next j)) found).value) ≡ None
        → AttributeAt tag owned d i (short (span_from i.at (next j)) found) (next j)
    -- Name Value
    plain : {tag : Tag} {owned : Bool} {d : ℕ} {i o : Input} {v : AttrValue} → first i.text ≢ 123 → kind_of i.text ≡ kind.Plain → misplaced tag owned i.text ≡ None
        → ValueAt d (behind_name i) v o → misvalued tag i.text v ≡ None → AttributeAt tag owned d i (attr i no_modifiers v o) o
    -- 'slot' Value
    slotted : {tag : Tag} {owned : Bool} {d : ℕ} {i o : Input} {v : AttrValue} → first i.text ≢ 123 → kind_of i.text ≡ kind.Slot → misplaced tag owned i.text ≡ None
        → ValueAt d (behind_name i) v o → misvalued tag i.text v ≡ None → AttributeAt tag owned d i (attr i no_modifiers v o) o
    -- 'on:' Name Modifiers [ '={' Expr '}' ]
    listener : {tag : Tag} {owned : Bool} {d : ℕ} {i j o : Input} {m : Modifiers} {v : AttrValue} → first i.text ≢ 123 → kind_of i.text ≡ kind.On
        → misplaced tag owned i.text ≡ None → ListenerAt tag (behind_name i) m j → GivenAt filling.Value d j v o → misvalued tag i.text v ≡ None
        → AttributeAt tag owned d i (attr i m v o) o
    -- 'bind:' Name [ '={' Target '}' ]
    binding : {tag : Tag} {owned : Bool} {d : ℕ} {i o : Input} {v : AttrValue} → first i.text ≢ 123 → kind_of i.text ≡ kind.Bind → misplaced tag owned i.text ≡ None
        → GivenAt filling.Target d (behind_name i) v o → misvalued tag i.text v ≡ None → AttributeAt tag owned d i (attr i no_modifiers v o) o
    -- 'class:' Name [ '={' Expr '}' ]
    class : {tag : Tag} {owned : Bool} {d : ℕ} {i o : Input} {v : AttrValue} → first i.text ≢ 123 → kind_of i.text ≡ kind.Class → misplaced tag owned i.text ≡ None
        → GivenAt filling.Value d (behind_name i) v o → misvalued tag i.text v ≡ None → AttributeAt tag owned d i (attr i no_modifiers v o) o
    -- 'let:' Name [ '={' Name '}' ]
    taking : {tag : Tag} {owned : Bool} {d : ℕ} {i o : Input} {v : AttrValue} → first i.text ≢ 123 → kind_of i.text ≡ kind.Let → misplaced tag owned i.text ≡ None
        → GivenAt filling.Name d (behind_name i) v o → misvalued tag i.text v ≡ None → AttributeAt tag owned d i (attr i no_modifiers v o) o

  -- ---- openings of tags

  -- { white space, Attribute } [ white space ] ( '>' | '/>' ), behind what came before
  pub data AttributesAt : Tag → Bool → ℕ → Input → Found → Found → Input → Type 0 where
    opening_ends : {tag : Tag} {owned : Bool} {d : ℕ} {i : Input} {found : Found} → end_len (past_blanks i).text ≢ 0
        → AttributesAt tag owned d i found (with_end (end_len (past_blanks i).text) found) (moved (end_len (past_blanks i).text) (past_blanks i))
    one_attribute : {tag : Tag} {owned : Bool} {d : ℕ} {i j o : Input} {a : TagAttr} {found longer all : Found} → end_len (past_blanks i).text ≡ 0 → has_blanks i.text ≡ true
        → names_slot tag (past_blanks i).text ≡ false → AttributeAt tag owned d (past_blanks i) a j → added a found ≡ Some longer
        → AttributesAt tag owned d j longer all o → AttributesAt tag owned d i found all o
    -- 'name' Value on a `<slot>`
    one_slot_name : {tag : Tag} {owned : Bool} {d : ℕ} {i j o : Input} {v : AttrValue} {t : List ℕ} {found all : Found} → end_len (past_blanks i).text ≡ 0
        → has_blanks i.text ≡ true → names_slot tag (past_blanks i).text ≡ true → found.slot ≡ None → ValueAt d (moved 4 (past_blanks i)) v j → literal v ≡ Some t
        → AttributesAt tag owned d j (with_slot t found) all o → AttributesAt tag owned d i found all o

  pub data OpeningAt : Tag → Bool → ℕ → Input → Opening → Input → Type 0 where
    opened : {tag : Tag} {owned : Bool} {d : ℕ} {i o : Input} {found : Found} → AttributesAt tag owned d i nothing found o → lacks_slot tag found.attrs ≡ false
        → OpeningAt tag owned d i (opening found) o

-- ---- comments, scripts and styles, of which the beginning stands there

-- '<!--' .. '-->'
pub data CommentAt : Input → Input → Type 0 where
  comment : {i : Input} {n : ℕ} → before (codes "-->") (drop 4 i.text) ≡ Some n → CommentAt i (moved (n + 7) i)

-- [ white space ] '>'
pub data TagEndAt : Input → Input → Type 0 where
  tag_end : {i : Input} → first (past_blanks i).text ≡ 62 → TagEndAt i (moved 1 (past_blanks i))

-- '<script' .. '>' Script '</script>'
pub data ScriptTagAt (limits : Limits) : Input → List Stmt → Input → Type 0 where
  script : {i j o : Input} {n : ℕ} {found : List Stmt} → has_attribute (drop 7 i.text) ≡ false → TagEndAt (moved 7 i) j → before (codes "</script>") j.text ≡ Some n
      → ScriptAt limits (cut n j) found o → ScriptTagAt limits i found (behind (n + 9) j o)

-- '<style' .. '>' .. '</style>'
pub data StyleAt : Input → Input → Type 0 where
  style : {i j : Input} {n : ℕ} → TagEndAt (moved 6 i) j → before (codes "</style>") j.text ≡ Some n → StyleAt i (moved (n + 8) j)
