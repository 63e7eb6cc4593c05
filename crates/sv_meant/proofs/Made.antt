-- What was made in a file, behind the pieces of the files before: the functions of some more pieces, of which the parts are made.
use Rattle.std.proofs.Common.{◌≡◌, List, [], ◌∷◌, ◌++◌, append-nil, append_assoc, refl, sym, ap, subst, ◌∙◌}
use Rattle.sv_ast.specs.declared.names.Ref.{Ref}
use Rattle.sv_ast.specs.declared.script_tree.Expr.{Expr}
use Rattle.sv_code.proofs.Each.{each_append, each_mono}
use Rattle.sv_code.specs.Names.{Each}
use Rattle.sv_code.specs.Parts.{of_tag, of_handler}
use Rattle.sv_code.specs.declared.functions.Function.{Function}
use Rattle.sv_code.specs.declared.parts.Part.{Part as AnyPart}
use Rattle.sv_code.specs.declared.tags.Handler.{Handler}
use Rattle.sv_code.specs.declared.tags.Tag.{Tag}
use Rattle.sv_fragments.specs.declared.around.Tables.{Tables}
use Rattle.sv_lower.specs.Tops.{Tops}
use Rattle.sv_source.specs.Laws.{part_code}
use Rattle.sv_source.specs.Programs.{Piece, Script, Part, IsProper, code_behind, codes_behind, codes, code_writable}
use Rattle.sv_meant.specs.Meant.{arrows_behind, OneByOne}
use Rattle.sv_meant.specs.Spots.{Spot, Spread}
use Rattle.sv_meant.proofs.Spreading.{spread_grows}

pub codes_both : (ps qs : List Piece) (fs : List Function) → codes_behind (ps ++ qs) fs ≡ codes_behind qs (codes_behind ps fs)
codes_both [] qs fs = refl
codes_both (p ∷ ps) qs fs = codes_both ps qs (code_behind p fs)

-- one more piece
one_behind : (before own : List Piece) (p : Piece) → code_behind p (codes (before ++ own)) ≡ codes (before ++ (own ++ p ∷ []))
one_behind before own p = sym (codes_both (before ++ own) (p ∷ []) (code_writable ∷ [])) ∙ ap codes (append_assoc before own (p ∷ []))

-- a part is made of an expression behind some pieces
pub record IsMade (before : List Piece) (top : Tops) (locals : List Ref) (expression : Expr) (part : AnyPart) : Type 0 where
  pub span : part.span ≡ expression.span
  pub code_is : part.code ≡ part_code before top locals expression
  pub arrows : part.arrows ≡ arrows_behind top locals expression (codes before)

-- some behind others, each in its turn
pub one_by_one : (Q : List Piece → Tops → List Ref → Expr → AnyPart → Type 0) (before ws vs : List Piece) (ps qs : List AnyPart) → OneByOne Q before ws ps → OneByOne Q (before ++ ws) vs qs → OneByOne Q before (ws ++ vs) (ps ++ qs)
one_by_one Q before [] vs [] qs h k = subst (λ z. OneByOne Q z vs qs) (append-nil before) k
one_by_one Q before (Part top locals e ∷ ws) vs (p ∷ ps) qs h k =
    (h.0, one_by_one Q (before ++ Part top locals e ∷ []) ws vs ps qs h.1 (subst (λ z. OneByOne Q z vs qs) (sym (append_assoc before (Part top locals e ∷ []) ws)) k))
one_by_one Q before [] vs (p ∷ ps) qs h k = absurd h
one_by_one Q before (Part top locals e ∷ ws) vs [] qs h k = absurd h
one_by_one Q before (Script top stmts ∷ ws) vs [] qs h k = absurd h
one_by_one Q before (Script top stmts ∷ ws) vs (p ∷ ps) qs h k = absurd h

-- what there is of something: its parts, and these by their spots
pub record Contents (A : Type 0) : Type 0 where
  pub parts : A → List AnyPart
  pub spots : A → List Spot

module _ (before : List Piece) (top : Tops) where
  -- a part is made of one of the expressions of a file
  pub record Placed (own : List Piece) (part : AnyPart) : Type 0 where
    pub front : List Piece
    pub back : List Piece
    pub locals : List Ref
    pub expression : Expr
    pub place : own ≡ front ++ Part top locals expression ∷ back
    pub is : IsMade (before ++ front) top locals expression part

  stays : (ps qs more : List Piece) → qs ≡ ps ++ more → (part : AnyPart) → Placed ps part → Placed qs part
  stays ps qs more is part h = record {
    front = h.front;
    back = h.back ++ more;
    locals = h.locals;
    expression = h.expression;
    place = is ∙ ap (λ z. z ++ more) h.place ∙ append_assoc h.front (Part top h.locals h.expression ∷ h.back) more;
    is = h.is;
  }

  pub all_stay : (ps qs more : List Piece) → qs ≡ ps ++ more → (parts : List AnyPart) → Each (Placed ps) parts → Each (Placed qs) parts
  all_stay ps qs more is parts h = each_mono (Placed ps) (Placed qs) (stays ps qs more is) parts h

  each_stay : {A : Type 0} (of : A → List AnyPart) (ps qs more : List Piece) → qs ≡ ps ++ more → (xs : List A) → Each (λ x. Each (Placed ps) (of x)) xs → Each (λ x. Each (Placed qs) (of x)) xs
  each_stay of ps qs more is xs h = each_mono (λ x. Each (Placed ps) (of x)) (λ x. Each (Placed qs) (of x)) (λ x k. all_stay ps qs more is (of x) k) xs h

  -- the functions in some tables are those of the pieces
  pub record Sound (own : List Piece) (t : Tables) : Type 0 where
    pub proper : Each IsProper own
    pub functions : t.functions ≡ codes (before ++ own)

  -- one more piece, which is lowered
  pub one_more : (own : List Piece) (p : Piece) (t : Tables) → IsProper p → Sound own t → Sound (own ++ p ∷ []) (record t { functions = code_behind p t.functions })
  one_more own p t proper h = record {
    proper = each_append IsProper own (p ∷ []) h.proper (proper, tt);
    functions = ap (code_behind p) h.functions ∙ one_behind before own p;
  }

  -- the tags and handlers that came to some tables, of whose parts each is made of one of the pieces
  pub record Grown (own : List Piece) (t after : Tables) : Type 0 where
    pub new_tags : List Tag
    pub tags_are : after.tags ≡ t.tags ++ new_tags
    pub tags : Each (λ tag. Each (Placed own) (of_tag tag)) new_tags
    pub new_handlers : List Handler
    pub handlers_are : after.handlers ≡ t.handlers ++ new_handlers
    pub handlers : Each (λ h. Each (Placed own) (of_handler h)) new_handlers

  -- none came; or those that came to tables with the same; or some, and others behind them, with more pieces; or one tag, or one handler
  pub grown_none : (own : List Piece) (t after : Tables) → after.tags ≡ t.tags → after.handlers ≡ t.handlers → Grown own t after
  grown_none own t after tags handlers = record { new_tags = []; tags_are = tags ∙ sym (append-nil t.tags); tags = tt; new_handlers = []; handlers_are = handlers ∙ sym (append-nil t.handlers); handlers = tt }

  pub grown_on : (own : List Piece) (t s after : Tables) → s.tags ≡ t.tags → s.handlers ≡ t.handlers → Grown own s after → Grown own t after
  grown_on own t s after tags handlers g = record {
    new_tags = g.new_tags;
    tags_are = g.tags_are ∙ ap (λ z. z ++ g.new_tags) tags;
    tags = g.tags;
    new_handlers = g.new_handlers;
    handlers_are = g.handlers_are ∙ ap (λ z. z ++ g.new_handlers) handlers;
    handlers = g.handlers;
  }

  pub grown_both : (own later more : List Piece) → later ≡ own ++ more → (t s after : Tables) → Grown own t s → Grown later s after → Grown later t after
  grown_both own later more is t s after g h = record {
    new_tags = g.new_tags ++ h.new_tags;
    tags_are = h.tags_are ∙ ap (λ z. z ++ h.new_tags) g.tags_are ∙ append_assoc t.tags g.new_tags h.new_tags;
    tags = each_append (λ x. Each (Placed later) (of_tag x)) g.new_tags h.new_tags (each_stay of_tag own later more is g.new_tags g.tags) h.tags;
    new_handlers = g.new_handlers ++ h.new_handlers;
    handlers_are = h.handlers_are ∙ ap (λ z. z ++ h.new_handlers) g.handlers_are ∙ append_assoc t.handlers g.new_handlers h.new_handlers;
    handlers = each_append (λ x. Each (Placed later) (of_handler x)) g.new_handlers h.new_handlers (each_stay of_handler own later more is g.new_handlers g.handlers) h.handlers;
  }

  pub grown_tag : (own : List Piece) (t : Tables) (made : Tag) → Each (Placed own) (of_tag made) → Grown own t (record t { tags = t.tags ++ made ∷ [] })
  grown_tag own t made h = record { new_tags = made ∷ []; tags_are = refl; tags = (h, tt); new_handlers = []; handlers_are = sym (append-nil t.handlers); handlers = tt }

  pub grown_handler : (own : List Piece) (t : Tables) (made : Handler) → Each (Placed own) (of_handler made) → Grown own t (record t { handlers = t.handlers ++ made ∷ [] })
  grown_handler own t made h = record { new_tags = []; tags_are = sym (append-nil t.tags); tags = tt; new_handlers = made ∷ []; handlers_are = refl; handlers = (h, tt) }

  -- what was spread in some tables is so in those
  pub spread_on : (own : List Piece) (t after : Tables) → Grown own t after → (spots : List Spot) (parts : List AnyPart) → Spread t.tags t.handlers spots parts → Spread after.tags after.handlers spots parts
  spread_on own t after g spots parts h =
      subst (λ z. Spread z after.handlers spots parts) (sym g.tags_are)
      (subst (λ z. Spread (t.tags ++ g.new_tags) z spots parts) (sym g.handlers_are) (spread_grows t.tags g.new_tags t.handlers g.new_handlers spots parts h))

  -- what was made behind some pieces, with some more
  pub record Made {A : Type 0} (of : Contents A) (own more : List Piece) (t : Tables) (made : A × Tables) : Type 0 where
    pub later : List Piece
    pub is : later ≡ own ++ more
    pub sound : Sound later made.1
    pub grown : Grown later t made.1
    pub parts : Each (Placed later) (of.parts made.0)
    pub in_order : List AnyPart
    pub spread : Spread made.1.tags made.1.handlers (of.spots made.0) in_order
    pub one_by_one : OneByOne IsMade (before ++ own) more in_order
