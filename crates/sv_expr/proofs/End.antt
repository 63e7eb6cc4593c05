-- What is in the grammar is read, or refused for a cause.
use Rattle.std.proofs.Common.{◌≡◌, ◌≤◌, ◌<◌, ◌⊎◌, inl, inr, ℕ, zero, suc, false, List, [], ◌∷◌, ◌++◌, length, refl, ap, ◌∙◌, arith}
use Rattle.std.specs.Prelude.{nat_le, Ok}
use Rattle.sv_ast.specs.declared.refusals.Kind.TheVariants.{TooDeep, NumberTooWide}
use Rattle.sv_ast.specs.declared.refusals.Refused.{Refused}
use Rattle.sv_ast.specs.declared.script_tree.Body.{Body}
use Rattle.sv_ast.specs.declared.script_tree.Entry.{Entry}
use Rattle.sv_ast.specs.declared.script_tree.Expr.{Expr}
use Rattle.sv_ast.specs.declared.script_tree.Field.{Field}
use Rattle.sv_ast.specs.declared.script_tree.Link.{Link}
use Rattle.sv_ast.specs.declared.script_tree.Stmt.{Stmt}
use Rattle.sv_lex.specs.declared.lexeme.Lexeme.TheVariants as k
use Rattle.sv_lex.specs.Reader.{Input, Parser, refusal, next, left}
use Rattle.sv_lex.proofs.Ends.{Ends, ends_at, ends_well}
use Rattle.sv_expr.specs.declared.form.Form.{Form}
use Rattle.sv_expr.specs.declared.form.Form.TheVariants.{Operand, Whole, Bracketed}
use Rattle.sv_expr.specs.declared.quotients.Left.{Left}
use Rattle.sv_expr.specs.Grammar as g
use Rattle.sv_expr.specs.Laws.{IsNested, Shrinks, Complete, Blamed}
use Rattle.sv_expr.specs.Limits.{Limits}
use Rattle.sv_expr.specs.Lists.{listed_from}
use Rattle.sv_expr.specs.Nodes.{link}
use Rattle.sv_expr.specs.Operators.{begins_suffix}
use Rattle.sv_expr.specs.Quotients.{rounds, argument}
use Rattle.sv_expr.specs.Rules.{Readers, links, entry, field, parts_from, primary, suffixes, prefix, binary, logical, condition, body, whole, level}
use Rattle.sv_expr.proofs.Arrows.{arrow_seen, arrow_unseen, assigned, assigned_no_arrow, unassigned}
use Rattle.sv_expr.proofs.Shrinks.{apart, inside_begins, item_begins, field_begins, inside_shrinks, item_shrinks, field_shrinks}
use Rattle.sv_expr.proofs.Words.{numeral_ends}
use Rattle.sv_expr.proofs.EndLists.{le_true, joined, end_ends, last_ends, more_ends, listed_ends, params_end}
use Rattle.sv_expr.proofs.EndLeaves.{target_ends, number_ends, quoted_ends, constant_ends, bracket_ends, list_ends, object_ends, item_ends, item_spread_ends, field_name_ends, field_word_ends, field_string_ends, field_spread_ends, run_ends, hole_ends, template_ends}
use Rattle.sv_expr.proofs.EndSuffixes.{Enough, no_suffix_ends, suffix_ends, member_ends, index_ends, call_ends, negation_ends, minus_ends, bumped_ends, bumping_ends, read_ends, targeted_ends, primary_suffixes_end, suffixed_ends}
use Rattle.sv_expr.proofs.EndOperators.{no_link_ends, one_link_ends, no_nullish, operand_ends, grouped_ends, nullish_ends, either_ends, test_ends, choice_ends, body_block_ends, body_value_ends, arrow_ends, assignment_ends, condition_ends, level_operand_ends, level_whole_ends, level_bracketed_ends}

-- what may stand in the way where the reader has room for one number of constructs and the tree has another, with what holds of the refusal
pub record Cause (limits wide : Limits) (readers : ℕ → Readers) (block : ℕ → Parser (List Stmt)) (P : Refused → Type 0) (R : ℕ → ℕ → Type 0) (top : ℕ) : Type 0 where
  pub full : (m : ℕ) → R zero (suc m) → (i : Input) → P (refusal TooDeep i)
  pub less : (d m : ℕ) → R (suc d) (suc m) → R d m
  pub links : limits.links < wide.links → (i : Input) → P (refusal TooDeep i)
  pub numbers : limits.number < wide.number → (i : Input) → P (refusal NumberTooWide i)
  pub blocks : (d m : ℕ) → R (suc d) (suc m) → (i o : Input) (found : List Stmt) → block m i ≡ Ok (found, o) → Ends P ((readers d).block i) (found, o)
  pub within : (d m : ℕ) → R d m → m ≤ top
  pub shrinks : (n : ℕ) → n < top → Shrinks (block n)

module _ (limits wide : Limits) (readers : ℕ → Readers) (block : ℕ → Parser (List Stmt)) (P : Refused → Type 0) (R : ℕ → ℕ → Type 0) (top : ℕ)
    (nested : IsNested limits readers) (cause : Cause limits wide readers block P R top) where
  no_inside : (m : ℕ) (form : Form) (i : Input) (z : Expr × Input) → R zero (suc m) → Ends P ((readers zero).inside form i) z
  no_inside m form i z r = inr (refusal TooDeep i, nested.none form i, cause.full m r i)

  deeper : (d : ℕ) (form : Form) (i : Input) (z : Expr × Input) → Ends P (level limits d (readers d) form i) z → Ends P ((readers (suc d)).inside form i) z
  deeper d form i z h = ends_at P (nested.some d form i) h

  no_room : (d m : ℕ) (i : Input) → R (suc d) (suc m) → 1 ≤ m → nat_le 1 d ≡ false → P (refusal TooDeep i)
  no_room zero zero i r le e = absurd (omega (arith, le))
  no_room zero (suc m) i r le e = cause.full m (cause.less zero (suc m) r) i
  no_room (suc d) m i r le e = let some = le_true 1 (suc d) (omega arith) in absurd (cc)

  few : (n : ℕ) → n ≤ wide.links → Enough P limits.links n
  few n le more i = cause.links (omega (arith, le, more)) i

  mutual
    pub inside_ends : {m : ℕ} {f : Form} {i o : Input} {t : Expr} → g.Inside wide block m f i t o → (d : ℕ) → R d m → Ends P ((readers d).inside f i) (t, o)
    inside_ends (g.inside_operand {d = m} {i = i} h q) zero r = no_inside m Operand i _ r
    inside_ends (g.inside_operand {d = m} {i = i} h q) (suc d) r = deeper d Operand i _ (level_operand_ends P limits d (readers d) i _ _ (prefix_ends h d r) q)
    inside_ends (g.inside_whole {d = m} {i = i} h q) zero r = no_inside m Whole i _ r
    inside_ends (g.inside_whole {d = m} {i = i} h q) (suc d) r = deeper d Whole i _ (level_whole_ends P limits d (readers d) i _ _ (full_ends h d r) q)
    inside_ends (g.inside_bracketed {d = m} {i = i} h) zero r = no_inside m Bracketed i _ r
    inside_ends (g.inside_bracketed {d = m} {i = i} h) (suc d) r = deeper d Bracketed i _ (level_bracketed_ends P limits d (readers d) i _ (full_ends h d r))

    full_ends : {m : ℕ} {i o : Input} {t : Expr} → g.Full wide block m i t o → (d : ℕ) → R (suc d) (suc m) → Ends P (whole limits d (readers d) i) (t, o)
    full_ends (g.is_arrow p a b) d r = arrow_ends P limits d (readers d) _ _ _ _ _ (arrow_seen p a) (params_end P p) a (body_ends b d r)
    full_ends (g.is_assignment t h x) d r = assignment_ends P limits d (readers d) _ _ _ _ _ _ (assigned_no_arrow t h) (assigned t h) (target_ends P t) (inside_ends x d (cause.less d _ r))
    full_ends (g.is_condition {i = i} a b c) d r = condition_ends P limits d (readers d) i _ (arrow_unseen i a) (unassigned i b) (cond_ends c d r)

    body_ends : {m : ℕ} {i o : Input} {t : Body} → g.ArrowBody wide block m i t o → (d : ℕ) → R (suc d) (suc m) → Ends P (body limits d (readers d) i) (t, o)
    body_ends (g.body_block {d = m} {i = i} {o = o} h e) d r = body_block_ends P limits d (readers d) i o _ h (cause.blocks d m r i o _ e)
    body_ends (g.body_value h x) d r = body_value_ends P limits d (readers d) _ _ _ h (inside_ends x d (cause.less d _ r))

    cond_ends : {m : ℕ} {i o : Input} {t : Expr} → g.Cond wide block m i t o → (d : ℕ) → R (suc d) (suc m) → Ends P (condition limits d (readers d) i) (t, o)
    cond_ends (g.only_test l h) d r = test_ends P limits d (readers d) _ _ _ (logical_ends l d r) h
    cond_ends (g.choice l h q x c y) d r = choice_ends P limits d (readers d) _ _ _ _ _ _ _ (logical_ends l d r) h q (inside_ends x d (cause.less d _ r)) c (inside_ends y d (cause.less d _ r))

    logical_ends : {m : ℕ} {i o : Input} {t : Expr} → g.Logical wide block m i t o → (d : ℕ) → R (suc d) (suc m) → Ends P (logical limits d (readers d) i) (t, o)
    logical_ends (g.nullish b s ls le five six) d r =
        nullish_ends P limits d (readers d) _ _ _ _ _ (binary_ends b d r) s (links_end ls d r limits.links (few _ le) []) five six
    logical_ends (g.either (g.grouped b ls le) ms le' seven) d r =
        either_ends P limits d (readers d) _ _ _ _ _ _ _ _ (binary_ends b d r) (no_nullish wide block ls ms seven) (links_end ls d r limits.links (few _ le) []) refl
        (links_end ms d r limits.links (few _ le') []) seven

    binary_ends : {m n : ℕ} {i o : Input} {t : Expr} → g.Binary wide block m n i t o → (d : ℕ) → R (suc d) (suc m) → Ends P (binary limits d (readers d) n i) (t, o)
    binary_ends (g.operand h) d r = operand_ends P limits d (readers d) _ _ (prefix_ends h d r)
    binary_ends (g.grouped b ls le) d r = grouped_ends P limits d (readers d) _ _ _ _ _ _ (binary_ends b d r) (links_end ls d r limits.links (few _ le) [])

    links_end : {m n group : ℕ} {side : Left} {i o : Input} {ls : List Link} → g.Links wide block m n group side i ls o → (d : ℕ) → R (suc d) (suc m) → (most : ℕ) → Enough P most (length ls)
        → (found : List Link) → Ends P (links (binary limits d (readers d) n) group most side found i) (found ++ ls, o)
    links_end (g.no_link h) d r most enough found = no_link_ends P _ _ most _ found _ h
    links_end (g.one_link {op = op} {right = right} {rest = rest} h b fit ls) d r most enough found =
        joined P found (link op right) rest (one_link_ends P _ _ most (length rest) _ found _ _ op right _ enough h (binary_ends b d r) fit
        (λ most enough. links_end ls d r most enough (found ++ link op right ∷ [])))

    prefix_ends : {m : ℕ} {i o : Input} {t : Expr} → g.Prefix wide block m i t o → (d : ℕ) → R (suc d) (suc m) → Ends P (prefix limits d (readers d) i) (t, o)
    prefix_ends (g.negation h x) d r = negation_ends P limits d (readers d) _ _ _ h (inside_ends x d (cause.less d _ r))
    prefix_ends (g.minus h x) d r = minus_ends P limits d (readers d) _ _ _ h (inside_ends x d (cause.less d _ r))
    prefix_ends (g.bumped {d = m} {i = i} h le t) d r = bumped_ends P limits d (readers d) _ _ _ _ h (no_room d m (next i) r le) (target_ends P t)
    prefix_ends (g.bumping t b) d r = targeted_ends P limits d (readers d) _ t (bumping_ends P limits d (readers d) _ _ _ _ (target_ends P t) b)
    prefix_ends (g.read t b s le) d r =
        targeted_ends P limits d (readers d) _ t (read_ends P limits d (readers d) _ _ _ _ (target_ends P t) b (suffixes_end s d r limits.links (few _ le)))
    prefix_ends (g.suffixed p s le) d r =
        suffixed_ends P limits d (readers d) wide block _ p (primary_suffixes_end P limits d (readers d) _ _ _ _ (primary_ends p d r) (suffixes_end s d r limits.links (few _ le)))

    suffixes_end : {m n from : ℕ} {i o : Input} {of t : Expr} → g.Suffixes wide block m n from of i t o → (d : ℕ) → R (suc d) (suc m) → (most : ℕ) → Enough P most n
        → Ends P (suffixes limits d (readers d) from most of i) (t, o)
    suffixes_end (g.no_suffix h) d r most enough = no_suffix_ends P limits d (readers d) most _ _ _ h
    suffixes_end (g.member {n = n} {i = i} q h w s) d r most enough =
        suffix_ends P limits d (readers d) most n _ _ _ i _ _ enough (ap begins_suffix h) (member_ends P limits d (readers d) _ _ i _ _ q h w)
        (λ most enough. suffixes_end s d r most enough)
    suffixes_end (g.index {n = n} {i = i} q h x c s) d r most enough =
        suffix_ends P limits d (readers d) most n _ _ _ i _ _ enough (ap begins_suffix h) (index_ends P limits d (readers d) _ _ _ i _ q h (inside_ends x d (cause.less d _ r)) c)
        (λ most enough. suffixes_end s d r most enough)
    suffixes_end (g.call {d = m} {n = n} {i = i} {j = j} {of = of} q h le a single s) d r most enough =
        suffix_ends P limits d (readers d) most n _ _ _ i _ _ enough (ap begins_suffix h)
        (call_ends P limits d (readers d) _ of i j _ q h (no_room d m i r le)
        (listed_ends P ((readers d).inside (argument (rounds of i))) k.RParen (next i) j _ (args_end a d r (left (next i)) [] (omega arith))) single)
        (λ most enough. suffixes_end s d r most enough)

    args_end : {m : ℕ} {f : Form} {i o : Input} {xs : List Expr} → g.Args wide block m f i xs o → (d : ℕ) → R (suc d) (suc m) → (n : ℕ) (found : List Expr) → left i ≤ n
        → Ends P (listed_from ((readers d).inside f) k.RParen n found i) (found ++ xs, o)
    args_end (g.args_end {f = f} {i = i} h) d r n found le = end_ends P ((readers d).inside f) k.RParen n found i le (λ e. cc) h
    args_end (g.args_last {f = f} {i = i} {j = j} x c) d r n found le =
        let begins = inside_begins wide block x in
        last_ends P ((readers d).inside f) k.RParen n found i j _ le (apart i k.End begins refl) (apart i k.RParen begins refl) (λ e. cc) (inside_ends x d (cause.less d _ r)) c
    args_end (g.args_more {f = f} {i = i} {j = j} {o = o} x c rest) d r n found le =
        let begins = inside_begins wide block x in
        more_ends P ((readers d).inside f) k.RParen n found i j o _ _ le (apart i k.End begins refl) (apart i k.RParen begins refl) (inside_ends x d (cause.less d _ r)) c
        (inside_shrinks wide block top cause.shrinks x (cause.within d _ (cause.less d _ r))) (λ n le. args_end rest d r n _ le)

    entries_end : {m : ℕ} {i o : Input} {xs : List Entry} → g.Entries wide block m i xs o → (d : ℕ) → R (suc d) (suc m) → (n : ℕ) (found : List Entry) → left i ≤ n
        → Ends P (listed_from (entry limits d (readers d)) k.RBracket n found i) (found ++ xs, o)
    entries_end (g.entries_end {i = i} h) d r n found le = end_ends P (entry limits d (readers d)) k.RBracket n found i le (λ e. cc) h
    entries_end (g.entries_last {i = i} {j = j} x c) d r n found le =
        let begins = item_begins wide block x in
        last_ends P (entry limits d (readers d)) k.RBracket n found i j _ le (apart i k.End begins refl) (apart i k.RBracket begins refl) (λ e. cc) (entry_ends x d r) c
    entries_end (g.entries_more {i = i} {j = j} {o = o} x c rest) d r n found le =
        let begins = item_begins wide block x in
        more_ends P (entry limits d (readers d)) k.RBracket n found i j o _ _ le (apart i k.End begins refl) (apart i k.RBracket begins refl) (entry_ends x d r) c
        (item_shrinks wide block top cause.shrinks x (cause.within (suc d) _ r)) (λ n le. entries_end rest d r n _ le)

    entry_ends : {m : ℕ} {i o : Input} {x : Entry} → g.Item wide block m i x o → (d : ℕ) → R (suc d) (suc m) → Ends P (entry limits d (readers d) i) (x, o)
    entry_ends (g.item n x) d r = item_ends P limits d (readers d) _ _ _ n (inside_ends x d (cause.less d _ r))
    entry_ends (g.item_spread h x) d r = item_spread_ends P limits d (readers d) _ _ _ h (inside_ends x d (cause.less d _ r))

    fields_end : {m : ℕ} {i o : Input} {xs : List Field} → g.Fields wide block m i xs o → (d : ℕ) → R (suc d) (suc m) → (n : ℕ) (found : List Field) → left i ≤ n
        → Ends P (listed_from (field limits d (readers d)) k.RBrace n found i) (found ++ xs, o)
    fields_end (g.fields_end {i = i} h) d r n found le = end_ends P (field limits d (readers d)) k.RBrace n found i le (λ e. cc) h
    fields_end (g.fields_last {i = i} {j = j} x c) d r n found le =
        let begins = field_begins wide block x in
        last_ends P (field limits d (readers d)) k.RBrace n found i j _ le (apart i k.End begins refl) (apart i k.RBrace begins refl) (λ e. cc) (field_ends x d r) c
    fields_end (g.fields_more {i = i} {j = j} {o = o} x c rest) d r n found le =
        let begins = field_begins wide block x in
        more_ends P (field limits d (readers d)) k.RBrace n found i j o _ _ le (apart i k.End begins refl) (apart i k.RBrace begins refl) (field_ends x d r) c
        (field_shrinks wide block top cause.shrinks x (cause.within (suc d) _ r)) (λ n le. fields_end rest d r n _ le)

    field_ends : {m : ℕ} {i o : Input} {x : Field} → g.OneField wide block m i x o → (d : ℕ) → R (suc d) (suc m) → Ends P (field limits d (readers d) i) (x, o)
    field_ends (g.field_name h c w n) d r = field_name_ends P limits d (readers d) _ _ _ _ h c w n
    field_ends (g.field_word w c x) d r = field_word_ends P limits d (readers d) _ _ _ _ w c (inside_ends x d (cause.less d _ r))
    field_ends (g.field_string h s c x) d r = field_string_ends P limits d (readers d) _ _ _ _ _ h s c (inside_ends x d (cause.less d _ r))
    field_ends (g.field_spread h x) d r = field_spread_ends P limits d (readers d) _ _ _ h (inside_ends x d (cause.less d _ r))

    parts_end : {m : ℕ} {i o : Input} {found all : List Expr} → g.Parts wide block m i found all o → (d : ℕ) → R (suc d) (suc m) → (n : ℕ) → left i ≤ n
        → Ends P (parts_from limits d (readers d) n found i) (all, o)
    parts_end (g.last_run {i = i} {o = o} h) d r n le = run_ends P limits d (readers d) n _ i o _ le h
    parts_end (g.hole {i = i} {j = j} {m = m} {o = o} h x c rest) d r n le =
        hole_ends P limits d (readers d) n _ _ i j m o _ _ le h (inside_ends x d (cause.less d _ r)) c (inside_shrinks wide block top cause.shrinks x (cause.within d _ (cause.less d _ r))) (λ n le. parts_end rest d r n le)

    primary_ends : {m : ℕ} {i o : Input} {t : Expr} → g.Primary wide block m i t o → (d : ℕ) → R (suc d) (suc m) → Ends P (primary limits d (readers d) i) (t, o)
    primary_ends (g.number {i = i} {o = o} h e) d r = number_ends P limits d (readers d) i o _ h (numeral_ends P limits.number wide.number i o _ e (λ less. cause.numbers less i))
    primary_ends (g.quoted h e) d r = quoted_ends P limits d (readers d) _ _ _ h e
    primary_ends (g.template {i = i} h p) d r = template_ends P limits d (readers d) i _ _ h (parts_end p d r (left (next i)) (omega arith))
    primary_ends (g.constant {i = i} h) d r = constant_ends P limits d (readers d) i _ h
    primary_ends (g.bracket h x c) d r = bracket_ends P limits d (readers d) _ _ _ h (inside_ends x d (cause.less d _ r)) c
    primary_ends (g.list {d = m} {i = i} {o = o} h le xs) d r = list_ends P limits d (readers d) i o _ h (no_room d m i r le)
        (listed_ends P (entry limits d (readers d)) k.RBracket (next i) o _ (entries_end xs d r (left (next i)) [] (omega arith)))
    primary_ends (g.object {d = m} {i = i} {o = o} h le xs) d r = object_ends P limits d (readers d) i o _ h (no_room d m i r le)
        (listed_ends P (field limits d (readers d)) k.RBrace (next i) o _ (fields_end xs d r (left (next i)) [] (omega arith)))

-- ---- the laws

-- within the same limits nothing stands in the way
pub complete : Complete
complete limits readers nested d shrinks form i o t h =
    let R : ℕ → ℕ → Type 0 = λ a b. (a ≡ b) × (b ≤ d) in
    let none : Cause limits limits readers (λ n. (readers n).block) (λ e. ⊥) R d = record {
      full = λ m r i. let e = r.0 in cc;
      less = λ a b r. let e = r.0 in (cc, omega (arith, r.1));
      links = λ less i. omega (arith, less);
      numbers = λ less i. omega (arith, less);
      blocks = λ a b r i o found h. let e : a ≡ b = (let s = r.0 in cc) in inl (ap (λ n. (readers n).block i) e ∙ h);
      within = λ a b r. r.1;
      shrinks = shrinks;
    } in
    ends_well (inside_ends limits limits readers (λ n. (readers n).block) (λ e. ⊥) R d nested none h d (refl, omega arith))

abbrev pub Limited : Refused → Type 0
Limited e = (e.kind ≡ TooDeep) ⊎ (e.kind ≡ NumberTooWide)

pub too_deep : (i : Input) → Limited (refusal TooDeep i)
unfolding refusal
too_deep i = inl refl

pub too_wide : (i : Input) → Limited (refusal NumberTooWide i)
unfolding refusal
too_wide i = inr refl

-- within any limits a limit does
pub blamed : Blamed
blamed limits wide readers block nested d m shrinks blocks form i o t h =
    let R : ℕ → ℕ → Type 0 = λ a b. (a ≤ d) × (b ≤ m) in
    let limited : Cause limits wide readers block Limited R m = record {
      full = λ b r i. too_deep i;
      less = λ a b r. (omega (arith, r.0), omega (arith, r.1));
      links = λ less i. too_deep i;
      numbers = λ less i. too_wide i;
      blocks = λ a b r i o found h. blocks a b (omega (arith, r.0)) (omega (arith, r.1)) i o found h;
      within = λ a b r. r.1;
      shrinks = shrinks;
    } in
    inside_ends limits wide readers block Limited R m nested limited h d (omega arith, omega arith)
