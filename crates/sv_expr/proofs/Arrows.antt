-- Where parameters and `=>` come, the look ahead says so, and only there; so with the operators of assignments.
use Rattle.std.proofs.Common.{◌≡◌, ◌≢◌, ◌≤◌, ℕ, zero, suc, Bool, true, false, ◌&&◌, cond, List, [], ◌∷◌, length, refl, ap, sym, ◌∙◌, subst, arith}
use Rattle.std.specs.Prelude.{Option, Some, None}
use Rattle.sv_ast.specs.declared.names.Named.{Named}
use Rattle.sv_ast.specs.declared.names.Ref.{Ref}
use Rattle.sv_ast.specs.declared.operators.AssignOp.{AssignOp}
use Rattle.sv_lex.specs.declared.lexeme.Lexeme.{Lexeme}
use Rattle.sv_lex.specs.declared.lexeme.Lexeme.TheVariants as k
use Rattle.sv_lex.specs.Look.{first, past}
use Rattle.sv_lex.specs.Reader.{Input, sees, next, left}
use Rattle.sv_lex.proofs.Progress.{left-some, next-less}
use Rattle.sv_lex.proofs.Sees.{same, is_same, is_other}
use Rattle.sv_expr.specs.Ahead.{leads, closes, scan, begins_arrow}
use Rattle.sv_expr.specs.Grammar as g
use Rattle.sv_expr.specs.Operators.{is_target, assign_op, assigns, assigns_by}
use Rattle.sv_expr.proofs.Words.{text_next, sees_as, left_as, name_past, name_read, target_sees, target_past, target_read}

leads_yes : (kind : Lexeme) (z : List ℕ) → first z ≡ kind → leads kind z ≡ true
unfolding leads
leads_yes kind z h = is_same (first z) kind h

leads_no : (kind : Lexeme) (z : List ℕ) → first z ≢ kind → leads kind z ≡ false
unfolding leads
leads_no kind z h = is_other (first z) kind h

led : (kind : Lexeme) (z : List ℕ) → leads kind z ≡ true → first z ≡ kind
unfolding leads
led kind z h = same (first z) kind h

first_here : (i : Input) → sees i ≡ first i.text
unfolding sees
first_here i = refl

first_next : (i : Input) → sees (next i) ≡ first (past i.text)
first_next i = first_here (next i) ∙ ap first (text_next i)

-- behind one token of a text
first_behind : (i j : Input) → j.text ≡ past i.text → sees j ≡ first (past i.text)
first_behind i j e = first_here j ∙ ap first e

next_behind : (i j : Input) → j.text ≡ past i.text → sees (next j) ≡ first (past (past i.text))
next_behind i j e = first_next j ∙ ap (λ z. first (past z)) e

-- ---- where an arrow comes it is seen

closed : (z : List ℕ) → first z ≡ k.RParen → first (past z) ≡ k.Arrow → closes z ≡ true
unfolding closes
closed z h a = rw (leads_yes k.RParen z h, leads_yes k.Arrow (past z) a) refl

scan_end : (n : ℕ) (z : List ℕ) → first z ≡ k.RParen → first (past z) ≡ k.Arrow → scan (suc n) z ≡ true
unfolding scan
scan_end n z h a = rw (leads_no k.Name z (λ e. cc)) (closed z h a)

scan_last : (n : ℕ) (z : List ℕ) → first z ≡ k.Name → first (past z) ≡ k.RParen → first (past (past z)) ≡ k.Arrow → scan (suc n) z ≡ true
unfolding scan
scan_last n z h c a = rw (leads_yes k.Name z h, leads_no k.Comma (past z) (λ e. cc)) (closed (past z) c a)

scan_more : (n : ℕ) (z : List ℕ) → first z ≡ k.Name → first (past z) ≡ k.Comma → scan n (past (past z)) ≡ true → scan (suc n) z ≡ true
unfolding scan
scan_more n z h c rest = rw (leads_yes k.Name z h, leads_yes k.Comma (past z) c) rest

names_scanned : {i o : Input} {xs : List Named} → g.Names i xs o → sees o ≡ k.Arrow → (n : ℕ) → left i ≤ n → scan n i.text ≡ true
names_scanned (g.names_end {i = i} h) a zero le = let s = left-some i (λ e. cc) in absurd (omega arith)
names_scanned (g.names_end {i = i} h) a (suc n) le = scan_end n i.text (sym (first_here i) ∙ h) (sym (first_next i) ∙ a)
names_scanned (g.names_last {i = i} h e c) a zero le = let s = left-some i (λ e. cc) in absurd (omega arith)
names_scanned (g.names_last {i = i} {j = j} h e c) a (suc n) le =
    let at = name_past i j _ e in
    scan_last n i.text (sym (first_here i) ∙ h) (sym (first_behind i j at) ∙ c) (sym (next_behind i j at) ∙ a)
names_scanned (g.names_more {i = i} h e c rest) a zero le = let s = left-some i (λ e. cc) in absurd (omega arith)
names_scanned (g.names_more {i = i} {j = j} h e c rest) a (suc n) le =
    let at = name_past i j _ e in
    let one = next-less i (λ e. cc) in
    let two = next-less j (λ e. cc) in
    let same = left_as j (next i) (at ∙ sym (text_next i)) in
    let more = names_scanned rest a n (omega arith) in
    scan_more n i.text (sym (first_here i) ∙ h) (sym (first_behind i j at) ∙ c)
    (subst (λ z. scan n z ≡ true) (text_next j ∙ ap past at) more)

-- where a name alone and `=>` come, or brackets
arrow_by_name : (z : List ℕ) → first z ≡ k.Name → first (past z) ≡ k.Arrow → begins_arrow z ≡ true
unfolding begins_arrow
arrow_by_name z h a = rw (leads_no k.LParen z (λ e. cc), leads_yes k.Name z h, leads_yes k.Arrow (past z) a) refl

arrow_by_list : (z : List ℕ) → first z ≡ k.LParen → scan (length z) (past z) ≡ true → begins_arrow z ≡ true
unfolding begins_arrow
arrow_by_list z h s = rw (leads_yes k.LParen z h) s

left_is : (i : Input) → left i ≡ length i.text
unfolding left
left_is i = refl

pub arrow_seen : {i j : Input} {xs : List Named} → g.Params i xs j → sees j ≡ k.Arrow → begins_arrow i.text ≡ true
arrow_seen (g.one {i = i} {o = o} h e) a = arrow_by_name i.text (sym (first_here i) ∙ h) (sym (first_behind i o (name_past i o _ e)) ∙ a)
arrow_seen (g.several {i = i} h rest) a =
    let less = next-less i (λ e. cc) in
    let more = names_scanned rest a (left i) (omega arith) in
    let scanned : scan (length i.text) (next i).text ≡ true = subst (λ n. scan n (next i).text ≡ true) (left_is i) more in
    arrow_by_list i.text (sym (first_here i) ∙ h) (subst (λ z. scan (length i.text) z ≡ true) (text_next i) scanned)

pub no_arrow : (i : Input) → begins_arrow i.text ≡ false → g.BeginsArrow i → ⊥
no_arrow i none b = let seen = arrow_seen b.params b.arrow in cc

-- ---- and only there

one_or_other : {A : Type 0} (b : Bool) (x y : Bool) → cond b x y ≡ true → (b ≡ true → x ≡ true → A) → (b ≡ false → y ≡ true → A) → A
one_or_other true x y h f g = f refl h
one_or_other false x y h f g = g refl h

both : (a b : Bool) → (a && b) ≡ true → (a ≡ true) × (b ≡ true)
both true b h = (refl, h)
both false b h = absurd (cc)

record Found (i : Input) : Type 0 where
  xs : List Named
  behind : Input
  names : g.Names i xs behind
  arrow : sees behind ≡ k.Arrow

closing : (z : List ℕ) → closes z ≡ true → (first z ≡ k.RParen) × (first (past z) ≡ k.Arrow)
unfolding closes
closing z h = let b = both _ _ h in (led k.RParen z b.0, led k.Arrow (past z) b.1)

-- what the look ahead saw
scanned : {A : Type 0} (n : ℕ) (z : List ℕ) → scan (suc n) z ≡ true
    → (first z ≡ k.RParen → first (past z) ≡ k.Arrow → A)
    → (first z ≡ k.Name → first (past z) ≡ k.RParen → first (past (past z)) ≡ k.Arrow → A)
    → (first z ≡ k.Name → first (past z) ≡ k.Comma → scan n (past (past z)) ≡ true → A) → A
unfolding scan
scanned n z h ends last more = one_or_other (leads k.Name z) _ _ h
    (λ e rest. one_or_other (leads k.Comma (past z)) _ _ rest
    (λ c s. more (led k.Name z e) (led k.Comma (past z) c) s)
    (λ c s. let f = closing (past z) s in last (led k.Name z e) f.0 f.1))
    (λ e s. let f = closing z s in ends f.0 f.1)

scan_found : (n : ℕ) (i : Input) → scan n i.text ≡ true → Found i
unfolding scan
scan_found zero i h = absurd (cc)
scan_found (suc n) i h = scanned n i.text h
    (λ c a. record { xs = []; behind = next i; names = g.names_end (first_here i ∙ c); arrow = first_next i ∙ a })
    (λ e c a. let r = name_read i (first_here i ∙ e) in
    record { xs = r.found ∷ []; behind = next r.behind; names = g.names_last (first_here i ∙ e) r.is (first_behind i r.behind r.past ∙ c); arrow = next_behind i r.behind r.past ∙ a })
    (λ e c s. let r = name_read i (first_here i ∙ e) in
    let f = scan_found n (next r.behind) (subst (λ z. scan n z ≡ true) (sym (text_next r.behind ∙ ap past r.past)) s) in
    record { xs = r.found ∷ f.xs; behind = f.behind; names = g.names_more (first_here i ∙ e) r.is (first_behind i r.behind r.past ∙ c) f.names; arrow = f.arrow })

begun : {A : Type 0} (z : List ℕ) → begins_arrow z ≡ true → (first z ≡ k.LParen → scan (length z) (past z) ≡ true → A)
    → (first z ≡ k.Name → first (past z) ≡ k.Arrow → A) → A
unfolding begins_arrow
begun z h list name = one_or_other (leads k.LParen z) _ _ h (λ e s. list (led k.LParen z e) s)
    (λ e s. let b = both _ _ s in name (led k.Name z b.0) (led k.Arrow (past z) b.1))

pub begins : (i : Input) → begins_arrow i.text ≡ true → g.BeginsArrow i
begins i h = begun i.text h
    (λ e s. let f = scan_found (length i.text) (next i) (subst (λ z. scan (length i.text) z ≡ true) (sym (text_next i)) s) in
    record { found = f.xs; behind = f.behind; params = g.several (first_here i ∙ e) f.names; arrow = f.arrow })
    (λ e a. let r = name_read i (first_here i ∙ e) in
    record { found = r.found ∷ []; behind = r.behind; params = g.one (first_here i ∙ e) r.is; arrow = first_behind i r.behind r.past ∙ a })

pub arrow_unseen : (i : Input) → (g.BeginsArrow i → ⊥) → begins_arrow i.text ≡ false
arrow_unseen i none = by (begins_arrow i.text) (begins i)
  where
    by : (b : Bool) → (b ≡ true → g.BeginsArrow i) → b ≡ false
    by true found = absurd (none (found refl))
    by false found = refl

-- ---- assignments

-- behind a target stands what stands behind its token
target_next : {i j : Input} {ref : Ref} → g.Target i ref j → sees j ≡ sees (next i)
target_next {i = i} {j = j} t = sees_as j (next i) (target_past t ∙ sym (text_next i))

pub assigned : {i j : Input} {ref : Ref} {op : AssignOp} → g.Target i ref j → assign_op (sees j) ≡ Some op → assigns i ≡ Some op
unfolding assigns
assigned {i = i} {j = j} t h = ap (λ b. assigns_by b (sees (next i))) (target_sees t) ∙ ap assign_op (sym (target_next t)) ∙ h

-- no arrow begins so
pub assigned_no_arrow : {i j : Input} {ref : Ref} {op : AssignOp} → g.Target i ref j → assign_op (sees j) ≡ Some op → begins_arrow i.text ≡ false
assigned_no_arrow {i = i} {j = j} t h = by (begins_arrow i.text) refl
  where
    by : (b : Bool) → begins_arrow i.text ≡ b → b ≡ false
    by true e = begun i.text e
        (λ l s. let no : true ≡ false = sym (target_sees t) ∙ ap is_target (first_here i ∙ l) in absurd (cc))
        (λ n a. let no : Some _ ≡ None = sym h ∙ ap assign_op (first_behind i j (target_past t) ∙ a) in absurd (cc))
    by false e = refl

assigns_both : (b : Bool) (l : Lexeme) (op : AssignOp) → assigns_by b l ≡ Some op → (b ≡ true) × (assign_op l ≡ Some op)
assigns_both true l op h = (refl, h)
assigns_both false l op h = absurd (cc)

pub assigns_target : (i : Input) (op : AssignOp) → assigns i ≡ Some op → (is_target (sees i) ≡ true) × (assign_op (sees (next i)) ≡ Some op)
unfolding assigns
assigns_target i op h = assigns_both _ _ op h

pub assigns_behind : {i j : Input} {ref : Ref} {op : AssignOp} → assigns i ≡ Some op → g.Target i ref j → assign_op (sees j) ≡ Some op
assigns_behind {i = i} {op = op} h t = ap assign_op (target_next t) ∙ (assigns_target i op h).1

pub no_assignment : (i : Input) → assigns i ≡ None → g.BeginsAssignment i → ⊥
no_assignment i none b = let seen = assigned b.target b.is in cc

pub unassigned : (i : Input) → (g.BeginsAssignment i → ⊥) → assigns i ≡ None
unassigned i none = by (assigns i) refl
  where
    by : (o : Option AssignOp) → assigns i ≡ o → o ≡ None
    by None e = refl
    by (Some op) e =
        let t = target_read i (assigns_target i op e).0 in
        absurd (none (record { ref = t.ref; behind = t.behind; target = t.is; op = op; is = assigns_behind e t.is }))
