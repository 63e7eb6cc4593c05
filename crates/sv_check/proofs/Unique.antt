-- What is said of the mistakes of a program is said of one list alone.
use Rattle.std.proofs.Common.{◌≡◌, ℕ, suc, ◌<◌, ◌≤◌, Bool, true, false, cond, List, [], ◌∷◌, ◌++◌, Option, None, Some, All, length, map, filter, drop, get_or, refl, sym, ap, ◌∙◌, arith, subst, rules}
use Rattle.std.specs.Prelude.{not}
use Rattle.std.specs.List.{range_with_len}
use Rattle.std.specs.Str.{bytes_eq}
use Rattle.std.proofs.lemmas.Option.{none-some}
use Rattle.std.proofs.lemmas.List.Elements.{All-head, All-tail}
use Rattle.std.proofs.lemmas.List.Quantifiers.{position-Some}
use Rattle.sv_ast.specs.declared.files.Bundle.{Bundle}
use Rattle.sv_ast.specs.declared.files.SourceFile.{SourceFile}
use Rattle.sv_ast.specs.declared.names.Ref.{Ref}
use Rattle.sv_ast.specs.declared.script_tree.Stmt.{Stmt}
use Rattle.sv_ast.specs.declared.script_tree.StmtKind.{StmtKind-F, out-StmtKind}
use Rattle.sv_base.specs.declared.span.Span.{Span}
use Rattle.sv_imports.specs.Cycles.{TellsLeads, AreCycles, leads_back, closes, cycles_in, cycles_from}
use Rattle.sv_ast.specs.Files.{statements_of, name_in}
use Rattle.sv_imports.specs.Imports.{StmtLayer, file_of_name, target_layer, target}
use Rattle.sv_resolve.specs.declared.refusals.CheckRefusal.{CheckRefusal}
use Rattle.sv_resolve.specs.Earliest.{IsEarliest}
use Rattle.sv_names.specs.NameMap.{Entries}
use Rattle.sv_effects.specs.Known.{known, names_without}
use Rattle.sv_effects.specs.Stains.{ArePure}
use Rattle.sv_graph.specs.Cycle.{IsFirstCycle}
use Rattle.sv_graph.specs.Links.{is_in}
use Rattle.sv_order.specs.ReactiveOrder.{Before}
use Rattle.sv_check.specs.Waiting.{AreWaiting, none, some, first_place, place_at, reads}

-- ---- tests

-- two tests that tell alike pass the same items
pub filter_alike : {X : Type 0} (p q : X → Bool) → ((x : X) → p x ≡ q x) → (xs : List X) → filter p xs ≡ filter q xs
filter_alike p q e [] = refl
filter_alike p q e (x ∷ xs) = ap (λ b. cond b (x ∷ filter p xs) (filter p xs)) (e x) ∙ ap (λ l. cond (q x) (x ∷ l) l) (filter_alike p q e xs)

pub map_alike : {X Y : Type 0} (f g : X → Y) → ((x : X) → f x ≡ g x) → (xs : List X) → map f xs ≡ map g xs
map_alike f g e [] = refl
map_alike f g e (x ∷ xs) = ap (λ y. y ∷ map f xs) (e x) ∙ ap (λ l. g x ∷ l) (map_alike f g e xs)

-- tests that say yes together are one
both_yes : (a b : Bool) → (a ≡ true → b ≡ true) → (b ≡ true → a ≡ true) → a ≡ b
both_yes true b there back = sym (there refl)
both_yes false true there back = back refl
both_yes false false there back = refl

-- ---- the first mistake

head_same : (a b : CheckRefusal) (xs ys : List CheckRefusal) → a ∷ xs ≡ b ∷ ys → a ≡ b
head_same a b xs ys e = ap (λ l. get_or l 0 a) e

tail_same : (a b : CheckRefusal) (xs ys : List CheckRefusal) → a ∷ xs ≡ b ∷ ys → xs ≡ ys
tail_same a b xs ys e = ap (λ l. drop 1 l) e

All-middle : (P : CheckRefusal → Type 0) (front : List CheckRefusal) (x : CheckRefusal) (back : List CheckRefusal) → All P (front ++ x ∷ back) → P x
All-middle P [] x back all = All-head P x back all
All-middle P (y ∷ front) x back all = All-middle P front x back (All-tail P y (front ++ x ∷ back) all)

-- a first one isn't behind another
not_behind : (a b : CheckRefusal) (xs ys fs : List CheckRefusal) (x : CheckRefusal) → a ∷ xs ≡ x ∷ (fs ++ b ∷ ys) → All (λ other. a.at.from ≤ other.at.from) xs
    → All (λ other. b.at.from < other.at.from) (x ∷ fs) → a ≡ b
not_behind a b xs ys fs x e behind before =
    let late : a.at.from ≤ b.at.from = All-middle (λ other. a.at.from ≤ other.at.from) fs b ys (subst (All (λ other. a.at.from ≤ other.at.from)) (tail_same a x xs (fs ++ b ∷ ys) e) behind) in
    let soon : b.at.from < x.at.from = All-head (λ other. b.at.from < other.at.from) x fs before in
    let same : a.at.from ≡ x.at.from = ap (λ m. m.at.from) (head_same a x xs (fs ++ b ∷ ys) e) in
    absurd (omega arith)

go : (fa fb xs ys : List CheckRefusal) (a b : CheckRefusal) → fa ++ a ∷ xs ≡ fb ++ b ∷ ys
    → All (λ other. a.at.from < other.at.from) fa → All (λ other. b.at.from < other.at.from) fb
    → All (λ other. a.at.from ≤ other.at.from) xs → All (λ other. b.at.from ≤ other.at.from) ys → a ≡ b
go [] [] xs ys a b e before_a before_b behind_a behind_b = head_same a b xs ys e
go [] (x ∷ fb) xs ys a b e before_a before_b behind_a behind_b = not_behind a b xs ys fb x e behind_a before_b
go (x ∷ fa) [] xs ys a b e before_a before_b behind_a behind_b = sym (not_behind b a ys xs fa x (sym e) behind_b before_a)
go (x ∷ fa) (y ∷ fb) xs ys a b e before_a before_b behind_a behind_b =
    go fa fb xs ys a b (tail_same x y (fa ++ a ∷ xs) (fb ++ b ∷ ys) e) (All-tail (λ other. a.at.from < other.at.from) x fa before_a) (All-tail (λ other. b.at.from < other.at.from) y fb before_b) behind_a behind_b

-- one mistake is the first
pub earliest_same : (list : List CheckRefusal) (a b : CheckRefusal) → IsEarliest a list → IsEarliest b list → a ≡ b
earliest_same list a b p q = go p.front q.front p.back q.back a b (sym p.stands ∙ q.stands) p.before q.before p.behind q.behind

-- ---- reactive statements that wait

at_head : (q : ℕ) (cycle : List ℕ) → is_in q (q ∷ cycle) ≡ true
at_head q cycle = search rules

place_same : (cells : List Ref) (stmts : List Stmt) (c d : List ℕ) → IsFirstCycle (Before (reads cells stmts)) c → IsFirstCycle (Before (reads cells stmts)) d → first_place stmts c ≡ first_place stmts d
place_same cells stmts [] d f g = absurd f.is_cycle
place_same cells stmts (p ∷ c) [] f g = absurd g.is_cycle
place_same cells stmts (p ∷ c) (q ∷ d) f g =
    let low : p ≤ q = f.is_first (q ∷ d) q g.is_cycle (at_head q d) in
    let high : q ≤ p = g.is_first (p ∷ c) p f.is_cycle (at_head p c) in
    let same : p ≡ q = omega arith in
    ap (place_at stmts) same

pub waiting_same : (cells : List Ref) (stmts : List Stmt) (a b : List Span) → AreWaiting cells stmts a → AreWaiting cells stmts b → a ≡ b
waiting_same cells stmts _ _ (none x) (none y) = refl
waiting_same cells stmts _ _ (none x) (some cycle f) = absurd (x cycle f.is_cycle)
waiting_same cells stmts _ _ (some cycle f) (none y) = absurd (y cycle f.is_cycle)
waiting_same cells stmts _ _ (some c f) (some d g) = place_same cells stmts c d f g

-- ---- cycles of imports

-- a file that an import names is there
named_within : (files : List SourceFile) (name : Option (List ℕ)) (p : ℕ) → file_of_name files name ≡ Some p → p < length files
named_within files None p e = absurd (none-some p e)
named_within [] (Some name) p e = absurd (none-some p e)
named_within (file ∷ files) (Some name) p e = (position-Some (λ source. bytes_eq source.name name) (file ∷ files) p file e).0

target_within : (files : List SourceFile) (layer : StmtLayer) (p : ℕ) → target_layer files layer ≡ Some p → p < length files
target_within files (StmtKind-F.Import i) p e = named_within files (name_in i.from) p e
target_within files _ p e = absurd (none-some p e)

leads_same : (files : List SourceFile) (leads other : ℕ → ℕ → Bool) → TellsLeads files leads → TellsLeads files other → (p q : ℕ) → p < length files → leads p q ≡ other p q
leads_same files leads other t u p q h = both_yes (leads p q) (other p q) (λ e. u.each p q h (t.only p q h e)) (λ e. t.each p q h (u.only p q h e))

back_same : (files : List SourceFile) (leads other : ℕ → ℕ → Bool) → TellsLeads files leads → TellsLeads files other → (file : ℕ) (imported : Option ℕ)
    → ((p : ℕ) → imported ≡ Some p → p < length files) → leads_back leads file imported ≡ leads_back other file imported
back_same files leads other t u file None within = refl
back_same files leads other t u file (Some p) within = leads_same files leads other t u p file (within p refl)

closes_same : (files : List SourceFile) (leads other : ℕ → ℕ → Bool) → TellsLeads files leads → TellsLeads files other → (file : ℕ) (s : Stmt)
    → closes leads files file s ≡ closes other files file s
closes_same files leads other t u file s = back_same files leads other t u file (target files s) (λ p. target_within files (out-StmtKind s.kind) p)

cycles_from_same : (files : List SourceFile) (leads other : ℕ → ℕ → Bool) → TellsLeads files leads → TellsLeads files other → (n : ℕ) (sources : List SourceFile)
    → cycles_from leads files n sources ≡ cycles_from other files n sources
cycles_from_same files leads other t u n [] = refl
cycles_from_same files leads other t u n (source ∷ more) =
    ap (λ l. map (λ s. s.span) l ∷ cycles_from leads files (suc n) more)
    (filter_alike (closes leads files n) (closes other files n) (closes_same files leads other t u n) (statements_of source.tree))
    ∙ ap (λ l. cycles_in other files n source ∷ l) (cycles_from_same files leads other t u (suc n) more)

pub cycles_same : (files : List SourceFile) (a b : List (List Span)) → AreCycles files a → AreCycles files b → a ≡ b
cycles_same files a b p q = p.are ∙ cycles_from_same files p.leads q.leads p.tells q.tells 0 files ∙ sym q.are

-- ---- pure functions

without_same : (spoiled other : ℕ → Bool) → ((p : ℕ) → spoiled p ≡ other p) → (points : Entries) → names_without spoiled points ≡ names_without other points
without_same spoiled other e points = ap (map (λ k. k.0)) (filter_alike (λ k. not (spoiled k.1)) (λ k. not (other k.1)) (λ k. ap not (e k.1)) points)

pub pure_same : (bundle : Bundle) (a b : List (List Ref)) → ArePure bundle a → ArePure bundle b → a ≡ b
pure_same bundle a b p q =
    let same = λ (f : ℕ). both_yes (p.spoiled f) (q.spoiled f) (λ e. q.each f (p.only f e)) (λ e. p.each f (q.only f e)) in
    p.is
    ∙ map_alike (λ file. names_without p.spoiled (known bundle file)) (λ file. names_without q.spoiled (known bundle file))
    (λ file. without_same p.spoiled q.spoiled same (known bundle file)) (range_with_len 0 (length bundle.files))
    ∙ sym q.is
