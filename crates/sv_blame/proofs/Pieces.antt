-- What a text begins with, by the piece that begins there.
use Rattle.std.proofs.Common.{◌≡◌, ◌≤◌, ◌+◌, ℕ, Bool, true, false, ◌&&◌, ◌||◌, cond, List, [], ◌∷◌, length, drop, refl, ap, sym, ◌∙◌, arith, length-drop}
use Rattle.std.specs.Prelude.{◌==◌, slice_index, codes}
use Rattle.std.specs.List.{list_any}
use Rattle.std.specs.Str.{bytes_eq}
use Rattle.std.specs.Cmp.Lexicographic.{bytes_decides}
use Rattle.sv_lex.specs.Token.{name_len}
use Rattle.sv_tags.specs.declared.classes.Class.TheVariants.{TagRest}
use Rattle.sv_tags.specs.Classes.{is_letter, front_len, first, begins}
use Rattle.sv_tags.proofs.Bytes.{same}
use Rattle.sv_markup.specs.declared.pieces.Form.TheVariants as form
use Rattle.sv_markup.specs.declared.pieces.Piece.{Piece}
use Rattle.sv_markup.specs.declared.pieces.Piece.TheVariants as p
use Rattle.sv_markup.specs.Pieces.{is_small, is_capital, tag_name, component_name, by_name, tag, begins_word, brace, piece_at}
use Rattle.sv_blame.specs.Places.{begins_open}
use Rattle.sv_blame.proofs.Lengths.{some_byte, take_short}

-- a tag with a small name
pub record IsTag (z : List ℕ) : Type 0 where
  pub less : first z ≡ 60
  pub small : is_small (slice_index z 1) ≡ true

pub record IsComponent (z : List ℕ) : Type 0 where
  pub less : first z ≡ 60
  pub capital : is_capital (slice_index z 1) ≡ true

abbrev pub Shows : Piece → List ℕ → Type 0
Shows (p.Node form.Element) z = IsTag z
Shows (p.Node form.Slot) z = IsTag z × (bytes_eq (tag_name z) (codes "slot") ≡ true)
Shows (p.Node form.Component) z = IsComponent z
Shows (p.Node form.Hole) z = first z ≡ 123
Shows (p.Node form.If) z = begins (codes "{#if") z ≡ true
Shows (p.Node form.Each) z = begins (codes "{#each") z ≡ true
Shows (p.Node form.Key) z = begins (codes "{#key") z ≡ true
Shows (p.Node form.Text) z = Unit {0}
Shows p.Script z = IsTag z × (bytes_eq (tag_name z) (codes "script") ≡ true)
Shows p.Style z = IsTag z × (bytes_eq (tag_name z) (codes "style") ≡ true)
Shows _ z = Unit {0}

choose : (z : List ℕ) (b : Bool) (x y : Piece) → (b ≡ true → Shows x z) → (b ≡ false → Shows y z) → Shows (cond b x y) z
choose z true x y h g = h refl
choose z false x y h g = g refl

front_true : (a b : Bool) → (a && b) ≡ true → a ≡ true
front_true true b h = refl
front_true false b h = absurd (cc)

pub word_begins : (w z : List ℕ) → begins_word w z ≡ true → begins w z ≡ true
unfolding begins_word
word_begins w z h = front_true (begins w z) _ h

tag_shows : (z : List ℕ) → first z ≡ 60 → Shows (tag z) z
tag_shows z h =
    choose z (begins (codes "<!--") z) _ _ (λ e. tt) (λ e. choose z (begins (codes "</") z) _ _ (λ e. tt) (λ e. choose z (begins (codes "<svelte:") z) _ _ (λ e. tt)
    (λ e. choose z (is_small (slice_index z 1)) _ _ (λ small. named small) (λ e. choose z (is_capital (slice_index z 1)) _ _ (λ capital. record { less = h; capital = capital }) (λ e. tt)))))
  where
    named : is_small (slice_index z 1) ≡ true → Shows (by_name (tag_name z)) z
    named small =
        let is : IsTag z = record { less = h; small = small } in
        choose z (bytes_eq (tag_name z) (codes "script")) _ _ (λ e. (is, e)) (λ e. choose z (bytes_eq (tag_name z) (codes "style")) _ _ (λ e. (is, e))
        (λ e. choose z (bytes_eq (tag_name z) (codes "slot")) _ _ (λ e. (is, e)) (λ e. choose z (bytes_eq (tag_name z) (codes "textarea")) _ _ (λ e. tt) (λ e. is))))

brace_shows : (z : List ℕ) → first z ≡ 123 → Shows (brace z) z
brace_shows z h =
    choose z (begins (codes "{#") z) _ _
    (λ e. choose z (begins_word (codes "{#if") z) _ _ (λ e. word_begins _ z e) (λ e. choose z (begins_word (codes "{#each") z) _ _ (λ e. word_begins _ z e)
    (λ e. choose z (begins_word (codes "{#key") z) _ _ (λ e. word_begins _ z e) (λ e. choose z (begins (codes "{#await") z) _ _ (λ e. tt) (λ e. tt)))))
    (λ e. choose z (begins (codes "{@") z) _ _ (λ e. choose z (list_any (λ w. begins w z) (codes "{@html" ∷ codes "{@debug" ∷ codes "{@const" ∷ [])) _ _ (λ e. tt) (λ e. tt))
    (λ e. choose z (begins (codes "{:") z) _ _ (λ e. tt) (λ e. choose z (begins (codes "{/") z && is_small (slice_index z 2)) _ _ (λ e. tt) (λ e. h))))

pub piece_shows : (z : List ℕ) → Shows (piece_at z) z
unfolding piece_at
piece_shows z =
    choose z (length z == 0) _ _ (λ e. tt) (λ e. choose z (first z == 60) _ _ (λ e. tag_shows z (same (first z) 60 e))
    (λ e. choose z (first z == 123) _ _ (λ e. brace_shows z (same (first z) 123 e)) (λ e. choose z (first z == 125) _ _ (λ e. tt) (λ e. tt))))

-- ---- what that means

small_letter : (b : ℕ) → is_small b ≡ true → is_letter b ≡ true
small_letter b h = ap (λ t. t || is_capital b) h

capital_letter : (b : ℕ) → is_capital b ≡ true → is_letter b ≡ true
capital_letter b h = by (is_small b) (is_capital b) h
  where
    by : (s c : Bool) → c ≡ true → (s || c) ≡ true
    by true c h = refl
    by false true h = refl
    by false false h = absurd (cc)

tag_open : (z : List ℕ) → first z ≡ 60 → is_letter (slice_index z 1) ≡ true → begins_open z ≡ true
tag_open z h letter = by (first z) (is_letter (slice_index z 1)) (begins (codes "{#") z) h letter
  where
    by : (b : ℕ) (l t : Bool) → b ≡ 60 → l ≡ true → ((b == 60 && l) || t) ≡ true
    by b l t e f = ap (λ b. (b == 60 && l) || t) e ∙ ap (λ l. l || t) f

pub opens : {z : List ℕ} → IsTag z → begins_open z ≡ true
opens {z = z} is = tag_open z is.less (small_letter (slice_index z 1) is.small)

pub opens_component : {z : List ℕ} → IsComponent z → begins_open z ≡ true
opens_component {z = z} is = tag_open z is.less (capital_letter (slice_index z 1) is.capital)

either_open : (b c : Bool) → c ≡ true → (b || c) ≡ true
either_open true c h = refl
either_open false c h = h

-- a block
pub opens_block : (z : List ℕ) → begins (codes "{#") z ≡ true → begins_open z ≡ true
opens_block z h = either_open (first z == 60 && is_letter (slice_index z 1)) (begins (codes "{#") z) h

-- ---- how much of it there is

some_less : (z : List ℕ) → first z ≡ 60 → 1 ≤ length z
some_less z h = some_byte z 0 (λ none. absurd (let no : 0 ≡ 60 = sym none ∙ h in omega arith))

pub tag_fits : (z : List ℕ) → first z ≡ 60 → 1 + length (tag_name z) ≤ length z
tag_fits z h = let some = some_less z h in let size = length-drop 1 z in let short = take_short (front_len TagRest (drop 1 z)) (drop 1 z) in omega arith

pub component_fits : (z : List ℕ) → first z ≡ 60 → 1 + length (component_name z) ≤ length z
component_fits z h = let some = some_less z h in let size = length-drop 1 z in let short : length (component_name z) ≤ length (drop 1 z) = take_short (name_len (drop 1 z)) (drop 1 z) in omega arith

pub named_fits : (z w : List ℕ) → first z ≡ 60 → bytes_eq (tag_name z) w ≡ true → 1 + length w ≤ length z
named_fits z w h e = let is : tag_name z ≡ w = (bytes_decides (tag_name z) w).0 e in let size = ap length is in let fits = tag_fits z h in omega arith
