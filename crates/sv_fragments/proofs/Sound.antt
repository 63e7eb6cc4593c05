-- Tables whose entries name what is there.
use Rattle.std.proofs.Common.{◌≡◌, ℕ, ◌+◌, ◌<◌, ◌≤◌, List, [], ◌∷◌, ◌++◌, length, refl, arith, length-append}
use Rattle.std.specs.List.{All}
use Rattle.std.proofs.lemmas.List.Elements.{All-nil, All-cons, All-append}
use Rattle.sv_ast.specs.declared.names.Ref.{Ref}
use Rattle.sv_code.proofs.Compiled.{all_mono}
use Rattle.sv_code.specs.declared.functions.Function.{Function}
use Rattle.sv_code.specs.declared.tags.Handler.{Handler}
use Rattle.sv_code.specs.declared.tags.Tag.{Tag}
use Rattle.sv_code.specs.Numbers.{Number, Size, Counts, size_at, cells_in, IsThere, of_tag, of_handler}
use Rattle.sv_lower.specs.Lower.{Lowers}
use Rattle.sv_lower.proofs.Lowering.{TopsThere}
use Rattle.sv_lower.proofs.Keeping.{AtLeast, AreSomewhere, AreClosed, Keeps, counted_alone, still_there, somewhere_still}
use Rattle.sv_fragments.specs.declared.around.Tables.{Tables}
use Rattle.sv_fragments.specs.Builds.{Around, lowered}

-- what there is for a file, in a program of files of some sizes
abbrev pub counted : (sizes : List Size) (file : ℕ) → Tables → Counts
counted sizes file t = record { functions = length t.functions; tags = length t.tags; handlers = length t.handlers; sizes = sizes; home = size_at sizes file }

-- each entry names what is there
pub record IsSound (sizes : List Size) (t : Tables) : Type 0 where
  pub functions : AreClosed sizes t.functions
  pub tags : All (λ tag. AreSomewhere (counted sizes 0 t) (of_tag tag)) t.tags
  pub handlers : All (λ h. AreSomewhere (counted sizes 0 t) (of_handler h)) t.handlers

-- a component is one of the files: what names stand for at its top is there, it has the cells of that file, and the names of its tags stand
-- for files, of which there is one at least
pub record Fits (sizes : List Size) (file : ℕ) (around : Around) : Type 0 where
  pub tops : TopsThere sizes file around.tops
  pub cells : length around.cells ≡ cells_in (size_at sizes file)
  pub children : All (λ k. k.1 < length sizes) around.children
  pub first : 0 < length sizes

-- ---- more entries

-- no table is shorter
pub record Grows (a b : Tables) : Type 0 where
  pub functions : length a.functions ≤ length b.functions
  pub tags : length a.tags ≤ length b.tags
  pub handlers : length a.handlers ≤ length b.handlers

pub at_least : (sizes : List Size) (file : ℕ) (a b : Tables) → Grows a b → AtLeast (counted sizes file a) (counted sizes file b)
at_least sizes file a b g = record { functions = g.functions; tags = g.tags; handlers = g.handlers; sizes = refl; home = refl }

-- what entries name is there still
tags_still : (sizes : List Size) (a b : Tables) → Grows a b → (list : List Tag) → All (λ t. AreSomewhere (counted sizes 0 a) (of_tag t)) list → All (λ t. AreSomewhere (counted sizes 0 b) (of_tag t)) list
tags_still sizes a b g list h =
    all_mono (λ t. AreSomewhere (counted sizes 0 a) (of_tag t)) (λ t. AreSomewhere (counted sizes 0 b) (of_tag t)) (λ t. somewhere_still (counted sizes 0 a) (counted sizes 0 b) (at_least sizes 0 a b g) (of_tag t)) list h

handlers_still : (sizes : List Size) (a b : Tables) → Grows a b → (list : List Handler) → All (λ h. AreSomewhere (counted sizes 0 a) (of_handler h)) list → All (λ h. AreSomewhere (counted sizes 0 b) (of_handler h)) list
handlers_still sizes a b g list h =
    all_mono (λ x. AreSomewhere (counted sizes 0 a) (of_handler x)) (λ x. AreSomewhere (counted sizes 0 b) (of_handler x)) (λ x. somewhere_still (counted sizes 0 a) (counted sizes 0 b) (at_least sizes 0 a b g) (of_handler x)) list h

-- what stands in a file stands in one of them
here : (sizes : List Size) (file : ℕ) (s : Tables) (numbers : List Number) → All (IsThere (counted sizes file s)) numbers → AreSomewhere (counted sizes 0 s) numbers
here sizes file s numbers h = record { file = file; there = h }

-- a list with one item more is longer
pub one_longer : {A : Type 0} (xs : List A) (x : A) → length xs < length (xs ++ x ∷ [])
one_longer xs x = let e : length (xs ++ x ∷ []) ≡ length xs + 1 = length-append xs (x ∷ []) in omega (arith, e)

-- ---- functions more

abbrev with_functions : Tables → List Function → Tables
with_functions s functions = record s { functions = functions }

-- code that keeps functions closed keeps tables sound
pub lowered_keeps : {A : Type 0} (sizes : List Size) (file : ℕ) (around : Around) (locals : List Ref) (of : A → List Number) (code : Lowers A)
    → Keeps (counted_alone sizes file) (AreClosed sizes) around.tops locals of code → Keeps (counted sizes file) (IsSound sizes) around locals of (lowered code)
lowered_keeps sizes file around locals of code k s sound =
    let made = code around.tops locals s.functions in
    let kept = k s.functions sound.functions in
    let after = with_functions s made.1 in
    let grows : Grows s after = record { functions = kept.more.functions; tags = omega arith; handlers = omega arith } in
    let alone = counted_alone sizes file made.1 in
    let more : AtLeast alone (counted sizes file after) = record { functions = omega arith; tags = omega arith; handlers = omega arith; sizes = refl; home = refl } in
    record {
      more = at_least sizes file s after grows;
      there = still_there alone (counted sizes file after) more (of made.0) kept.there;
      sound = record { functions = kept.sound; tags = tags_still sizes s after grows s.tags sound.tags; handlers = handlers_still sizes s after grows s.handlers sound.handlers };
    }

-- ---- one handler or tag more

abbrev with_one_handler : Handler → Tables → Tables
with_one_handler h s = record s { handlers = s.handlers ++ h ∷ [] }

pub more_handlers : (h : Handler) (s : Tables) → Grows s (with_one_handler h s)
more_handlers h s = let longer = one_longer s.handlers h in record { functions = omega arith; tags = omega arith; handlers = omega (arith, longer) }

pub handlers_sound : (sizes : List Size) (file : ℕ) (h : Handler) (s : Tables) → IsSound sizes s → All (IsThere (counted sizes file s)) (of_handler h) → IsSound sizes (with_one_handler h s)
handlers_sound sizes file h s sound there =
    let after = with_one_handler h s in
    let g = more_handlers h s in
    let P = λ (x : Handler). AreSomewhere (counted sizes 0 after) (of_handler x) in
    let own : P h = somewhere_still (counted sizes 0 s) (counted sizes 0 after) (at_least sizes 0 s after g) (of_handler h) (here sizes file s (of_handler h) there) in
    record {
      functions = sound.functions;
      tags = tags_still sizes s after g s.tags sound.tags;
      handlers = All-append P s.handlers (h ∷ []) (handlers_still sizes s after g s.handlers sound.handlers) (All-cons P h [] own (All-nil P));
    }

abbrev with_one_tag : Tag → Tables → Tables
with_one_tag t s = record s { tags = s.tags ++ t ∷ [] }

pub more_tags : (t : Tag) (s : Tables) → Grows s (with_one_tag t s)
more_tags t s = let longer = one_longer s.tags t in record { functions = omega arith; tags = omega (arith, longer); handlers = omega arith }

pub tags_sound : (sizes : List Size) (file : ℕ) (t : Tag) (s : Tables) → IsSound sizes s → All (IsThere (counted sizes file s)) (of_tag t) → IsSound sizes (with_one_tag t s)
tags_sound sizes file t s sound there =
    let after = with_one_tag t s in
    let g = more_tags t s in
    let P = λ (x : Tag). AreSomewhere (counted sizes 0 after) (of_tag x) in
    let own : P t = somewhere_still (counted sizes 0 s) (counted sizes 0 after) (at_least sizes 0 s after g) (of_tag t) (here sizes file s (of_tag t) there) in
    record {
      functions = sound.functions;
      tags = All-append P s.tags (t ∷ []) (tags_still sizes s after g s.tags sound.tags) (All-cons P t [] own (All-nil P));
      handlers = handlers_still sizes s after g s.handlers sound.handlers;
    }
