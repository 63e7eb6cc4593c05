-- A small page, and changes that fit and that do not.
use Rattle.std.proofs.Common.{◌≡◌, [], ◌∷◌, refl}
use Rattle.sv_tokens.specs.Seen.{Start, Words, End, View}
use Rattle.sv_tokens.specs.Replay.{bare, replay}
use Rattle.sv_tokens.specs.declared.change.What.TheVariants as what
use Rattle.sv_tokens.specs.declared.change.Change.TheVariants.{Make, SetText, Move, Remove}

-- an element 1 with an element 2, that has a text 3, and a text 4; then the text 5
abbrev page : View
page = record {
  tokens = Start 0 0 (bare []) ∷ Start 1 0 (bare (65 ∷ [])) ∷ Start 2 1 (bare (66 ∷ [])) ∷ Words 3 2 [] ∷ End 2 (66 ∷ []) ∷ Words 4 1 [] ∷ End 1 (65 ∷ []) ∷ Words 5 0 [] ∷ End 0 [] ∷ [];
  next = 6;
}

-- the parent is a text
pub make-below_text : replay (Make 6 4 0 (what.Text [])) page ≡ page
make-below_text = refl

-- the sibling is another's child
pub make-before_stranger : replay (Make 6 1 5 (what.Text [])) page ≡ page
make-before_stranger = refl

-- the serial number was used
pub make-used : replay (Make 5 1 0 (what.Text [])) page ≡ page
make-used = refl

pub set_text-element : replay (SetText 2 (66 ∷ [])) page ≡ page
set_text-element = refl

pub move-below_itself : replay (Move 1 3) page ≡ page
move-below_itself = refl

pub move-before_itself : replay (Move 4 4) page ≡ page
move-before_itself = refl

pub remove-nothing : replay (Remove 9) page ≡ page
remove-nothing = refl

pub remove-page : replay (Remove 0) page ≡ page
remove-page = refl

pub move-to_end : replay (Move 2 0) page ≡ record page {
  tokens = Start 0 0 (bare []) ∷ Start 1 0 (bare (65 ∷ [])) ∷ Words 4 1 [] ∷ Start 2 1 (bare (66 ∷ [])) ∷ Words 3 2 [] ∷ End 2 (66 ∷ []) ∷ End 1 (65 ∷ []) ∷ Words 5 0 [] ∷ End 0 [] ∷ [];
}
move-to_end = refl

pub remove-all_below : replay (Remove 1) page ≡ record page { tokens = Start 0 0 (bare []) ∷ Words 5 0 [] ∷ End 0 [] ∷ [] }
remove-all_below = refl
