-- Parts and links that are read one after another.
use Rattle.std.proofs.Common.{◌≡◌, ℕ, List, [], ◌∷◌, ◌++◌, length, Bool, true, false, nat_eq, Option, refl, ap, sym, ◌∙◌, append_assoc, option_map}
use Rattle.std.specs.Prelude.{None, Some}
use Rattle.std.specs.List.{before_first}
use Rattle.sv_select.specs.Borders.{is_border, pieces, rest}
use Rattle.sv_select.specs.Compound.{part_of, one_before, parts_of, marked, tag_of, compound_with, compound_of}
use Rattle.sv_select.specs.Grammar.{both, link_of, run_of, run_from, links_of}
use Rattle.sv_select.specs.declared.borders.Border.TheVariants as border
use Rattle.sv_select.specs.declared.selector.Combinator.{Combinator}
use Rattle.sv_select.specs.declared.selector.Combinator.TheVariants.{Descendant, Child}
use Rattle.sv_select.specs.declared.selector.Link.{Link}
use Rattle.sv_select.specs.declared.selector.Part.{Part}
use Rattle.sv_select.proofs.Cutting.{parted_at}
use Rattle.sv_select.proofs.Exits.{nothing_mapped}

abbrev front : List ℕ → List ℕ
front z = before_first (is_border border.Part) z

-- the compound of a text that was parted
pub compound_at : (word : List ℕ) → compound_of word ≡ compound_with (tag_of (front word)) (parts_of (marked (rest border.Part word)))
compound_at word = ap (λ p. compound_with (tag_of p.0) (parts_of p.1)) (parted_at word)

no_parts : (tag : Option (Option (List ℕ))) → compound_with tag None ≡ None
no_parts None = refl
no_parts (Some tag) = refl

no_tag : (parts : Option (List Part)) → compound_with None parts ≡ None
no_tag None = refl
no_tag (Some parts) = refl

pub compound_no_parts : (word : List ℕ) → parts_of (marked (rest border.Part word)) ≡ None → compound_of word ≡ None
compound_no_parts word is = compound_at word ∙ ap (compound_with (tag_of (front word))) is ∙ no_parts (tag_of (front word))

pub compound_no_tag : (word : List ℕ) → tag_of (front word) ≡ None → compound_of word ≡ None
compound_no_tag word is = compound_at word ∙ ap (λ tag. compound_with tag (parts_of (marked (rest border.Part word)))) is ∙ no_tag (parts_of (marked (rest border.Part word)))

pub compound_found : (word : List ℕ) (tag : Option (List ℕ)) (parts : List Part) → tag_of (front word) ≡ Some tag → parts_of (marked (rest border.Part word)) ≡ Some parts
    → compound_of word ≡ Some (record { tag = tag; parts = parts })
compound_found word tag parts t p = compound_at word ∙ ap (λ found. compound_with found (parts_of (marked (rest border.Part word)))) t ∙ ap (compound_with (Some tag)) p

-- ---- parts

parts_next : (mark : ℕ) (z : List ℕ) → parts_of (marked (mark ∷ z)) ≡ one_before (part_of mark (front z)) (parts_of (marked (rest border.Part z)))
parts_next mark z = ap (λ p. one_before (part_of mark p.0) (parts_of p.1)) (parted_at z)

no_part : (parts : Option (List Part)) → one_before None parts ≡ None
no_part None = refl
no_part (Some parts) = refl

part_put : (so_far : List Part) (part : Part) (more : Option (List Part)) → option_map (λ ps. so_far ++ ps) (one_before (Some part) more) ≡ option_map (λ ps. (so_far ++ part ∷ []) ++ ps) more
part_put so_far part None = refl
part_put so_far part (Some more) = ap Some (sym (append_assoc so_far (part ∷ []) more))

-- the next part is none
pub wrong_part : (all : Option (List Part)) (so_far : List Part) (left : List ℕ) (mark : ℕ) (z : List ℕ) → left ≡ mark ∷ z → all ≡ option_map (λ ps. so_far ++ ps) (parts_of (marked left))
    → part_of mark (front z) ≡ None → all ≡ None
wrong_part all so_far left mark z here so none =
    so ∙ ap (λ t. option_map (λ ps. so_far ++ ps) (parts_of (marked t))) here
    ∙ ap (option_map (λ ps. so_far ++ ps)) (parts_next mark z ∙ ap (λ part. one_before part (parts_of (marked (rest border.Part z)))) none ∙ no_part (parts_of (marked (rest border.Part z))))

-- the next part is put behind the others
pub one_part : (all : Option (List Part)) (so_far now : List Part) (left : List ℕ) (mark : ℕ) (z : List ℕ) (part : Part) → left ≡ mark ∷ z
    → all ≡ option_map (λ ps. so_far ++ ps) (parts_of (marked left)) → part_of mark (front z) ≡ Some part → now ≡ so_far ++ part ∷ []
    → all ≡ option_map (λ ps. now ++ ps) (parts_of (marked (rest border.Part z)))
one_part all so_far now left mark z part here so some grown =
    so ∙ ap (λ t. option_map (λ ps. so_far ++ ps) (parts_of (marked t))) here
    ∙ ap (option_map (λ ps. so_far ++ ps)) (parts_next mark z ∙ ap (λ p. one_before p (parts_of (marked (rest border.Part z)))) some)
    ∙ part_put so_far part (parts_of (marked (rest border.Part z)))
    ∙ ap (λ ps'. option_map (λ ps. ps' ++ ps) (parts_of (marked (rest border.Part z)))) (sym grown)

-- ---- links

no_link : (more : Option (List Link)) → both None more ≡ None
no_link None = refl
no_link (Some more) = refl

-- the next word is no compound
run_wrong : (is_begun : Bool) (combinator : Combinator) (word : List ℕ) (words : List (List ℕ)) → nat_eq (length word) 0 ≡ false → link_of combinator word ≡ None → run_from is_begun combinator (word ∷ words) ≡ None
run_wrong is_begun combinator [] words some none = cc
run_wrong is_begun combinator (b ∷ word) words some none = ap (λ l. both l (run_from true Descendant words)) none ∙ no_link (run_from true Descendant words)

pub wrong_link : (all : Option (List Link)) (old so_far : List Link) (is_begun : Bool) (combinator : Combinator) (left : List (List ℕ)) (word : List ℕ) (words : List (List ℕ))
    → left ≡ word ∷ words → nat_eq (length word) 0 ≡ false → option_map (λ ls. old ++ ls) all ≡ option_map (λ ls. so_far ++ ls) (run_from is_begun combinator left)
    → link_of combinator word ≡ None → all ≡ None
wrong_link all old so_far is_begun combinator left word words here some so none =
    nothing_mapped _ all
    (so ∙ ap (λ ws. option_map (λ ls. so_far ++ ls) (run_from is_begun combinator ws)) here
    ∙ ap (option_map (λ ls. so_far ++ ls)) (run_wrong is_begun combinator word words some none))

-- the next run is none
pub wrong_run : (all : Option (List Link)) (so_far : List Link) (combinator : Combinator) (left : List (List ℕ)) (run : List ℕ) (runs : List (List ℕ))
    → left ≡ run ∷ runs → all ≡ option_map (λ ls. so_far ++ ls) (links_of combinator left)
    → run_of combinator (pieces border.Space run) ≡ None → all ≡ None
wrong_run all so_far combinator left run runs here so none =
    so ∙ ap (λ rs. option_map (λ ls. so_far ++ ls) (links_of combinator rs)) here
    ∙ ap (option_map (λ ls. so_far ++ ls)) (ap (λ l. both l (links_of Child runs)) none ∙ no_link (links_of Child runs))
