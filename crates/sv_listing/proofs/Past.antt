-- Behind the end of a table nothing stands.
use Rattle.std.proofs.Common.{◌≡◌, ℕ, ◌≤◌, List, [], ◌++◌, length, append-nil, sym, ap, ◌∙◌}
use Rattle.std.specs.Option.{option_map_or}
use Rattle.std.proofs.lemmas.Option.{slice_get_past}
use Rattle.sv_code.specs.declared.parts.Part.{Part}
use Rattle.sv_listing.specs.Parts.{inside_at}

pub nothing_past : (insides : List (List Part)) (tag : ℕ) (found : List Part) → length insides ≤ tag → found ≡ found ++ inside_at insides tag
nothing_past insides tag found past = sym (ap (λ o. found ++ option_map_or (λ parts. parts) o []) (slice_get_past insides tag past) ∙ append-nil found)
