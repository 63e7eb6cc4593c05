-- The lines of a test.
use Rattle.std.specs.Prelude.{ℕ, ◌==◌, List, [], ◌∷◌, ◌++◌, codes, decimal, Some, None, if◌then◌else◌}
use Rattle.sv_select.specs.declared.verdict.Verdict.{Verdict}
use Rattle.sv_select.specs.declared.verdict.Verdict.TheVariants.{Holds, Count, NoMatch, Text, Attribute}

-- a backslash, a double quote and a line feed are written with a backslash before them
abbrev pub quoted_byte : ℕ → List ℕ
quoted_byte b = if b == 92 then 92 ∷ 92 ∷ [] else (if b == 34 then 92 ∷ 34 ∷ [] else (if b == 10 then codes "\\n" else b ∷ []))

abbrev pub quoted_bytes : List ℕ → List ℕ
quoted_bytes [] = []
quoted_bytes (b ∷ bytes) = quoted_byte b ++ quoted_bytes bytes

-- a text between double quotes
abbrev pub quoted : List ℕ → List ℕ
quoted text = 34 ∷ (quoted_bytes text ++ 34 ∷ [])

-- how many there were, behind a word
abbrev pub counted_text : (word : List ℕ) (count : ℕ) → List ℕ
counted_text word count = word ++ decimal count

-- what was shown, behind a word
abbrev pub shown_text : (word text : List ℕ) → List ℕ
shown_text word text = word ++ quoted text

-- what stands behind the number of a step
abbrev pub verdict_text : Verdict → List ℕ
verdict_text Holds = codes " ok"
verdict_text (Count count) = counted_text (codes " failed: found ") count
verdict_text NoMatch = codes " failed: no match"
verdict_text (Text text) = shown_text (codes " failed: text ") text
verdict_text (Attribute (Some text)) = shown_text (codes " failed: attr ") text
verdict_text (Attribute None) = codes " failed: attr absent"

-- the line of a step by its number
abbrev pub verdict_line : (at : ℕ) → Verdict → List ℕ
verdict_line at verdict = codes "step " ++ (decimal at ++ (verdict_text verdict ++ 10 ∷ []))

-- the last line: how many expectations held, and how many didn't
abbrev pub sums_line : (passed failed : ℕ) → List ℕ
sums_line passed failed = codes "passed " ++ (decimal passed ++ (codes " failed " ++ (decimal failed ++ 10 ∷ [])))
