-- The words that are no names (ECMA-262, section 12.7.2, and `undefined`, `eval`, `arguments`).
use Rattle.std.specs.Prelude.{ℕ, Bool, List, [], ◌∷◌, codes, if◌then◌else◌}
use Rattle.std.specs.List.{list_any}
use Rattle.std.specs.Str.{bytes_eq}
use Rattle.sv_lex.specs.declared.lexeme.Lexeme.{Lexeme}
use Rattle.sv_lex.specs.declared.lexeme.Lexeme.TheVariants.{Name, Reserved, Break, Const, Continue, Else, Export, False, For, Function, If, Import, Let, Null, Return, True, Undefined, While}

-- those that no form is written with
abbrev pub reserved : List (List ℕ)
reserved =
    codes "case" ∷ codes "catch" ∷ codes "class" ∷ codes "debugger" ∷ codes "default" ∷ codes "delete" ∷ codes "do" ∷ codes "enum" ∷
    codes "extends" ∷ codes "finally" ∷ codes "in" ∷ codes "instanceof" ∷ codes "new" ∷ codes "super" ∷ codes "switch" ∷ codes "this" ∷
    codes "throw" ∷ codes "try" ∷ codes "typeof" ∷ codes "var" ∷ codes "void" ∷ codes "with" ∷ codes "yield" ∷ codes "await" ∷
    codes "static" ∷ codes "implements" ∷ codes "interface" ∷ codes "package" ∷ codes "private" ∷ codes "protected" ∷ codes "public" ∷ codes "eval" ∷
    codes "arguments" ∷ []

unfoldable pub is_reserved : List ℕ → Bool
is_reserved w = list_any (bytes_eq w) reserved

unfoldable pub later_keyword : List ℕ → Lexeme
later_keyword w =
    if bytes_eq w (codes "if") then If else (if bytes_eq w (codes "import") then Import else (if bytes_eq w (codes "let") then Let else (
    if bytes_eq w (codes "null") then Null else (if bytes_eq w (codes "return") then Return else (if bytes_eq w (codes "true") then True else (
    if bytes_eq w (codes "undefined") then Undefined else (if bytes_eq w (codes "while") then While else (if is_reserved w then Reserved else Name))))))))

-- the kind of a word: its own where forms are written with it, `Reserved` for the other words that are no names, and else `Name`
unfoldable pub keyword : List ℕ → Lexeme
keyword w =
    if bytes_eq w (codes "break") then Break else (if bytes_eq w (codes "const") then Const else (if bytes_eq w (codes "continue") then Continue else (
    if bytes_eq w (codes "else") then Else else (if bytes_eq w (codes "export") then Export else (if bytes_eq w (codes "false") then False else (
    if bytes_eq w (codes "for") then For else (if bytes_eq w (codes "function") then Function else later_keyword w)))))))
