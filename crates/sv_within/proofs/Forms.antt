-- The names in each form of code are those in its parts.
use Rattle.std.proofs.Common.{◌≡◌, List, ◌++◌, Option, None, Some, map, option_map}
use Rattle.sv_base.specs.declared.names.Name.{Name}
use Rattle.sv_base.specs.declared.span.Span.{Span}
use Rattle.sv_code.specs.declared.code.Code.{Code as CodeT, fold-roll-Code}
use Rattle.sv_code.specs.declared.code.CodeField.{CodeField as CodeFieldT, CodeField-F, roll-CodeField, map-CodeField, fold-roll-CodeField}
use Rattle.sv_code.specs.declared.code.CodeItem.{CodeItem as CodeItemT, CodeItem-F, roll-CodeItem, map-CodeItem, fold-roll-CodeItem}
use Rattle.sv_code.specs.declared.code.CodeKind.{CodeKind as CodeKindT, CodeKind-F, roll-CodeKind, map-CodeKind, fold-roll-CodeKind}
use Rattle.sv_code.specs.declared.code.CodeLink.{CodeLink as CodeLinkT, fold-roll-CodeLink}
use Rattle.sv_code.specs.declared.functions.CodeArm.{CodeArm as CodeArmT, fold-roll-CodeArm}
use Rattle.sv_code.specs.declared.functions.CodeStmt.{CodeStmt as CodeStmtT, fold-roll-CodeStmt}
use Rattle.sv_code.specs.declared.functions.CodeStmtKind
use Rattle.sv_code.specs.declared.functions.CodeStmtKind.{CodeStmtKind as CodeStmtKindT, CodeStmtKind-F, roll-CodeStmtKind, map-CodeStmtKind, fold-roll-CodeStmtKind}
use Rattle.sv_code.specs.declared.functions.CodeStmtKind.TheVariants as stmt_code
use Rattle.sv_code.specs.declared.functions.Function.{Function}
use Rattle.sv_code.specs.declared.known.Known.{Known}
use Rattle.sv_code.specs.Names as names
use Rattle.sv_code.specs.Names.{joined}

abbrev pub Ks : Type 0
Ks = List Known

pub kind_is : (fs : List Function) (k : CodeKind-F CodeFieldT CodeItemT CodeKindT CodeT CodeLinkT)
    → names.of_kind fs (roll-CodeKind k) ≡ names.kind_names fs (map-CodeKind CodeFieldT CodeItemT CodeKindT CodeT CodeLinkT Ks Ks Ks Ks Ks (names.of_field fs) (names.of_item fs) (names.of_kind fs) (names.of_code fs) (names.of_link fs) k)
kind_is fs = fold-roll-CodeKind Ks Ks Ks Ks Ks (names.field_names fs) (names.item_names fs) (names.kind_names fs) (names.code_names fs) (names.link_names fs)

pub item_is : (fs : List Function) (i : CodeItem-F CodeFieldT CodeItemT CodeKindT CodeT CodeLinkT)
    → names.of_item fs (roll-CodeItem i) ≡ names.item_names fs (map-CodeItem CodeFieldT CodeItemT CodeKindT CodeT CodeLinkT Ks Ks Ks Ks Ks (names.of_field fs) (names.of_item fs) (names.of_kind fs) (names.of_code fs) (names.of_link fs) i)
item_is fs = fold-roll-CodeItem Ks Ks Ks Ks Ks (names.field_names fs) (names.item_names fs) (names.kind_names fs) (names.code_names fs) (names.link_names fs)

pub field_is : (fs : List Function) (f : CodeField-F CodeFieldT CodeItemT CodeKindT CodeT CodeLinkT)
    → names.of_field fs (roll-CodeField f) ≡ names.field_names fs (map-CodeField CodeFieldT CodeItemT CodeKindT CodeT CodeLinkT Ks Ks Ks Ks Ks (names.of_field fs) (names.of_item fs) (names.of_kind fs) (names.of_code fs) (names.of_link fs) f)
field_is fs = fold-roll-CodeField Ks Ks Ks Ks Ks (names.field_names fs) (names.item_names fs) (names.kind_names fs) (names.code_names fs) (names.link_names fs)

pub stmt_kind_is : (fs : List Function) (k : CodeStmtKind-F CodeStmtKindT CodeArmT CodeStmtT)
    → names.of_stmt_kind fs (roll-CodeStmtKind k) ≡ names.stmt_kind_names fs (map-CodeStmtKind CodeStmtKindT CodeArmT CodeStmtT Ks Ks Ks (names.of_stmt_kind fs) (names.of_arm fs) (names.of_stmt fs) k)
stmt_kind_is fs = fold-roll-CodeStmtKind Ks Ks Ks (names.stmt_kind_names fs) (names.arm_names fs) (names.stmt_names fs)

pub if_names : (fs : List Function) (a : List CodeArmT) (b : Option CodeStmtT) → names.of_stmt_kind fs (stmt_code.If a b) ≡ joined (map (names.of_arm fs) a) ++ names.given (option_map (names.of_stmt fs) b)
unfolding CodeStmtKind.roll-CodeStmtKind denote.Hole.Carrier.roll
if_names fs a None = stmt_kind_is fs (CodeStmtKind-F.If a None)
if_names fs a (Some b) = stmt_kind_is fs (CodeStmtKind-F.If a (Some b))

pub for_names : (fs : List Function) (ns : List Name) (a : Option CodeStmtT) (b c : Option CodeT) (d : CodeStmtT) → names.of_stmt_kind fs (stmt_code.For ns a b c d)
    ≡ names.given (option_map (names.of_stmt fs) a) ++ (names.given (option_map (names.of_code fs) b) ++ (names.given (option_map (names.of_code fs) c) ++ names.of_stmt fs d))
unfolding CodeStmtKind.roll-CodeStmtKind denote.Hole.Carrier.roll
for_names fs ns None b c d = stmt_kind_is fs (CodeStmtKind-F.For ns None b c d)
for_names fs ns (Some a) b c d = stmt_kind_is fs (CodeStmtKind-F.For ns (Some a) b c d)

pub return_names : (fs : List Function) (value : Option CodeT) → names.of_stmt_kind fs (stmt_code.Return value) ≡ names.given (option_map (names.of_code fs) value)
unfolding CodeStmtKind.roll-CodeStmtKind denote.Hole.Carrier.roll
return_names fs value = stmt_kind_is fs (CodeStmtKind-F.Return value)

pub link_names : (fs : List Function) (op : _) (right : CodeT) → names.of_link fs (record { op = op; right = right }) ≡ names.of_code fs right
link_names fs op right = fold-roll-CodeLink Ks Ks Ks Ks Ks (names.field_names fs) (names.item_names fs) (names.kind_names fs) (names.code_names fs) (names.link_names fs) (record { op = op; right = right })

pub code_names : (fs : List Function) (span : Span) (kind : CodeKindT) → names.of_code fs (record { span = span; kind = kind }) ≡ names.of_kind fs kind
code_names fs span kind = fold-roll-Code Ks Ks Ks Ks Ks (names.field_names fs) (names.item_names fs) (names.kind_names fs) (names.code_names fs) (names.link_names fs) (record { span = span; kind = kind })

pub stmt_names : (fs : List Function) (span : Span) (kind : CodeStmtKindT) → names.of_stmt fs (record { span = span; kind = kind }) ≡ names.of_stmt_kind fs kind
stmt_names fs span kind = fold-roll-CodeStmt Ks Ks Ks (names.stmt_kind_names fs) (names.arm_names fs) (names.stmt_names fs) (record { span = span; kind = kind })

pub arm_names : (fs : List Function) (test : CodeT) (turn : CodeStmtT) → names.of_arm fs (record { test = test; body = turn }) ≡ names.of_code fs test ++ names.of_stmt fs turn
arm_names fs test turn = fold-roll-CodeArm Ks Ks Ks (names.stmt_kind_names fs) (names.arm_names fs) (names.stmt_names fs) (record { test = test; body = turn })
