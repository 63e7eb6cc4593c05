-- The words for the kinds of refusals.
use Rattle.std.specs.Prelude.{ℕ, List, ◌++◌, Option, Some, None, codes, decimal}
use Rattle.sv_ast.specs.declared.refusals.Kind.{Kind}
use Rattle.sv_ast.specs.declared.refusals.Kind.TheVariants as kind
use Rattle.sv_events.specs.declared.refusal.EventsError.{EventsError}
use Rattle.sv_events.specs.declared.refusal.EventsError.TheVariants as error
use Rattle.sv_resolve.specs.declared.refusals.CheckKind.{CheckKind}
use Rattle.sv_resolve.specs.declared.refusals.CheckKind.TheVariants as check
use Rattle.sv_run.specs.declared.kinds.EventsFault.{EventsFault}
use Rattle.sv_run.specs.declared.kinds.EventsFault.TheVariants as fault

abbrev pub parse_word : Kind → List ℕ
parse_word kind.NotUtf8 = codes "NotUtf8"
parse_word kind.Syntax = codes "Syntax"
parse_word kind.Unclosed = codes "Unclosed"
parse_word kind.TooDeep = codes "TooDeep"
parse_word kind.NumberTooWide = codes "NumberTooWide"
parse_word kind.OutOfScope = codes "OutOfScope"

abbrev pub check_word : CheckKind → List ℕ
check_word check.ImportCycle = codes "ImportCycle"
check_word check.UnknownImport = codes "UnknownImport"
check_word check.DeclaredTwice = codes "DeclaredTwice"
check_word check.UnknownName = codes "UnknownName"
check_word check.AssignConst = codes "AssignConst"
check_word check.CapturedAssign = codes "CapturedAssign"
check_word check.BadStore = codes "BadStore"
check_word check.BadLifecyclePlace = codes "BadLifecyclePlace"
check_word check.BadDerived = codes "BadDerived"
check_word check.ImpureMarkup = codes "ImpureMarkup"
check_word check.UnknownProp = codes "UnknownProp"
check_word check.UnknownSlot = codes "UnknownSlot"
check_word check.BadBind = codes "BadBind"
check_word check.TooManyNames = codes "TooManyNames"
check_word check.ReactiveCycle = codes "ReactiveCycle"

-- why an events file is refused; `NoMemory` refuses none
abbrev pub fault_in : EventsError → Option EventsFault
fault_in error.NotJson = Some fault.NotJson
fault_in error.BadForm = Some fault.BadForm
fault_in error.TooMany = Some fault.TooMany
fault_in (error.BadShape at) = Some (fault.BadShape at)
fault_in error.NoMemory = None

abbrev pub events_word : EventsFault → List ℕ
events_word fault.TooLong = codes "TooLong"
events_word fault.NotJson = codes "NotJson"
events_word fault.BadForm = codes "BadForm"
events_word fault.TooMany = codes "TooMany"
events_word (fault.BadShape at) = codes "BadShape " ++ decimal at
events_word (fault.BadSelector at) = codes "BadSelector " ++ decimal at
