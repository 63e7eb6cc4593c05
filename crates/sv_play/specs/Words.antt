-- The words for faults.
use Rattle.std.specs.Prelude.{ℕ, List, codes}
use Rattle.sv_ops.specs.declared.faults.FaultKind.{FaultKind}
use Rattle.sv_ops.specs.declared.faults.FaultKind.TheVariants as kind

abbrev pub fault_word : FaultKind → List ℕ
fault_word kind.NotAFunction = codes "NotAFunction"
fault_word kind.NoMember = codes "NoMember"
fault_word kind.NotANumber = codes "NotANumber"
fault_word kind.Range = codes "Range"
fault_word kind.ZeroDivisor = codes "ZeroDivisor"
fault_word kind.CompareObjects = codes "CompareObjects"
fault_word kind.NotText = codes "NotText"
fault_word kind.BadKey = codes "BadKey"
fault_word kind.NotAList = codes "NotAList"
fault_word kind.UseBeforeInit = codes "UseBeforeInit"
fault_word kind.NotAStore = codes "NotAStore"
fault_word kind.Dead = codes "Dead"
fault_word kind.Deep = codes "Deep"
fault_word kind.Large = codes "Large"
fault_word kind.Steps = codes "Steps"
fault_word kind.CallDepth = codes "CallDepth"
fault_word kind.TreeDepth = codes "TreeDepth"
