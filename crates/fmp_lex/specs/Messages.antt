-- What is said of the faults of the two texts of a system.
use Rattle.std.specs.Prelude.{ℕ, List, ◌++◌, codes, decimal}
use Rattle.fmp_base.specs.Codes.{code_name}
use Rattle.fmp_lex.specs.declared.fault.BuildFault.{BuildFault}
use Rattle.fmp_lex.specs.declared.fault.BuildFault.TheVariants.{At, Memory}
use Rattle.fmp_lex.specs.declared.fault.FaultKind.{FaultKind}
use Rattle.fmp_lex.specs.declared.fault.FaultKind.TheVariants as fault
use Rattle.fmp_lex.specs.declared.fault.TextFile.{TextFile}
use Rattle.fmp_lex.specs.declared.fault.TextFile.TheVariants.{Configuration, Source}

-- what a text is called
abbrev pub text_name : TextFile → List ℕ
text_name Configuration = codes "cfg"
text_name Source = codes "src"

-- the code of a fault; B4 goes with the error code of the static API
abbrev pub fault_code : FaultKind → List ℕ
fault_code fault.Syntax = codes "B1"
fault_code fault.TwiceNamed = codes "B2"
fault_code fault.UnknownName = codes "B3"
fault_code (fault.Api code) = codes "B4 " ++ code_name code
fault_code fault.Limit = codes "B5"
fault_code fault.StackTooSmall = codes "B6"
fault_code fault.WrongEntryKind = codes "B7"
fault_code fault.Shape = codes "B9"

-- the text, the number of the line, and the code of the fault
abbrev pub build_message : BuildFault → List ℕ
build_message (At file place why) =
    text_name file ++ (codes ":" ++ (decimal place.line ++ (codes ": " ++ fault_code why)))
build_message Memory = codes "memory"
