-- What is said of a failure.
use Rattle.std.specs.Prelude.{ℕ, List, ◌++◌, codes, string_bytes}
use Rattle.fmp_files.specs.declared.failure.Failure.{Failure}
use Rattle.fmp_files.specs.declared.failure.Failure.TheVariants.{File, Memory}

-- the name of the file, or that memory ran out
abbrev pub failure_message : Failure → List ℕ
failure_message (File name) = codes "file: " ++ string_bytes name
failure_message (Memory _) = codes "memory"

-- the same as a line
abbrev pub failure_line : Failure → List ℕ
failure_line failure = failure_message failure ++ codes "\n"
