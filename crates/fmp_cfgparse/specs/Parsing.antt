-- The first pass: a text is cut into tokens, and they spell a tree; or else its first fault.
use Rattle.std.specs.Prelude.{ℕ, List, Result, Ok, Err}
use Rattle.fmp_lex.specs.declared.fault.BuildFault.{BuildFault}
use Rattle.fmp_lex.specs.declared.fault.BuildFault.TheVariants as build
use Rattle.fmp_lex.specs.declared.fault.TextFile.TheVariants as file
use Rattle.fmp_lex.specs.Faults.{Spells, IsSyntaxFault}
use Rattle.fmp_cfgparse.specs.declared.parsing.Parsed.{Parsed}
use Rattle.fmp_cfgparse.specs.Grammar.{Config}
use Rattle.fmp_cfgparse.specs.Trees.{configuration_view}

-- the answer of the first pass
abbrev pub IsParse : List ℕ → Result Parsed BuildFault → Type 0
IsParse text (Ok p) = Spells Config text p.list.tokens (configuration_view p.tree)
IsParse text (Err build.Memory) = Unit {0}
IsParse text (Err (build.At f place why)) = IsSyntaxFault file.Configuration Config text (build.At f place why)
