-- How much of what a command prints was printed, or why printing ended early.
use Rattle.std.specs.Prelude.{ℕ, ◌≡◌, ◌++◌, Bool, IsTrue, List, [], Option}
use Rattle.fmp_files.specs.Deeds.{Deed, Does}
use Rattle.fmp_files.specs.Prints.{Prints}
use Rattle.fmp.specs.declared.asking.Cmd.{Cmd}
use Rattle.fmp.specs.declared.perform.CommandCut.{CommandCut}
use Rattle.fmp.specs.declared.perform.CommandCut.TheVariants as cut
use Rattle.fmp.specs.Performed.{CarriesOut, IsWhyNot}

-- the front of what a command prints, given what was read, was printed, and this is left of it
pub record PrintsFront (cmd : Cmd) (inputs : List (List ℕ)) (before after : Option (List Deed)) (left : List ℕ)
    : Type 0 where
  pub text : List ℕ
  pub made : CarriesOut cmd inputs [] text
  pub front : List ℕ
  pub text_is : text ≡ front ++ left
  pub printed : Prints before front after

-- why not all was printed: the command is not carried out and nothing was, or standard output can fail and has done so
abbrev pub IsWhyNotPrinted : (can_fail : Bool) → Cmd → (inputs : List (List ℕ)) → (before after : Option (List Deed))
    → CommandCut → Type 0
IsWhyNotPrinted can_fail cmd inputs before after (cut.Refused exit) = IsWhyNot cmd inputs exit × Does before [] after
IsWhyNotPrinted can_fail cmd inputs before after cut.Stopped =
    IsTrue can_fail × ((left : List ℕ) × PrintsFront cmd inputs before after left)
