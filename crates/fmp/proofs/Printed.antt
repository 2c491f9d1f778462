-- What a command has printed that was given to a printer.
use Rattle.std.proofs.Common.{◌≡◌, ℕ, true, false, ◌==◌, List, [], ◌∷◌, Option, Result, Ok, Err, IfErr, length, arith}
use Rattle.std.proofs.lemmas.Bool.Decides.{nat_tests}
use Rattle.fmp.specs.declared.perform.CommandCut.{CommandCut}
use Rattle.fmp.specs.declared.perform.CommandCut.TheVariants.{Refused, Stopped}
use Rattle.fmp.specs.declared.perform.Exit.{Exit}
use Rattle.fmp_files.specs.Deeds.{Deed, Does, printed}
use Rattle.fmp_files.specs.Prints.{IsEmpty, PrintsPieces}
use Rattle.fmp_files.specs.PrintsLaws.{pieces_nothing, prints_one}

-- an empty text is printed by nothing
pub pieces_of_none : (before : Option (List Deed)) (bytes : List ℕ) → true ≡ (length bytes == 0)
    → PrintsPieces before bytes before
pieces_of_none before [] e = pieces_nothing before
pieces_of_none before (byte ∷ bytes) e = absurd (grind (arith, nat_tests))

not_empty : (bytes : List ℕ) → false ≡ (length bytes == 0) → IsEmpty bytes → ⊥
not_empty [] e empty = grind (arith, nat_tests)
not_empty (byte ∷ bytes) e empty = empty

-- one piece that has bytes
pub pieces_one : (before after : Option (List Deed)) (piece : List ℕ) → false ≡ (length piece == 0)
    → Does before (printed piece ∷ []) after
    → PrintsPieces before piece after
pieces_one before after piece some h =
    record { prints = prints_one before after piece h; nothing = λ empty. absurd (not_empty piece some empty) }

-- what follows where not all was given
pub on_cut_then : {A : Type 0} (P Q : CommandCut → Type 0) (r : Result A CommandCut)
    → ((exit : Exit) → P (Refused exit) → Q (Refused exit))
    → (P Stopped → Q Stopped) → IfErr r P → IfErr r Q
on_cut_then P Q (Ok a) refused stopped h = tt
on_cut_then P Q (Err (Refused exit)) refused stopped h = refused exit h
on_cut_then P Q (Err Stopped) refused stopped h = stopped h
