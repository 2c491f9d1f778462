-- What a handler does.
use Rattle.std.specs.Prelude.{ℕ, List, Option, None, Some, Bool, true, false, codes}

abbrev pub words_of : (runs pends : Bool) → Option (List ℕ)
words_of false false = None
words_of false true = Some (codes " is pending")
words_of true false = Some (codes " runs")
words_of true true = Some (codes " runs and is pending again")
