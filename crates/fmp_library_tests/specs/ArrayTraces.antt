-- The elements of a local array, and an index out of range.
use Rattle.std.specs.Prelude.{◌≡◌, List, [], ◌∷◌}
use Rattle.fmp_base.specs.declared.operators.BinaryOperator.TheVariants.{Divide}
use Rattle.fmp_base.specs.declared.services.Service.TheVariants as service
use Rattle.fmp_base.specs.declared.events.Event.TheVariants.{Run}
use Rattle.fmp_base.specs.Systems.{SystemTables}
use Rattle.fmp_tasklang.specs.declared.trees.BodyKind.TheVariants as kind
use Rattle.fmp_tasklang.specs.Trees.{ExpressionTree, binary, BodyTree}
use Rattle.fmp_library_tests.specs.TraceBuilders.{active_task, system, spelled, whole, element_at, set_to, set_element}
use Rattle.fmp_library_tests.specs.TraceBuilders.{call}
use Rattle.fmp_library_tests.specs.TraceBuilders.{variable, array, body_with, usual_bound, lines_of, printed}

-- one task, which starts at setup
abbrev pub one_task : SystemTables
one_task = system 1 (active_task "T" 0 10 ∷ [])

-- var a[3]; var i; i = 2; a[i] = 7; put(a[2]); and at last a[3] = last;
abbrev pub storing : (last : ExpressionTree) → List BodyTree
storing last =
    body_with kind.Task "t" (array "a" 3 ∷ variable "i" ∷ [])
    (set_to "i" (whole 2) ∷
    set_element "a" (spelled "i") (whole 7) ∷
    call service.Put (element_at "a" (whole 2) ∷ []) ∷
    set_element "a" (whole 3) last ∷
    []) ∷
    []

-- a store after the last place of an array is a fault
abbrev pub IndexOutOfRange : Type 0
IndexOutOfRange =
    printed one_task (storing (whole 1)) usual_bound (Run 1 ∷ Run 1 ∷ []) ≡
    lines_of
    ("0 p1 T starts" ∷
    "0 p1 > T" ∷
    "1 p1 T put(7) E_OK" ∷
    "2 p1 T F_IDX" ∷
    "T DORMANT p1 10" ∷
    [])

-- the value is worked out before the index is tested: its fault comes first
abbrev pub ValueFaultsFirst : Type 0
ValueFaultsFirst =
    printed one_task (storing (binary Divide (whole 1) (whole 0))) usual_bound (Run 1 ∷ Run 1 ∷ []) ≡
    lines_of
    ("0 p1 T starts" ∷
    "0 p1 > T" ∷
    "1 p1 T put(7) E_OK" ∷
    "2 p1 T F_DIV" ∷
    "T DORMANT p1 10" ∷
    [])
