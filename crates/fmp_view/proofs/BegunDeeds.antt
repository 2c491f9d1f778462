-- Deeds of which the first are done.
use Rattle.std.proofs.Common.{ℕ, ◌≡◌, inl, inr, refl, subst, Bool, true, false, true≢false, List, [], ◌∷◌, Option}
use Rattle.std.specs.Prelude.{codes}
use Rattle.fmp_files.specs.Deeds.{Begins, Deed, Does, Says, wrote}
use Rattle.fmp_files.specs.PrintsLaws.{does_nothing}
use Rattle.fmp_searching.specs.Deeds.{TellsOnly}
use Rattle.fmp_searching.proofs.Doing.{says_one, says_tell}
use Rattle.fmp_searching.proofs.Printing.{does_then}
use Rattle.fmp_view.specs.Begun.{BeginsDeeds, and_more, no_more, partly}
use Rattle.fmp_view.specs.Exports.{in_folder, main_file}

-- what is said tells
pub saying_tells : (a b : Option (List Deed)) → Says a b → TellsOnly a b
saying_tells a b h = says_tell a b (says_one a b h)

-- nothing was done
pub begun_nothing : (deeds : List Deed) (a : Option (List Deed)) → BeginsDeeds deeds a a
begun_nothing deeds a = record { done = []; are = no_more deeds; does = does_nothing a }

-- a beginning of the first file was written, or nothing
pub begun_first : (a b : Option (List Deed)) (name bytes same : List ℕ) (deeds : List Deed) → bytes ≡ same
    → Begins (wrote name) bytes a b → BeginsDeeds (wrote name same ∷ deeds) a b
begun_first a b name bytes same deeds e begins = first (subst (λ bs. Begins (wrote name) bs a b) e begins)
  where
    first : Begins (wrote name) same a b → BeginsDeeds (wrote name same ∷ deeds) a b
    first (inl h) = record { done = []; are = no_more (wrote name same ∷ deeds); does = h }
    first (inr h) = record { done = wrote name _ ∷ []; are = partly name same deeds h.0; does = h.1 }

-- a file was written, and others were begun
pub begun_next : (a b c : Option (List Deed)) (name bytes same : List ℕ) (deeds : List Deed) → bytes ≡ same
    → Does a (wrote name bytes ∷ []) b → BeginsDeeds deeds b c → BeginsDeeds (wrote name same ∷ deeds) a c
begun_next a b c name bytes same deeds e h k =
    record {
      done = wrote name same ∷ k.done;
      are = and_more (wrote name same) deeds k.done k.are;
      does = does_then a b c (wrote name same ∷ []) k.done (subst (λ bs. Does a (wrote name bs ∷ []) b) e h) k.does;
    }

-- the main program of a folder, if it is written
pub main_begun : (folder main : List ℕ) (keeps_main : Bool) (a b : Option (List Deed)) → keeps_main ≡ false
    → Begins (wrote (in_folder folder (codes "main.c"))) main a b → BeginsDeeds (main_file folder main keeps_main) a b
main_begun folder main true a b e begins = absurd (true≢false e)
main_begun folder main false a b e begins =
    begun_first a b (in_folder folder (codes "main.c")) main main [] refl begins
