-- What tells and prints nothing gives nothing.
use Rattle.std.proofs.Common.{◌≡◌, ◌∙◌, ◌++◌, List, [], ◌∷◌, Option, None, Some, false, subst, sym}
use Rattle.std.specs.List.{AllByRecursion, list_any}
use Rattle.fmp_files.specs.Deeds.{Deed, printed, removed, said, wrote}
use Rattle.fmp_searching.specs.Claimed.{PrintsNothing, is_print}
use Rattle.fmp_searching.specs.Deeds.{GivesNothing, IsIdle, IsTelling, TellsOnly}

same_end : (xs ys zs : List Deed) → xs ++ ys ≡ xs ++ zs → ys ≡ zs
same_end [] ys zs e = e
same_end (x ∷ xs) ys zs e = same_end xs ys zs cc

quiet_idle : (ds : List Deed) → AllByRecursion IsTelling ds → list_any is_print ds ≡ false → AllByRecursion IsIdle ds
quiet_idle [] h k = tt
quiet_idle (wrote name bytes ∷ ds) h k = absurd h.0
quiet_idle (removed name ∷ ds) h k = absurd h.0
quiet_idle (printed bytes ∷ ds) h k = absurd cc
quiet_idle (said text ∷ ds) h k = (tt, quiet_idle ds h.1 k)

pub told_quiet : (a b : Option (List Deed)) → TellsOnly a b → PrintsNothing a b → GivesNothing a b
told_quiet None b h k = record { deeds = []; each = tt; done = tt }
told_quiet (Some a) None h k = absurd h.done
told_quiet (Some a) (Some b) h k =
    let same : k.deeds ≡ h.deeds = same_end a k.deeds h.deeds (sym k.done ∙ h.done) in
    record {
      deeds = h.deeds;
      each = quiet_idle h.deeds h.each (subst (λ (ds : List Deed). list_any is_print ds ≡ false) same k.none);
      done = h.done;
    }
