-- What is done, and then more.
use Rattle.std.proofs.Common.{List, ◌++◌, Option, None, Some, ap, append_assoc, ◌∙◌}
use Rattle.fmp_files.specs.Deeds.{Deed, Does}

pub does_then : (a b c : Option (List Deed)) (x y : List Deed) → Does a x b → Does b y c → Does a (x ++ y) c
does_then None b c x y h k = tt
does_then (Some a) None c x y h k = absurd h
does_then (Some a) (Some b) None x y h k = absurd k
does_then (Some a) (Some b) (Some c) x y h k = k ∙ ap (λ (ds : List Deed). ds ++ y) h ∙ append_assoc a x y
