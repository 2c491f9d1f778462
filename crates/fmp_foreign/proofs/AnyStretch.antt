-- Any stretch is one of bodies that run elsewhere.
use Rattle.std.proofs.Common.{Option, Some, None}
use Rattle.fmp_base.specs.Contexts.{OfCall}
use Rattle.fmp_base.specs.Stretches.{Ending}
use Rattle.fmp_base.specs.Stretches as ends
use Rattle.fmp_contexts.specs.Contexts.{IsFor}
use Rattle.fmp_worlds.specs.Stamps.{Going}
use Rattle.fmp_foreign.specs.declared.foreign.LastTold.{LastTold}

of_any : (x : Ending LastTold) → OfCall (λ t. Unit {0}) x
of_any (ends.Call c made) = tt
of_any (ends.End c) = tt
of_any (ends.Fault c fault) = tt
of_any (ends.Over None) = tt
of_any (ends.Over (Some c)) = tt

pub any_stretch : (f : Unit {0}) (x : Ending LastTold) (o : Option (Going LastTold))
    → IsFor (λ f entry told. Unit {0}) f x o
any_stretch f x None = tt
any_stretch f x (Some g) = of_any x
