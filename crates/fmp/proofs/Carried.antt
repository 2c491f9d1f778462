-- Where carrying out a command ends early.
use Rattle.std.proofs.Common.{◌≡◌, Result, Ok, Err, IfErr, IsErrAnd, subst, sym}
use Rattle.fmp_files.specs.declared.failure.Failure.{Failure}
use Rattle.fmp.specs.declared.perform.Exit.{Exit}
use Rattle.fmp.specs.declared.perform.Exit.TheVariants.{Failed}
use Rattle.fmp.specs.Runs.{IsFailed}

pub err_is : {T E : Type 0} (P : E → Type 0) (r : Result T E) (x : E) → IsErrAnd r (λ y. y ≡ x) → P x → IfErr r P
err_is P (Ok t) x h p = tt
err_is P (Err y) x h p = subst P (sym h) p

-- an end for a failure
pub failed_is : (Of : Failure → Type 0) (exit : Exit) (failure : Failure) → exit ≡ Failed failure → Of failure
    → IsFailed Of exit
failed_is Of exit failure is of = subst (IsFailed Of) (sym is) of

-- the same, where the error was made of another one
pub err_from : {T E : Type 0} (P Q : E → Type 0) (r : Result T E) → IsErrAnd r Q → ((y : E) → Q y → P y) → IfErr r P
err_from P Q (Ok t) h f = tt
err_from P Q (Err y) h f = f y h
