-- What the lines of an event say of tasks and handlers that begin.
use Rattle.std.proofs.Common.{◌≡◌, ℕ, List, [], ◌∷◌, ◌++◌}
use Rattle.std.specs.List.{AllByRecursion}
use Rattle.fmp_base.specs.declared.events.Line.{Line}
use Rattle.fmp_base.specs.declared.events.Line.TheVariants as line
use Rattle.fmp_base.specs.States.{KernelState}
use Rattle.fmp_worlds.proofs.Assigned.{Runs}

-- a line of a call from processor own: a task that starts was run by no other processor, no handler begins, and no
-- processor runs another task
abbrev pub IsOwn : KernelState → ℕ → Line → Type 0
IsOwn s own (line.Starts q t) = (r : ℕ) → Runs s.processors r t → own ≡ r
IsOwn s own (line.Begins q h) = ⊥
IsOwn s own (line.Runs q t) = ⊥
IsOwn s own _ = Unit {0}

pub all-snoc : {A : Type 0} (P : A → Type 0) (xs : List A) (x : A) → AllByRecursion P xs → P x
    → AllByRecursion P (xs ++ x ∷ [])
all-snoc P [] x h k = (k, tt)
all-snoc P (y ∷ xs) x h k = (h.0, all-snoc P xs x h.1 k)

pub all-append : {A : Type 0} (P : A → Type 0) (xs ys : List A) → AllByRecursion P xs → AllByRecursion P ys
    → AllByRecursion P (xs ++ ys)
all-append P [] ys h k = k
all-append P (x ∷ xs) ys h k = (h.0, all-append P xs ys h.1 k)

pub all-map : {A : Type 0} (P Q : A → Type 0) (xs : List A) → ((x : A) → P x → Q x) → AllByRecursion P xs
    → AllByRecursion Q xs
all-map P Q [] f h = tt
all-map P Q (x ∷ xs) f h = (f x h.0, all-map P Q xs f h.1)
