-- What is counted in two parts of a list is counted in both together.
use Rattle.std.proofs.Common.{◌≡◌, ℕ, ◌+◌, ◌-◌, ◌≤◌, List, Bool, cond, take, drop, count_by, arith, subst}
use Rattle.std.specs.Prelude.{slice_range}
use Rattle.std.proofs.Math.Seq.{take-add}
use Rattle.std.proofs.lemmas.List.Sums.{sum_by-append}

-- up to b: those up to a, and those from there
pub count_by-range : {X : Type 0} (p : X → Bool) (xs : List X) (a b : ℕ) → a ≤ b →
    count_by p (take b xs) ≡ count_by p (take a xs) + count_by p (slice_range xs a b)
count_by-range p xs a b le =
    let ahead : a + (b - a) ≡ b = omega arith in
    let parts : count_by p (take (a + (b - a)) xs) ≡ count_by p (take a xs) + count_by p (slice_range xs a b) =
    rw (take-add a (b - a) xs) (sum_by-append (λ x. cond (p x) 1 0) (take a xs) (take (b - a) (drop a xs))) in
    subst (λ n. count_by p (take n xs) ≡ count_by p (take a xs) + count_by p (slice_range xs a b)) ahead parts
