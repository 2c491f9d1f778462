use Rattle.std.proofs.Common.{◌≡◌, ◌∙◌, ℕ, List, Option, Some, subst, sym}
use Rattle.fmp_frames.specs.Compares.{IsFirstDifference}
use Rattle.fmp_looking.proofs.comparing.difference.Goals as goal

-- the first difference of lists, by other names of these
first_so : (a b x y : List (List ℕ)) (number : Option ℕ) → a ≡ x → b ≡ y → IsFirstDifference a b number
    → IsFirstDifference x y number
first_so a b x y number is_x is_y h =
    subst (λ (l : List (List ℕ)). IsFirstDifference l y number) is_x
    (subst (λ (l : List (List ℕ)). IsFirstDifference a l number) is_y h)

pub returns-in-Some : goal.returns-in-Some
returns-in-Some g c =
    let runs = c.in_ok-runs.runs in
    let told = c.in_ok-runs.ensures in
    let ends = c.in_ok-ends-in-Some.ends in
    record {
      number = c.in-Some.number;
      first = first_so _ _ _ _ (Some c.in-Some.number) told.a told.b (rw c.in-Some.is at c.first_difference.ensures);
      a = runs.a;
      b = runs.b;
      told_a = told.a;
      told_b = told.b;
      end_a = ends.a;
      end_b = ends.b;
      up_to_a = c.in_ok-ends-in-Some.ensures.a;
      up_to_b = c.in_ok-ends-in-Some.ensures.b;
      is = c.in_ok-text-in-Some.ensures;
    }

pub returns : goal.returns
returns g c =
    let told = c.in_ok-runs.ensures in
    sym told.a ∙ (rw c.in-None.is at c.first_difference.ensures) ∙ told.b
