-- Lanes that stand one below another.
use Rattle.std.proofs.Common.{◌≡◌, ℕ, List, [], ◌∷◌, ◌++◌, ap, subst, sym}
use Rattle.fmp_drawing.specs.declared.strips.Lane.{Lane}
use Rattle.fmp_drawing.specs.declared.strips.Strip.{Strip}
use Rattle.fmp_drawing.specs.Lanes.{AreStacked, KeepsStack, height_of, lower, strip_at}

-- a lane at the bottom is one more
stacked_more : (top : ℕ) (ss : List Strip) (bottom : ℕ) (l : Lane) → AreStacked top ss bottom
    → AreStacked top (ss ++ strip_at bottom l ∷ []) (lower bottom (height_of l))
stacked_more top [] bottom l at =
    (ap (λ (b : ℕ). strip_at b l) at, ap (λ (b : ℕ). lower b (height_of l)) at)
stacked_more top (s ∷ ss) bottom l at = (at.0, stacked_more (lower top s.height) ss bottom l at.1)

-- whatever else is written beside it
pub keeps_added : (old new : List Strip) (bottom below : ℕ) (l : Lane) → new ≡ old ++ strip_at bottom l ∷ []
    → below ≡ lower bottom (height_of l) → KeepsStack old bottom new below
keeps_added old new bottom below l lanes ends = λ top at.
    subst (λ (b : ℕ). AreStacked top new b) (sym ends)
    (subst (λ (ss : List Strip). AreStacked top ss (lower bottom (height_of l))) (sym lanes)
    (stacked_more top old bottom l at))
