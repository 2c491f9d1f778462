-- The end of a picture.
use Rattle.std.proofs.Common.{◌≡◌, ℕ, List, [], ◌∷◌, ◌++◌, false, codes, subst, sym}
use Rattle.std.specs.Prelude.{IfOk, Ok, Err, Result}
use Rattle.fmp_drawing.specs.Pictures.{EndsPicture, IsClosed}
use Rattle.fmp_timeline.specs.declared.canvas.Canvas.{Canvas}
use Rattle.fmp_timeline.specs.Canvases.{Adds, HasAdded}

pub closed_by : (old new : Canvas) → Adds old new (codes "</svg>" ++ 10 ∷ []) → EndsPicture new
closed_by old new adds = λ whole.
    let added : HasAdded (codes "</svg>" ++ 10 ∷ []) old new = adds whole in (old.bytes.items, added.bytes)

pub closed_end : {X E : Type 0} (items : X → List ℕ) (r : Result X E) (canvas : Canvas) → EndsPicture canvas
    → IfOk r (λ x. canvas.is_cut ≡ false) → IfOk r (λ x. items x ≡ canvas.bytes.items)
    → IfOk r (λ x. IsClosed (items x))
closed_end items (Ok x) canvas ends whole same = subst IsClosed (sym same) (ends whole)
closed_end items (Err e) canvas ends whole same = tt
