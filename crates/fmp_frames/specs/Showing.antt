-- What it is to be shown frames.
use Rattle.std.specs.Prelude.{◌≡◌, List, [], ◌∷◌}
use Rattle.fmp_frames.specs.Frames.{FrameTable}

-- a viewer became another by these frames, one after the other, each as `shown` says
abbrev pub HasShown : {V : Type 0} → (shown : V → FrameTable → V → Type 0) → V → List FrameTable → V → Type 0
HasShown shown v [] w = v ≡ w
HasShown {V} shown v (f ∷ fs) w = (u : V) × shown v f u × HasShown shown u fs w
