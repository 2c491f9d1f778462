-- The list to which a call adds the lines of what happens.
use Rattle.std.specs.Prelude.{◌≡◌, ℕ, ◌≤◌, []}
use Rattle.std.specs.Global.{Vec}
use Rattle.std.specs.Vec.{vec_capacity}
use Rattle.fmp_base.specs.declared.events.Line.{Line}

-- no line has been added, and there is room for this many
pub record AreEmptyWithRoom (count : ℕ) (lines : Vec Line) : Type 0 where
  pub empty : lines.items ≡ []
  pub room : count ≤ vec_capacity lines
