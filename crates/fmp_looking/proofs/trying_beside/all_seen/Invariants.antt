use Rattle.std.proofs.Common.{◌-◌, ◌<◌, ◌≤◌, ℕ, List}
use Rattle.fmp_frames.specs.declared.call_positions.CallPosition.{CallPosition}
use Rattle.fmp_image_bytes.specs.Images.{ImageTables}
use Rattle.fmp_trials.specs.declared.seeds.Seeds.{Seeds}
use Rattle.fmp_trials.specs.Parts.{edge}
use Rattle.fmp_looking.specs.declared.trying.Trials.{Trials}
use Rattle.fmp_looking.specs.Covered.{ArePartsSeen, AreRunsSeen, IsRunOf, seen_at}
use Rattle.fmp_looking.proofs.trying_beside.all_seen.Given as goal

abbrev pub invariant-loop-k : goal.invariant-loop-k
invariant-loop-k l =
    (t : Trials) (positions : List (List CallPosition)) (i : ImageTables) (n : ℕ) (seeds : Seeds)
    (jobs : ℕ) → 0 < jobs → seeds.before ≤ seeds.last → ArePartsSeen (IsRunOf t) positions i n seeds jobs l.parts
    → AreRunsSeen (IsRunOf t) positions i n seeds.before (edge seeds jobs l.k - seeds.before) (seen_at positions l.seen)
