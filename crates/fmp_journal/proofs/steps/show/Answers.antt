use Rattle.std.proofs.Common.{ap, ◌∙◌}
use Rattle.fmp_journal.proofs.Moves.{lends, catches_up, parts}
use Rattle.fmp_journal.proofs.steps.show.Goals as goal

pub join_seat-requires : goal.join_seat-requires
join_seat-requires c = (
  c.requires.table.1,
  c.requires.table.0,
  c.requires.scribe.2,
  c.requires.table.2,
  lends _ _ _ _
      _ _ c.requires.scribe.0 c.requires.scribe.1,
)

pub load-requires : goal.load-requires
load-requires c =
    let j = c.join_seat.ensures in
    let me = ap (λ m. m.0) j.2 in (
      j.0 ∙ c.requires.table.1,
      c.requires.table.2,
      catches_up _ _ _ _ _ _ (ap (λ v. v.has_sight) me ∙ c.requires.seat)
          (ap (λ v. v.has_pen) me),
    )

pub split_seat-requires : goal.split_seat-requires
split_seat-requires c =
    let j = c.join_seat.ensures in
    let l = c.load.ensures in
    let me = ap (λ m. m.0) j.2 in
    let now = ap (λ m. m.0) l.2.0 in (
      l.0 ∙ j.0 ∙ c.requires.table.1,
      c.requires.table.2,
      parts _ _ _ _ (ap (λ v. v.has_pen) now
          ∙ ap (λ v. v.has_pen) me),
    )
