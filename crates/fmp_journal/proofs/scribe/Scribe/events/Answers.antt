use Rattle.std.proofs.Common.{◌≡◌, ◌<◌, ◌∷◌, ◌++◌, [], length, ap, ◌∙◌, arith}
use Rattle.fmp_journal.proofs.Copying.{copied_more, none_past, one_longer}
use Rattle.fmp_journal.proofs.scribe.Scribe.events.Goals as goal
use Rattle.fmp_journal.proofs.scribe.Scribe.events.Goals.{in-Some, in_default}

pub loop-place-preserved : goal.loop-place-preserved
loop-place-preserved c =
    let i = c.loop-place.invariant in
    elim c.match-entry.branch [
      | in-Some w ↦
          let more : c.match-entry.room.items ≡ c.loop-place.room.items ++ w.in-Some.entry.event
          ∷ [] = ap (λ v. v.items) w.room-is ∙ w.push_reserved.ensures.items in
          record {
            same = c.entry.ensures.same ∙ i.same;
            copied = copied_more c.args.self.now c.loop-place.self c.loop-place.place c.entry.result w.in-Some.entry _
                _ i.same c.entry.ensures.entry w.in-Some.is i.copied more;
            count = one_longer _ _ _ _ more i.count;
            room = rw w.room-is (omega (arith, i.room, w.push_reserved.ensures.capacity));
          }
      | in_default w ↦
          let lt : c.loop-place.place < length c.args.self.now.journal = omega
          (arith, c.loop-place-test.true, c.len-place-end.ensures.len) in
          absurd (none_past c.args.self.now c.loop-place.self c.loop-place.place c.entry.result i.same
          c.entry.ensures.entry w.in_default.is lt)
    ]
