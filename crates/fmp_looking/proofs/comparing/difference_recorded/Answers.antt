use Rattle.std.proofs.Common.{◌≡◌, ℕ, Ok, ap, subst}
use Rattle.fmp_base.specs.Systems.{SystemTables}
use Rattle.fmp_recording.specs.Recordings.{recording_of}
use Rattle.fmp_looking.proofs.comparing.difference_recorded.Goals as goal

pub returns-in-Ok : goal.returns-in-Ok
returns-in-Ok c =
    let same = ap (λ (t : SystemTables). t.processors) c.system.ensures in
    record {
      given = c.in_ok-xs.xs.items;
      read =
          subst (λ (p : ℕ). recording_of p c.args.a.now ≡ Ok c.in_ok-xs.xs.items) same c.in_ok-xs.ensures.read;
      holds =
          record {
            given = c.in_ok-ys.ys.items;
            read =
                subst (λ (p : ℕ). recording_of p c.args.b.now ≡ Ok c.in_ok-ys.ys.items) same
                c.in_ok-ys.ensures.read;
            holds = rw c.deref-2.ensures.value at (rw c.deref.ensures.value at c.in-Ok.ensures);
          };
    }
