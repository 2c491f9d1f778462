use Rattle.std.proofs.Common.{refl}
use Rattle.std.specs.Prelude.{[], slice_get, unwrap_or}
use Rattle.fmp_explore.proofs.SearchStepLemmas.{live_on, stays_rows, told_rows}
use Rattle.fmp_explore.proofs.searches.Search.restore_to.Goals as goal
use Rattle.fmp_witness.specs.Asked.{asked_of}

pub has_row-requires-clause-live : goal.has_row-requires-clause-live
has_row-requires-clause-live c =
    let a = c.args.self.now in
    let r = c.restore.new.self in
    live_on (asked_of c.args.subject.now) a.rows.outs r.outs a.rows.live r.live c.restore.ensures.outs
    c.restore.ensures.live c.requires.live

pub has_row-requires-clause-ready : goal.has_row-requires-clause-ready
has_row-requires-clause-ready c = c.in_ok-restore.ensures.restored c.if-not-branch.false

pub returns-clause-stays : goal.returns-clause-stays
returns-clause-stays c =
    stays_rows c.args.self.now c.has_row.new.self c.restore.new.self c.restore.ensures.fields c.restore.ensures.first
    c.restore.ensures.outs c.restore.ensures.live c.has_row.ensures.stays

pub returns-then-not-branch-clause-stays : goal.returns-then-not-branch-clause-stays
returns-then-not-branch-clause-stays c =
    record {
      same =
          record {
            tries = refl;
            fields = c.restore.ensures.fields;
            first = c.restore.ensures.first;
            outs = c.restore.ensures.outs;
            live = c.restore.ensures.live;
          };
      seen = refl;
      sure = λ e. e;
    }

pub returns-in_err-restore-clause-stays : goal.returns-in_err-restore-clause-stays
returns-in_err-restore-clause-stays c =
    record {
      same =
          record {
            tries = refl;
            fields = c.restore.ensures.fields;
            first = c.restore.ensures.first;
            outs = c.restore.ensures.outs;
            live = c.restore.ensures.live;
          };
      seen = refl;
      sure = λ e. e;
    }

pub has_row-requires-clause-told : goal.has_row-requires-clause-told
has_row-requires-clause-told c =
    let a = c.args.self.now in
    told_rows a.rows c.restore.new.self (unwrap_or (slice_get a.seen.rows c.args.at.now.state) [])
    c.restore.ensures.first c.restore.ensures.told c.restore.ensures.exact c.requires.told

pub returns-then-not-branch-clause-told : goal.returns-then-not-branch-clause-told
returns-then-not-branch-clause-told c =
    let a = c.args.self.now in
    told_rows a.rows c.restore.new.self (unwrap_or (slice_get a.seen.rows c.args.at.now.state) [])
    c.restore.ensures.first c.restore.ensures.told c.restore.ensures.exact c.requires.told

pub returns-in_err-restore-clause-told : goal.returns-in_err-restore-clause-told
returns-in_err-restore-clause-told c =
    let a = c.args.self.now in
    told_rows a.rows c.restore.new.self (unwrap_or (slice_get a.seen.rows c.args.at.now.state) [])
    c.restore.ensures.first c.restore.ensures.told c.restore.ensures.exact c.requires.told
