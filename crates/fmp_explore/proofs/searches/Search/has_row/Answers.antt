use Rattle.std.proofs.Common.{List, refl, subst}
use Rattle.std.proofs.lemmas.Result.{IfOk-weaker}
use Rattle.std.specs.Prelude.{[], slice_get, unwrap_or}
use Rattle.fmp_live.specs.LiveLocals.{live_tables}
use Rattle.fmp_explore.specs.States.{IsRowOf, numbers_in}
use Rattle.fmp_schedules.specs.declared.monitor.Monitor.{Monitor}
use Rattle.fmp_explore.proofs.SearchStepLemmas.{stands_of, told_rows}
use Rattle.fmp_explore.proofs.searches.Search.has_row.Goals as goal
use Rattle.fmp_witness.specs.Asked.{asked_of}

pub returns-clause-stands : goal.returns-clause-stands
returns-clause-stands c =
    let asked = asked_of c.args.subject.now in
    let a = c.args.self.now in
    let row = unwrap_or (slice_get a.seen.rows c.args.at.now.state) [] in
    IfOk-weaker c.has_told.result _ _
    (λ _ has yes. stands_of asked a _
    (record {
      same =
          record {
            tries = refl;
            fields = c.has_told.ensures.fields;
            first = c.has_told.ensures.first;
            outs = c.has_told.ensures.outs;
            live = c.has_told.ensures.live;
          };
      seen = refl;
      sure = λ e. e;
    }) c.args.at.now c.args.kernel.now (live_tables a.rows.live) row c.requires.ready
    c.requires.there c.requires.state.few c.requires.state.held c.requires.live
    (subst
    (λ (ss : List Monitor). IsRowOf a.rows.first.items
    (numbers_in c.args.kernel.now.system (live_tables a.rows.live) a.rows.fields.items c.args.kernel.now.world
    c.args.at.now.came ss) row)
    c.deref.ensures.value (has yes row c.requires.told))
    refl)
    c.has_told.ensures.row

pub returns-clause-told : goal.returns-clause-told
returns-clause-told c =
    let a = c.args.self.now in
    told_rows a.rows c.has_told.new.self (unwrap_or (slice_get a.seen.rows c.args.at.now.state) [])
    c.has_told.ensures.first c.has_told.ensures.told c.has_told.ensures.exact c.requires.told

pub returns-clause-stays : goal.returns-clause-stays
returns-clause-stays c =
    record {
      same =
          record {
            tries = refl;
            fields = c.has_told.ensures.fields;
            first = c.has_told.ensures.first;
            outs = c.has_told.ensures.outs;
            live = c.has_told.ensures.live;
          };
      seen = refl;
      sure = λ e. e;
    }
