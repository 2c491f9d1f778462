use Rattle.std.proofs.Common.{List, refl, subst, ℕ}
use Rattle.fmp_live.specs.LiveLocals.{live_tables}
use Rattle.fmp_visited.specs.Seen.{Adds}
use Rattle.fmp_explore.proofs.SearchStepLemmas.{adds_known, adds_new, adds_none, keeps_known, keeps_new, keeps_none}
use Rattle.fmp_explore.proofs.searches.Search.keep.Goals as goal
use Rattle.fmp_witness.specs.Asked.{asked_of}

pub returns-in-New : goal.returns-in-New
returns-in-New c =
    let asked = asked_of c.args.subject.now in
    let a = c.args.self.now in
    let row = c.write.new.self.row.items in
    let adds = subst (λ (row : List ℕ). Adds a.seen c.add.new.self row c.args.link c.in_ok-entry.entry)
    c.deref.ensures.value c.in_ok-entry.ensures.ok in
    keeps_new asked a _
    (record {
      tries = refl;
      fields = c.write.ensures.fields;
      first = c.write.ensures.first;
      outs = c.write.ensures.outs;
      live = c.write.ensures.live;
    }) (λ e. e) c.args.kernel.now c.args.came c.args.monitors.now (live_tables a.rows.live) row c.requires.sound.over
    c.requires.sound.sound c.requires.few c.requires.held c.requires.live c.in_ok-write.ensures.row c.args.link
    (adds_new a.seen c.add.new.self row c.args.link c.in_ok-entry.entry c.in-New.field-0 c.in-New.is adds)

pub returns-in-Known : goal.returns-in-Known
returns-in-Known c =
    let asked = asked_of c.args.subject.now in
    let a = c.args.self.now in
    let row = c.write.new.self.row.items in
    let adds = subst (λ (row : List ℕ). Adds a.seen c.add.new.self row c.args.link c.in_ok-entry.entry)
    c.deref.ensures.value c.in_ok-entry.ensures.ok in
    let known = adds_known a.seen c.add.new.self row c.args.link c.in_ok-entry.entry c.in-Known.field-0
    c.in-Known.is adds in
    keeps_known asked a _
    (record {
      tries = refl;
      fields = c.write.ensures.fields;
      first = c.write.ensures.first;
      outs = c.write.ensures.outs;
      live = c.write.ensures.live;
    }) (λ e. e) c.args.kernel.now c.args.came c.args.monitors.now (live_tables a.rows.live) row c.requires.sound.over
    c.requires.sound.sound c.requires.few c.requires.held c.requires.live c.in_ok-write.ensures.row
    c.in-Known.field-0 known.0 known.1

pub returns-in-Full : goal.returns-in-Full
returns-in-Full c =
    let asked = asked_of c.args.subject.now in
    let a = c.args.self.now in
    let row = c.write.new.self.row.items in
    let adds = subst (λ (row : List ℕ). Adds a.seen c.add.new.self row c.args.link c.in_ok-entry.entry)
    c.deref.ensures.value c.in_ok-entry.ensures.ok in
    keeps_none asked a _
    (record {
      tries = refl;
      fields = c.write.ensures.fields;
      first = c.write.ensures.first;
      outs = c.write.ensures.outs;
      live = c.write.ensures.live;
    }) (λ e. absurd (cc (e))) c.args.kernel.now c.args.came c.args.monitors.now (live_tables a.rows.live) row
    c.requires.sound.over c.requires.sound.sound c.requires.few c.requires.held c.requires.live
    c.in_ok-write.ensures.row
    (adds_none a.seen c.add.new.self row c.args.link c.in_ok-entry.entry c.in-Full.is adds) refl
