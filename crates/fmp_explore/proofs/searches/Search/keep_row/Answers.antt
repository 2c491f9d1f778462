use Rattle.std.proofs.Common.{refl}
use Rattle.fmp_explore.proofs.SearchStepLemmas.{adds_known, adds_new, adds_none}
use Rattle.fmp_explore.proofs.SliceLemmas.{known_row, new_row, no_row}
use Rattle.fmp_explore.proofs.searches.Search.keep_row.Goals as goal

pub returns-in-New : goal.returns-in-New
returns-in-New c =
    let a = c.args.self.now in
    let row = c.args.row.now in
    new_row a _ (record { tries = refl; fields = refl; first = refl; outs = refl; live = refl }) (λ e. e) row
    c.args.link
    (adds_new a.seen c.add.new.self row c.args.link c.in_ok-entry.entry c.in-New.place c.in-New.is
    c.in_ok-entry.ensures.ok)

pub returns-in-Known : goal.returns-in-Known
returns-in-Known c =
    let a = c.args.self.now in
    let row = c.args.row.now in
    let known = adds_known a.seen c.add.new.self row c.args.link c.in_ok-entry.entry c.in-Known.place c.in-Known.is
    c.in_ok-entry.ensures.ok in
    known_row a _ (record { tries = refl; fields = refl; first = refl; outs = refl; live = refl }) (λ e. e) row
    c.args.link c.in-Known.place known.0 known.1

pub returns-in-Full : goal.returns-in-Full
returns-in-Full c =
    let a = c.args.self.now in
    let row = c.args.row.now in
    no_row a _ (record { tries = refl; fields = refl; first = refl; outs = refl; live = refl })
    (λ e. absurd (cc (e))) row c.args.link
    (adds_none a.seen c.add.new.self row c.args.link c.in_ok-entry.entry c.in-Full.is c.in_ok-entry.ensures.ok) refl
