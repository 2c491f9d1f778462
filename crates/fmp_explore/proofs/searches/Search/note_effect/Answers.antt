use Rattle.std.proofs.Common.{subst}
use Rattle.fmp_base.specs.declared.events.Effect.{Effect}
use Rattle.fmp_explore.specs.Searching.{HasStepped, rows_of}
use Rattle.fmp_explore.proofs.KernelLemmas.{stepped_done, stepped_kept, stepped_none}
use Rattle.fmp_explore.proofs.StateLemmas.{leads_nowhere}
use Rattle.fmp_explore.proofs.SearchStepLemmas.{same_grows}
use Rattle.fmp_explore.proofs.searches.Search.note_effect.Goals as goal
use Rattle.fmp_witness.specs.Asked.{asked_of}

pub returns-in-Nothing : goal.returns-in-Nothing
returns-in-Nothing c = λ before stepped.
    let asked = asked_of c.args.attempt.here.subject.now in
    let a = c.args.attempt in
    let at = subst (λ (x : Effect). HasStepped asked before a.event c.args.kernel.now x) c.in-Nothing.is
    stepped in
    record {
      grows = same_grows c.args.self.now;
      leads = λ _ may.
          leads_nowhere asked (rows_of c.args.self.now) c.requires.search.table.fields
          before.world _ a.event
          (stepped_none asked c.keeps_rules.ensures before a.event c.args.kernel.now at);
    }

pub returns-in-Done : goal.returns-in-Done
returns-in-Done c = λ before stepped.
    let asked = asked_of c.args.attempt.here.subject.now in
    let a = c.args.attempt in
    c.note_done_within.ensures before.world
    (stepped_done asked c.keeps_rules.ensures before a.event c.args.kernel.now
    (subst (λ (x : Effect). HasStepped asked before a.event c.args.kernel.now x) c.in-Done.is stepped))

pub returns-in-Kept : goal.returns-in-Kept
returns-in-Kept c = λ before stepped.
    let asked = asked_of c.args.attempt.here.subject.now in
    let a = c.args.attempt in
    c.note_kept.ensures before.world
    (stepped_kept asked c.keeps_rules.ensures before a.event c.args.kernel.now
    (subst (λ (x : Effect). HasStepped asked before a.event c.args.kernel.now x) c.in-Kept.is stepped))
