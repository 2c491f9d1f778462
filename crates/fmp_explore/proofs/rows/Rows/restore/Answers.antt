use Rattle.std.proofs.Common.{◌∙◌, ◌<◌, ◌^◌, List, arith, subst}
use Rattle.fmp_base.specs.Systems.{SystemTables}
use Rattle.fmp_instructions.specs.Instructions.{BodyTables}
use Rattle.fmp_reachable.specs.Sound.{IsSound}
use Rattle.fmp_witness.proofs.OverLemmas.{same_body, same_bound, same_system}
use Rattle.fmp_explore.proofs.rows.Rows.restore.Goals as goal

pub restore-requires-clause-body : goal.restore-requires-clause-body
restore-requires-clause-body c =
    let s = c.args.subject.now in
    same_body s.image.now s.n c.args.kernel.now c.args.fallback.now c.requires.kernel c.requires.fallback

pub restore-requires-clause-bound : goal.restore-requires-clause-bound
restore-requires-clause-bound c =
    let s = c.args.subject.now in
    same_bound s.image.now s.n c.args.kernel.now c.args.fallback.now c.requires.kernel c.requires.fallback

pub restore-requires-clause-system : goal.restore-requires-clause-system
restore-requires-clause-system c =
    let s = c.args.subject.now in
    same_system s.image.now s.n c.args.kernel.now c.args.fallback.now c.requires.kernel c.requires.fallback

pub returns-then-not-restore-clause-over : goal.returns-then-not-restore-clause-over
returns-then-not-restore-clause-over c =
    record {
      body = c.restore.ensures.body ∙ c.requires.kernel.body;
      bound = c.restore.ensures.bound ∙ c.requires.kernel.bound;
      system = c.restore.ensures.system ∙ c.requires.kernel.system;
    }

pub returns-clause-over : goal.returns-clause-over
returns-clause-over c =
    record {
      body = c.restore.ensures.body ∙ c.requires.kernel.body;
      bound = c.restore.ensures.bound ∙ c.requires.kernel.bound;
      system = c.restore.ensures.system ∙ c.requires.kernel.system;
    }

pub returns-clause-restored : goal.returns-clause-restored
returns-clause-restored c = λ yes.
    let s = c.args.subject.now in
    let k = c.restore.new.self in
    let begun = c.restore.ensures.begun c.if-not-restore.false in
    let early : k.taken < 2 ^ 20 = omega (arith, begun.taken) in
    let system = c.restore.ensures.system ∙ c.requires.kernel.system in
    let body = c.restore.ensures.body ∙ c.requires.kernel.body in
    record {
      over = record { body = body; bound = c.restore.ensures.bound ∙ c.requires.kernel.bound; system = system };
      early = early;
      sound =
          subst (λ (bodies : List BodyTables). IsSound s.image.now.system bodies k.world) body
          (subst (λ (sys : SystemTables). IsSound sys k.body k.world) system (c.is_sound.ensures yes));
    }
