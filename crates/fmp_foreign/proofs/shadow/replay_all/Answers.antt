use Rattle.std.proofs.Common.{◌≡◌, ◌≢◌, rules}
use Rattle.fmp_foreign.specs.declared.shadow.BodyVerdict.TheVariants as verdict
use Rattle.fmp_foreign.proofs.Journals.{departs, further}
use Rattle.fmp_foreign.proofs.shadow.replay_all.Goals as goal

pub returns-then-ne-clause-departs : goal.returns-then-ne-clause-departs
returns-then-ne-clause-departs g c =
    let other : c.take_turns-why.result ≢ verdict.Follows =
    (let e = c.ne.ensures in let t = c.if-ne.true in let f = c.if-ne.ensures in search rules) in
    departs g.B.Body.meaning c.args.kernel.now c.loop-at.kernel c.take_turns-why.new.kernel c.args.journal.now
    c.loop-at.at
    c.take_turns-why.result c.given_at-given.result c.given_at-given.ensures c.loop-at.invariant.followed
    (c.take_turns-why.ensures.stays other) other c.take_turns-why.ensures.differs c.args.turns
    c.take_turns-why.ensures.long c.take_turns-why.ensures.full

pub loop-at-preserved : goal.loop-at-preserved
loop-at-preserved g c =
    let follows : c.take_turns-why.result ≡ verdict.Follows =
    (let e = c.ne.ensures in let t = c.if-ne.false in let f = c.if-ne.ensures in search rules) in
    record {
      followed = further g.B.Body.meaning c.args.kernel.now c.loop-at.kernel c.take_turns-why.new.kernel
          c.args.journal.now
          c.loop-at.at c.given_at-given.result c.given_at-given.ensures c.loop-at.invariant.followed
          (c.take_turns-why.ensures.follows follows);
    }
