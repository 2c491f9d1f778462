use Rattle.std.proofs.Common.{◌≡◌, ◌≢◌, [], ◌∷◌, arith, rules}
use Rattle.fmp_foreign.specs.declared.shadow.BodyVerdict.TheVariants as verdict
use Rattle.fmp_foreign.proofs.Following.{and_then}
use Rattle.fmp_foreign.proofs.shadow.take_turns.Goals as goal

pub returns-then-ne-clause-follows : goal.returns-then-ne-clause-follows
returns-then-ne-clause-follows g c =
    λ h. and_then g.B.Body.meaning c.args.kernel.now c.loop.kernel c.take_turn-verdict.new.kernel [] (c.args.given ∷ [])
    c.loop.invariant.followed (c.take_turn-verdict.ensures.follows h)

pub returns-then-ne-clause-stays : goal.returns-then-ne-clause-stays
returns-then-ne-clause-stays g c =
    λ h. and_then g.B.Body.meaning c.args.kernel.now c.loop.kernel c.take_turn-verdict.new.kernel [] []
    c.loop.invariant.followed
    (c.take_turn-verdict.ensures.stays h)

pub loop-preserved : goal.loop-preserved
loop-preserved g c =
    let long : c.take_turn-verdict.result ≡ verdict.Long =
    (let e = c.ne.ensures in let t = c.if-ne.false in let f = c.if-ne.ensures in search rules) in
    let other : c.take_turn-verdict.result ≢ verdict.Follows = λ h. cc (h, long) in
    let before = c.loop.invariant.taken in
    let one = c.take_turn-verdict.ensures.long long in
    record {
      followed = and_then g.B.Body.meaning c.args.kernel.now c.loop.kernel c.take_turn-verdict.new.kernel [] []
          c.loop.invariant.followed (c.take_turn-verdict.ensures.stays other);
      taken = omega (arith, before, one);
    }
