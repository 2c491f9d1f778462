use Rattle.std.proofs.Common.{rules, ◌<◌, ℕ, IsTrue, length, arith}
use Rattle.std.proofs.lemmas.Option.{slice_get_within}
use borrow.Author.Count.{below_more}
use Rattle.fmp_live.specs.LiveLocals.{KeepsGoes, live_table}
use Rattle.fmp_live.proofs.judging.all_keep_goes.Goals as goal

pub loop-place-preserved : goal.loop-place-preserved
loop-place-preserved c =
    let yes : IsTrue c.keeps_goes.result = search rules in
    below_more (λ (k : ℕ). KeepsGoes c.args.code.now (live_table c.args.rows.now) k) c.loop-place.place
    c.loop-place.invariant (c.keeps_goes.ensures yes)

pub returns : goal.returns
returns c = λ _. λ place v i is dead.
    let lt : place < length c.args.code.now = slice_get_within c.args.code.now place i is in
    c.loop-place.invariant place (omega arith) v i is dead
