use Rattle.std.proofs.Common.{◌≡◌, [], get_or, arith, false, subst}
use Rattle.fmp_instructions.specs.declared.instructions.Instruction.{Instruction}
use Rattle.fmp_live.specs.LiveLocals.{is_needed, live_table}
use Rattle.fmp_live.proofs.Dead.{dead-there, read-there}
use Rattle.fmp_live.proofs.judging.keeps_goes.Goals as goal

pub returns : goal.returns
returns c = λ _. λ v i is dead.
    let row : c.row_at-live-items.result.now ≡ get_or c.args.rows.now.goes.items c.args.place [] = cc in
    let there = dead-there c.args.rows.now.goes.items c.args.place v c.row_at-live-items.result.now row dead in
    subst (λ (x : Instruction). is_needed (live_table c.args.rows.now) c.args.place x v ≡ false)
    (read-there c.args.code.now c.args.place i _ is) (c.loop-local.invariant v (omega (arith, there.0)) there.1)
