use Rattle.std.proofs.Common.{◌<◌, arith, length}
use Rattle.fmp_looking.proofs.NameLemmas.{names_step}
use Rattle.fmp_looking.proofs.named_system.names_in.Goals as goal

pub loop-at-preserved : goal.loop-at-preserved
loop-at-preserved c =
    let within : c.loop-at.at < length c.args.tokens.now = omega (arith, c.len-at-end.ensures, c.loop-at-test.true) in
    names_step c.loop-at.after_head c.begins_at-after_head.result c.args.tokens.now c.loop-at.at c.loop-at.names.items
    c.add_name_at.new.names.items _ within c.in_ok-add_name_at.ensures c.begins_at-after_head.ensures
    c.loop-at.invariant
