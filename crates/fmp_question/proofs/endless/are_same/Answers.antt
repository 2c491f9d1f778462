use Rattle.std.proofs.Common.{rules}
use Rattle.std.specs.Cmp.Rules.{signed_items}
use Rattle.fmp_question.proofs.endless.are_same.Goals as goal

pub returns : goal.returns
returns c = let d = signed_items c.args.a.now c.args.b.now in let e = c.eq.ensures in search rules
