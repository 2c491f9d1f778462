use Rattle.std.proofs.Common.{refl}
use Rattle.fmp_tasklang.proofs.Views.{if_view, if_else_view}
use Rattle.fmp_tasklang.proofs.statements.choose.Goals as goal

pub returns-in_ok-condition-in-Some-clause-tree : goal.returns-in_ok-condition-in-Some-clause-tree
returns-in_ok-condition-in-Some-clause-tree c =
    let box = c.in_ok-condition-in-Some.condition in
    rw (c.in-Some.is, if_else_view box c.args.then c.in-Some.otherwise, c.in_ok-condition-in-Some.ensures.ok) refl

pub returns-in-None-clause-tree : goal.returns-in-None-clause-tree
returns-in-None-clause-tree c = rw c.in-None.is (if_view c.args.condition c.args.then)
