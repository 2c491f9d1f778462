use Rattle.std.proofs.Common.{rules}
use Rattle.fmp_visited.proofs.KeptLemmas.{kept-more}
use Rattle.fmp_visited.proofs.kept.StateStore.push.Goals as goal

pub returns-clause-ok : goal.returns-clause-ok
returns-clause-ok c =
    kept-more c.self.inside.bytes.items c.args.row.now c.extend_from_slice.new.self.items c.self.inside.states.items
    c.push.new.self.items c.in-Some.state c.args.link c.args.self.now c.self.view_is
    c.self.invariant (search rules) (search rules) (search rules) (search rules) (search rules)
