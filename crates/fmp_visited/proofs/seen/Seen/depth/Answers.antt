use Rattle.std.proofs.Common.{sym}
use Rattle.fmp_visited.proofs.LinkLemmas.{path-at, path-none}
use Rattle.fmp_visited.proofs.seen.Seen.depth.Goals as goal

pub returns-in-Some : goal.returns-in-Some
returns-in-Some c = path-at c.args.self.now.links c.args.i c.in-Some.link (sym c.in-Some.ensures)

pub returns-in-None : goal.returns-in-None
returns-in-None c = path-none c.args.self.now.links c.args.i (sym c.in-None.ensures)
