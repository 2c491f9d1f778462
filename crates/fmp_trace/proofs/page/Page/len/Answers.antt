use Rattle.std.proofs.Common.{◌≤◌, ap, arith, length, length-take-le}
use Rattle.fmp_trace.proofs.page.Page.len.Goals as goal

pub returns : goal.returns
returns c =
    let inside = c.self.inside in
    let within : inside.end ≤ length inside.bytes = omega (arith, c.self.invariant.0, c.self.invariant.1) in
    omega (arith, length-take-le inside.end inside.bytes within, ap length c.self.view_is)
