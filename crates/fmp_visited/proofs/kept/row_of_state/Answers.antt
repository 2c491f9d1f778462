use Rattle.std.proofs.Common.{◌≡◌, ◌∙◌, ◌+◌, ◌-◌, ℕ, ap, drop, take, arith}
use Rattle.fmp_visited.specs.Kept.{row_in, start_of}
use Rattle.fmp_visited.proofs.kept.row_of_state.Goals as goal

pub returns : goal.returns
unfolding row_in
returns c =
    let state = c.args.state.now in
    let at : c.start-start.result ≡ start_of state = c.start-start.ensures in
    let size : c.start-start.result + state.length - c.start-start.result ≡ state.length = omega arith in
    ap (λ (n : ℕ). take n (drop c.start-start.result c.args.bytes.now)) size
    ∙ ap (λ (n : ℕ). take state.length (drop n c.args.bytes.now)) at
