use Rattle.std.proofs.Common.{◌≡◌, ◌∙◌, length, rules, sym, vec_len}
use Rattle.fmp_looking.proofs.trying_beside.failing_parts.Goals as goal

pub returns : goal.returns
returns g c =
    let count : vec_len c.in_ok-parts.parts ≡ length c.in_ok-parts.parts.items = search rules in
    (sym count ∙ c.in_ok-parts.ensures.len, λ k d before. ((c.in_ok-parts.ensures.each k d before).1).met)
