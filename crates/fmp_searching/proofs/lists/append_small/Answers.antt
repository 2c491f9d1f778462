use Rattle.std.proofs.Common.{◌≡◌, ◌++◌, ℕ, OnOk, decimal, subst}
use Rattle.fmp_searching.proofs.lists.append_small.Goals as goal

pub returns : goal.returns
returns c =
    subst
    (λ (n : ℕ). OnOk c.append_number.result (c.append_number.new.out.items ≡ c.args.out.now.items ++ decimal n))
    c.from.ensures c.append_number.ensures
