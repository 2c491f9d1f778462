use Rattle.std.proofs.Common.{ℕ, ◌≡◌, ◌<◌, ◌≤◌, ◌+◌, inl, inr, subst, arith}
use Rattle.std.proofs.lemmas.Bool.{cases_order, false≢true}
use Rattle.fmp_server.specs.Roles.{IsWordAt}
use Rattle.fmp_server.proofs.Order.{near}
use Rattle.fmp_server.proofs.roles.word_at.Goals as goal

pub returns-else-is_word_at-2 : goal.returns-else-is_word_at-2
returns-else-is_word_at-2 c at w =
    let is_word = λ (k : ℕ). IsWordAt c.args.tokens.now c.args.offset k in
    let count = c.begun_at-begun.result in
    let n = near c.args.tokens.now c.args.offset count c.requires c.begun_at-begun.ensures at w in
    let low : at < count = n.0 in
    let high : count ≤ at + 2 = n.1 in
    let last = c.in_ok-last.ensures in
    let before = c.in_ok-before.ensures in
    elim (cases_order at c.in_ok-last.last) [
      | inl same ↦ false≢true (c.if-is_word_at.ensures.1 (subst is_word same w))
      | inr other ↦
          let same : at ≡ c.in_ok-before.before = elim other [ inl above ↦ omega arith | inr below ↦ omega arith ] in
          false≢true (c.if-is_word_at-2.ensures.1 (subst is_word same w))
    ]
