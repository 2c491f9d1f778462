use Rattle.std.specs.Int.Bits.{bit_or}
use Rattle.std.proofs.Common.{◌≡◌, ℕ, arith}
use Rattle.std.proofs.lemmas.Bool.{eqb-true}
use Rattle.std.proofs.lemmas.Nat.{le_or_l, le_or_r}
use Rattle.fmp_spin.proofs.bits.are_zero.Goals as goal

left : (a b : ℕ) → bit_or a b ≡ 0 → a ≡ 0
left a b h = let l = le_or_l a b in omega (arith, l, h)

right : (a b : ℕ) → bit_or a b ≡ 0 → b ≡ 0
right a b h = let l = le_or_r a b in omega (arith, l, h)

pub returns : goal.returns
returns c = λ test.
    let two : ℕ = bit_or c.args.a c.args.b in
    let three : ℕ = bit_or two c.args.c in
    let four : ℕ = bit_or three c.args.d in
    let all = eqb-true (bit_or four c.args.e) 0 test in
    let in_four = left four c.args.e all in
    let in_three = left three c.args.d in_four in
    let in_two = left two c.args.c in_three in (
      left c.args.a c.args.b in_two,
      right c.args.a c.args.b in_two,
      right two c.args.c in_three,
      right three c.args.d
          in_four,
      right four c.args.e all,
    )
