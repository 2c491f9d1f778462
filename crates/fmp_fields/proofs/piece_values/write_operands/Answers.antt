use Rattle.std.proofs.Common.{◌+◌, ℕ, refl, ◌∙◌, take, arith}
use Rattle.std.specs.Prelude.{get_or, pos}
use Rattle.fmp_reachable.specs.Numbers.{unsigned}
use Rattle.std.proofs.lemmas.List.{length-set}
use Rattle.fmp_fields.proofs.Pieces.{written-more, written-none}
use Rattle.fmp_fields.proofs.piece_values.write_operands.Goals as goal

pub loop-i-init : goal.loop-i-init
loop-i-init c =
    record {
      long = refl;
      told = written-none (λ (i : ℕ). unsigned (get_or c.args.operands.now i (pos 0))) c.args.at c.args.values.now;
    }

pub loop-i-preserved : goal.loop-i-preserved
loop-i-preserved c =
    let l = c.loop-i in
    let x = c.number_at.result in
    record {
      long = length-set l.values (c.args.at + l.i) x ∙ l.invariant.long;
      told =
          written-more (λ (i : ℕ). unsigned (get_or c.args.operands.now i (pos 0))) c.args.at l.i
          (take c.args.at c.args.values.now) l.values x c.number_at.ensures
          (omega (arith, c.requires, l.invariant.long))
          l.invariant.told;
    }
