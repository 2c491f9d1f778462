use Rattle.std.proofs.Common.{◌+◌, ℕ, refl, ◌∙◌, take, arith}
use Rattle.std.specs.Prelude.{get_or, pos}
use Rattle.fmp_live.specs.Zeroed.{zeroed_by}
use Rattle.fmp_reachable.specs.Numbers.{unsigned}
use Rattle.std.proofs.lemmas.List.{length-set}
use Rattle.fmp_fields.proofs.Pieces.{written-more, written-none}
use Rattle.fmp_fields.proofs.piece_values.write_locals.Goals as goal

pub loop-l-init : goal.loop-l-init
loop-l-init c =
    record {
      long = refl;
      told =
          written-none (λ (l : ℕ). unsigned (get_or (zeroed_by c.args.row.now c.args.locals.now) l (pos 0)))
          c.args.at c.args.values.now;
    }

pub loop-l-preserved : goal.loop-l-preserved
loop-l-preserved c =
    let l = c.loop-l in
    let x = c.local_at.result in
    record {
      long = length-set l.values (c.args.at + l.l) x ∙ l.invariant.long;
      told =
          written-more (λ (l : ℕ). unsigned (get_or (zeroed_by c.args.row.now c.args.locals.now) l (pos 0)))
          c.args.at l.l (take c.args.at c.args.values.now) l.values x c.local_at.ensures
          (omega (arith, c.requires, l.invariant.long))
          l.invariant.told;
    }
