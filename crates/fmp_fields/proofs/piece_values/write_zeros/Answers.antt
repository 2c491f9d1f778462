use Rattle.std.proofs.Common.{◌≡◌, ◌+◌, ◌++◌, ℕ, map, refl, subst, sym, ◌∙◌, take, arith}
use Rattle.std.specs.List.{range_with_len}
use Rattle.std.proofs.lemmas.List.{length-set}
use Rattle.fmp_fields.proofs.Pieces.{written-more, written-none}
use Rattle.fmp_fields.proofs.piece_values.write_zeros.Goals as goal

pub loop-field-init : goal.loop-field-init
loop-field-init c =
    record {
      long = refl;
      told = written-none (λ (n : ℕ). 0) c.args.at c.args.values.now;
    }

pub loop-field-preserved : goal.loop-field-preserved
loop-field-preserved c =
    let l = c.loop-field in
    record {
      long = length-set l.values (c.args.at + l.field) 0 ∙ l.invariant.long;
      told =
          written-more (λ (n : ℕ). 0) c.args.at l.field
          (take c.args.at c.args.values.now) l.values 0 refl (omega (arith, c.requires, l.invariant.long))
          l.invariant.told;
    }

pub returns-then-count-eq2-clause-values : goal.returns-then-count-eq2-clause-values
returns-then-count-eq2-clause-values c =
    subst (λ (n : ℕ). take (c.args.at + n) c.write_array.new.values
    ≡ take c.args.at c.args.values.now ++ map (λ (k : ℕ). 0) (range_with_len 0 n)) (sym c.if-count-eq2.true)
    c.write_array.ensures.values
