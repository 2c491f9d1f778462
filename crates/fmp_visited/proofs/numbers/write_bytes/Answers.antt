use Rattle.std.proofs.Common.{◌++◌, ◌-◌, ◌+◌, ◌/◌, ◌%◌, ℕ, List, refl, ap, ◌∙◌, take, arith}
use Rattle.std.proofs.lemmas.List.{length-set, take_more_set}
use Rattle.fmp_visited.specs.Rows.{bytes_of, number_in}
use Rattle.fmp_visited.proofs.NumberLemmas.{written-more}
use Rattle.fmp_visited.proofs.numbers.write_bytes.Goals as goal

pub loop-byte-init : goal.loop-byte-init
unfolding bytes_of
loop-byte-init c = record { long = refl; place = omega arith; told = refl }

pub loop-byte-preserved : goal.loop-byte-preserved
loop-byte-preserved c =
    let l = c.loop-byte in
    let x = l.rest % 128 + 128 in
    record {
      long = length-set l.row l.end x ∙ l.invariant.long;
      place = omega (arith, l.invariant.place);
      told =
          ap (λ (bytes : List ℕ). bytes ++ number_in (5 - (l._byte + 1)) (l.rest / 128))
          (take_more_set l.row l.end x (omega (arith, l.invariant.long, l.invariant.place, c.requires)))
          ∙ written-more (take l.end l.row) (take c.args.at c.args.row.now) l._byte l.rest (bytes_of c.args.number)
          (omega arith) (omega arith) l.invariant.told;
    }
