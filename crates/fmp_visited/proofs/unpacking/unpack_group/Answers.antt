use Rattle.std.proofs.Common.{◌+◌, ◌++◌, ◌∙◌, get_or, drop, refl, rules, sym, arith}
use Rattle.std.proofs.lemmas.List.{length-set}
use lib.Count.{count_trailing_zeros}
use Rattle.fmp_visited.specs.Rows.{changes_of}
use Rattle.fmp_visited.proofs.ChangeLemmas.{next-change, none-left, unpacking-bytes, unpacking-end, unpacking-more}
use Rattle.fmp_visited.proofs.ExactLemmas.{and_differs, read-begun, read-more, read-whole}
use Rattle.fmp_visited.proofs.unpacking.unpack_group.Goals as goal

pub loop-change-init : goal.loop-change-init
loop-change-init c =
    record {
      done = omega arith;
      within = omega arith;
      long = refl;
      told = λ v rest same values mask bytes. record { masks = mask; bytes = bytes; front = refl; back = refl };
      read = λ yes. read-begun c.args.row.now c.args.values.now c.args.place c.args.mask;
    }

pub loop-change-preserved : goal.loop-change-preserved
loop-change-preserved c =
    let l = c.loop-change in
    let row = c.args.row.now in
    let old = c.args.values.now in
    let s = count_trailing_zeros 8 l.bits in
    let j = l.field + s in
    let x = c.number_at-read.result in
    let long = length-set l.values j x.number in
    record {
      done = omega (arith, l.invariant.done);
      within = omega (arith, long);
      long = long ∙ l.invariant.long;
      told = λ v rest same values mask bytes.
          let u = l.invariant.told v rest same values mask bytes in
          let n =
          next-change l.field s l.bits old v c.requires u.masks c.if-bits-eq0.false refl in
          let got =
          c.number_at-read.ensures.told (get_or v j 0) (changes_of (drop (j + 1) old) (drop (j + 1) v) ++ rest)
          (values j 0 n.in_values) (unpacking-bytes row old v l.values l.field s l.bits l.at rest n u) in
          unpacking-more row old v l.values l.field s l.bits l.at x.number x.end rest l.invariant.long n u got.0
          got.1;
      read = λ yes.
          read-more row old l.values c.args.place c.args.mask l.field s l.bits l.at x.number x.end l.invariant.long
          c.if-bits-eq0.false (omega arith) refl (omega arith) (and_differs _ x.number (get_or l.values j 0) yes)
          (c.number_at-read.ensures.exact (search rules)) (l.invariant.read (search rules));
    }

pub returns-then-bits-eq0-clause-told : goal.returns-then-bits-eq0-clause-told
returns-then-bits-eq0-clause-told c = λ v rest same values mask bytes.
    let l = c.loop-change in
    let u = l.invariant.told v rest same values mask bytes in
    unpacking-end c.args.row.now c.args.values.now v l.values l.field l.bits l.at rest same
    (sym u.masks ∙ c.if-bits-eq0.true) u

pub returns-then-field-values-clause-told : goal.returns-then-field-values-clause-told
returns-then-field-values-clause-told c = λ v rest same values mask bytes.
    let l = c.loop-change in
    let u = l.invariant.told v rest same values mask bytes in
    let s = count_trailing_zeros 8 l.bits in
    let n = next-change l.field s l.bits c.args.values.now v c.requires u.masks c.if-bits-eq0.false refl in
    absurd (omega (arith, n.in_first, l.invariant.long, c.if-field-values.true))

pub returns-then-bits-eq0-clause-exact : goal.returns-then-bits-eq0-clause-exact
returns-then-bits-eq0-clause-exact c = λ yes.
    let l = c.loop-change in
    read-whole c.args.row.now c.args.values.now l.values c.args.place c.args.mask l.field l.bits l.at
    c.if-bits-eq0.true (l.invariant.read yes)

pub returns-clause-exact : goal.returns-clause-exact
returns-clause-exact c = λ yes.
    let l = c.loop-change in
    read-whole c.args.row.now c.args.values.now l.values c.args.place c.args.mask l.field l.bits l.at
    (search rules) (l.invariant.read (search rules))

pub returns-clause-told : goal.returns-clause-told
returns-clause-told c = λ v rest same values mask bytes.
    let l = c.loop-change in
    let old = c.args.values.now in
    let none = none-left l.field old v (omega (arith, l.invariant.done, c.requires)) in
    unpacking-end c.args.row.now old v l.values l.field l.bits l.at rest same none
    (l.invariant.told v rest same values mask bytes)
