use Rattle.std.proofs.Common.{◌≡◌, ◌≤◌, ◌+◌, ◌-◌, ◌*◌, ◌/◌, ◌∙◌, drop, length, length-drop, min, refl, rules, take}
use Rattle.std.proofs.Common.{arith}
use Rattle.std.proofs.lemmas.List.{length-take-le}
use Rattle.fmp_visited.specs.Rows.{group_at, groups_from}
use Rattle.fmp_visited.proofs.RowLemmas.{values-group}
use Rattle.fmp_visited.proofs.ReadingLemmas.{length-fields, part-length, part-told, unpack-begun, unpack-end}
use Rattle.fmp_visited.proofs.ReadingLemmas.{unpack-group, unpack-more, unpack-there}
use Rattle.fmp_visited.proofs.ExactLemmas.{groups-begun, groups-next, groups-whole}
use Rattle.fmp_visited.proofs.unpacking.unpack_groups.Goals as goal

pub loop-group-init : goal.loop-group-init
loop-group-init c =
    record {
      long = refl;
      told = λ v same values told. unpack-begun c.args.row.now c.args.values.now v c.args.values.now refl told;
      read = λ yes. groups-begun c.args.row.now c.args.values.now;
    }

pub loop-group-preserved : goal.loop-group-preserved
loop-group-preserved c =
    let l = c.loop-group in
    let row = c.args.row.now in
    let old = c.args.values.now in
    let s = l.group * 8 in
    let k = s + c.min-count.result - s in
    let is : k ≡ c.min-count.result = omega arith in
    let few : k ≡ min 8 (length l.values - s) = is ∙ c.min-count.ensures in
    let fields = take k (drop s l.values) in
    let part = c.unpack_group-end.new.values in
    let size = c.unpack_group-end.ensures.length in
    record {
      long = part-length l.values part s k (omega arith) size ∙ l.invariant.long;
      told = λ v same values told.
          let u = l.invariant.told v same values told in
          let le : s ≤ length v = omega (arith, same) in
          let here = part-told row old v l.values l.group l.at k le few u in
          let stands = unpack-group row old v l.values fields l.group l.at (omega arith) here u in
          let got =
          c.unpack_group-end.ensures.told (group_at s v)
          (groups_from (length old / 8 + 1 - (l.group + 1)) ((l.group + 1) * 8) old v)
          (length-fields s old v fields same here) (values-group s v values) stands.0 stands.1 in
          unpack-more row old v l.values part l.group l.at c.unpack_group-end.result.0 k le few u got.0 got.1;
      read = λ yes.
          let got = c.unpack_group-end.ensures.exact (search rules) in
          groups-next row old l.values part l.group k l.at c.unpack_group-end.result.0 l.invariant.long (omega arith)
          (omega arith) few (size ∙ length-take-le k (drop s l.values) (omega (arith, length-drop s l.values)))
          got.0 got.1 (l.invariant.read (search rules));
    }

pub returns-clause-exact : goal.returns-clause-exact
returns-clause-exact c = λ yes.
    let l = c.loop-group in
    groups-whole c.args.row.now c.args.values.now l.values l.group l.at (omega arith) (search rules)
    (l.invariant.read (search rules))

pub returns-clause-told : goal.returns-clause-told
returns-clause-told c v same values told =
    let l = c.loop-group in
    unpack-end c.args.row.now c.args.values.now v l.values l.group l.at same (omega arith)
    (l.invariant.told v same values told)

pub returns-then-at-row-clause-told : goal.returns-then-at-row-clause-told
returns-then-at-row-clause-told c v same values told =
    let l = c.loop-group in
    absurd (unpack-there c.args.row.now c.args.values.now v l.values l.group l.at (omega arith) c.if-at-row.true
    (l.invariant.told v same values told))
