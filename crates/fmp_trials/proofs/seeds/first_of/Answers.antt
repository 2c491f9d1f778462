use Rattle.std.proofs.Common.{◌≡◌, ◌∙◌, ◌+◌, ◌<◌, ◌≤◌, ℕ, Ok, ap, arith, length, rules, vec_len}
use Rattle.fmp_trials.specs.Parts.{first_of}
use Rattle.fmp_trials.proofs.Parts.{gives_up, goes_on, is_over, stops}
use Rattle.fmp_trials.proofs.seeds.first_of.Goals as goal

some : (n i end : ℕ) → n + i ≡ end → i < end → 0 < n
some n i end left before = omega (arith, left, before)

none : (n i end : ℕ) → n + i ≡ end → end ≤ i → n ≡ 0
none n i end left after = omega (arith, left, after)

pub remove-requires : goal.remove-requires
remove-requires c =
    let count : vec_len c.loop-part.parts ≡ length c.loop-part.parts.items = search rules in
    rw count (some _ _ _ c.loop-part.invariant.left c.loop-part-test.true)

pub returns-in-Ok-Some : goal.returns-in-Ok-Some
returns-in-Ok-Some c =
    stops c.loop-part.parts.items c.remove.result c.in-Ok-Some.found
    (some _ _ _ c.loop-part.invariant.left c.loop-part-test.true) c.remove.ensures.value
    (c.in-Ok-Some.is ∙ ap (λ o. Ok o) c.in-Ok-Some.field-0-is)
    ∙ c.loop-part.invariant.same

pub returns-in-Err : goal.returns-in-Err
returns-in-Err c =
    gives_up c.loop-part.parts.items c.remove.result c.in-Err.error
    (some _ _ _ c.loop-part.invariant.left c.loop-part-test.true) c.remove.ensures.value c.in-Err.is
    ∙ c.loop-part.invariant.same

pub loop-part-preserved : goal.loop-part-preserved
loop-part-preserved c =
    let before : vec_len c.loop-part.parts ≡ length c.loop-part.parts.items = search rules in
    let after : vec_len c.remove.new.self ≡ length c.remove.new.self.items = search rules in
    record {
      same =
          ap (λ parts. first_of parts) c.remove.ensures.items
          ∙ goes_on c.loop-part.parts.items c.remove.result
          (some _ _ _ c.loop-part.invariant.left c.loop-part-test.true) c.remove.ensures.value
          (c.in-Ok-None.is ∙ ap (λ o. Ok o) c.in-Ok-None.field-0-is)
          ∙ c.loop-part.invariant.same;
      left = omega (arith, c.remove.ensures.len, c.loop-part.invariant.left, before, after);
    }

pub returns : goal.returns
returns c =
    is_over c.loop-part.parts.items (none _ _ _ c.loop-part.invariant.left c.loop-part-test.false)
    ∙ c.loop-part.invariant.same
