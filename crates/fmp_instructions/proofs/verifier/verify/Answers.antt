use Rattle.std.proofs.Common.{rules, ◌≡◌, ℕ, length, Some, slice_get, IsTrue, subst, arith, refl}
use Rattle.std.proofs.lemmas.Option.{slice_get_within, slice_get_read}
use borrow.Author.Count.{below_more}
use Rattle.fmp_instructions.specs.declared.instructions.BodyCode.{BodyCode}
use Rattle.fmp_instructions.specs.Instructions.{body_tables}
use Rattle.fmp_instructions.specs.Verify.{VerifiedBody}
use Rattle.fmp_instructions.proofs.Bodies.{Verified-map, Verified-body}
use Rattle.fmp_instructions.proofs.verifier.verify.Goals as goal

pub returns-then-not-verify_body : goal.returns-then-not-verify_body
returns-then-not-verify_body c =
    let bodies = c.deref-body-items.result.now in
    let here : slice_get bodies c.loop-body.body-index ≡ Some c.body-item.result =
    slice_get_read bodies (length bodies) c.loop-body.body-index c.body-item.result refl
    c.loop-body-test.true c.body-item.is in
    let there : slice_get c.args.code.now.bodies.items c.loop-body.body-index ≡ Some c.body-item.result = cc in (
      λ no. cc,
      λ all.
          subst IsTrue c.if-not-verify_body.true
          (c.verify_body.ensures.1
          (Verified-body c.args.code.now.bodies.items c.loop-body.body-index c.body-item.result all there)),
    )

pub loop-body-preserved : goal.loop-body-preserved
loop-body-preserved c =
    let bodies = c.deref-body-items.result.now in
    let index = c.loop-body.body-index in
    let here : slice_get bodies index ≡ Some c.body-item.result =
    slice_get_read bodies (length bodies) index c.body-item.result refl c.loop-body-test.true c.body-item.is in
    let yes : IsTrue c.verify_body.result = search rules in
    λ k body below at.
    below_more
    (λ (j : ℕ). (b : BodyCode) → slice_get bodies j ≡ Some b → VerifiedBody (body_tables b))
    index
    (λ j less b there. c.loop-body.invariant j b less there)
    (λ b there.
    let same : c.body-item.result ≡ b = cc in
    subst (λ (x : BodyCode). VerifiedBody (body_tables x)) same (c.verify_body.ensures.0 yes))
    k below body at

pub returns : goal.returns
returns c = (
  λ _.
      Verified-map c.args.code.now.bodies.items
      (λ k body here.
      let there : slice_get c.deref-body-items.result.now k ≡ Some body = cc in
      let within = slice_get_within c.deref-body-items.result.now k body there in
      c.loop-body.invariant k body (omega arith) there),
  λ _. search rules,
)
