use Rattle.std.proofs.Common.{◌≡◌, ℕ, List, length, Some, subst, arith}
use Rattle.std.specs.Prelude.{IsTrue, get_or, nat_le, slice_get}
use Rattle.std.proofs.lemmas.Bool.{leb-true}
use Rattle.std.proofs.lemmas.Option.{slice_get-get_or, slice_get_within}
use Rattle.fmp_instructions.specs.declared.instructions.Instruction.{Instruction}
use Rattle.fmp_instructions.specs.declared.instructions.Instruction.TheVariants.{End}
use Rattle.fmp_instructions.specs.Verify.{AreLow, EachFits, wants}
use Rattle.fmp_instructions.proofs.Conjunctions.{and-left}
use Rattle.fmp_instructions.proofs.verifier.each_fits.Goals as goal

-- where each instruction fits, no depth is above 64
are_low_where_each_fits :
    (locals : ℕ) (code : List Instruction) (depths : List ℕ)
    → length depths ≡ length code
    → EachFits locals code depths
    → AreLow depths
are_low_where_each_fits locals code depths long each place d here =
    let within = slice_get_within depths place d here in
    let there : slice_get code place ≡ Some (get_or code place End) =
    slice_get-get_or code place End (omega (arith, within, long)) in
    leb-true d 64
    (and-left (nat_le d 64) (wants locals depths place d (get_or code place End))
    (each place (get_or code place End) d there here))

pub returns-then-not-are_low : goal.returns-then-not-are_low
returns-then-not-are_low c = (
  λ no. cc,
  λ each.
      subst IsTrue c.if-not-are_low.true
      (c.are_low.ensures.1
      (are_low_where_each_fits c.args.locals c.args.instructions.now c.args.depths.now c.requires each)),
)
