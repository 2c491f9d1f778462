use Rattle.std.specs.Str.Parse.{ExplainsUnsignedError, HasUnsignedDigitsIfOk, ParsesUnsigned}
use Rattle.clap.specs.Words.{found_of}
use Rattle.clap.proofs.WalkLemmas.{one_text-rows}
use Rattle.fmp_arguments.proofs.GivenWords.{number_is}
use Rattle.fmp_arguments.proofs.given.word32_of.Goals as goal

pub returns : goal.returns
returns c =
    let words = found_of c.args.words.now in
    number_is 32
    (λ word read. ParsesUnsigned 32 10 word read
    × ExplainsUnsignedError 10 word read × HasUnsignedDigitsIfOk word read) _ _
    c.get_one.result (one_text-rows words c.args.id.now)
    c.get_one.ensures.none c.get_one.ensures.value (λ t r gives. gives.0)
