use Rattle.std.proofs.Common.{codes, lit<}
use Rattle.std.specs.Str.Parse.{ExplainsUnsignedError, HasUnsignedDigitsIfOk, ParsesUnsigned}
use Rattle.clap.specs.Words.{found_of, one_text, rows_of}
use Rattle.clap.proofs.WalkLemmas.{one_text-rows}
use Rattle.fmp.proofs.Entering.{number_if_given}
use Rattle.fmp.proofs.reading.tick_us_of.Goals as goal

pub returns : goal.returns
returns c =
    let found = found_of c.args.words.now in
    let given = number_if_given 32 1000000 (λ word read. ParsesUnsigned 32 10 word read
    × ExplainsUnsignedError 10 word read × HasUnsignedDigitsIfOk word read)
    (rows_of found) (codes "tick-us") (one_text found (codes "tick-us")) c.get_one.result
    (one_text-rows found (codes "tick-us")) (lit< tt) c.requires c.get_one.ensures.none c.get_one.ensures.value
    (λ t r parsed. parsed.0) in
    record { number = given.0; range = given.1 }
