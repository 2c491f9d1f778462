use Rattle.std.proofs.Common.{◌∙◌, ◌≤◌, ℕ, codes, lit<, subst, sym}
use Rattle.std.specs.Option.{IsSomeAnd}
use Rattle.std.specs.Str.Parse.{ExplainsUnsignedError, HasUnsignedDigitsIfOk, ParsesUnsigned}
use Rattle.clap.specs.Words.{IsUnsignedIn, found_of, one_text}
use Rattle.clap.proofs.WalkLemmas.{one_text-rows}
use Rattle.fmp.proofs.Entering.{number_given, number_read}
use Rattle.fmp.proofs.reading.bound_of.Goals as goal

pub unwrap-requires : goal.unwrap-requires
unwrap-requires c =
    let found = found_of c.args.words.now in
    number_given 64 1 281474976710656 (λ word read. ParsesUnsigned 64 10 word read
    × ExplainsUnsignedError 10 word read × HasUnsignedDigitsIfOk word read)
    (one_text found (codes "bound")) c.get_one.result (lit< tt)
    (subst (λ text. IsSomeAnd text (IsUnsignedIn 1 281474976710656)) (sym (one_text-rows found (codes "bound")))
    c.requires)
    c.get_one.ensures.value (λ t r given. given.0)

pub returns : goal.returns
returns c =
    let found = found_of c.args.words.now in
    let (word, is, gives) = number_read (λ word read. ParsesUnsigned 64 10 word read
    × ExplainsUnsignedError 10 word read × HasUnsignedDigitsIfOk word read)
    (one_text found (codes "bound")) c.get_one.result c.unwrap.result c.get_one.ensures.none c.get_one.ensures.value
    c.unwrap.ensures in
    let there = sym (one_text-rows found (codes "bound")) ∙ is in
    let bounds : IsUnsignedIn 1 281474976710656 word = subst (λ o. IsSomeAnd o (IsUnsignedIn 1 281474976710656)) there
    c.requires in
    let number = gives.0.1 in
    record {
      number = (word, there, number);
      range = (
        subst (λ (n : ℕ). 1 ≤ n) (sym number) bounds.2,
        subst (λ (n : ℕ). n ≤ 281474976710656)
            (sym number) bounds.3,
      );
    }
