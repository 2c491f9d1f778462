-- Questions that are asked with the same codes at calls.
use Rattle.std.proofs.Common.{◌≡◌, List, subst}
use Rattle.fmp_base.specs.Systems.{SystemTables}
use Rattle.fmp_expect.specs.declared.expectation.Expected.{Expected}
use Rattle.fmp_instructions.specs.Instructions.{BodyTables}
use Rattle.fmp_question.specs.declared.question.Question.{Question}
use Rattle.fmp_searching.specs.Questions.{IsQuestionWith}
use Rattle.fmp_frames.specs.CallPositions.{TextBody}
use Rattle.fmp_searching.specs.declared.asking.ExploreWords.{ExploreWords}
use Rattle.fmp_searching.specs.declared.words.CodeAt.{CodeAt}

pub with_same_codes : (a : ExploreWords) (expected : List Expected) (codes same : List CodeAt) (system : SystemTables)
    (code : List BodyTables) (bodies : List TextBody) (q : Question) → codes ≡ same
    → IsQuestionWith a expected codes system code bodies q → IsQuestionWith a expected same system code bodies q
with_same_codes a expected codes same system code bodies q e asks =
    subst (λ (cs : List CodeAt). IsQuestionWith a expected cs system code bodies q) e asks
