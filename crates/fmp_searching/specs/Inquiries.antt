-- What an inquiry asks: the words of a command and the sentences of a text, of an image.
use Rattle.std.specs.Prelude.{◌≡◌, List, Ok, Result}
use Rattle.fmp_base.specs.Systems.{tables_of}
use Rattle.fmp_expect.specs.CallSentences.{other_sentences_of}
use Rattle.fmp_expect.specs.declared.expectation.Expected.{Expected}
use Rattle.fmp_question.specs.declared.question.Question.{Question}
use Rattle.fmp_searching.specs.Questions.{AreKnown, IsAsked, IsQuestionOf, IsQuestionWith, IsWanted}
use Rattle.fmp_searching.specs.declared.asked_question.Inquiry.{Inquiry}
use Rattle.fmp_searching.specs.declared.asking.CommandMistake.{CommandMistake}
use Rattle.fmp_searching.specs.declared.words.CodeAt.{CodeAt}

-- its choices are those of its words
abbrev pub AreWanted : Inquiry → Type 0
AreWanted i = IsWanted i.wanted.now.asked (Ok i.wanted.now)

-- its words name tasks, and lines with calls
abbrev pub AreKnownIn : Inquiry → Type 0
AreKnownIn i = AreKnown i.wanted.now.asked i.image.now.system i.image.now.code i.lines.now

-- its text has these sentences that are not about calls
abbrev pub Says : Inquiry → List Expected → Type 0
Says i expected = other_sentences_of (tables_of i.configured.now) i.text.now ≡ Ok expected

-- it asks this question, if it has these sentences, and these codes at calls
abbrev pub AsksWith : Inquiry → List Expected → List CodeAt → Question → Type 0
AsksWith i expected codes q =
    IsQuestionWith i.wanted.now.asked expected codes i.image.now.system i.image.now.code i.lines.now q

-- it asks this question
abbrev pub Asks : Inquiry → Question → Type 0
Asks i q =
    IsQuestionOf i.wanted.now.asked i.text.now (tables_of i.configured.now) i.image.now.system i.image.now.code
    i.lines.now q

-- it asks this, or this is mistaken in it
abbrev pub IsAskedBy : Inquiry → Result Question CommandMistake → Type 0
IsAskedBy i asked =
    IsAsked i.wanted.now.asked i.text.now (tables_of i.configured.now) i.image.now.system i.image.now.code i.lines.now
    asked
