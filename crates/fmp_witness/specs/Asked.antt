-- What is asked of an image.
use Rattle.std.specs.Prelude.{ℕ}
use Rattle.fmp_base.specs.Meanings.{Meaning}
use Rattle.fmp_question.specs.declared.question.Question.{Question}
use Rattle.fmp_image_bytes.specs.Images.{ImageTables}
use Rattle.fmp_instructions.specs.Machine.{code_meaning}
use Rattle.fmp_instructions.specs.declared.instructions.MachineContext.{MachineContext}
use Rattle.fmp_witness.specs.declared.subject.SearchSubject.{SearchSubject}

-- an image, the most instructions of a stretch of its bodies, and the question
pub record Asked : Type 0 where
  pub image : ImageTables
  pub bound : ℕ
  pub question : Question

-- what is asked by the subject of a search
abbrev pub asked_of : SearchSubject → Asked
asked_of s = record { image = s.image.now; bound = s.n; question = s.question.now }

-- what the bodies of the image mean
abbrev pub meaning_of : Asked → Meaning MachineContext
meaning_of asked = code_meaning asked.image.code
