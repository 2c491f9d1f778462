-- What the marks of a search tell of the calls of a code: which were made, and what they were answered.
use Rattle.std.specs.Prelude.{ℕ, List, [], ◌∷◌, Bool, true, false, not, Option, Some, None, bit_and, nat_eq}
use Rattle.std.specs.Prelude.{option_and_then}
use Rattle.std.specs.Prelude.{slice_get, unwrap_or, if◌then◌else◌}
use Rattle.std.specs.List.{flat_map}
use Rattle.fmp_base.specs.declared.codes.Er.{Er}
use Rattle.fmp_base.specs.declared.codes.Er.TheVariants as er
use Rattle.fmp_question.specs.declared.question.TheConstants.{ANSWERS}
use Rattle.fmp_question.specs.declared.site.CallSite.{CallSite}
use Rattle.fmp_witness.specs.declared.coverage.Coverage.{Coverage}

-- the call at a place was made
abbrev pub was_made : Coverage → CallSite → Bool
was_made c site =
    unwrap_or (option_and_then (λ row. slice_get row.items site.pc) (slice_get c.calls.made.items site.body)) false

-- the bits of the codes that the call at a place got
abbrev pub bits_at : Coverage → CallSite → ℕ
bits_at c site =
    unwrap_or (option_and_then (λ row. slice_get row.items site.pc) (slice_get c.calls.answers.items site.body)) 0

-- the bit of a code; 0 for one that no call answers
abbrev pub bit_of : Er → ℕ
bit_of er.Ok = 1
bit_of er.Par = 2
bit_of er.Id = 4
bit_of er.Ctx = 8
bit_of er.Iluse = 16
bit_of er.Obj = 32
bit_of er.Qovr = 64
bit_of er.Rlwai = 128
bit_of er.Tmout = 256
bit_of er.Sys = 0
bit_of er.Nospt = 0
bit_of er.Rsatr = 0

-- a code, if it is one of these bits
abbrev pub answer_in : (bits : ℕ) → Er → List Er
answer_in bits code = if nat_eq (bit_and bits (bit_of code)) 0 then [] else code ∷ []

abbrev pub answers_in : (bits : ℕ) → List Er → List Er
answers_in bits codes = flat_map (λ code. answer_in bits code) codes

-- the codes that the call at a place got, each once
abbrev pub answers_at : Coverage → CallSite → List Er
answers_at c site = answers_in (bits_at c site) ANSWERS
