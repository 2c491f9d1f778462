-- How commands end that compare and judge runs: their statuses.
use Rattle.std.proofs.Common.{◌≡◌, ◌∙◌, ◌⊎◌, ℕ, List, Bool, Option, ap, arith, inl, inr, max}
use Rattle.clap.specs.declared.error.kind.ErrorKind.{ErrorKind}
use Rattle.fmp_files.specs.Deeds.{Deed}
use Rattle.fmp_files.specs.Endings.{EndsRefused, IsShown, no_memory, shown, told}
use Rattle.fmp_files.specs.Prints.{Prints}
use Rattle.fmp_looking.specs.TestDeeds.{IsDone, IsRefusal}
use Rattle.fmp_looking.proofs.TestEnds.{not_done, printing_ends, refusal_by, three_refuses}
use Rattle.fmp_looking.proofs.TestEnds.{two_refuses}

-- a fault that is shown, where there is one
pub fault_refuses : (fault status : ℕ) → (fault ≡ 0) ⊎ ((fault ≡ 1) ⊎ (fault ≡ 3)) → status ≡ max fault 1
    → IsRefusal status
fault_refuses fault status h is = elim h [
  | inl zeroth ↦ refusal_by status 1 (is ∙ ap (λ (n : ℕ). max n 1) zeroth) (omega arith, omega arith)
  | inr more ↦ elim more [
    | inl first ↦ refusal_by status 1 (is ∙ ap (λ (n : ℕ). max n 1) first) (omega arith, omega arith)
    | inr third ↦ three_refuses status (is ∙ ap (λ (n : ℕ). max n 1) third)
  ]
]

-- a status that is that of a verdict, or a refusal
pub done_of : (status verdict : ℕ) → (status ≡ verdict) ⊎ IsRefusal status → IsDone status → status ≡ verdict
done_of status verdict one_of done = elim one_of [
  | inl is ↦ is
  | inr refused ↦ absurd (not_done status refused done)
]

-- what is shown of help or of the version, where words that are refused end with a status of what is done
pub shown_of : (kind : ErrorKind) (can_fail : Bool) (before after : Option (List Deed)) (status : ℕ)
    → EndsRefused kind can_fail before after status → IsDone status
    → IsShown kind × ((text : List ℕ) × Prints before text after)
shown_of kind can_fail before after status (shown text is prints) done =
    elim (printing_ends text can_fail before after status prints) [
      | inl all ↦ (is, (text, all.1))
      | inr failed ↦ absurd (not_done status (three_refuses status failed) done)
    ]
shown_of kind can_fail before after status (told isnt other says is) done =
    absurd (not_done status (two_refuses status is) done)
shown_of kind can_fail before after status (no_memory why says is) done =
    absurd (not_done status (three_refuses status is) done)
