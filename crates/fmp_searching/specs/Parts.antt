-- What a claim is made of, part by part.
use Rattle.std.specs.Prelude.{ℕ, ◌-◌, List, [], ◌∷◌, ◌++◌, drop, length, nat_lt, take, if◌then◌else◌}
use Rattle.std.specs.List.{flat_map}
use Rattle.fmp_question.specs.declared.question.Question.{Question}
use Rattle.fmp_searching.specs.Claims.{ClaimTables, deadlock_text, faults_text, never_at_text, never_text}
use Rattle.fmp_searching.specs.Sentences.{subject_text}

-- a part without the comma and the blank after it, if it says something
abbrev pub part_of : List ℕ → List (List ℕ)
part_of text = if nat_lt 2 (length text) then take (length text - 2) text ∷ [] else []

-- what must never happen: anywhere, but for faults, and the first of what must never happen at calls
abbrev pub never_parts : ClaimTables → (at_calls : ℕ) → List (List ℕ)
never_parts c at_calls =
    flat_map (λ n. part_of (never_text c.image.system n)) c.question.nevers.items
    ++ flat_map (λ n. part_of (never_at_text c.image.system c.image.code c.bodies n))
    (take at_calls c.question.nevers_at.items)

abbrev pub monitor_parts : ClaimTables → List (List ℕ)
monitor_parts c = flat_map (λ m. part_of (subject_text c.configured m.subject)) c.question.monitors.items

-- which faults no body may stop with, without the comma and the blank before
abbrev pub fault_parts : Question → List (List ℕ)
fault_parts q =
    if nat_lt 2 (length (faults_text q.nevers.items)) then drop 2 (faults_text q.nevers.items) ∷ [] else []

-- what no list of events comes to, each part alone
abbrev pub claim_parts : ClaimTables → List (List ℕ)
claim_parts c =
    never_parts c (length c.question.nevers_at.items)
    ++ (monitor_parts c ++ (deadlock_text c.image.system c.question ∷ fault_parts c.question))
