-- What was taken of known bytes is their front, and one more read takes more of it.
use Rattle.std.proofs.Common.{◌≡◌, ◌≤◌, ◌+◌, ◌++◌, ◌⊎◌, inl, inr, ℕ, List, Option, None, Some, IfSome, length, take}
use Rattle.std.proofs.Common.{sym, ap, ◌∙◌, append-nil, take_all, arith, subst, length-append}
use Rattle.std.specs.Io.KnownBytes.{Consumes, IsAtEnd}
use Rattle.std.proofs.KnownBytes.{Consumes-trans}
use Rattle.std.proofs.lemmas.List.{take_at}
use Rattle.fmp_files.specs.Files.{IsPast, IsWithin, ReadsMore, front}

pub read_front : (old new : Option (List ℕ)) (limit : Option ℕ) (bytes : List ℕ) → Consumes old new bytes
    → IsWithin limit (length bytes)
    → IsAtEnd new ⊎ IsPast limit (length bytes) → IfSome old (λ all. bytes ≡ front limit all)
read_front None new limit bytes taken within last = tt
read_front (Some all) None limit bytes taken within last = absurd taken
read_front (Some all) (Some rest) None bytes taken within (inl end) = sym
    (taken ∙ ap (λ r. bytes ++ r) end ∙ append-nil bytes)
read_front (Some all) (Some rest) None bytes taken within (inr past) = absurd past
read_front (Some all) (Some rest) (Some limit) bytes taken within (inl end) =
    sym (ap (take (limit + 1)) (taken ∙ ap (λ r. bytes ++ r) end ∙ append-nil bytes)
    ∙ take_all (limit + 1) bytes within)
read_front (Some all) (Some rest) (Some limit) bytes taken within (inr past) =
    sym (ap (take (limit + 1)) taken ∙ take_at bytes rest (limit + 1) (omega arith))

pub within_less : (limit : Option ℕ) (less more : ℕ) → less ≤ more → IsWithin limit more → IsWithin limit less
within_less None less more le within = tt
within_less (Some limit) less more le within = omega arith

pub one_more : (left between after : Option (List ℕ)) (limit : Option ℕ) (room most count : ℕ)
    (bytes bytes_after : List ℕ)
    → Consumes left between bytes → IsWithin limit (length bytes + room) → most ≤ room
    → ReadsMore most between after bytes bytes_after count
    → Consumes left after bytes_after × IsWithin limit (length bytes_after)
one_more left between after limit room most count bytes bytes_after taken within fits one = (
  subst (Consumes left after) (sym one.appended) (Consumes-trans _ _ _ _ _ taken one.taken),
  within_less limit (length bytes_after) (length bytes + room)
      (omega (arith, ap length one.appended, length-append bytes one.more, one.counted, one.few)) within,
)
