-- Texts that begin with other texts.
use Rattle.std.proofs.Common.{ℕ, ◌≡◌, ◌∙◌, List, [], ◌++◌, Bool, true, false, ap, append-nil, append_assoc, cond}
use Rattle.std.proofs.Common.{length}
use Rattle.std.proofs.Common.{sym, take}
use Rattle.std.proofs.Math.Seq.{take-append_seam}
use Rattle.fmp_trace.specs.Fronts.{Begins}

pub begins_if : {before after : List ℕ} (more : List ℕ) (b : Bool) → after ≡ cond b (before ++ more) before
    → Begins before after
begins_if more true e = record { rest = more; whole_is = e }
begins_if {before = before} more false e = record { rest = []; whole_is = e ∙ sym (append-nil before) }

pub begins_on : {front middle whole : List ℕ} → Begins front middle → Begins middle whole → Begins front whole
begins_on {front = front} a b =
    record {
      rest = a.rest ++ b.rest;
      whole_is = b.whole_is ∙ ap (λ (xs : List ℕ). xs ++ b.rest) a.whole_is ∙ append_assoc front a.rest b.rest;
    }

pub front_of : {front whole : List ℕ} → Begins front whole → take (length front) whole ≡ front
front_of {front = front} b = ap (λ (xs : List ℕ). take (length front) xs) b.whole_is ∙ take-append_seam front b.rest
