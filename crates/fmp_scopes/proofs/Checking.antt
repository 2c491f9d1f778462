-- Entries are checked one after another.
use Rattle.std.proofs.Common.{◌≡◌, ℕ, suc, ◌<◌, List, Some, Err, length, slice_get, drop, get_or, sym, ap, ◌∙◌}
use Rattle.std.proofs.Common.{drop-cons}
use Rattle.fmp_lex.specs.declared.fault.BuildFault.{BuildFault}
use Rattle.fmp_lex.specs.declared.fault.BuildFault.TheVariants as build
use Rattle.fmp_lex.specs.declared.fault.FaultKind.{FaultKind}
use Rattle.fmp_lex.specs.declared.fault.TextFile.TheVariants as file
use Rattle.fmp_lex.specs.declared.token.Token.{Token}
use Rattle.fmp_lex.specs.Faults.{offence_fault}
use Rattle.fmp_tasklang.specs.Trees.{BodyTree}
use Rattle.fmp_scopes.specs.declared.entries.EntryUse.{EntryUse}
use Rattle.fmp_scopes.specs.Entries.{body_place, entry_fault, entries_offence, IsChecked}
use Rattle.fmp_scopes.specs.Naming.{at_token, first_offence}

-- the fault of an entry
pub checked-stopped :
    (R : Type 0) (ts : List Token) (bodies : List BodyTree) (entries : List EntryUse) (at : ℕ) (why : FaultKind)
    (f : BuildFault) →
    f ≡ offence_fault file.Configuration (slice_get ts at) why → entries_offence bodies entries
    ≡ Some (record { at = at; why = why }) →
    IsChecked {R = R} ts bodies entries (Err f)
checked-stopped R ts bodies entries at why build.Memory is first = tt
checked-stopped R ts bodies entries at why (build.At f place kind) is first = (record { at = at; why = why }, first, is)

-- the first entry with a fault
pub entry-here :
    (bodies : List BodyTree) (es : List EntryUse) (k : ℕ) (d : EntryUse) (why : FaultKind) → k < length es →
    Some why ≡ entry_fault bodies (get_or es k d) (body_place bodies (get_or es k d).name) →
    entries_offence bodies (drop k es) ≡ entries_offence bodies es →
    entries_offence bodies es ≡ Some (record { at = (get_or es k d).at; why = why })
entry-here bodies es k d why lt h before =
    sym before ∙ (ap (entries_offence bodies) (drop-cons es k d lt)
    ∙ ap (λ f. first_offence (at_token (get_or es k d).at f) (entries_offence bodies (drop (suc k) es))) (sym h))
