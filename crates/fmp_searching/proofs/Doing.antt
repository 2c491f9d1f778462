-- What is done outside, deed by deed.
use Rattle.std.proofs.Common.{◌≡◌, ◌∙◌, ◌⊎◌, ◌++◌, ◌+◌, ◌<◌, ℕ, suc, zero, Bool, false, List, [], ◌∷◌, Option}
use Rattle.std.proofs.Common.{Global, Result, Ok, Err, String, ap, arith, get_or, inl, inr, length, map}
use Rattle.std.proofs.Common.{option_map}
use Rattle.std.proofs.Common.{refl, string_bytes}
use Rattle.std.proofs.Common.{subst, sym, take}
use Rattle.std.specs.Global.{Vec}
use Rattle.std.specs.Prelude.{IfOk, MatchOption, OnErr, OnOk, Some}
use Rattle.std.proofs.Math.Seq.{take-length}
use Rattle.std.specs.List.{AllByRecursion, list_any, range_with_len}
use Rattle.fmp_files.specs.Deeds.{Begins, Deed, Does, Says, printed, removed, said, wrote}
use Rattle.fmp_files.specs.Endings.{EndsPrinting, IsOneOf, all_printed, some_printed}
use Rattle.fmp_files.specs.Messages.{failure_line}
use Rattle.fmp_files.specs.Prints.{Prints}
use Rattle.fmp_files.specs.PrintsLaws.{does_nothing}
use Rattle.fmp_searching.specs.Claimed.{PrintsNothing, is_print}
use Rattle.fmp_searching.specs.Deeds.{DoesOnly, GivesNothing, IsFront, IsFrontOfOne, IsIdle, IsReportFile, IsSaying}
use Rattle.fmp_searching.specs.Deeds.{IsStepsFile, IsTelling, IsWriteOf, MayDo, SaysOnly, TellsOnly, WritesFront}
use Rattle.fmp_searching.specs.Deeds.{WritesResult}
use Rattle.fmp_searching.specs.Files.{IsApart, IsRemoval, RemovesSteps, steps_names}
use Rattle.fmp_searching.specs.Sources.{steps_name}
use Rattle.fmp_searching.specs.declared.exploring.Explored.{Explored}
use Rattle.fmp_searching.specs.declared.sources.Exploring.{Exploring}
use Rattle.fmp_searching.proofs.Endings.{all_then}
use Rattle.fmp_searching.proofs.Printing.{does_then}

pub only_none : {P : Deed → Type 0} (done : Option (List Deed)) → DoesOnly P done done
only_none done = record { deeds = []; each = tt; done = does_nothing done }

pub only_then : {P : Deed → Type 0} (a b c : Option (List Deed)) → DoesOnly P a b → DoesOnly P b c → DoesOnly P a c
only_then {P} a b c h k =
    record {
      deeds = h.deeds ++ k.deeds;
      each = all_then P h.deeds k.deeds h.each k.each;
      done = does_then a b c h.deeds k.deeds h.done k.done;
    }

each_weaker : {P Q : Deed → Type 0} (ds : List Deed) → ((d : Deed) → P d → Q d) → AllByRecursion P ds
    → AllByRecursion Q ds
each_weaker [] f h = tt
each_weaker (d ∷ ds) f h = (f d h.0, each_weaker ds f h.1)

pub only_weaker : {P Q : Deed → Type 0} (a b : Option (List Deed)) → ((d : Deed) → P d → Q d) → DoesOnly P a b
    → DoesOnly Q a b
only_weaker a b f h = record { deeds = h.deeds; each = each_weaker h.deeds f h.each; done = h.done }

pub says_one : (a b : Option (List Deed)) → Says a b → SaysOnly a b
says_one a b h = record { deeds = said h.0 ∷ []; each = (tt, tt); done = h.1 }

-- ---- what is said and printed

saying_tells : (d : Deed) → IsSaying d → IsTelling d
saying_tells (wrote name bytes) h = h
saying_tells (removed name) h = h
saying_tells (printed bytes) h = tt
saying_tells (said text) h = tt

pub says_tell : (a b : Option (List Deed)) → SaysOnly a b → TellsOnly a b
says_tell a b h = only_weaker a b saying_tells h

said_quiet : (ds : List Deed) → AllByRecursion IsSaying ds → list_any is_print ds ≡ false
said_quiet [] h = refl
said_quiet (wrote name bytes ∷ ds) h = absurd h.0
said_quiet (removed name ∷ ds) h = absurd h.0
said_quiet (printed bytes ∷ ds) h = absurd h.0
said_quiet (said text ∷ ds) h = said_quiet ds h.1

pub says_quiet : (a b : Option (List Deed)) → SaysOnly a b → PrintsNothing a b
says_quiet a b h = record { deeds = h.deeds; none = said_quiet h.deeds h.each; done = h.done }

removal_quiet : (e : Exploring) (out : List ℕ) (count : ℕ) (ds : List Deed)
    → AllByRecursion (IsRemoval e out count) ds → list_any is_print ds ≡ false
removal_quiet e out count [] h = refl
removal_quiet e out count (wrote name bytes ∷ ds) h = absurd h.0
removal_quiet e out count (removed name ∷ ds) h = removal_quiet e out count ds h.1
removal_quiet e out count (printed bytes ∷ ds) h = absurd h.0
removal_quiet e out count (said text ∷ ds) h = removal_quiet e out count ds h.1

pub removes_quiet : (e : Exploring) (out : List ℕ) (count : ℕ) (a b : Option (List Deed)) → RemovesSteps e out count a b
    → PrintsNothing a b
removes_quiet e out count a b h =
    record { deeds = h.deeds; none = removal_quiet e out count h.deeds h.each; done = h.done }

pub on_err : {A E P : Type 0} (result : Result A E) → P → OnErr result P
on_err (Ok x) p = tt
on_err (Err e) p = p

pieces_tell : (pieces : List (List ℕ)) → AllByRecursion IsTelling (map printed pieces)
pieces_tell [] = tt
pieces_tell (piece ∷ pieces) = (tt, pieces_tell pieces)

pub prints_tell : (a b : Option (List Deed)) (bytes : List ℕ) → Prints a bytes b → TellsOnly a b
prints_tell a b bytes h = record { deeds = map printed h.pieces; each = pieces_tell h.pieces; done = h.done }

pub printing_tells : (bytes : List ℕ) (can_fail : Bool) (a b : Option (List Deed)) (status : ℕ)
    → EndsPrinting bytes can_fail a b status → TellsOnly a b
printing_tells bytes can_fail a b status (all_printed prints none) = prints_tell a b bytes prints
printing_tells bytes can_fail a b status (some_printed can front left whole between prints says three) =
    only_then a between b (prints_tell a between front prints)
    (says_tell between b (says_one between b (failure_line says.0, says.2)))

-- ---- what gives nothing

saying_idle : (d : Deed) → IsSaying d → IsIdle d
saying_idle (wrote name bytes) h = h
saying_idle (removed name) h = absurd h
saying_idle (printed bytes) h = h
saying_idle (said text) h = tt

pub says_idle : (a b : Option (List Deed)) → SaysOnly a b → GivesNothing a b
says_idle a b h = only_weaker a b saying_idle h

pub said_idle : (a b : Option (List Deed)) → Says a b → GivesNothing a b
said_idle a b h = says_idle a b (says_one a b h)

pub idly_refused : {P : Type 0} (a b : Option (List Deed)) → Says a b → GivesNothing a b ⊎ P
idly_refused a b h = inl (said_idle a b h)

removal_idle : (e : Exploring) (out : List ℕ) (count : ℕ) (d : Deed) → IsRemoval e out count d → IsIdle d
removal_idle e out count (wrote name bytes) h = h
removal_idle e out count (removed name) h = tt
removal_idle e out count (printed bytes) h = h
removal_idle e out count (said text) h = tt

pub removes_idle : (e : Exploring) (out : List ℕ) (count : ℕ) (a b : Option (List Deed)) → RemovesSteps e out count a b
    → GivesNothing a b
removes_idle e out count a b h =
    record { deeds = h.deeds; each = each_weaker h.deeds (removal_idle e out count) h.each; done = h.done }

pub if_ok : {A E P : Type 0} (result : Result A E) → P → IfOk result (λ _. P)
if_ok (Ok x) p = p
if_ok (Err e) p = tt

-- ---- what an exploration may do

module _ (e : Exploring) (out : List ℕ) where
  telling_may : (d : Deed) → IsTelling d → MayDo e out d
  telling_may (wrote name bytes) h = absurd h
  telling_may (removed name) h = absurd h
  telling_may (printed bytes) h = tt
  telling_may (said text) h = tt

  pub tells_may : (a b : Option (List Deed)) → TellsOnly a b → DoesOnly (MayDo e out) a b
  tells_may a b h = only_weaker a b telling_may h

  pub says_may : (a b : Option (List Deed)) → SaysOnly a b → DoesOnly (MayDo e out) a b
  says_may a b h = tells_may a b (says_tell a b h)

  pub refusal_may : (a b : Option (List Deed)) → Says a b → DoesOnly (MayDo e out) a b
  refusal_may a b h = says_may a b (says_one a b h)

  removal_may : (count : ℕ) (d : Deed) → IsRemoval e out count d → MayDo e out d
  removal_may count (wrote name bytes) h = absurd h
  removal_may count (removed name) h = (h.1, (h.0.0, h.0.1.1))
  removal_may count (printed bytes) h = tt
  removal_may count (said text) h = tt

  pub removes_may : (count : ℕ) (a b : Option (List Deed)) → RemovesSteps e out count a b → DoesOnly (MayDo e out) a b
  removes_may count a b h =
      record { deeds = h.deeds; each = each_weaker h.deeds (removal_may count) h.each; done = h.done }

  one_of : (P : List ℕ → Type 0) (names : List (List ℕ)) (name : List ℕ) → AllByRecursion P names
      → IsOneOf names name → P name
  one_of P [] name h is = absurd is
  one_of P (first ∷ names) name h is = elim is [
    | inl same ↦ subst (λ (n : List ℕ). P n) (sym same) h.0
    | inr later ↦ one_of P names name h.1 later
  ]

  steps_from : (start count : ℕ)
      → AllByRecursion (IsStepsFile out) (map (λ number. steps_name out number) (range_with_len start count))
  steps_from start zero = tt
  steps_from start (suc count) = ((start, refl), steps_from (start + 1) count)

  write_may : (names : List (List ℕ)) → AllByRecursion (IsApart e) names → AllByRecursion (IsStepsFile out) names
      → (d : Deed) → IsWriteOf names d → MayDo e out d
  write_may names apart steps (wrote name bytes) h = (
    one_of (IsApart e) names name apart h,
    inl (one_of (IsStepsFile out) names name steps h),
  )
  write_may names apart steps (removed name) h = absurd h
  write_may names apart steps (printed bytes) h = tt
  write_may names apart steps (said text) h = tt

  -- steps texts are written to files that are not read
  pub steps_may : (count : ℕ) (names : List (List ℕ)) (a b : Option (List Deed)) → names ≡ steps_names out count
      → AllByRecursion (IsApart e) names → DoesOnly (IsWriteOf names) a b → DoesOnly (MayDo e out) a b
  steps_may count names a b is apart h =
      only_weaker a b
      (write_may names apart
      (subst (λ (ns : List (List ℕ)). AllByRecursion (IsStepsFile out) ns) (sym is) (steps_from 1 count))) h

  -- a report is written to its file, or a front of it
  pub report_may : (name bytes : List ℕ) (a b : Option (List Deed)) → IsApart e name → IsReportFile e name
      → Does a (wrote name bytes ∷ []) b → DoesOnly (MayDo e out) a b
  report_may name bytes a b apart is h =
      record { deeds = wrote name bytes ∷ []; each = ((apart, inr is), tt); done = h }

  pub report_begun : (name bytes : List ℕ) (a b : Option (List Deed)) → IsApart e name → IsReportFile e name
      → Begins (wrote name) bytes a b → DoesOnly (MayDo e out) a b
  report_begun name bytes a b apart is h = elim h [
    | inl none ↦ record { deeds = []; each = tt; done = none }
    | inr some ↦ report_may name (take some.0 bytes) a b apart is some.1
  ]

-- ---- what files have that are written

pub front_whole : (text : List ℕ) → IsFront text text
front_whole text = (length text, sym (take-length text))

-- a file was written, or a front of it
pub writes_front : {A E : Type 0} (names texts : List (List ℕ)) (name text : List ℕ) (result : Result A E)
    (a b : Option (List Deed)) → ((bytes : List ℕ) → IsFront text bytes → IsFrontOfOne names texts name bytes)
    → OnOk result (Does a (wrote name text ∷ []) b) → OnErr result (Begins (wrote name) text a b)
    → DoesOnly (WritesFront names texts) a b
writes_front names texts name text (Ok x) a b one ok err =
    record { deeds = wrote name text ∷ []; each = (one text (front_whole text), tt); done = ok }
writes_front names texts name text (Err x) a b one ok err = elim err [
  | inl none ↦ record { deeds = []; each = tt; done = none }
  | inr some ↦
      record {
        deeds = wrote name (take some.0 text) ∷ [];
        each = (one (take some.0 text) (some.0, refl), tt);
        done = some.1;
      }
]

-- a beginning of the text at a place, under the name there
pub front_at : (names : List (String Global)) (texts : List (Vec ℕ)) (place : ℕ) (name : String Global)
    (text : Vec ℕ) → place < length names → place < length texts → name ≡ get_or names place name
    → text ≡ get_or texts place text → (bytes : List ℕ) → IsFront text.items bytes
    → IsFrontOfOne (map string_bytes names) (map (λ t. t.items) texts) (string_bytes name) bytes
front_at [] texts place name text low few is same bytes front = absurd (omega (arith, low))
front_at (first ∷ names) [] place name text low few is same bytes front = absurd (omega (arith, few))
front_at (first ∷ names) (head ∷ texts) zero name text low few is same bytes front =
    inl (
      ap (λ (n : String Global). string_bytes n) is,
      subst (λ (t : Vec ℕ). IsFront t.items bytes) same front,
    )
front_at (first ∷ names) (head ∷ texts) (suc place) name text low few is same bytes front =
    inr (front_at names texts place name text (omega (arith, low)) (omega (arith, few)) is same bytes front)

module _ (e : Exploring) (out : List ℕ) (x : Explored) where
  idle_result : (d : Deed) → IsIdle d → WritesResult e out x d
  idle_result (wrote name bytes) h = absurd h
  idle_result (removed name) h = tt
  idle_result (printed bytes) h = tt
  idle_result (said text) h = tt

  pub idle_writes : (a b : Option (List Deed)) → GivesNothing a b → DoesOnly (WritesResult e out x) a b
  idle_writes a b h = only_weaker a b idle_result h

  telling_result : (d : Deed) → IsTelling d → WritesResult e out x d
  telling_result (wrote name bytes) h = absurd h
  telling_result (removed name) h = tt
  telling_result (printed bytes) h = tt
  telling_result (said text) h = tt

  pub tells_writes : (a b : Option (List Deed)) → TellsOnly a b → DoesOnly (WritesResult e out x) a b
  tells_writes a b h = only_weaker a b telling_result h

  steps_result : (names : List (List ℕ)) → names ≡ steps_names out (length x.steps.items) → (d : Deed)
      → WritesFront names (map (λ text. text.items) x.steps.items) d → WritesResult e out x d
  steps_result names is (wrote name bytes) h =
      inl
      (subst (λ (ns : List (List ℕ)). IsFrontOfOne ns (map (λ text. text.items) x.steps.items) name bytes) is h)
  steps_result names is (removed name) h = tt
  steps_result names is (printed bytes) h = tt
  steps_result names is (said text) h = tt

  pub steps_write : (names : List (List ℕ)) (a b : Option (List Deed)) → names ≡ steps_names out (length x.steps.items)
      → DoesOnly (WritesFront names (map (λ text. text.items) x.steps.items)) a b → DoesOnly (WritesResult e out x) a b
  steps_write names a b is h = only_weaker a b (steps_result names is) h

  -- a report is written to its file, or a front of it
  report_front : (name : List ℕ) (report : Vec ℕ) (bytes : List ℕ) → IsReportFile e name → x.report ≡ Some report
      → IsFront report.items bytes → WritesResult e out x (wrote name bytes)
  report_front name report bytes is some front =
      inr (
        is,
        subst (λ (o : Option (Vec ℕ)). MatchOption o ⊥ (λ r. IsFront r.items bytes)) (sym some) front,
      )

  pub report_write : (name : List ℕ) (report : Vec ℕ) (a b : Option (List Deed)) → IsReportFile e name
      → x.report ≡ Some report → Does a (wrote name report.items ∷ []) b → DoesOnly (WritesResult e out x) a b
  report_write name report a b is some h =
      record {
        deeds = wrote name report.items ∷ [];
        each = (report_front name report report.items is some (front_whole report.items), tt);
        done = h;
      }

  pub report_begin : (name : List ℕ) (report : Vec ℕ) (a b : Option (List Deed)) → IsReportFile e name
      → x.report ≡ Some report → Begins (wrote name) report.items a b → DoesOnly (WritesResult e out x) a b
  report_begin name report a b is some h = elim h [
    | inl none ↦ record { deeds = []; each = tt; done = none }
    | inr part ↦
        record {
          deeds = wrote name (take part.0 report.items) ∷ [];
          each = (report_front name report (take part.0 report.items) is some (part.0, refl), tt);
          done = part.1;
        }
  ]

-- ---- files that are written

pub one_at : (names : List (String Global)) (place : ℕ) (name : String Global) → place < length names
    → name ≡ get_or names place name → IsOneOf (map string_bytes names) (string_bytes name)
one_at [] place name low is = absurd (omega (arith, low))
one_at (first ∷ names) zero name low is = inl (ap (λ (n : String Global). string_bytes n) is)
one_at (first ∷ names) (suc place) name low is = inr (one_at names place name (omega (arith, low)) is)

-- a file was written, or a front of it
pub writes_one : {A E : Type 0} (names : List (List ℕ)) (name bytes : List ℕ) (result : Result A E)
    (a b : Option (List Deed)) → IsOneOf names name → OnOk result (Does a (wrote name bytes ∷ []) b)
    → OnErr result (Begins (wrote name) bytes a b) → DoesOnly (IsWriteOf names) a b
writes_one names name bytes (Ok x) a b one ok err =
    record { deeds = wrote name bytes ∷ []; each = (one, tt); done = ok }
writes_one names name bytes (Err x) a b one ok err = elim err [
  | inl none ↦ record { deeds = []; each = tt; done = none }
  | inr some ↦ record { deeds = wrote name (take some.0 bytes) ∷ []; each = (one, tt); done = some.1 }
]
