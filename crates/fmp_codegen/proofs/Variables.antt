-- Declared variables are judged one after another.
use Rattle.std.proofs.Common.{◌≡◌, ℕ, ◌+◌, ◌<◌, ◌≤◌, Bool, true, false, ◌||◌, nat_lt, cond, List, ◌∷◌, Option, Some}
use Rattle.std.proofs.Common.{None, length, take, drop, get_or, map, refl, sym, ap, ◌∙◌, arith}
use Rattle.std.specs.Prelude.{is_some, if◌then◌else◌}
use Rattle.std.specs.Str.{bytes_eq}
use Rattle.std.proofs.lemmas.Bool.Decides.{nat_tests}
use Rattle.fmp_base.specs.declared.names.Name.{Name}
use Rattle.fmp_base.specs.Names.{name_text}
use Rattle.fmp_base.specs.Systems.{SystemTables}
use Rattle.fmp_lex.specs.declared.fault.FaultKind.TheVariants as fault
use Rattle.fmp_tasklang.specs.declared.trees.Declaration.{Declaration}
use Rattle.fmp_tasklang.specs.Layout.{Local, local_of, places_of, exinf_name, exinf_local, total_places}
use Rattle.fmp_tasklang.specs.Scopes.{place_of}
use Rattle.fmp_scopes.specs.declared.offences.Offence.{Offence}
use Rattle.fmp_scopes.specs.Naming.{first_offence}
use Rattle.fmp_codegen.specs.Compiling.{is_among, length_offence, variables_offence}
use Rattle.fmp_scopes.specs.Scopes.{is_object, locals_with}
use Rattle.fmp_codegen.proofs.Judging.{take-step}
use Rattle.fmp_codegen.proofs.Bodies.{total-append}
use Rattle.fmp_scopes.proofs.LocalMeanings.{names-declared}
use Rattle.fmp_scopes.proofs.Loops.{drop-step}
use Rattle.fmp_scopes.proofs.Positions.{raised, place_of-cons}

some-raised : (b : Bool) (o : Option ℕ) → is_some (cond b (Some 0) (raised o)) ≡ (b || is_some o)
some-raised true o = refl
some-raised false None = refl
some-raised false (Some n) = refl

-- a name is the first one or among the others
pub among-cons :
    (n m : Name) (ns : List Name) → is_among n (m ∷ ns) ≡ (bytes_eq (name_text n) (name_text m) || is_among n ns)
among-cons n m ns =
    ap is_some (place_of-cons (name_text n) m ns)
    ∙ some-raised (bytes_eq (name_text n) (name_text m)) (place_of (name_text n) ns)

module _ (tables : SystemTables) (vars : List Declaration) (i : ℕ) (d : Declaration) (within : i < length vars)
    (is : d ≡ get_or vars i d) where
  -- the locals before one of the declared variables
  abbrev locals_before : ℕ → List Local
  locals_before n = locals_with (take n vars)

  abbrev pub judged : ℕ → Option Offence
  judged n = variables_offence tables (locals_before n) (drop n vars)

  abbrev limit : Offence
  limit = record { at = d.name.at; why = fault.Limit }

  abbrev again : Offence
  again = record { at = d.name.at; why = fault.TwiceNamed }

  abbrev many : Bool
  many = nat_lt 64 (total_places (locals_before i) + places_of d.length)

  abbrev twice : Bool
  twice = is_among d.name.name (map (λ (l : Local). l.name) (locals_before i)) || is_object tables d.name.name

  unrolled :
      judged i ≡
      (if many then Some limit
      else (if twice then Some again else first_offence (length_offence d.length) (judged (i + 1))))
  unrolled =
      ap (variables_offence tables (locals_before i)) (drop-step vars i d within is)
      ∙ ap (λ ls. if many then Some limit
      else (if twice then Some again
      else first_offence (length_offence d.length) (variables_offence tables (exinf_local ∷ ls) (drop (i + 1) vars))))
      (sym (take-step local_of vars i d within is))

  -- the places of the locals with one variable more
  pub places-on : total_places (locals_before (i + 1)) ≡ total_places (locals_before i) + places_of d.length
  places-on =
      ap (λ ls. 1 + total_places ls) (take-step local_of vars i d within is)
      ∙ total-append (locals_before i) (local_of d)

  many-false : total_places (locals_before i) + places_of d.length ≤ 64 → many ≡ false
  many-false h = grind (arith, nat_tests)

  many-true : 64 < total_places (locals_before i) + places_of d.length → many ≡ true
  many-true h = grind (arith, nat_tests)

  -- the names before
  among : is_among d.name.name (map (λ (l : Local). l.name) (locals_before i))
      ≡ (bytes_eq (name_text d.name.name) (name_text exinf_name)
      || is_among d.name.name (map (λ (v : Declaration). v.name.name) (take i vars)))
  among =
      among-cons d.name.name exinf_name (map (λ (l : Local). l.name) (map local_of (take i vars)))
      ∙ ap (λ ns. bytes_eq (name_text d.name.name) (name_text exinf_name) || is_among d.name.name ns)
      (names-declared (take i vars))

  named : (a b c : Bool) → bytes_eq (name_text d.name.name) (name_text exinf_name) ≡ a →
      is_among d.name.name (map (λ (v : Declaration). v.name.name) (take i vars)) ≡ b → is_object tables d.name.name
      ≡ c →
      twice ≡ ((a || b) || c)
  named a b c p q r =
      ap (λ t. t || is_object tables d.name.name) among
      ∙ ap (λ t. (t || is_among d.name.name (map (λ (v : Declaration). v.name.name) (take i vars)))
      || is_object tables d.name.name) p
      ∙ ap (λ t. (a || t) || is_object tables d.name.name) q
      ∙ ap (λ t. (a || b) || t) r

  -- a variable without a fault
  pub variable-on :
      (whole : Option Offence) → total_places (locals_before i) + places_of d.length ≤ 64 →
      bytes_eq (name_text d.name.name) (name_text exinf_name) ≡ false →
      is_among d.name.name (map (λ (v : Declaration). v.name.name) (take i vars)) ≡ false
      → is_object tables d.name.name ≡ false →
      length_offence d.length ≡ None → judged i ≡ whole → judged (i + 1) ≡ whole
  variable-on whole h first other object right before =
      sym (unrolled
      ∙ ap (λ t. if t then Some limit else (if twice then Some again else first_offence (length_offence d.length)
      (judged (i + 1)))) (many-false h)
      ∙ ap (λ t. if t then Some again else first_offence (length_offence d.length) (judged (i + 1)))
      (named false false false first other object)
      ∙ ap (λ o. first_offence o (judged (i + 1))) right)
      ∙ before

  -- the 65th place
  pub variable-many :
      (whole : Option Offence) → 64 < total_places (locals_before i) + places_of d.length → judged i ≡ whole →
      Some limit ≡ whole
  variable-many whole h before =
      sym (unrolled
      ∙ ap (λ t. if t then Some limit else (if twice then Some again else first_offence (length_offence d.length)
      (judged (i + 1)))) (many-true h))
      ∙ before

  -- a name that is there already
  pub variable-twice :
      (whole : Option Offence) (a b c : Bool) → total_places (locals_before i) + places_of d.length ≤ 64 →
      bytes_eq (name_text d.name.name) (name_text exinf_name) ≡ a →
      is_among d.name.name (map (λ (v : Declaration). v.name.name) (take i vars)) ≡ b → is_object tables d.name.name
      ≡ c →
      ((a || b) || c) ≡ true → judged i ≡ whole → Some again ≡ whole
  variable-twice whole a b c h first other object some before =
      sym (unrolled
      ∙ ap (λ t. if t then Some limit else (if twice then Some again else first_offence (length_offence d.length)
      (judged (i + 1)))) (many-false h)
      ∙ ap (λ t. if t then Some again else first_offence (length_offence d.length) (judged (i + 1)))
      (named a b c first other object ∙ some))
      ∙ before

  -- a length out of range
  pub variable-length :
      (whole : Option Offence) (o : Offence) → total_places (locals_before i) + places_of d.length ≤ 64 →
      bytes_eq (name_text d.name.name) (name_text exinf_name) ≡ false →
      is_among d.name.name (map (λ (v : Declaration). v.name.name) (take i vars)) ≡ false
      → is_object tables d.name.name ≡ false →
      Some o ≡ length_offence d.length → judged i ≡ whole → Some o ≡ whole
  variable-length whole o h first other object wrong before =
      sym (unrolled
      ∙ ap (λ t. if t then Some limit else (if twice then Some again else first_offence (length_offence d.length)
      (judged (i + 1)))) (many-false h)
      ∙ ap (λ t. if t then Some again else first_offence (length_offence d.length) (judged (i + 1)))
      (named false false false first other object)
      ∙ ap (λ x. first_offence x (judged (i + 1))) (sym wrong))
      ∙ before
