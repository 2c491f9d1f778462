-- The number that stands in place of a body's name is that of a body that fits.
use Rattle.std.proofs.Common.{◌≡◌, ℕ, zero, suc, ◌*◌, ◌<◌, nat_le, List, [], ◌∷◌, length, map, Bool, true, false, ◌&&◌}
use Rattle.std.proofs.Common.{not, Option, Some, None, refl, ap, ◌∙◌, arith}
use Rattle.std.specs.Prelude.{if◌then◌else◌, slice_get}
use Rattle.std.specs.Str.{bytes_eq}
use Rattle.std.proofs.lemmas.List.{length-map}
use Rattle.std.proofs.lemmas.List.Quantifiers.{position-Some}
use Rattle.fmp_base.specs.declared.names.Name.{Name}
use Rattle.fmp_base.specs.Names.{name_text}
use Rattle.fmp_base.specs.Systems.{found, no_name}
use Rattle.fmp_lex.specs.declared.fault.FaultKind.{FaultKind}
use Rattle.fmp_lex.specs.declared.fault.FaultKind.TheVariants as fault
use Rattle.fmp_tasklang.specs.declared.trees.BodyKind as language
use Rattle.fmp_tasklang.specs.declared.trees.BodyKind.TheVariants as written
use Rattle.fmp_tasklang.specs.Texts.{body_at}
use Rattle.fmp_tasklang.specs.Trees.{BodyTree}
use Rattle.fmp_scopes.specs.declared.entries.EntryUse.{EntryUse}
use Rattle.fmp_scopes.specs.Depths.{body_depth}
use Rattle.fmp_scopes.specs.Entries.{body_place, is_kind, holds, body_fault, entry_fault}
use Rattle.fmp_image_bytes.specs.Rows.{is_task, is_handler, is_task_body, is_handler_body}
use Rattle.fmp_image.specs.Building.{built_kind, built_head, built_heads}
use Rattle.fmp_image.proofs.Entering.{wanted}

no_offence : (t : Bool) (why : FaultKind) (rest : Option FaultKind) → (if t then Some why else rest) ≡ None
    → (t ≡ false) × (rest ≡ None)
no_offence true why rest h = absurd (cc h)
no_offence false why rest h = (refl, h)

not_false : (t : Bool) → not t ≡ false → t ≡ true
not_false true h = refl
not_false false h = absurd (cc h)

-- a body without a fault is of the kind that is wanted, and its operands fit the stack
fits : (u : EntryUse) (b : BodyTree) → body_fault u b ≡ None → (is_kind b.kind u.kind ≡ true)
    × (holds u.stack (body_depth b) ≡ true)
fits u b h =
    let small = not (holds u.stack (body_depth b)) in
    let one = no_offence (not (is_kind b.kind u.kind)) fault.WrongEntryKind
    (if small then Some fault.StackTooSmall else None) h in (
      not_false (is_kind b.kind u.kind) one.0,
      not_false (holds u.stack (body_depth b))
          (no_offence small fault.StackTooSmall None one.1).0,
    )

-- what is said of the body at a place
head_at : (bodies : List BodyTree) (k : ℕ) → k < length bodies → slice_get (built_heads bodies) k
    ≡ Some (built_head (body_at bodies k))
head_at [] k h = absurd (omega (arith, h))
head_at (b ∷ bs) zero h = refl
head_at (b ∷ bs) (suc k) h = head_at bs k (omega (arith, h))

-- the place of an entry that fits
record Fitting (bodies : List BodyTree) (u : EntryUse) (o : Option ℕ) : Type 0 where
  below : found 0 o < length bodies
  fit : body_fault u (body_at bodies (found 0 o)) ≡ None

fitting : (bodies : List BodyTree) (u : EntryUse) (o : Option ℕ) → ((k : ℕ) → o ≡ Some k → k < length bodies)
    → entry_fault bodies u o ≡ None → Fitting bodies u o
fitting bodies u None within h = absurd (cc h)
fitting bodies u (Some k) within h = record { below = within k refl; fit = h }

place_within : (bodies : List BodyTree) (n : Name) (k : ℕ) → body_place bodies n ≡ Some k → k < length bodies
place_within bodies n k h =
    let names = map (λ (b : BodyTree). b.name.name) bodies in
    let found_at = position-Some (λ (m : Name). bytes_eq (name_text n) (name_text m)) names k no_name h in
    omega (arith, found_at.0, length-map bodies (λ (b : BodyTree). b.name.name))

kind_is_task : (kind : language.BodyKind) → is_kind kind written.Task ≡ true → is_task (built_kind kind) ≡ true
kind_is_task written.Task h = refl
kind_is_task written.Handler h = absurd (cc h)

kind_is_handler : (kind : language.BodyKind) → is_kind kind written.Handler ≡ true → is_handler (built_kind kind) ≡ true
kind_is_handler written.Handler h = refl
kind_is_handler written.Task h = absurd (cc h)

both : (a b : Bool) → a ≡ true → b ≡ true → (a && b) ≡ true
both a b p q = rw (p, q) refl

module _ (bodies : List BodyTree) (n : Name) where
  abbrev pub number : ℕ
  number = found 0 (body_place bodies n)

  pub number_below :
      (kind : language.BodyKind) (stack : Option ℕ) → entry_fault bodies (wanted n kind stack) (body_place bodies n)
      ≡ None →
      number < length bodies
  number_below kind stack h = (fitting bodies (wanted n kind stack) (body_place bodies n)
      (place_within bodies n) h).below

  pub enters_task :
      (stack : ℕ) → entry_fault bodies (wanted n written.Task (Some stack)) (body_place bodies n) ≡ None →
      is_task_body (slice_get (built_heads bodies) number) stack ≡ true
  enters_task stack h =
      let u = wanted n written.Task (Some stack) in
      let f = fitting bodies u (body_place bodies n) (place_within bodies n) h in
      let b = body_at bodies number in
      let ok = fits u b f.fit in
      ap (λ o. is_task_body o stack) (head_at bodies number f.below)
      ∙ both (is_task (built_kind b.kind)) (nat_le (4 * body_depth b) stack) (kind_is_task b.kind ok.0) ok.1

  pub enters_handler :
      entry_fault bodies (wanted n written.Handler None) (body_place bodies n) ≡ None →
      is_handler_body (slice_get (built_heads bodies) number) ≡ true
  enters_handler h =
      let u = wanted n written.Handler None in
      let f = fitting bodies u (body_place bodies n) (place_within bodies n) h in
      let b = body_at bodies number in
      let ok = fits u b f.fit in
      ap is_handler_body (head_at bodies number f.below) ∙ kind_is_handler b.kind ok.0
