-- A row that is read is made of the fields that it spells.
use Rattle.std.proofs.Common.{◌≡◌, ℕ, zero, suc, ◌+◌, ◌-◌, ◌≤◌, ◌⊎◌, inl, inr, Bool, true, false, ◌&&◌, ◌||◌, nat_le}
use Rattle.std.proofs.Common.{cond, List, ◌++◌, length, Ok, Err, refl, sym, ap, subst, arith}
use Rattle.std.specs.Prelude.{◌==◌, ◌%◌, ◌/◌, slice_get}
use Rattle.std.proofs.lemmas.Bool.{leb-true, eqb-true}
use Rattle.std.proofs.lemmas.List.{take_at}
use Rattle.fmp_base.specs.Names.{name_text, name_from}
use Rattle.fmp_image_bytes.specs.declared.fault.ImageFault.TheVariants as fault
use Rattle.fmp_image_bytes.specs.Keys.{is_name}
use Rattle.fmp_image_bytes.specs.Fields.{in_range}
use Rattle.fmp_image_bytes.specs.Ranges.{is_start_bit}
use Rattle.fmp_image_bytes.specs.Rows.{RowContext, RowForm, row, is_handler_body, bit, order_bit, order_of, task_form}
use Rattle.fmp_image_bytes.specs.Rows.{semaphore_form, flag_form, data_queue_form, mailbox_form, message_form}
use Rattle.fmp_image_bytes.specs.Rows.{shared_word_form, spin_lock_form, cyclic_form, interrupt_form}
use Rattle.fmp_image_bytes.proofs.FieldLaws.{Exact, bind_ok, passed, byte_exact, short_exact, long_exact, word_exact}
use Rattle.fmp_image_bytes.proofs.FieldLaws.{text_exact, both_exact}
use Rattle.fmp_image_bytes.proofs.Names.{and_true}

-- fields that keep the rules are those of the row that they make
pub record GoesBack {F A : Type 0} (form : RowForm F A) (context : RowContext) : Type 0 where
  pub exact : Exact form.layout
  pub back : (f : F) → form.keeps context f ≡ true → form.fields (form.make f) ≡ f

pub row_exact : {F A : Type 0} (form : RowForm F A) (context : RowContext) → GoesBack form context
    → Exact (row form context)
row_exact {F = F} {A = A} form context goes = record {
  takes = λ bytes a rest h e.
      let b = bind_ok (form.layout.read bytes) (λ f. cond (form.keeps context f.0) (Ok (form.make f.0, f.1))
      (Err fault.Table)) (a, rest) e in
      let g = passed (form.keeps context b.0.0) fault.Table (form.make b.0.0, b.0.1) (a, rest) b.2 in
      let t = goes.exact.takes bytes b.0.0 b.0.1 h b.1 in
      let same = goes.back b.0.0 g.0 in
      let fits : (row form context).fits (form.make b.0.0) = (
        subst form.layout.fits
            (sym same) t.0,
        rw same g.0,
        ap form.make same,
      ) in
      let whole : bytes ≡ form.layout.spell (form.fields (form.make b.0.0)) ++ b.0.1 = rw same t.1 in
      subst (λ (x : A × List ℕ). (row form context).fits x.0 × (bytes ≡ form.layout.spell (form.fields x.0) ++ x.1))
      g.1 (fits, whole);
  again = λ a rest fits. rw (goes.exact.again (form.fields a) rest fits.0, fits.1, fits.2) refl;
}

-- ---- single fields

name_back : (version : ℕ) (t : List ℕ) → is_name version t ≡ true → name_text (name_from t) ≡ t
name_back version t h = take_at t _ (length t) refl

or_true : (a b : Bool) → (a || b) ≡ true → (a ≡ true) ⊎ (b ≡ true)
or_true true b h = inl refl
or_true false b h = inr h

start_back : (n : ℕ) → is_start_bit n ≡ true → bit (n == 2) 2 ≡ n
start_back n h =
    elim (or_true _ _ h) [
      | inl e ↦ let n-is : n ≡ 0 = eqb-true _ _ e in rw n-is refl
      | inr e ↦ let n-is : n ≡ 2 = eqb-true _ _ e in rw n-is refl
    ]

below_2 : (n : ℕ) → n ≤ 1 → (n ≡ 0) ⊎ (n ≡ 1)
below_2 zero h = inl refl
below_2 (suc zero) h = inr refl
below_2 (suc (suc n)) h = absurd (omega arith)

only_back : (n : ℕ) → nat_le n 1 ≡ true → bit (n == 1) 1 ≡ n
only_back n h =
    elim (below_2 n (leb-true _ _ h)) [
      | inl e ↦ rw e refl
      | inr e ↦ rw e refl
    ]

order_back : (n : ℕ) → nat_le n 1 ≡ true → order_bit (order_of (n == 1)) 1 ≡ n
order_back n h =
    elim (below_2 n (leb-true _ _ h)) [
      | inl e ↦ rw e refl
      | inr e ↦ rw e refl
    ]

place_back : (processors n : ℕ) → in_range 1 processors n ≡ true → (n - 1) + 1 ≡ n
place_back processors n h =
    let low : 1 ≤ n = leb-true _ _ (and_true _ _ h).0 in
    omega arith

below_8 : (P : ℕ → Type 0) (n : ℕ) → n ≤ 7 → P 0 → P 1 → P 2 → P 3 → P 4 → P 5 → P 6 → P 7 → P n
below_8 P zero h a b c d e f g i = a
below_8 P (suc zero) h a b c d e f g i = b
below_8 P (suc (suc zero)) h a b c d e f g i = c
below_8 P (suc (suc (suc zero))) h a b c d e f g i = d
below_8 P (suc (suc (suc (suc zero)))) h a b c d e f g i = e
below_8 P (suc (suc (suc (suc (suc zero))))) h a b c d e f g i = f
below_8 P (suc (suc (suc (suc (suc (suc zero)))))) h a b c d e f g i = g
below_8 P (suc (suc (suc (suc (suc (suc (suc zero))))))) h a b c d e f g i = i
below_8 P (suc (suc (suc (suc (suc (suc (suc (suc n)))))))) h a b c d e f g i = absurd (omega arith)

flag_back : (n : ℕ) → nat_le n 7 ≡ true → order_bit (order_of (n % 2 == 1)) 1 + bit (n / 2 % 2 == 1) 2
    + bit (nat_le 4 n) 4 ≡ n
flag_back n h = below_8 (λ m. order_bit (order_of (m % 2 == 1)) 1 + bit (m / 2 % 2 == 1) 2 + bit (nat_le 4 m) 4 ≡ m) n
    (leb-true _ _ h) refl refl refl refl refl refl refl refl

mailbox_back : (n : ℕ) → nat_le n 3 ≡ true → order_bit (order_of (n % 2 == 1)) 1 + order_bit (order_of (nat_le 2 n)) 2
    ≡ n
mailbox_back n h = four n (leb-true _ _ h) where
  four : (m : ℕ) → m ≤ 3 → order_bit (order_of (m % 2 == 1)) 1 + order_bit (order_of (nat_le 2 m)) 2 ≡ m
  four zero h = refl
  four (suc zero) h = refl
  four (suc (suc zero)) h = refl
  four (suc (suc (suc zero))) h = refl
  four (suc (suc (suc (suc n)))) h = absurd (omega arith)

-- ---- the kinds of rows

module _ (context : RowContext) where
  pub task_back : GoesBack task_form context
  task_back = record {
    exact = both_exact _ _ text_exact (both_exact _ _ byte_exact
        (both_exact _ _ word_exact
        (both_exact _ _ byte_exact (both_exact _ _ byte_exact (both_exact _ _ long_exact
        (both_exact _ _ byte_exact byte_exact))))));
    back = λ (name, (attributes, (exinf, (body, (priority, (stack, (processor, only))))))) h.
        let one = and_true _ _ h in
        let two = and_true _ _ one.1 in
        let three = and_true _ _ two.0 in
        let four = and_true _ _ three.0 in
        let five = and_true _ _ four.0 in
        let six = and_true _ _ five.0 in
        rw (
          name_back context.version name one.0,
          start_back attributes six.0,
          place_back context.processors processor
              two.1,
          only_back only four.1,
        ) refl;
  }

  pub semaphore_back : GoesBack semaphore_form context
  semaphore_back = record {
    exact = both_exact _ _ text_exact (both_exact _ _ byte_exact (both_exact _ _ short_exact short_exact));
    back = λ (name, (attributes, (initial, most))) h.
        let one = and_true _ _ h in
        let two = and_true _ _ one.1 in
        rw (name_back context.version name one.0, order_back attributes (and_true _ _ two.0).0) refl;
  }

  pub flag_back_row : GoesBack flag_form context
  flag_back_row = record {
    exact = both_exact _ _ text_exact (both_exact _ _ byte_exact short_exact);
    back = λ (name, (attributes, initial)) h.
        let one = and_true _ _ h in
        rw (name_back context.version name one.0, flag_back attributes one.1) refl;
  }

  pub data_queue_back : GoesBack data_queue_form context
  data_queue_back = record {
    exact = both_exact _ _ text_exact (both_exact _ _ byte_exact byte_exact);
    back = λ (name, (attributes, capacity)) h.
        let one = and_true _ _ h in
        rw (name_back context.version name one.0, order_back attributes one.1) refl;
  }

  pub mailbox_back_row : GoesBack mailbox_form context
  mailbox_back_row = record {
    exact = both_exact _ _ text_exact (both_exact _ _ byte_exact byte_exact);
    back = λ (name, (attributes, most)) h.
        let one = and_true _ _ h in
        rw (name_back context.version name one.0, mailbox_back attributes (and_true _ _ one.1).0) refl;
  }

  pub message_back : GoesBack message_form context
  message_back = record {
    exact = both_exact _ _ text_exact byte_exact;
    back = λ (name, priority) h. rw (name_back context.version name (and_true _ _ h).0) refl;
  }

  pub shared_word_back : GoesBack shared_word_form context
  shared_word_back = record {
    exact = both_exact _ _ text_exact word_exact;
    back = λ (name, initial) h. rw (name_back context.version name h) refl;
  }

  pub spin_lock_back : GoesBack spin_lock_form context
  spin_lock_back = record { exact = text_exact; back = λ name h. name_back context.version name h }

  pub cyclic_back : GoesBack cyclic_form context
  cyclic_back = record {
    exact = both_exact _ _ text_exact (both_exact _ _ byte_exact (both_exact _ _ word_exact
        (both_exact _ _ byte_exact (both_exact _ _ long_exact (both_exact _ _ long_exact byte_exact)))));
    back = λ (name, (attributes, (exinf, (body, (period, (phase, processor)))))) h.
        let one = and_true _ _ h in
        let two = and_true _ _ one.1 in
        let three = and_true _ _ two.0 in
        let four = and_true _ _ three.0 in
        let five = and_true _ _ four.0 in
        rw (
          name_back context.version name one.0,
          start_back attributes five.0,
          place_back context.processors
              processor two.1,
        ) refl;
  }

  pub interrupt_back : GoesBack interrupt_form context
  interrupt_back = record {
    exact = both_exact _ _ byte_exact (both_exact _ _ byte_exact byte_exact);
    back = λ (number, (body, processor)) h.
        let two = and_true (in_range 1 32 number && is_handler_body (slice_get context.heads body))
        (in_range 1 context.processors processor) h in
        rw (place_back context.processors processor two.1) refl;
  }
