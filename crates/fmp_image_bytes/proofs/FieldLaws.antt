-- What a field reads is what it spells, and what it spells it reads, whatever follows.
use Rattle.std.proofs.Common.{◌≡◌, ℕ, ℤ, suc, ◌^◌, ◌<◌, ◌≤◌, Bool, true, false, cond, ltb, List, [], ◌∷◌, ◌++◌, length}
use Rattle.std.proofs.Common.{get_or, take, drop, Result, Ok, Err, FitsSigned, refl, sym, ap, subst, ◌∙◌, append_assoc}
use Rattle.std.proofs.Common.{arith, inl, inr}
use Rattle.std.specs.Int.{w32, cast_signed, cast_unsigned}
use Rattle.std.proofs.lemmas.Bool.{cases_lt, ltb-false, le-ltb}
use Rattle.std.proofs.lemmas.Int.{of_z-to_z, to_z-of_z}
use Rattle.std.proofs.Math.Facts.{sfits_to_z, Fits-of_z}
use Rattle.std.proofs.lemmas.List.{take_at, drop_at, take-append-drop, length-append, length-take, get_or-take}
use Rattle.std.proofs.lemmas.List.{get_or_past}
use Rattle.std.proofs.lemmas.Nat.{le_bytes_2, le_bytes_4}
use Rattle.byteorder.specs.Endian.{little_bytes, little_number}
use Rattle.byteorder.specs.Numbers.{little_number-reads_back, little_from-lt, length-bytes_low_first}
use Rattle.fmp_image_bytes.specs.declared.fault.ImageFault.{ImageFault}
use Rattle.fmp_image_bytes.specs.declared.fault.ImageFault.TheVariants as fault
use Rattle.fmp_image_bytes.specs.Fields.{Field, ◌>>=◌, ◌⊗◌, byte, byte_at, number_at, short, long, word, word_at}
use Rattle.fmp_image_bytes.specs.Fields.{bytes_at, text, tested, chained}

abbrev pub IsBytes : List ℕ → Type 0
IsBytes bytes = (i : ℕ) → get_or bytes i 0 < 256

pub record Exact {A : Type 0} (f : Field A) : Type 0 where
  pub takes : (bytes : List ℕ) (a : A) (rest : List ℕ) → IsBytes bytes → f.read bytes ≡ Ok (a, rest) → f.fits a
      × (bytes ≡ f.spell a ++ rest)
  pub again : (a : A) (rest : List ℕ) → f.fits a → f.read (f.spell a ++ rest) ≡ Ok (a, rest)

-- ---- bytes

IsBytes-after : (xs ys : List ℕ) → IsBytes (xs ++ ys) → IsBytes ys
IsBytes-after [] ys h = h
IsBytes-after (x ∷ xs) ys h = IsBytes-after xs ys (λ i. h (suc i))

pub rest_is_bytes : (bytes front rest : List ℕ) → bytes ≡ front ++ rest → IsBytes bytes → IsBytes rest
rest_is_bytes bytes front rest e h = IsBytes-after front rest (subst IsBytes e h)

IsBytes-take : (n : ℕ) (bytes : List ℕ) → IsBytes bytes → IsBytes (take n bytes)
IsBytes-take n bytes h i =
    elim (cases_lt i n) [
      | inl lt ↦ rw (get_or-take n bytes i 0 lt) (h i)
      | inr le ↦ rw (get_or_past (take n bytes) i 0 (omega (arith, length-take n bytes))) (omega arith)
    ]

-- ---- results

-- the value of a step that did not fail
pub bind_ok : {A B : Type 0} (r : Result A ImageFault) (f : A → Result B ImageFault) (y : B) → (r >>= f) ≡ Ok y
    → (x : A) × (r ≡ Ok x) × (f x ≡ Ok y)
bind_ok (Ok x) f y e = (x, refl, e)
bind_ok (Err d) f y e = absurd cc

-- a test that passed
pub passed : {A : Type 0} (b : Bool) (d : ImageFault) (x y : A) → cond b (Ok x) (Err d) ≡ Ok y → (b ≡ true) × (x ≡ y)
passed true d x y e = (refl, cc)
passed false d x y e = absurd cc

-- a test for a fault that found none
pub free : {A : Type 0} (b : Bool) (d : ImageFault) (x y : A) → cond b (Err d) (Ok x) ≡ Ok y → (b ≡ false) × (x ≡ y)
free true d x y e = absurd cc
free false d x y e = (refl, cc)

abbrev done : {A : Type 0} → A → Result A ImageFault
done x = Ok x

pub ok_is : {A : Type 0} (x y : A) → done x ≡ done y → x ≡ y
ok_is x y e = cc

pub pair_is : {A B : Type 0} (a c : A) (b d : B) → done {A = A × B} (a, b) ≡ done (c, d) → (a ≡ c) × (b ≡ d)
pair_is {A = A} {B = B} a c b d e =
    let p = ok_is (a, b) (c, d) e in
    (ap (λ (x : A × B). x.0) p, ap (λ (x : A × B). x.1) p)

-- ---- numbers

pub byte_exact : Exact byte
byte_exact = record { takes = byte_takes; again = λ a rest fits. refl } where
  byte_takes : (bytes : List ℕ) (a : ℕ) (rest : List ℕ) → IsBytes bytes → byte_at bytes ≡ Ok (a, rest) → (a < 256)
      × (bytes ≡ a ∷ rest)
  byte_takes [] a rest h e = absurd cc
  byte_takes (b ∷ bytes) a rest h e =
      let p = pair_is b a bytes rest e in
      (subst (λ n. n < 256) p.0 (h 0), rw (p.0, p.1) refl)

-- bytes that are not too few begin with those of the number that they spell
pub record IsSize (size : ℕ) : Type 0 where
  pub back : (bytes : List ℕ) → size ≤ length bytes → IsBytes bytes → little_bytes size (little_number size bytes)
      ≡ take size bytes

pub size_2 : IsSize 2
size_2 =
    record {
      back = λ bytes long h. le_bytes_2 (take 2 bytes) (little_number 2 bytes)
          (omega (arith, length-take 2 bytes)) (IsBytes-take 2 bytes h)
          (omega (arith, get_or-take 2 bytes 0 0 (omega arith), get_or-take 2 bytes 1 0 (omega arith)));
    }

pub size_4 : IsSize 4
size_4 =
    record {
      back = λ bytes long h. le_bytes_4 (take 4 bytes) (little_number 4 bytes)
          (omega (arith, length-take 4 bytes)) (IsBytes-take 4 bytes h) (omega (
            arith,
            get_or-take 4 bytes 0 0 (omega arith),
            get_or-take 4 bytes 1 0
                (omega arith),
            get_or-take 4 bytes 2 0 (omega arith),
            get_or-take 4 bytes 3 0 (omega arith),
          ));
    }

pub number_takes : (size : ℕ) → IsSize size → (bytes : List ℕ) (a : ℕ) (rest : List ℕ) → IsBytes bytes
    → number_at size bytes ≡ Ok (a, rest) → (a < 256 ^ size) × (bytes ≡ little_bytes size a ++ rest)
number_takes size is bytes a rest h e =
    let g = free (ltb (length bytes) size) fault.Short (little_number size bytes, drop size bytes) (a, rest) e in
    let long : size ≤ length bytes = ltb-false _ _ g.0 in
    let a-is : little_number size bytes ≡ a = ap (λ (p : ℕ × List ℕ). p.0) g.1 in
    let rest-is : drop size bytes ≡ rest = ap (λ (p : ℕ × List ℕ). p.1) g.1 in
    let below : little_number size bytes < 256 ^ size = little_from-lt 0 size bytes h in
    let front : little_bytes size a ≡ take size bytes = ap (little_bytes size) (sym a-is) ∙ is.back bytes long h in
    (subst (λ n. n < 256 ^ size) a-is below, rw (front, ← rest-is) (sym (take-append-drop size bytes)))

pub number_again : (size a : ℕ) (rest : List ℕ) → a < 256 ^ size → number_at size (little_bytes size a ++ rest)
    ≡ Ok (a, rest)
number_again size a rest lt =
    let len : length (little_bytes size a) ≡ size = length-bytes_low_first 0 size a in
    let long : ltb (length (little_bytes size a ++ rest)) size
    ≡ false = le-ltb _ _ (omega (arith, length-append (little_bytes size a) rest)) in
    let back : little_number size (little_bytes size a ++ rest) ≡ a = little_number-reads_back size a rest lt in
    rw (long, back, drop_at (little_bytes size a) rest size len) refl

pub short_exact : Exact short
short_exact = record { takes = number_takes 2 size_2; again = number_again 2 }

pub long_exact : Exact long
long_exact = record { takes = number_takes 4 size_4; again = number_again 4 }

pub word_exact : Exact word
word_exact = record { takes = word_takes; again = word_again } where
  word_takes : (bytes : List ℕ) (z : ℤ) (rest : List ℕ) → IsBytes bytes → word_at bytes ≡ Ok (z, rest)
      → FitsSigned w32 z × (bytes ≡ little_bytes 4 (cast_unsigned w32 z) ++ rest)
  word_takes bytes z rest h e =
      let b = bind_ok (number_at 4 bytes) (λ n. Ok (cast_signed w32 n.0, n.1)) (z, rest) e in
      let p = pair_is (cast_signed w32 b.0.0) z b.0.1 rest b.2 in
      let t = number_takes 4 size_4 bytes b.0.0 b.0.1 h b.1 in
      let bits : cast_unsigned w32 z ≡ b.0.0 = ap (cast_unsigned w32) (sym p.0) ∙ of_z-to_z w32 b.0.0 t.0 in
      let fits : FitsSigned w32 (cast_signed w32 b.0.0) = sfits_to_z {w = w32} record { fits = t.0 } in
      let whole : bytes ≡ little_bytes 4 (cast_unsigned w32 z) ++ b.0.1 = rw bits t.1 in
      (subst (FitsSigned w32) p.0 fits, subst (λ r. bytes ≡ little_bytes 4 (cast_unsigned w32 z) ++ r) p.1 whole)

  word_again : (z : ℤ) (rest : List ℕ) → FitsSigned w32 z → word_at (little_bytes 4 (cast_unsigned w32 z) ++ rest)
      ≡ Ok (z, rest)
  word_again z rest fits =
      let below : cast_unsigned w32 z < 256 ^ 4 = (Fits-of_z {w = w32} fits).fits in
      rw (number_again 4 (cast_unsigned w32 z) rest below, to_z-of_z w32 z fits) refl

-- ---- texts

pub bytes_take : (size : ℕ) (bytes a rest : List ℕ) → bytes_at size bytes ≡ Ok (a, rest) → (length a ≡ size)
    × (bytes ≡ a ++ rest)
bytes_take size bytes a rest e =
    let g = free (ltb (length bytes) size) fault.Short (take size bytes, drop size bytes) (a, rest) e in
    let long : size ≤ length bytes = ltb-false _ _ g.0 in
    let a-is : take size bytes ≡ a = ap (λ (p : List ℕ × List ℕ). p.0) g.1 in
    let rest-is : drop size bytes ≡ rest = ap (λ (p : List ℕ × List ℕ). p.1) g.1 in
    (rw (← a-is) (omega (arith, length-take size bytes)), rw (← a-is, ← rest-is) (sym (take-append-drop size bytes)))

pub bytes_again : (size : ℕ) (a rest : List ℕ) → length a ≡ size → bytes_at size (a ++ rest) ≡ Ok (a, rest)
bytes_again size a rest len =
    let long : ltb (length (a ++ rest)) size ≡ false = le-ltb _ _ (omega (arith, length-append a rest)) in
    rw (long, take_at a rest size len, drop_at a rest size len) refl

pub text_exact : Exact text
text_exact = record { takes = text_takes; again = λ t rest fits. bytes_again (length t) t rest refl } where
  text_takes : (bytes t rest : List ℕ) → IsBytes bytes → text.read bytes ≡ Ok (t, rest) → (length t < 256)
      × (bytes ≡ (length t ∷ t) ++ rest)
  text_takes bytes t rest h e =
      let b = bind_ok (byte_at bytes) (λ n. bytes_at n.0 n.1) (t, rest) e in
      let one = byte_exact.takes bytes b.0.0 b.0.1 h b.1 in
      let two = bytes_take b.0.0 b.0.1 t rest b.2 in
      (rw two.0 one.0, rw (two.0, ← two.1) one.1)

-- ---- fields together

pub tested_exact : {A : Type 0} (test : A → Bool) (otherwise : ImageFault) (f : Field A) → Exact f
    → Exact (tested test otherwise f)
tested_exact {A = A} test otherwise f exact = record {
  takes = λ bytes a rest h e.
      let b = bind_ok (f.read bytes) (λ x. cond (test x.0) (Ok x) (Err otherwise)) (a, rest) e in
      let g = passed (test b.0.0) otherwise b.0 (a, rest) b.2 in
      let t = exact.takes bytes b.0.0 b.0.1 h b.1 in
      subst (λ (x : A × List ℕ). (f.fits x.0 × (test x.0 ≡ true)) × (bytes ≡ f.spell x.0 ++ x.1)) g.1 ((t.0, g.0), t.1);
  again = λ a rest fits. rw (exact.again a rest fits.0, fits.1) refl;
}

pub chained_exact : {A B : Type 0} (f : Field A) (g : A → Field B) → Exact f → ((a : A) → Exact (g a))
    → Exact (chained f g)
chained_exact {A = A} {B = B} f g one two = record {
  takes = λ bytes x rest h e.
      let a = bind_ok (f.read bytes) (λ a. (g a.0).read a.1 >>= λ b. Ok ((a.0, b.0), b.1)) (x, rest) e in
      let b = bind_ok ((g a.0.0).read a.0.1) (λ b. Ok ((a.0.0, b.0), b.1)) (x, rest) a.2 in
      let s = one.takes bytes a.0.0 a.0.1 h a.1 in
      let t = (two a.0.0).takes a.0.1 b.0.0 b.0.1 (rest_is_bytes bytes (f.spell a.0.0) a.0.1 s.1 h) b.1 in
      let made : (A × B) × List ℕ = ((a.0.0, b.0.0), b.0.1) in
      let whole : bytes ≡ (f.spell a.0.0 ++ (g a.0.0).spell b.0.0) ++ b.0.1 = s.1 ∙ ap (λ r. f.spell a.0.0 ++ r) t.1
      ∙ sym (append_assoc (f.spell a.0.0) ((g a.0.0).spell b.0.0) b.0.1) in
      subst (λ (y : (A × B) × List ℕ). (f.fits y.0.0 × (g y.0.0).fits y.0.1)
      × (bytes ≡ (f.spell y.0.0 ++ (g y.0.0).spell y.0.1) ++ y.1)) (ok_is made (x, rest) b.2) ((s.0, t.0), whole);
  again = λ x rest fits.
      let regrouped = append_assoc (f.spell x.0) ((g x.0).spell x.1) rest in
      rw (regrouped, one.again x.0 ((g x.0).spell x.1 ++ rest) fits.0, (two x.0).again x.1 rest fits.1) refl;
}

pub both_exact : {A B : Type 0} (f : Field A) (g : Field B) → Exact f → Exact g → Exact (f ⊗ g)
both_exact f g one two = record {
  takes = (chained_exact f (λ _. g) one (λ _. two)).takes;
  again = (chained_exact f (λ _. g) one (λ _. two)).again;
}
