-- What is read while a window moves over the tokens of a text.
use Rattle.std.proofs.Common.{◌≡◌, ℕ, zero, suc, ◌+◌, ◌-◌, ◌<◌, ◌≤◌, List, [], ◌∷◌, ◌++◌, length, slice_get, take, drop}
use Rattle.std.proofs.Common.{refl, sym, ap, subst, ◌∙◌, arith, length-append, append_assoc, append-nil}
use Rattle.std.proofs.Common.{take-append-drop}
use Rattle.std.proofs.lemmas.List.{length-map, length-take-le, length-drop, take-map, drop_all}
use Rattle.fmp_lex.specs.declared.token.Token.{Token}
use Rattle.fmp_lex.specs.declared.token.TokenKind.{TokenKind}
use Rattle.fmp_lex.specs.declared.window.Window.{Window}
use Rattle.fmp_lex.specs.Cutting.{Cuts, line_at}
use Rattle.fmp_lex.specs.Faults.{Spells}
use Rattle.fmp_lex.specs.Reading.{Rel, At, Seq, Star, Right, found, kind_of, kinds_of}
use Rattle.fmp_lex.specs.Windows.{CutsUpTo, here, skipped, token, IsWindow, Passed, Streams}
use Rattle.fmp_lex.proofs.Lists.{get_take}
use Rattle.fmp_lex.proofs.Repetitions.{star_framed}
use Rattle.fmp_lex.proofs.Sequences.{Framed}
use Rattle.fmp_lex.proofs.Windows.{cuts_then, cuts_all}

-- the cut of some tokens, and of those behind them
split_of : (text : List ℕ) (n i : ℕ) (xs ys zs : List Token) → CutsUpTo text n i zs → zs ≡ xs ++ ys →
    (m : ℕ) × CutsUpTo text m i xs × CutsUpTo text n m ys
split_of text n i [] ys zs c is = (i, here i refl, subst (λ us. CutsUpTo text n i us) is c)
split_of text n i (x ∷ xs) ys zs (here _ at) is = absurd (cc)
split_of text n i (x ∷ xs) ys zs (skipped _ j ts lt p c) is =
    let s = split_of text n j (x ∷ xs) ys ts c is in
    (s.0, skipped i j (x ∷ xs) lt p s.1, s.2)
split_of text n i (x ∷ xs) ys zs (token _ j k ts lt p c) is =
    let tail : ts ≡ xs ++ ys = cc in
    let head : record { kind = k; line = line_at text i; start = i; end = j } ≡ x = cc in
    let s = split_of text n j xs ys ts c tail in
    (s.0, subst (λ t. CutsUpTo text s.0 i (t ∷ xs)) head (token i j k xs lt p s.1), s.2)

pub cuts_split : (text : List ℕ) (n i : ℕ) (xs ys : List Token) → CutsUpTo text n i (xs ++ ys) →
    (m : ℕ) × CutsUpTo text m i xs × CutsUpTo text n m ys
cuts_split text n i xs ys c = split_of text n i xs ys (xs ++ ys) c refl

drop_twice : (ts : List Token) (i n j : ℕ) → j ≡ i + n → drop n (drop i ts) ≡ drop j ts
drop_twice ts zero n j is = ap (λ k. drop k ts) (omega arith)
drop_twice [] (suc i) zero zero is = refl
drop_twice [] (suc i) zero (suc j) is = refl
drop_twice [] (suc i) (suc n) zero is = refl
drop_twice [] (suc i) (suc n) (suc j) is = refl
drop_twice (t ∷ ts) (suc i) n zero is = absurd (omega arith)
drop_twice (t ∷ ts) (suc i) n (suc j) is = drop_twice ts i n j (omega arith)

-- the tokens from i up to i + n are the same behind any i others
same_behind : (bs ts : List Token) (i n k : ℕ) → length bs ≡ i → i + n ≤ length ts → i ≤ k → k < i + n →
    slice_get (kinds_of ts) k ≡ slice_get (kinds_of (bs ++ take n (drop i ts))) k
same_behind [] ts zero n k is le from lt =
    sym (get_take (kinds_of ts) n k (omega arith)) ∙ ap (λ us. slice_get us k) (take-map kind_of n ts)
same_behind [] ts (suc i) n k is le from lt = absurd (omega arith)
same_behind (b ∷ bs) ts zero n k is le from lt = absurd (omega arith)
same_behind (b ∷ bs) [] (suc i) n k is le from lt = absurd (omega arith)
same_behind (b ∷ bs) (t ∷ ts) (suc i) n zero is le from lt = absurd (omega arith)
same_behind (b ∷ bs) (t ∷ ts) (suc i) n (suc k) is le from lt =
    same_behind bs ts i n k (omega arith) (omega arith) (omega arith) (omega arith)

-- tokens stay where they are as others follow
same_longer : (bs more : List Token) (k : ℕ) → k < length bs →
    slice_get (kinds_of bs) k ≡ slice_get (kinds_of (bs ++ more)) k
same_longer [] more k lt = absurd (omega arith)
same_longer (b ∷ bs) more zero lt = refl
same_longer (b ∷ bs) more (suc k) lt = same_longer bs more k (omega arith)

-- a reader goes on in the window
pub passed_on : (w : Window) (before : List Token) (i j : ℕ) → i ≤ j → j ≤ length w.tokens → Passed w before i →
    Passed w (before ++ take (j - i) (drop i w.tokens)) j
passed_on w before i j le within p =
    let ts : List Token = w.tokens in
    let n = j - i in
    let rest = drop i ts in
    let left : length rest ≡ length ts - i = length-drop i ts in
    let long : length (take n rest) ≡ n = length-take-le n rest (omega arith) in
    let both = length-append before (take n rest) in
    let count = p.count in
    let s = cuts_split w.text.now w.next p.cut.0 (take n rest) (drop n rest)
    (subst (λ us. CutsUpTo w.text.now w.next p.cut.0 us) (sym (take-append-drop n rest)) p.cut.2) in
    record {
      count = omega arith;
      within = within;
      cut = (
        s.0,
        cuts_then w.text.now p.cut.0 s.0 0 before (take n rest) p.cut.1 s.1,
        subst (λ us. CutsUpTo w.text.now w.next s.0 us) (drop_twice ts i n j (omega arith)) s.2,
      );
    }

module _ {A : Type 0} (X : Rel A) where
  -- read in the window as it stands
  pub streams_here : Framed X → (w : Window) (i : ℕ) (a : A) (j : ℕ) → j ≤ length w.tokens →
      ((limit : ℕ) → X (kinds_of w.tokens) limit i a j) → Streams X w w i a j
  streams_here framed w i a j within reads =
      let le = framed.up (kinds_of w.tokens) 0 i a j (reads 0) in
      λ before p.
      let count = p.count in (
        take (j - i) (drop i w.tokens),
        passed_on w before i j le within p,
        λ limit. framed.same (kinds_of w.tokens) (kinds_of (before ++ take (j - i) (drop i w.tokens))) limit limit i a j
            (omega arith) (reads limit)
            (λ k from lt. same_behind before w.tokens i (j - i) k count (omega arith) from (omega arith)),
      )

  -- what a reader answers that found an X
  pub streams_right : {Ends : List TokenKind → ℕ → Type 0} → Framed X → (w : Window) (i : ℕ) (a : A) (j : ℕ) →
      Right (At X i) Ends (kinds_of w.tokens) i (found a j) → Streams X w w i a j
  streams_right framed w i a j x =
      let size : length (kinds_of w.tokens) ≡ length w.tokens = length-map w.tokens kind_of in
      let within = x.within in
      streams_here framed w i a j (omega arith) x.reads

  -- the window moves on behind what was read
  pub streams_hold : (w0 w1 w2 : Window) (i : ℕ) (a : A) (j : ℕ) → Streams X w0 w1 i a j →
      ((before : List Token) → Passed w1 before j → Passed w2 before j) → Streams X w0 w2 i a j
  streams_hold w0 w1 w2 i a j s hold = λ before p. let one = s before p in (one.0, hold (before ++ one.0) one.1, one.2)

  -- the window moves on before it is read
  pub streams_held : (w0 w1 w2 : Window) (i : ℕ) (a : A) (j : ℕ) →
      ((before : List Token) → Passed w0 before i → Passed w1 before i) → Streams X w1 w2 i a j → Streams X w0 w2 i a j
  streams_held w0 w1 w2 i a j hold s = λ before p. s before (hold before p)

  -- the text spells what was read up to its end
  pub streams_whole : (text : List ℕ) (w0 w : Window) (a : A) (j : ℕ) → Passed w0 [] 0 → Streams X w0 w 0 a j →
      w.text.now ≡ text → IsWindow w → j ≡ length w.tokens → length text ≤ w.next →
      (ts : List Token) × Spells X text ts a
  streams_whole text w0 w a j start s same window at_end past =
      let one = s [] start in
      let ts = one.0 in
      let p = one.1 in
      let none : drop j w.tokens ≡ [] = drop_all j w.tokens (omega arith) in
      let all : CutsUpTo w.text.now w.next 0 (ts ++ []) = cuts_then w.text.now p.cut.0 w.next 0 ts [] p.cut.1
      (subst (λ us. CutsUpTo w.text.now w.next p.cut.0 us) none p.cut.2) in
      let exact : CutsUpTo w.text.now w.next 0 ts = subst (λ us. CutsUpTo w.text.now w.next 0 us) (append-nil ts) all in
      let cuts : Cuts text 0 ts = cuts_all text w.next 0 ts past (subst (λ bs. CutsUpTo bs w.next 0 ts) same exact) in
      let size : length (kinds_of ts) ≡ length ts = length-map ts kind_of in
      let count = p.count in
      let is : j ≡ length (kinds_of ts) = omega arith in
      let short : length text ≤ 1048576 = subst (λ bs. length bs ≤ 1048576) same window.0 in
      let reads = subst (λ k. X (kinds_of ts) (length (kinds_of ts)) 0 a k) is (one.2 (length (kinds_of ts))) in
      (ts, (short, cuts, reads))

-- one thing as another
pub streams_as : {A B : Type 0} (X : Rel A) (Y : Rel B) (w0 w1 : Window) (i : ℕ) (a : A) (b : B) (j : ℕ) →
    ((us : List TokenKind) (limit : ℕ) → X us limit i a j → Y us limit i b j) →
    Streams X w0 w1 i a j → Streams Y w0 w1 i b j
streams_as X Y w0 w1 i a b j to s = λ before p. let one = s before p in
    (one.0, one.1, λ limit. to (kinds_of (before ++ one.0)) limit (one.2 limit))

-- one thing, and then another
pub streams_seq : {A B : Type 0} (X : Rel A) (Y : Rel B) (w0 w1 w2 : Window) (i : ℕ) (a : A) (k : ℕ) (b : B) (j : ℕ) →
    Framed X → Streams X w0 w1 i a k → Streams Y w1 w2 k b j → Streams (Seq X Y) w0 w2 i (a, b) j
streams_seq X Y w0 w1 w2 i a k b j framed s t = λ before p.
    let one = s before p in
    let two = t (before ++ one.0) one.1 in
    let all : before ++ one.0 ++ two.0 ≡ before ++ (one.0 ++ two.0) = append_assoc before one.0 two.0 in
    let count : length (before ++ one.0) ≡ k = one.1.count in (
      one.0 ++ two.0,
      subst (λ ts. Passed w2 ts j) all two.1,
      λ limit. (
        k,
        framed.same (kinds_of (before ++ one.0)) (kinds_of (before ++ (one.0 ++ two.0))) limit limit i a k (omega arith)
            (one.2 limit)
            (λ n from lt. same_longer (before ++ one.0) two.0 n (omega arith)
            ∙ ap (λ ts. slice_get (kinds_of ts) n) all),
        subst (λ ts. Y (kinds_of ts) limit k b j) all (two.2 limit),
      ),
    )

-- any number of one thing
module _ {A : Type 0} (X : Rel A) where
  star_append : (us : List TokenKind) (limit i : ℕ) (some : List A) (k : ℕ) (more : List A) (j : ℕ) →
      Star X us limit i some k → Star X us limit k more j → Star X us limit i (some ++ more) j
  star_append us limit i [] k more j x y = subst (λ n. Star X us limit n more j) x y
  star_append us limit i (a ∷ some) k more j x y = (x.0, x.1, star_append us limit x.0 some k more j x.2 y)

  -- none
  pub streams_none : (w : Window) (i : ℕ) → Streams (Star X) w w i [] i
  streams_none w i = λ before p. ([], subst (λ ts. Passed w ts i) (sym (append-nil before)) p, λ limit. refl)

  -- some, and then others
  pub streams_star : (w0 w1 w2 : Window) (i : ℕ) (some : List A) (k : ℕ) (more : List A) (j : ℕ) → Framed X →
      Streams (Star X) w0 w1 i some k → Streams (Star X) w1 w2 k more j → Streams (Star X) w0 w2 i (some ++ more) j
  streams_star w0 w1 w2 i some k more j framed s t =
      streams_as (Seq (Star X) (Star X)) (Star X) w0 w2 i (some, more) (some ++ more) j
      (λ us limit x. star_append us limit i some x.0 more j x.1 x.2)
      (streams_seq (Star X) (Star X) w0 w1 w2 i some k more j (star_framed X framed) s t)

  -- some, and then one more
  pub streams_push : (w0 w1 w2 : Window) (i : ℕ) (some : List A) (k : ℕ) (b : A) (j : ℕ) → Framed X →
      Streams (Star X) w0 w1 i some k → Streams X w1 w2 k b j → Streams (Star X) w0 w2 i (some ++ b ∷ []) j
  streams_push w0 w1 w2 i some k b j framed s t = streams_star w0 w1 w2 i some k (b ∷ []) j framed s
      (streams_as X (Star X) w1 w2 k b (b ∷ []) j (λ us limit x. (j, x, refl)) t)
