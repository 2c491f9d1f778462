-- Words with a blank between two are read as these words.
use Rattle.std.proofs.Common.{ℕ, ◌≡◌, ◌∙◌, ◌+◌, List, [], ◌∷◌, ◌++◌, Bool, true, false, not, ◌&&◌, cond, Option, Some}
use Rattle.std.proofs.Common.{Ok}
use Rattle.std.proofs.Common.{codes, length, nat_eq, take, ap, refl, arith}
use Rattle.std.proofs.Math.Seq.{take-length}
use Rattle.std.specs.List.{AllByRecursion, before_first, filter, onto_first, position_or_len, slice_split}
use Rattle.fmp_base.specs.Systems.{SystemTables}
use Rattle.fmp_monitors.specs.declared.sentence.Sentence.{Sentence}
use Rattle.fmp_monitors.specs.declared.sentence.Sentence.TheVariants as sentence
use Rattle.fmp_monitors.specs.declared.happening.ExpectedResponse.TheVariants as response
use Rattle.fmp_expect.specs.Grammar.{line_meaning, said_by, sentence_of}
use Rattle.fmp_expect.specs.Words.{before_comment, is_blank, is_word, words_of}
use Rattle.fmp_expect.specs.Written.{AreWords, IsWritable, sentence_words, spaced, spaced_more}
use Rattle.fmp_expect.proofs.ReadBack.{read_back}

-- ---- blanks

split_word : (w rest : List ℕ) → AllByRecursion (λ b. is_blank b ≡ false) w
    → slice_split is_blank (w ++ 32 ∷ rest) ≡ w ∷ slice_split is_blank rest
split_word [] rest h = refl
split_word (b ∷ bs) rest h =
    let more = slice_split is_blank (bs ++ 32 ∷ rest) in
    ap (λ t. cond t ([] ∷ more) (onto_first b more)) h.0 ∙ ap (onto_first b) (split_word bs rest h.1)

split_last : (w : List ℕ) → AllByRecursion (λ b. is_blank b ≡ false) w
    → slice_split is_blank (w ++ []) ≡ w ∷ []
split_last [] h = refl
split_last (b ∷ bs) h =
    let more = slice_split is_blank (bs ++ []) in
    ap (λ t. cond t ([] ∷ more) (onto_first b more)) h.0 ∙ ap (onto_first b) (split_last bs h.1)

split_spaced : (w : List ℕ) (ws : List (List ℕ))
    → AllByRecursion (λ w. AllByRecursion (λ b. is_blank b ≡ false) w) (w ∷ ws)
    → slice_split is_blank (w ++ spaced_more ws) ≡ w ∷ ws
split_spaced w [] h = split_last w h.0
split_spaced w (v ∷ vs) h =
    split_word w (v ++ spaced_more vs) h.0 ∙ ap (λ xs. w ∷ xs) (split_spaced v vs h.1)

kept : (ws : List (List ℕ)) → AllByRecursion (λ w. is_word w ≡ true) ws → filter is_word ws ≡ ws
kept [] h = refl
kept (w ∷ ws) h =
    ap (λ t. cond t (w ∷ filter is_word ws) (filter is_word ws)) h.0 ∙ ap (λ xs. w ∷ xs) (kept ws h.1)

words_back : (w : List ℕ) (ws : List (List ℕ)) → AreWords (w ∷ ws) → words_of (spaced (w ∷ ws)) ≡ w ∷ ws
words_back w ws h = ap (filter is_word) (split_spaced w ws h.unblank) ∙ kept (w ∷ ws) h.some

-- ---- comments

bare_append : (xs ys : List ℕ) → AllByRecursion (λ b. nat_eq b 35 ≡ false) xs
    → AllByRecursion (λ b. nat_eq b 35 ≡ false) ys → AllByRecursion (λ b. nat_eq b 35 ≡ false) (xs ++ ys)
bare_append [] ys h k = k
bare_append (x ∷ xs) ys h k = (h.0, bare_append xs ys h.1 k)

bare_more : (ws : List (List ℕ)) → AllByRecursion (λ w. AllByRecursion (λ b. nat_eq b 35 ≡ false) w) ws
    → AllByRecursion (λ b. nat_eq b 35 ≡ false) (spaced_more ws)
bare_more [] h = h
bare_more (w ∷ ws) h = (refl, bare_append w (spaced_more ws) h.0 (bare_more ws h.1))

uncut : (line : List ℕ) → AllByRecursion (λ b. nat_eq b 35 ≡ false) line
    → position_or_len (λ b. nat_eq b 35) line ≡ length line
uncut [] h = refl
uncut (b ∷ bs) h =
    let more : 1 + length bs ≡ length (b ∷ bs) = omega arith in
    ap (λ t. cond (not t) (1 + position_or_len (λ b. nat_eq b 35) bs) 0) h.0
    ∙ ap (λ n. 1 + n) (uncut bs h.1)
    ∙ more

whole_line : (line : List ℕ) → AllByRecursion (λ b. nat_eq b 35 ≡ false) line → before_comment line ≡ line
whole_line line h = ap (λ n. take n line) (uncut line h) ∙ take-length line

-- ---- lines

read_line : (sys : SystemTables) (w : List ℕ) (ws : List (List ℕ)) → AreWords (w ∷ ws)
    → line_meaning sys (spaced (w ∷ ws)) ≡ Some (sentence_of sys (w ∷ ws))
read_line sys w ws h =
    let bare = bare_append w (spaced_more ws) h.bare.0 (bare_more ws h.bare.1) in
    ap (λ line. said_by sys (words_of line)) (whole_line (spaced (w ∷ ws)) bare)
    ∙ ap (said_by sys) (words_back w ws h)

module _ (sys : SystemTables) where
  pub line_back : (e : Sentence) → IsWritable sys e → AreWords (sentence_words sys e)
      → line_meaning sys (spaced (sentence_words sys e)) ≡ Some (Ok e)
  line_back (sentence.Never h) w a = read_line sys _ _ a ∙ ap (λ r. Some r) (read_back sys (sentence.Never h) w)
  line_back (sentence.Before x y) w a = read_line sys _ _ a ∙ ap (λ r. Some r) (read_back sys (sentence.Before x y) w)
  line_back (sentence.NeverAfter h x y) w a =
      read_line sys _ _ a ∙ ap (λ r. Some r) (read_back sys (sentence.NeverAfter h x y) w)
  line_back (sentence.Within (response.Runs who) n t) w a =
      read_line sys _ _ a ∙ ap (λ r. Some r) (read_back sys (sentence.Within (response.Runs who) n t) w)
  line_back (sentence.Within (response.Happens h) n t) w a =
      read_line sys _ _ a ∙ ap (λ r. Some r) (read_back sys (sentence.Within (response.Happens h) n t) w)
  line_back (sentence.OneAtATime x y) w a =
      read_line sys _ _ a ∙ ap (λ r. Some r) (read_back sys (sentence.OneAtATime x y) w)
  line_back (sentence.Always c) w a = read_line sys _ _ a ∙ ap (λ r. Some r) (read_back sys (sentence.Always c) w)
  line_back (sentence.Rests t) w a = read_line sys _ _ a ∙ ap (λ r. Some r) (read_back sys (sentence.Rests t) w)
  line_back (sentence.End s t) w a = read_line sys _ _ a ∙ ap (λ r. Some r) (read_back sys (sentence.End s t) w)
