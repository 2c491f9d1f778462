-- What a text is cut into up to a place, and what a window on it has passed.
use Rattle.std.proofs.Common.{◌≡◌, ℕ, zero, suc, ◌+◌, ◌<◌, ◌≤◌, ◌⊎◌, inl, inr, List, [], ◌∷◌, ◌++◌, length, append-nil}
use Rattle.std.proofs.Common.{drop, replicate, slice_get, Option, Some, None, option_map, sym, subst, refl, arith}
use Rattle.std.proofs.lemmas.List.{drop_at, length-drop, length-replicate}
use Rattle.std.proofs.lemmas.Option.{none-some, same_Some}
use Rattle.fmp_lex.specs.declared.token.LexFault.{LexFault}
use Rattle.fmp_lex.specs.declared.token.Token.{Token}
use Rattle.fmp_lex.specs.declared.token.TokenKind.TheVariants.{Bad}
use Rattle.fmp_lex.specs.declared.window.Window.{Window}
use Rattle.fmp_lex.specs.Cutting.{Skip, Whole, Fault, IsPiece, Cuts, ended, faulty, line_at, skipped as whole_skipped}
use Rattle.fmp_lex.specs.Cutting.{token as whole_token}
use Rattle.fmp_lex.specs.Packing.{absent}
use Rattle.fmp_lex.specs.Windows.{CutsUpTo, here, skipped, token, IsFaultAt, IsPartEnd, IsWindow, Passed}
use Rattle.fmp_lex.proofs.Existence.{goes_on}
use Rattle.fmp_lex.proofs.Packing.{behind_length}

-- what stands from a up to b, and then from there up to c
pub cuts_then : (text : List ℕ) (b c a : ℕ) (xs ys : List Token) → CutsUpTo text b a xs → CutsUpTo text c b ys →
    CutsUpTo text c a (xs ++ ys)
cuts_then text b c a xs ys (here _ e) more = subst (λ n. CutsUpTo text c n ys) (sym e) more
cuts_then text b c a xs ys (skipped _ j ts lt is rest) more =
    skipped a j (ts ++ ys) lt is (cuts_then text b c j ts ys rest more)
cuts_then text b c a xs ys (token _ j k ts lt is rest) more =
    token a j k (ts ++ ys) lt is (cuts_then text b c j ts ys rest more)

-- spaces and comments after the tokens
pub cuts_skip : (text : List ℕ) (b c a : ℕ) (xs : List Token) → CutsUpTo text b a xs → CutsUpTo text c b [] →
    CutsUpTo text c a xs
cuts_skip text b c a xs front more = rw append-nil at (cuts_then text b c a xs [] front more)

-- each token takes a byte or more
pub cuts_length : (text : List ℕ) (n i : ℕ) (ts : List Token) → CutsUpTo text n i ts → i + length ts ≤ n
cuts_length text n i ts (here _ e) = omega arith
cuts_length text n i ts (skipped _ j us lt is rest) =
    let on : i < j = goes_on text i (Skip j) lt is in
    let more = cuts_length text n j us rest in
    omega arith
cuts_length text n i ts (token _ j k us lt is rest) =
    let on : i < j = goes_on text i (Whole k j) lt is in
    let more = cuts_length text n j us rest in
    omega arith

-- a text that is cut up to its end
pub cuts_all : (text : List ℕ) (n i : ℕ) (ts : List Token) → length text ≤ n → CutsUpTo text n i ts → Cuts text i ts
cuts_all text n i ts past (here _ e) = ended i (omega arith)
cuts_all text n i ts past (skipped _ j us lt is rest) = whole_skipped i j us lt is (cuts_all text n j us past rest)
cuts_all text n i ts past (token _ j k us lt is rest) = whole_token i j k us lt is (cuts_all text n j us past rest)

-- a text that is cut up to a fault, which is the last of its tokens
pub cuts_fault : (text : List ℕ) (n i : ℕ) (f : LexFault) (ts : List Token) → CutsUpTo text n i ts → n < length text →
    IsPiece text n (Fault f) →
    Cuts text i (ts ++ record { kind = Bad f; line = line_at text n; start = n; end = n } ∷ [])
cuts_fault text n i f ts (here _ e) lt is =
    let bad : Token = record { kind = Bad f; line = line_at text n; start = n; end = n } in
    subst (λ k. Cuts text k (bad ∷ [])) (sym e) (faulty n f lt is)
cuts_fault text n i f ts (skipped _ j us within piece rest) lt is =
    whole_skipped i j _ within piece (cuts_fault text n j f us rest lt is)
cuts_fault text n i f ts (token _ j k us within piece rest) lt is =
    whole_token i j k _ within piece (cuts_fault text n j f us rest lt is)

-- where a part ends that does not reach its stop
pub part_end : (text : List ℕ) (stop n : ℕ) (fault : Option LexFault) → IsPartEnd text stop n fault →
    (stop ≤ n) ⊎ IsFaultAt text n
part_end text stop n None le = inl le
part_end text stop n (Some f) is = inr (f, is.1)

-- only spaces and comments stand before the first token
pub cuts_to_first : (text : List ℕ) (n i : ℕ) (t : Token) (ts : List Token) → CutsUpTo text n i (t ∷ ts) →
    CutsUpTo text t.start i [] × CutsUpTo text n t.start (t ∷ ts) × (t.start < length text)
cuts_to_first text n i t ts (skipped _ j _ lt is rest) =
    let first = cuts_to_first text n j t ts rest in
    (skipped i j [] lt is first.0, first.1, first.2)
cuts_to_first text n i t ts (token _ j k _ lt is rest) = (here i refl, token i j k ts lt is rest, lt)

-- where the token at a place begins
abbrev start_at : List Token → ℕ → Option ℕ
start_at ts at = option_map (λ (t : Token). t.start) (slice_get ts at)

pub cuts_to_token : (text : List ℕ) (n i at start : ℕ) (ts : List Token) → Some start ≡ start_at ts at →
    CutsUpTo text n i (drop at ts) → CutsUpTo text start i [] × (start < length text)
cuts_to_token text n i zero start [] e cut = absurd (none-some start (sym e))
cuts_to_token text n i zero start (t ∷ ts) e cut =
    let first = cuts_to_first text n i t ts cut in
    let same : t.start ≡ start = sym (same_Some start t.start e) in
    subst (λ s. CutsUpTo text s i [] × (s < length text)) same (first.0, first.2)
cuts_to_token text n i (suc at) start [] e cut = absurd (none-some start (sym e))
cuts_to_token text n i (suc at) start (t ∷ ts) e cut = cuts_to_token text n i at start ts e cut

-- no token stands there
pub cuts_to_end : (text : List ℕ) (n i at : ℕ) (ts : List Token) → None ≡ start_at ts at →
    CutsUpTo text n i (drop at ts) → CutsUpTo text n i []
cuts_to_end text n i zero [] e cut = cut
cuts_to_end text n i zero (t ∷ ts) e cut = absurd (none-some t.start e)
cuts_to_end text n i (suc at) [] e cut = cut
cuts_to_end text n i (suc at) (t ∷ ts) e cut = cuts_to_end text n i at ts e cut

-- what was passed ends where the token at the place begins
pub passed_start : (w : Window) (before : List Token) (at start : ℕ) → Some start ≡ start_at w.tokens at →
    Passed w before at → CutsUpTo w.text.now start 0 before × (start < length w.text.now)
passed_start w before at start e passed =
    let (c, front, rest) = passed.cut in
    let (gap, lt) = cuts_to_token w.text.now w.next c at start w.tokens e rest in
    (cuts_skip w.text.now c start 0 before front gap, lt)

pub passed_end : (w : Window) (before : List Token) (at : ℕ) → None ≡ start_at w.tokens at → Passed w before at →
    CutsUpTo w.text.now w.next 0 before
passed_end w before at e passed =
    let (c, front, rest) = passed.cut in
    cuts_skip w.text.now c w.next 0 before front (cuts_to_end w.text.now w.next c at w.tokens e rest)

-- a window that holds the tokens from the place on
pub passed_hold : (old new : Window) (before found : List Token) (at start : ℕ) → new.text.now ≡ old.text.now →
    new.tokens ≡ replicate at absent ++ found → CutsUpTo old.text.now start 0 before →
    CutsUpTo old.text.now new.next start found → Passed old before at → Passed new before at
passed_hold old new before found at start text tokens front rest passed = record {
  count = passed.count;
  within = rw tokens (omega (arith, behind_length at absent found));
  cut = rw (text, tokens, drop_at (replicate at absent) found at (length-replicate at absent)) (start, front, rest);
}

-- a window's tokens are no more than the bytes before its end
pub passed_length : (w : Window) (before : List Token) (at : ℕ) → Passed w before at → length w.tokens ≤ w.next
passed_length w before at passed =
    let (c, front, rest) = passed.cut in
    let first = cuts_length w.text.now c 0 before front in
    let behind = cuts_length w.text.now w.next c (drop at w.tokens) rest in
    omega (arith, passed.count, passed.within, length-drop at w.tokens)

-- so they are no more than a text may have bytes
pub passed_few : (w : Window) (before : List Token) (at : ℕ) → IsWindow w → Passed w before at → at ≤ 1048576
passed_few w before at window passed =
    omega (arith, window.0, window.1, passed.within, passed_length w before at passed)
