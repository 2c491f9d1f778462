-- Bytes of a stream that come one after another.
use Rattle.std.proofs.Common.{ℕ, ◌≡◌, ◌-◌, ◌<◌, ◌≤◌, List, [], ◌∷◌, ◌++◌, Option, None, length, refl, ap, sym, ◌∙◌}
use Rattle.std.proofs.Common.{append_assoc, arith, drop, slice_range}
use Rattle.std.proofs.lemmas.Bool.{lt-ltb}
use Rattle.std.proofs.lemmas.List.{append-nil}
use Rattle.std.proofs.lemmas.List.Folds.{drop_split}
use Rattle.std.specs.Option.{option_to_list}
use Rattle.fmp_server.specs.Framing.{Part, step, fed, fed_after}

-- what comes in parts is read as what comes whole
pub fed_append : (p : Part) (a b : List ℕ) →
    fed p (a ++ b) ≡ (let r = fed p a in let s = fed r.0 b in (s.0, r.1 ++ s.1))
fed_append p [] b = refl
fed_append p (x ∷ xs) b =
    let s = step p x in
    let u = fed s.0 xs in
    let q = fed u.0 b in
    ap (λ (r : Part × List (List ℕ)). (r.0, option_to_list s.1 ++ r.1)) (fed_append s.0 xs b)
    ∙ ap (λ (l : List (List ℕ)). (q.0, l)) (sym (append_assoc (option_to_list s.1) u.1 q.1))

-- a message of which some bytes came
abbrev pub body_part : (line : List ℕ) → (told left : ℕ) → (message : List ℕ) → Part
body_part line told left message = record { line = line; told = told; left = left; message = message }

-- one byte of a message, after which others come
step_more : (line : List ℕ) (told : ℕ) (m : List ℕ) (n b : ℕ) → 1 < n
    → step (body_part line told n m) b ≡ (body_part line told (n - 1) (m ++ b ∷ []), None)
step_more line told m n b h =
    let some = lt-ltb 0 n (omega arith) in
    let more = lt-ltb 1 n h in
    simp (some, more)

-- the bytes of a message, after which others come
pub more_fed : (line : List ℕ) (told : ℕ) (m bs : List ℕ) (n : ℕ) → length bs < n
    → fed (body_part line told n m) bs ≡ (body_part line told (n - length bs) (m ++ bs), [])
more_fed line told m [] n h =
    let all : n ≡ n - 0 = omega arith in
    ap (λ (k : ℕ). (body_part line told k m, [])) all
    ∙ ap (λ (l : List ℕ). (body_part line told (n - 0) l, [])) (sym (append-nil m))
more_fed line told m (b ∷ bs) n h =
    let rest : n - 1 - length bs ≡ n - length (b ∷ bs) = omega arith in
    ap (λ (s : Part × Option (List ℕ)). let r = fed s.0 bs in (r.0, option_to_list s.1 ++ r.1))
    (step_more line told m n b (omega arith))
    ∙ more_fed line told (m ++ b ∷ []) bs (n - 1) (omega arith)
    ∙ ap (λ (k : ℕ). (body_part line told k ((m ++ b ∷ []) ++ bs), [])) rest
    ∙ ap (λ (l : List ℕ). (body_part line told (n - length (b ∷ bs)) l, [])) (append_assoc m (b ∷ []) bs)

-- the last bytes of a message
pub last_fed : (line : List ℕ) (told : ℕ) (m : List ℕ) (b : ℕ) (bs : List ℕ)
    → fed (body_part line told (length (b ∷ bs)) m) (b ∷ bs) ≡ (body_part line told 0 [], (m ++ b ∷ bs) ∷ [])
last_fed line told m b [] = refl
last_fed line told m b (c ∷ cs) =
    let one : length (b ∷ c ∷ cs) - 1 ≡ length (c ∷ cs) = omega arith in
    ap (λ (s : Part × Option (List ℕ)). let r = fed s.0 (c ∷ cs) in (r.0, option_to_list s.1 ++ r.1))
    (step_more line told m (length (b ∷ c ∷ cs)) b (omega arith))
    ∙ ap (λ (k : ℕ). fed (body_part line told k (m ++ b ∷ [])) (c ∷ cs)) one
    ∙ last_fed line told (m ++ b ∷ []) c cs
    ∙ ap (λ (l : List ℕ). (body_part line told 0 [], l ∷ [])) (append_assoc m (b ∷ []) (c ∷ cs))

-- all bytes of a message that are still to come
pub all_fed : (line : List ℕ) (told : ℕ) (m bs : List ℕ) (n : ℕ) → 0 < length bs → n ≡ length bs
    → fed (body_part line told n m) bs ≡ (body_part line told 0 [], (m ++ bs) ∷ [])
all_fed line told m [] n h e = absurd (omega (arith, h))
all_fed line told m (b ∷ bs) n h e =
    ap (λ (k : ℕ). fed (body_part line told k m) (b ∷ bs)) e ∙ last_fed line told m b bs

-- a stretch of bytes, and then those after it
pub stretch_fed : (p q : Part) (before ms : List (List ℕ)) (bytes : List ℕ) (at end : ℕ) → at ≤ end
    → (q, ms) ≡ fed p (slice_range bytes at end)
    → fed_after q (before ++ ms) (drop end bytes) ≡ fed_after p before (drop at bytes)
stretch_fed p q before ms bytes at end on e =
    let s = slice_range bytes at end in
    let d = drop end bytes in
    let whole : fed p (drop at bytes) ≡ ((fed q d).0, ms ++ (fed q d).1) =
    ap (λ (l : List ℕ). fed p l) (drop_split bytes at end on)
    ∙ fed_append p s d
    ∙ ap (λ (r : Part × List (List ℕ)). ((fed r.0 d).0, r.1 ++ (fed r.0 d).1)) (sym e) in
    ap (λ (l : List (List ℕ)). ((fed q d).0, l)) (append_assoc before ms (fed q d).1)
    ∙ sym (ap (λ (r : Part × List (List ℕ)). (r.0, before ++ r.1)) whole)
