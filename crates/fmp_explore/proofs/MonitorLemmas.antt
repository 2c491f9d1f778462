-- Monitors of the same sentences, and what their numbers tell.
use Rattle.std.proofs.Common.{◌≡◌, ◌+◌, ◌<◌, ℕ, suc, List, [], ◌∷◌, ◌++◌, refl, sym, ap, subst}
use Rattle.std.proofs.Common.{◌*◌, ◌∙◌, arith, get_or, length, take}
use Rattle.std.specs.List.{flat_map}
use Rattle.std.proofs.lemmas.List.{take_more}
use Rattle.fmp_base.specs.declared.events.Line.{Line}
use Rattle.fmp_explore.specs.States.{AreMonitorsOf, kind_number, monitor_numbers, value_number}
use Rattle.fmp_monitors.specs.declared.standing.Standing.{Standing}
use Rattle.fmp_monitors.specs.declared.standing.Standing.TheVariants as standing
use Rattle.fmp_schedules.specs.declared.monitor.Monitor.{Monitor}
use Rattle.fmp_schedules.specs.Schedules.{monitors_after}
use Rattle.fmp_schedules.specs.Monitors.{monitor_after, monitor_on}

after-same : (s : Monitor) (ls : List Line) → monitor_after s ls ≡ record s { standing = (monitor_after s ls).standing }
after-same s [] = refl
after-same s (l ∷ ls) = after-same (monitor_on s l) ls

pub held-self : (ss : List Monitor) → AreMonitorsOf ss ss
held-self [] = tt
held-self (s ∷ ss) = (refl, held-self ss)

-- lines change what is kept alone
pub held-after : (ss ts : List Monitor) (ls : List Line) → AreMonitorsOf ss ts → AreMonitorsOf ss (monitors_after ts ls)
held-after [] [] ls h = tt
held-after (s ∷ ss) (t ∷ ts) ls h =
    let x : Standing = (monitor_after t ls).standing in
    (after-same t ls ∙ ap (λ (y : Monitor). record y { standing = x }) h.0, held-after ss ts ls h.1)
held-after [] (t ∷ ts) ls h = absurd h
held-after (s ∷ ss) [] ls h = absurd h

pub held-length : (ss ts : List Monitor) → AreMonitorsOf ss ts → length ts ≡ length ss
held-length [] [] h = refl
held-length (s ∷ ss) (t ∷ ts) h = ap (λ (k : ℕ). suc k) (held-length ss ts h.1)
held-length [] (t ∷ ts) h = absurd h
held-length (s ∷ ss) [] h = absurd h

standing-told : (a b : Standing) → kind_number a ≡ kind_number b → value_number a ≡ value_number b → a ≡ b
standing-told standing.Open standing.Open k v = refl
standing-told standing.Open standing.Held k v = absurd (omega (arith, k))
standing-told standing.Open (standing.Inside u) k v = absurd (omega (arith, k))
standing-told standing.Open (standing.Waiting r) k v = absurd (omega (arith, k))
standing-told standing.Held standing.Open k v = absurd (omega (arith, k))
standing-told standing.Held standing.Held k v = refl
standing-told standing.Held (standing.Inside u) k v = absurd (omega (arith, k))
standing-told standing.Held (standing.Waiting r) k v = absurd (omega (arith, k))
standing-told (standing.Inside t) standing.Open k v = absurd (omega (arith, k))
standing-told (standing.Inside t) standing.Held k v = absurd (omega (arith, k))
standing-told (standing.Inside t) (standing.Inside u) k v = ap (λ (n : ℕ). standing.Inside n) v
standing-told (standing.Inside t) (standing.Waiting r) k v = absurd (omega (arith, k))
standing-told (standing.Waiting l) standing.Open k v = absurd (omega (arith, k))
standing-told (standing.Waiting l) standing.Held k v = absurd (omega (arith, k))
standing-told (standing.Waiting l) (standing.Inside u) k v = absurd (omega (arith, k))
standing-told (standing.Waiting l) (standing.Waiting r) k v = ap (λ (n : ℕ). standing.Waiting n) v

-- the numbers of what is kept of sentences
abbrev pub numbers_of : List Monitor → List ℕ
numbers_of ms = flat_map (λ m. monitor_numbers m) ms

two_more : (n k : ℕ) → n ≡ 2 * k → suc (suc n) ≡ 2 * suc k
two_more n k e = omega (arith, e)

pub numbers-length : (ms : List Monitor) → length (numbers_of ms) ≡ 2 * length ms
numbers-length [] = refl
numbers-length (m ∷ ms) = two_more (length (numbers_of ms)) (length ms) (numbers-length ms)

numbers-apart : (a b c d : ℕ) (xs ys : List ℕ) → a ∷ b ∷ xs ≡ c ∷ d ∷ ys → (a ≡ c) × ((b ≡ d) × (xs ≡ ys))
numbers-apart a b c d xs ys e =
    let first : a ≡ c = cc in
    let second : b ≡ d = cc in
    let rest : xs ≡ ys = cc in
    (first, (second, rest))

pub held-told : (ss ts us : List Monitor) → AreMonitorsOf ss ts → AreMonitorsOf ss us
    → numbers_of ts ≡ numbers_of us → ts ≡ us
held-told [] [] [] h k e = refl
held-told (s ∷ ss) (t ∷ ts) (u ∷ us) h k e =
    let parts =
    numbers-apart (kind_number t.standing) (value_number t.standing) (kind_number u.standing) (value_number u.standing)
    (numbers_of ts) (numbers_of us) e in
    let same : t ≡ u =
    h.0 ∙ ap (λ (x : Standing). record s { standing = x }) (standing-told t.standing u.standing parts.0 parts.1.0)
    ∙ sym k.0 in
    ap (λ (x : Monitor). x ∷ ts) same
    ∙ ap (λ (xs : List Monitor). u ∷ xs) (held-told ss ts us h.1 k.1 parts.1.1)
held-told [] [] (u ∷ us) h k e = absurd k
held-told [] (t ∷ ts) us h k e = absurd h
held-told (s ∷ ss) [] us h k e = absurd h
held-told (s ∷ ss) (t ∷ ts) [] h k e = absurd k

-- one more monitor of the same sentence
pub held-push : (ss ts : List Monitor) (s t : Monitor) → AreMonitorsOf ss ts → t ≡ record s { standing = t.standing }
    → AreMonitorsOf (ss ++ s ∷ []) (ts ++ t ∷ [])
held-push [] [] s t h e = (e, tt)
held-push (x ∷ ss) (y ∷ ts) s t h e = (h.0, held-push ss ts s t h.1 e)
held-push [] (y ∷ ts) s t h e = absurd h
held-push (x ∷ ss) [] s t h e = absurd h

-- the first monitors, and one more of the same sentence
pub held-more : (ss ts : List Monitor) (i : ℕ) (d t : Monitor) → i < length ss → AreMonitorsOf (take i ss) ts
    → t ≡ record (get_or ss i d) { standing = t.standing } → AreMonitorsOf (take (i + 1) ss) (ts ++ t ∷ [])
held-more ss ts i d t lt h e =
    subst (λ (xs : List Monitor). AreMonitorsOf xs (ts ++ t ∷ [])) (sym (take_more ss i d lt))
    (held-push (take i ss) ts (get_or ss i d) t h e)

pub append-parts : {X : Type 0} (a b c d : List X) → length a ≡ length b → a ++ c ≡ b ++ d → (a ≡ b) × (c ≡ d)
append-parts [] [] c d h e = (refl, e)
append-parts [] (y ∷ b) c d h e = absurd (cc (h))
append-parts (x ∷ a) [] c d h e = absurd (cc (h))
append-parts {X = X} (x ∷ a) (y ∷ b) c d h e =
    let head : x ≡ y = cc in
    let tail : a ++ c ≡ b ++ d = cc in
    let size : length a ≡ length b = cc in
    let parts : (a ≡ b) × (c ≡ d) = append-parts a b c d size tail in
    (ap (λ (z : X). z ∷ a) head ∙ ap (λ (zs : List X). y ∷ zs) parts.0, parts.1)
