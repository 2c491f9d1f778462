-- Stretches that keep their place, counted.
use Rattle.std.specs.Prelude.{ℕ, suc, ◌+◌, ◌*◌, ◌<◌, ◌≤◌, ◌≡◌, refl, true, false, Some, None}
use Rattle.std.proofs.Common.{subst, sym, ap, ◌∙◌, arith}
use Rattle.std.proofs.lemmas.Nat.{mul-le}
use Rattle.fmp_base.specs.Meanings.{Meaning}
use Rattle.fmp_base.specs.Stretches.{Ending, is_over}
use Rattle.fmp_base.specs.Stretches as ends
use Rattle.fmp_base.specs.Ties.{StretchTied, over, kept, call, end_, fault, Any, KeepsTie}
use Rattle.fmp_base.specs.NothingLaws.{Never, hands_over}
use Rattle.fmp_base.specs.KeptTies.{Handed, Follows, KeptTied, not_kept, kept_again, kept_ends_within, ended_too}
use Rattle.fmp_base.specs.KeptTies.{kept_few}

-- the context in which a stretch begins, and how often it has been kept since
pub record KeptTimes (C : Type 0) : Type 0 where
  pub context : C
  pub times : ℕ

abbrev pub fresh : {C : Type 0} → C → KeptTimes C
fresh c = record { context = c; times = 0 }

abbrev pub counted_ending : {C : Type 0} → Ending C → Ending (KeptTimes C)
counted_ending (ends.Call c made) = ends.Call (fresh c) made
counted_ending (ends.End c) = ends.End (fresh c)
counted_ending (ends.Fault c f) = ends.Fault (fresh c) f
counted_ending (ends.Over None) = ends.Over None
counted_ending (ends.Over (Some c)) = ends.Over (Some (fresh c))

-- the same bodies, with contexts that count
abbrev pub counted : {C : Type 0} → Meaning C → Meaning (KeptTimes C)
counted M =
    record {
      start = λ body exinf. fresh (M.start body exinf);
      stretch = λ body t c. counted_ending (M.stretch body t c.context);
      deliver = λ body c reply. fresh (M.deliver body c.context reply);
    }

-- kept once more, by stretches of n units: a stretch that ends within t turns is kept j times only with
-- n * j < (t + 1) * size
pub record OnceMore {C : Type 0} (M : Meaning C) (n size : ℕ) (body : ℕ) (c e : KeptTimes C) : Type 0 where
  pub context : e.context ≡ c.context
  pub times : e.times ≡ c.times + 1
  pub few : (t : ℕ) → is_over (M.stretch body t c.context) ≡ false → n * e.times < (t + 1) * size

module _ {C D : Type 0} (R S : ℕ → C → D → Type 0) (N : Meaning C) (M : Meaning D) (size : ℕ)
    (f : Follows R S N M size) (n q : ℕ) (one : 1 ≤ n) where
  -- the contexts of a call
  abbrev pub AtCall : ℕ → C → KeptTimes D → Type 0
  AtCall body c d = R body c d.context

  -- after i events nothing has been kept more often than i times
  pub record After (i body : ℕ) (k : C) (d : KeptTimes D) : Type 0 where
    pub times : d.times ≤ i
    pub behind : KeptTied R S N M size f body (n * d.times) k d.context

  begun : (i body : ℕ) (c : C) (d : D) → R body c d → After i body c (fresh d)
  begun i body c d h =
      let none : n * 0 ≡ 0 = grind arith in
      record {
        times = omega arith;
        behind = subst (λ m. KeptTied R S N M size f body m c d) (sym none) (not_kept R S N M size f body c d h);
      }

  alike : (K : C → Type 0) (body : ℕ) (x : Ending C) (y : Ending D) → is_over x ≡ false
      → StretchTied (R body) (S body) Handed x y → StretchTied (AtCall body) Any K x (counted_ending y)
  alike K body _ _ e (over y) = absurd (cc e)
  alike K body _ _ e (kept k y h) = absurd (cc e)
  alike K body _ _ e (call c d made h) = call c (fresh d) made h
  alike K body _ _ e (end_ c d h) = end_ c (fresh d) tt
  alike K body _ _ e (fault c d w h) = fault c (fresh d) w tt

  ends_so : (i body : ℕ) (k : C) (d : KeptTimes D) (x : Ending C) (y : Ending D) → N.stretch body n k ≡ x
      → After i body k d → (is_over x ≡ false → StretchTied (R body) (S body) Handed x y)
      → StretchTied (AtCall body) Any (λ k'. (e : KeptTimes D) × OnceMore M n size body d e × After (suc i) body k' e) x
      (counted_ending y)
  ends_so i body k d (ends.Over None) y p h t = over (counted_ending y)
  ends_so i body k d (ends.Over (Some k')) y p h t =
      let more : n * d.times + n ≡ n * (d.times + 1) = grind arith in
      let again = kept_again R S N M size f body (n * d.times) n k k' d.context h.behind p in
      kept k' (counted_ending y) (
        record { context = d.context; times = d.times + 1 },
        record {
          context = refl;
          times = refl;
          few = λ t e. subst (λ m. m < (t + 1) * size) more
              (kept_few R S N M size f body (n * d.times) n t k d.context one h.behind e (ap is_over p));
        },
        record {
          times = omega (arith, h.times);
          behind = subst (λ m. KeptTied R S N M size f body m k' d.context) more again;
        },
      )
  ends_so i body k d (ends.Call c made) y p h t = alike _ body (ends.Call c made) y refl (t refl)
  ends_so i body k d (ends.End c) y p h t = alike _ body (ends.End c) y refl (t refl)
  ends_so i body k d (ends.Fault c w) y p h t = alike _ body (ends.Fault c w) y refl (t refl)

  -- at first nothing has been kept
  pub counted_begins : KeepsTie AtCall (λ body c d. ⊥) (After 0) (OnceMore M n size) N n (counted M) (n * q)
  counted_begins =
      record {
        grows = λ body c d h. absurd h;
        starts = λ body exinf. begun 0 body (N.start body exinf) (M.start body exinf) (f.starts body exinf);
        delivers = λ body c d reply h. begun 0 body (N.deliver body c reply) (M.deliver body d.context reply)
            (f.delivers body c d.context reply h);
        stretches = λ body c d h. absurd h;
      }

  -- a machine that keeps its place at n units does what the text does within n * q turns, while fewer than q events
  -- have been
  pub counted_keeps : (i : ℕ) → i < q
      → KeepsTie AtCall (After i) (After (suc i)) (OnceMore M n size) N n (counted M) (n * q)
  counted_keeps i lt =
      record {
        grows = λ body c d h. record { times = omega (arith, h.times); behind = h.behind };
        starts = λ body exinf. begun (suc i) body (N.start body exinf) (M.start body exinf) (f.starts body exinf);
        delivers = λ body c d reply h. begun (suc i) body (N.deliver body c reply) (M.deliver body d.context reply)
            (f.delivers body c d.context reply h);
        stretches = λ body k d h.
            let more : n * d.times + n ≡ n * (d.times + 1) = grind arith in
            let within : n * (d.times + 1) ≤ n * q =
            mul-le n (d.times + 1) n q (omega arith) (omega (arith, h.times, lt)) in
            ends_so i body k d (N.stretch body n k) (M.stretch body (n * q) d.context) refl h
            (λ e. kept_ends_within R S N M size f body (n * d.times) n (n * q) k d.context
            (subst (λ m. m ≤ n * q) (sym more) within) h.behind e);
      }

  -- ---- where the machine's stretch does nothing, the text's does nothing either

  loosened : (body : ℕ) (y : Ending D) (x : Ending C) → is_over y ≡ false
      → StretchTied (λ d c. R body c d) (λ d c. S body c d) Handed y x
      → StretchTied Any Any Never (counted_ending y) x
  loosened body _ _ e (over x) = absurd (cc e)
  loosened body _ _ e (kept d x h) = absurd (cc e)
  loosened body _ _ e (call d c made h) = call (fresh d) c made tt
  loosened body _ _ e (end_ d c h) = end_ (fresh d) c tt
  loosened body _ _ e (fault d c w h) = fault (fresh d) c w tt

  -- z is how the machine ends at last, x how it ends now
  now_as_at_last : (body : ℕ) (y : Ending D) (x z : Ending C) → is_over y ≡ false → hands_over x ≡ false
      → (is_over x ≡ false → z ≡ x) → (x ≡ ends.Over None → z ≡ ends.Over None)
      → StretchTied (λ d c. R body c d) (λ d c. S body c d) Handed y z
      → StretchTied Any Any Never (counted_ending y) x
  now_as_at_last body y (ends.Over (Some c)) z e h same stuck t = absurd (cc h)
  now_as_at_last body y (ends.Over None) z e h same stuck t =
      let ended : is_over z ≡ false = ended_too R S N M size f body y z e t in
      let not : is_over z ≡ true = ap is_over (stuck refl) in
      absurd (cc (ended, not))
  now_as_at_last body y (ends.Call c made) z e h same stuck t =
      loosened body y (ends.Call c made) e
      (subst (λ (u : Ending C). StretchTied (λ d c. R body c d) (λ d c. S body c d) Handed y u) (same refl) t)
  now_as_at_last body y (ends.End c) z e h same stuck t =
      loosened body y (ends.End c) e
      (subst (λ (u : Ending C). StretchTied (λ d c. R body c d) (λ d c. S body c d) Handed y u) (same refl) t)
  now_as_at_last body y (ends.Fault c w) z e h same stuck t =
      loosened body y (ends.Fault c w) e
      (subst (λ (u : Ending C). StretchTied (λ d c. R body c d) (λ d c. S body c d) Handed y u) (same refl) t)

  by_over : (x : Ending C) (y : Ending D) → (is_over y ≡ true → y ≡ ends.Over None)
      → (is_over y ≡ false → StretchTied Any Any Never (counted_ending y) x)
      → StretchTied Any Any Never (counted_ending y) x
  by_over x (ends.Over None) none ended = over x
  by_over x (ends.Over (Some d)) none ended = let e : ends.Over (Some d) ≡ ends.Over None = none refl in absurd (cc e)
  by_over x (ends.Call d made) none ended = ended refl
  by_over x (ends.End d) none ended = ended refl
  by_over x (ends.Fault d w) none ended = ended refl

  pub nothing_text : (i t body : ℕ) (k : C) (d : KeptTimes D) → After i body k d → hands_over (N.stretch body n k)
      ≡ false
      → StretchTied Any Any Never (counted_ending (M.stretch body t d.context)) (N.stretch body n k)
  nothing_text i t body k d h free =
      let m = n * d.times in
      let more = (t + 1) * size in
      let here : N.stretch body (m + n) h.behind.from ≡ N.stretch body n k = h.behind.behind n in
      by_over (N.stretch body n k) (M.stretch body t d.context) (f.text_over body t d.context)
      (λ e. now_as_at_last body (M.stretch body t d.context) (N.stretch body n k)
      (N.stretch body (m + n + more) h.behind.from) e free
      (λ o. f.stays body (m + n) (m + n + more) h.behind.from (omega arith) (ap is_over here ∙ o) ∙ here)
      (λ o. f.stuck_stays body (m + n) more h.behind.from (here ∙ o))
      (f.back body t (m + n + more) h.behind.from d.context (omega (arith, one)) (omega arith) h.behind.tied))
