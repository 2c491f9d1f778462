-- Stretches that keep their place, tied to stretches that begin where they began.
use Rattle.std.specs.Prelude.{ℕ, ℤ, ◌+◌, ◌*◌, ◌<◌, ◌≤◌, ◌≡◌, refl, true, false, Some, None}
use Rattle.std.proofs.Common.{subst, sym, ap, ◌∙◌, arith, ⊎_elim}
use Rattle.std.proofs.lemmas.Bool.{cases_lt}
use Rattle.fmp_base.specs.declared.calls.Reply.{Reply}
use Rattle.fmp_base.specs.Meanings.{Meaning}
use Rattle.fmp_base.specs.Stretches.{Ending, is_over}
use Rattle.fmp_base.specs.Stretches as ends
use Rattle.fmp_base.specs.Ties.{StretchTied, over, kept, call, end_, fault}

-- any context that is handed over
abbrev pub Handed : {C : Type 0} → C → Type 0
Handed c = Unit {0}

-- The bodies of N, which keep their place, follow those of M, which never do. R ties contexts at starts and calls, S
-- those at ends and faults. What N ends within n units M ends in the same way within n turns; what M ends within t
-- turns N ends in the same way within (t + 1) * size units. What N hands over at a bound goes on as if there had been
-- none.
pub record Follows {C D : Type 0} (R S : ℕ → C → D → Type 0) (N : Meaning C) (M : Meaning D) (size : ℕ) : Type 0 where
  pub starts : (body : ℕ) (exinf : ℤ) → R body (N.start body exinf) (M.start body exinf)
  pub delivers : (body : ℕ) (c : C) (d : D) (reply : Reply) → R body c d
      → R body (N.deliver body c reply) (M.deliver body d reply)
  pub first : (body n : ℕ) (c : C) (d : D) → R body c d
      → StretchTied (R body) (S body) Handed (N.stretch body n c) (M.stretch body n d)
  pub back : (body t n : ℕ) (c : C) (d : D) → 1 ≤ n → (t + 1) * size ≤ n → R body c d
      → StretchTied (λ y x. R body x y) (λ y x. S body x y) Handed (M.stretch body t d) (N.stretch body n c)
  pub resumes : (body m n : ℕ) (c k : C) → N.stretch body m c ≡ ends.Over (Some k)
      → N.stretch body (m + n) c ≡ N.stretch body n k
  pub stays : (body low high : ℕ) (c : C) → low ≤ high → is_over (N.stretch body low c) ≡ false
      → N.stretch body high c ≡ N.stretch body low c
  pub stuck_stays : (body m n : ℕ) (c : C) → N.stretch body m c ≡ ends.Over None
      → N.stretch body (m + n) c ≡ ends.Over None
  pub text_stays : (body low high : ℕ) (d : D) → low ≤ high → is_over (M.stretch body low d) ≡ false
      → M.stretch body high d ≡ M.stretch body low d
  pub text_over : (body t : ℕ) (d : D) → is_over (M.stretch body t d) ≡ true → M.stretch body t d ≡ ends.Over None

module _ {C D : Type 0} (R S : ℕ → C → D → Type 0) (N : Meaning C) (M : Meaning D) (size : ℕ)
    (f : Follows R S N M size) (body : ℕ) where
  -- after m units from one context stands another
  abbrev pub Behind : C → ℕ → C → Type 0
  Behind c m k = (n : ℕ) → N.stretch body (m + n) c ≡ N.stretch body n k

  -- the context k has been kept, m units after one that is tied to d
  pub record KeptTied (m : ℕ) (k : C) (d : D) : Type 0 where
    pub from : C
    pub tied : R body from d
    pub behind : Behind from m k

  -- a context that is tied has been kept for 0 units
  pub not_kept : (c : C) (d : D) → R body c d → KeptTied 0 c d
  not_kept c d h =
      record {
        from = c;
        tied = h;
        behind = λ n. let e : 0 + n ≡ n = omega arith in ap (λ i. N.stretch body i c) e;
      }

  -- kept once more, n units later
  pub kept_again : (m n : ℕ) (k k' : C) (d : D) → KeptTied m k d → N.stretch body n k ≡ ends.Over (Some k')
      → KeptTied (m + n) k' d
  kept_again m n k k' d h e =
      record {
        from = h.from;
        tied = h.tied;
        behind = λ i.
            let s : m + n + i ≡ m + (n + i) = omega arith in
            ap (λ j. N.stretch body j h.from) s ∙ h.behind (n + i) ∙ f.resumes body n i k k' e;
      }

  -- what the stretch ends with, the text ends with too, within as many turns as there were units in all
  pub kept_ends : (m n : ℕ) (k : C) (d : D) → KeptTied m k d
      → StretchTied (R body) (S body) Handed (N.stretch body n k) (M.stretch body (m + n) d)
  kept_ends m n k d h =
      subst (λ x. StretchTied (R body) (S body) Handed x (M.stretch body (m + n) d)) (h.behind n)
      (f.first body (m + n) h.from d h.tied)

  later_by : (n : ℕ) (x : Ending C) (d : D) (y : Ending D) → (is_over y ≡ false → M.stretch body n d ≡ y)
      → StretchTied (R body) (S body) Handed x y → is_over x ≡ false
      → StretchTied (R body) (S body) Handed x (M.stretch body n d)
  later_by n _ d _ same (over y) e = absurd (cc e)
  later_by n _ d _ same (kept k y h) e = absurd (cc e)
  later_by n _ d _ same (call c d' made h) e =
      subst (λ y. StretchTied (R body) (S body) Handed (ends.Call c made) y) (sym (same refl)) (call c d' made h)
  later_by n _ d _ same (end_ c d' h) e =
      subst (λ y. StretchTied (R body) (S body) Handed (ends.End c) y) (sym (same refl)) (end_ c d' h)
  later_by n _ d _ same (fault c d' w h) e =
      subst (λ y. StretchTied (R body) (S body) Handed (ends.Fault c w) y) (sym (same refl)) (fault c d' w h)

  -- within any greater number of turns too
  pub kept_ends_within : (m n q : ℕ) (k : C) (d : D) → m + n ≤ q → KeptTied m k d
      → is_over (N.stretch body n k) ≡ false
      → StretchTied (R body) (S body) Handed (N.stretch body n k) (M.stretch body q d)
  kept_ends_within m n q k d le h e =
      later_by q (N.stretch body n k) d (M.stretch body (m + n) d) (λ o. f.text_stays body (m + n) q d le o)
      (kept_ends m n k d h) e

  pub ended_too : (y : Ending D) (x : Ending C) → is_over y ≡ false
      → StretchTied (λ b a. R body a b) (λ b a. S body a b) Handed y x → is_over x ≡ false
  ended_too _ x e (over x') = absurd (cc e)
  ended_too _ x e (kept k x' h) = absurd (cc e)
  ended_too _ _ e (call d c made h) = refl
  ended_too _ _ e (end_ d c h) = refl
  ended_too _ _ e (fault d c w h) = refl

  -- a stretch that the text ends within t turns is over its bound only while few units have been made
  pub kept_few : (m n t : ℕ) (k : C) (d : D) → 1 ≤ n → KeptTied m k d → is_over (M.stretch body t d) ≡ false
      → is_over (N.stretch body n k) ≡ true → m + n < (t + 1) * size
  kept_few m n t k d one h e o =
      ⊎_elim (λ lt. lt)
      (λ le.
      let enough : is_over (N.stretch body (m + n) h.from) ≡ false =
      ended_too (M.stretch body t d) (N.stretch body (m + n) h.from) e
      (f.back body t (m + n) h.from d (omega (arith, one)) le h.tied) in
      let not_over : is_over (N.stretch body n k) ≡ false = ap is_over (sym (h.behind n)) ∙ enough in
      absurd (cc (not_over, o)))
      (cases_lt (m + n) ((t + 1) * size))
