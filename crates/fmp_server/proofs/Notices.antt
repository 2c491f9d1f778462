-- Messages that are written one after the other.
use Rattle.std.proofs.Common.{◌≡◌, ◌++◌, ℕ, List, [], ◌∷◌, sym, ap, ◌∙◌, append_assoc, map}
use Rattle.std.proofs.lemmas.List.{append-nil, map-append}
use Rattle.fmp_server.specs.Workspaces.{AreNotifications, Notifies}

-- one message more
pub pushed : {Y : Type 0} (g : Y → List ℕ) (old new : List Y) (x : Y) → new ≡ old ++ x ∷ []
    → map g new ≡ map g old ++ g x ∷ []
pushed g old new x e = ap (map g) e ∙ map-append g old (x ∷ [])

pub notifies_none : (a : List (List ℕ)) → Notifies a a
notifies_none a = record { more = []; are = tt; is = sym (append-nil a) }

pub notifies_one : {Y : Type 0} (g : Y → List ℕ) (old new : List Y) (x : Y) → new ≡ old ++ x ∷ []
    → AreNotifications (g x ∷ []) → Notifies (map g old) (map g new)
notifies_one g old new x e h =
    record { more = g x ∷ []; are = h; is = pushed g old new x e }

both : (xs ys : List (List ℕ)) → AreNotifications xs → AreNotifications ys → AreNotifications (xs ++ ys)
both [] ys h k = k
both (x ∷ xs) ys h k = (h.0, both xs ys h.1 k)

pub notifies_further : (a b c : List (List ℕ)) → Notifies a b → Notifies b c → Notifies a c
notifies_further a b c h k =
    record {
      more = h.more ++ k.more;
      are = both h.more k.more h.are k.are;
      is = k.is ∙ ap (λ (l : List (List ℕ)). l ++ k.more) h.is ∙ append_assoc a h.more k.more;
    }
