-- Messages that are taken, one after the other.
use Rattle.std.proofs.Common.{ℕ, ◌≡◌, ◌<◌, ◌+◌, ◌++◌, List, [], ◌∷◌, length, get_or, take, map, sym, ap, ◌∙◌, subst}
use Rattle.std.proofs.Common.{◌≢◌, refl, append_assoc, Result, Ok, Err, OnOk}
use Rattle.std.proofs.lemmas.List.{append-nil, map-append, take_more}
use Rattle.json.specs.declared.error.Error.{Error}
use Rattle.json.specs.declared.error.Error.TheVariants as error
use Rattle.fmp_server.specs.declared.workspace.Stage.{Stage}
use Rattle.fmp_server.specs.declared.workspace.Stage.TheVariants as stage
use Rattle.fmp_server.specs.declared.workspace.Workspace.{Workspace}
use Rattle.fmp_server.specs.Workspaces.{AreTaken, IsRead, IsStep}

-- what follows from two facts of what a call did
pub ok_both : {T E P Q R : Type 0} (r : Result T E) → OnOk r P → OnOk r Q → (P → Q → R) → OnOk r R
ok_both (Ok x) p q f = f p q
ok_both (Err e) p q f = tt

-- any error but that memory ran out tells that the text is no JSON
pub only_invalid : {V P : Type 0} (r : Result V Error) (e : Error) → r ≡ Err e → e ≢ error.OutOfMemory
    → (r ≡ Err error.Invalid → P) → r ≢ Err error.TooLong → r ≢ Err error.DuplicateKey → P
only_invalid r error.Invalid is memory invalid long twice = invalid is
only_invalid r error.OutOfMemory is memory invalid long twice = absurd (memory refl)
only_invalid r error.TooLong is memory invalid long twice = absurd (long is)
only_invalid r error.DuplicateKey is memory invalid long twice = absurd (twice is)

-- after `exit` nothing answers
pub step_ended : (bytes : List ℕ) (s : Stage) (w : Workspace) (n : ℕ) → s ≡ stage.Ended n → IsStep bytes s w w []
step_ended bytes s w n e = subst (λ (t : Stage). IsStep bytes t w w []) (sym e) (refl, refl)

-- before it each message is read
pub step_read : (bytes : List ℕ) (s : Stage) (old new : Workspace) (answers : List (List ℕ))
    → ((n : ℕ) → s ≡ stage.Ended n → ⊥) → IsRead bytes old new answers → IsStep bytes s old new answers
step_read bytes stage.Fresh old new answers other h = h
step_read bytes stage.Running old new answers other h = h
step_read bytes stage.ShutDown old new answers other h = h
step_read bytes (stage.Ended n) old new answers other h = absurd (other n refl)

-- one message more at the end
taken_more : (xs : List (List ℕ)) (x : List ℕ) (a b c : Workspace) (old answers : List (List ℕ)) → AreTaken xs a b old
    → IsStep x b.stage b c answers → AreTaken (xs ++ x ∷ []) a c (old ++ answers)
taken_more [] x a b c old answers (same, none) step =
    let here : IsStep x a.stage a c answers = subst (λ (w : Workspace). IsStep x w.stage w c answers) same step in (
      c,
      answers,
      [],
      here,
      (refl, refl),
      ap (λ (l : List (List ℕ)). l ++ answers) none ∙ sym (append-nil answers),
    )
taken_more (y ∷ ys) x a b c old answers (between, first, rest, one, more, all) step = (
  between,
  first,
  rest ++ answers,
  one,
  taken_more ys x between b c rest answers more step,
  ap (λ (l : List (List ℕ)). l ++ answers) all ∙ append_assoc first rest answers,
)

-- the next message of a list
pub taken_next : {X Y : Type 0} (f : X → List ℕ) (g : Y → List ℕ) (xs : List X) (i : ℕ) (x : X) (bytes : List ℕ)
    (a b c : Workspace) (old new : List Y)
    → i < length xs → x ≡ get_or xs i x → bytes ≡ f x → AreTaken (map f (take i xs)) a b (map g old)
    → ((answers : List (List ℕ)) × IsStep bytes b.stage b c answers × (map g new ≡ map g old ++ answers))
    → AreTaken (map f (take (i + 1) xs)) a c (map g new)
taken_next {X} {Y} f g xs i x bytes a b c old new h here is so_far (answers, step, said) =
    let before : List (List ℕ) = map f (take i xs) in
    let messages : map f (take (i + 1) xs) ≡ before ++ bytes ∷ [] =
    ap (map f) (take_more xs i x h) ∙ map-append f (take i xs) (get_or xs i x ∷ [])
    ∙ ap (λ (m : List ℕ). before ++ m ∷ []) (sym (is ∙ ap f here)) in
    let more = taken_more before bytes a b c (map g old) answers so_far step in
    subst (λ (l : List (List ℕ)). AreTaken l a c (map g new)) (sym messages)
    (subst (λ (o : List (List ℕ)). AreTaken (before ++ bytes ∷ []) a c o) (sym said) more)
