-- What the code of an expression does.
use Rattle.std.proofs.Common.{◌≡◌, ℕ, suc, ◌+◌, ◌<◌, ◌≤◌, Bool, true, false, cond, List, [], ◌∷◌, ◌++◌, Some, Result}
use Rattle.std.proofs.Common.{Ok, Err, refl, ap, ◌∙◌, subst, arith, ℤ, pos}
use Rattle.std.specs.Prelude.{slice_get, get_or}
use Rattle.fmp_base.specs.declared.bodies.Fault.{Fault}
use Rattle.fmp_base.specs.Stretches as ends
use Rattle.fmp_base.specs.Operators.{Value, is_zero, truth_of, unary_value, binary_value, and_then, place_in}
use Rattle.fmp_tasklang.specs.Trees.{ExpressionTree, number, named, element, unary, binary, both, either}
use Rattle.fmp_tasklang.specs.Scopes.{Scope, NameMeaning, Variable, Array, Object, Unknown, meaning_of}
use Rattle.fmp_tasklang.specs.Layout.{first_place, places_at}
use Rattle.fmp_tasklang.specs.Values.{Values, value_at, array_number, array_places, name_value, element_value}
use Rattle.fmp_tasklang.specs.Values.{both_value, either_value, value, values}
use Rattle.fmp_instructions.specs.declared.instructions.Instruction.{Instruction}
use Rattle.fmp_instructions.specs.declared.instructions.Instruction.TheVariants.{Push, Load, Unary, Truth, Binary, Jump}
use Rattle.fmp_instructions.specs.declared.instructions.Instruction.TheVariants.{JumpIfZero}
use Rattle.fmp_instructions.specs.Machine.{at, gives, on_place, act, exec}
use Rattle.fmp_scopes.specs.Scheme.{array_base, name_code, load_element, expression_code, arguments_code}
use Rattle.fmp_scopes.specs.Sizes.{expression_size, arguments_size}
use Rattle.fmp_codegen.specs.Tie.{HasAt, LocalsTied}
use Rattle.fmp_codegen.proofs.Standing.{has_front, has_back}
use Rattle.fmp_emission.proofs.Lengths.{length-expression_code}
use Rattle.fmp_codegen.proofs.Places.{IsPlain}
use Rattle.fmp_codegen.proofs.Tied.{tied-variable, tied-element, place-within, array-within}

-- the machine goes from one place, operands and locals to others, and rises by at least a place for each instruction
pub record Leads (code : List Instruction) (p : ℕ) (stack locals : List ℤ) (q : ℕ)
    (stack' locals' : List ℤ) : Type 0 where
  pub steps : ℕ
  pub rises : p + steps ≤ q
  pub by : (k : ℕ) → exec code (steps + k) p stack locals ≡ exec code k q stack' locals'

-- the machine ends with this fault before q
pub record Faults (code : List Instruction) (p : ℕ) (stack locals : List ℤ) (q : ℕ) (f : Fault) : Type 0 where
  pub steps : ℕ
  pub rises : p + steps ≤ q
  pub place : ℕ
  pub by : exec code steps p stack locals ≡ ends.Fault (at place locals) f

-- the machine comes to q with the operands that `go` makes of the result, or faults before
abbrev pub Runs : {A : Type 0} → List Instruction → ℕ → (stack locals : List ℤ) → ℕ → (A → List ℤ) → Result A Fault
    → Type 0
Runs code p stack locals q go (Ok x) = Leads code p stack locals q (go x) locals
Runs code p stack locals q go (Err f) = Faults code p stack locals q f

-- the operands after values are pushed one by one
abbrev pub stacked : List ℤ → List ℤ → List ℤ
stacked [] s = s
stacked (x ∷ xs) s = stacked xs (x ∷ s)

module _ (code : List Instruction) where
  -- one instruction
  pub one_step :
      (p : ℕ) (s l : List ℤ) (i : Instruction) → slice_get code p ≡ Some i →
      (k : ℕ) → exec code (1 + k) p s l ≡ act (Some i) (exec code k) p s l
  one_step p s l i h k =
      let e : 1 + k ≡ suc k = omega arith in
      ap (λ n. exec code n p s l) e ∙ ap (λ o. act o (exec code k) p s l) h

  pub leads_on :
      (p : ℕ) (s l : List ℤ) (q : ℕ) (s1 l1 : List ℤ) (r : ℕ) (s2 l2 : List ℤ) →
      Leads code p s l q s1 l1 → Leads code q s1 l1 r s2 l2 → Leads code p s l r s2 l2
  leads_on p s l q s1 l1 r s2 l2 a b =
      record {
        steps = a.steps + b.steps;
        rises = omega (arith, a.rises, b.rises);
        by = λ k.
            let e : a.steps + b.steps + k ≡ a.steps + (b.steps + k) = omega arith in
            ap (λ n. exec code n p s l) e ∙ a.by (b.steps + k) ∙ b.by k;
      }

  pub faults_on :
      (p : ℕ) (s l : List ℤ) (q : ℕ) (s1 : List ℤ) (r : ℕ) (f : Fault) →
      Leads code p s l q s1 l → Faults code q s1 l r f → Faults code p s l r f
  faults_on p s l q s1 r f a b =
      record {
        steps = a.steps + b.steps;
        rises = omega (arith, a.rises, b.rises);
        place = b.place;
        by = a.by b.steps ∙ b.by;
      }

  faults_later :
      (p : ℕ) (s l : List ℤ) (q r : ℕ) (f : Fault) → q ≤ r → Faults code p s l q f → Faults code p s l r f
  faults_later p s l q r f h a =
      record { steps = a.steps; rises = omega (arith, a.rises); place = a.place; by = a.by }

  pub runs_on :
      {A : Type 0} → (p : ℕ) (s l : List ℤ) (q : ℕ) (s1 : List ℤ) (r : ℕ) (go : A → List ℤ) (v : Result A Fault) →
      Leads code p s l q s1 l → Runs code q s1 l r go v → Runs code p s l r go v
  runs_on p s l q s1 r go (Ok x) a b = leads_on p s l q s1 l r (go x) l a b
  runs_on p s l q s1 r go (Err f) a b = faults_on p s l q s1 r f a b

  -- what follows a result
  bind_runs :
      {A B : Type 0} → (p : ℕ) (s l : List ℤ) (q r : ℕ) (go : A → List ℤ) (go2 : B → List ℤ) (v : Result A Fault)
      (f : A → Result B Fault) → q ≤ r → Runs code p s l q go v → ((x : A) → Runs code q (go x) l r go2 (f x)) →
      Runs code p s l r go2 (and_then v f)
  bind_runs p s l q r go go2 (Ok x) f h a b = runs_on p s l q (go x) r go2 (f x) a (b x)
  bind_runs p s l q r go go2 (Err e) f h a b = faults_later p s l q r e h a

  -- an operator that gives a number, or a fault
  gives_runs :
      (p q : ℕ) (s s' l : List ℤ) (v : Value) → p + 1 ≡ q →
      ((k : ℕ) → exec code (1 + k) p s l ≡ gives v (exec code k) p s' l) → Runs code p s l q (λ x. x ∷ s') v
  gives_runs p q s s' l (Ok x) e st =
      record { steps = 1; rises = omega arith; by = λ k. st k ∙ ap (λ n. exec code k n (x ∷ s') l) e }
  gives_runs p q s s' l (Err f) e st = record { steps = 1; rises = omega arith; place = p; by = st 0 }

  -- one instruction that goes on to a later place
  pub goes :
      (p q : ℕ) (s s' l l' : List ℤ) → p < q → ((k : ℕ) → exec code (1 + k) p s l ≡ exec code k q s' l') →
      Leads code p s l q s' l'
  goes p q s s' l l' h st = record { steps = 1; rises = omega arith; by = st }

  -- a jump forward
  pub jumps_to :
      (p a q : ℕ) (s l : List ℤ) → p < q → slice_get code p ≡ Some (Jump a) → a ≡ q → Leads code p s l q s l
  jumps_to p a q s l h there e =
      goes p q s s l l h (λ k. one_step p s l (Jump a) there k ∙ ap (λ n. exec code k n s l) e)

  -- the same place
  pub renamed : (p q : ℕ) (s l : List ℤ) → p ≡ q → Leads code p s l q s l
  renamed p q s l e =
      record {
        steps = 0;
        rises = omega arith;
        by = λ k. let e0 : 0 + k ≡ k = omega arith in ap (λ n. exec code n p s l) e0 ∙ ap (λ n. exec code k n s l) e;
      }

  pub at_place : (p q : ℕ) (i : Instruction) → p ≡ q → slice_get code p ≡ Some i → slice_get code q ≡ Some i
  at_place p q i e h = subst (λ n. slice_get code n ≡ Some i) e h

  -- a jump that a test decides
  branch_runs :
      {A : Type 0} → (p q r : ℕ) (x : ℤ) (s l : List ℤ) (go : A → List ℤ) (v w : Result A Fault) (t : Bool) → p < q →
      ((k : ℕ) → exec code (1 + k) p (x ∷ s) l ≡ cond t (exec code k q s l) (exec code k (p + 1) s l)) →
      Runs code q s l r go v → Runs code (p + 1) s l r go w → Runs code p (x ∷ s) l r go (cond t v w)
  branch_runs p q r x s l go v w true h st a b = runs_on p (x ∷ s) l q s r go v (goes p q (x ∷ s) s l l h st) a
  branch_runs p q r x s l go v w false h st a b =
      runs_on p (x ∷ s) l (p + 1) s r go w (goes p (p + 1) (x ∷ s) s l l (omega arith) st) b

-- the machine's locals hold the values of the text's
module _ (scope : Scope) (code : List Instruction) (plain : IsPlain scope) (l : List ℤ) (vs : Values)
    (tied : LocalsTied scope l vs) where
  named_runs :
      (m : NameMeaning) (p : ℕ) (s : List ℤ) → ((v : ℕ) → m ≡ Variable v → places_at scope.locals v ≡ 1) →
      slice_get code p ≡ Some (name_code scope.locals m) → Leads code p s l (p + 1) (name_value vs m ∷ s) l
  named_runs (Variable v) p s one h =
      let i = Load (first_place scope.locals v) in
      goes code p (p + 1) s (value_at vs v 0 ∷ s) l l (omega arith)
      (λ k. one_step code p s l i h k
      ∙ ap (λ x. exec code k (p + 1) (x ∷ s) l) (tied-variable scope l vs tied v (one v refl)))
  named_runs (Array v) p s one h =
      goes code p (p + 1) s (pos 0 ∷ s) l l (omega arith) (one_step code p s l (Push (pos 0)) h)
  named_runs (Object k) p s one h =
      goes code p (p + 1) s (pos k ∷ s) l l (omega arith) (one_step code p s l (Push (pos k)) h)
  named_runs Unknown p s one h =
      goes code p (p + 1) s (pos 0 ∷ s) l l (omega arith) (one_step code p s l (Push (pos 0)) h)

  -- the element of an array at an index that is known to be a place of it, or not
  element_runs :
      (m : NameMeaning) (p q : ℕ) (s : List ℤ) (i : ℤ) (v : Result ℕ Fault) → p + 1 ≡ q →
      place_in (array_places scope m) i ≡ v →
      ((k : ℕ) → exec code (1 + k) p (i ∷ s) l ≡
      on_place v p l (λ place. exec code k (p + 1) (get_or l (array_base scope m + place) (pos 0) ∷ s) l)) →
      Runs code p (i ∷ s) l q (λ x. x ∷ s) (and_then v (λ place. Ok (value_at vs (array_number m) place)))
  element_runs m p q s i (Ok place) e is st =
      let within = array-within scope m place (place-within (array_places scope m) i place is) in
      goes code p q (i ∷ s) (value_at vs (array_number m) place ∷ s) l l (omega arith)
      (λ k. st k ∙ ap (λ x. exec code k (p + 1) (x ∷ s) l) (tied-element scope l vs tied (array_number m) place within)
      ∙ ap (λ n. exec code k n (value_at vs (array_number m) place ∷ s) l) e)
  element_runs m p q s i (Err f) e is st = record { steps = 1; rises = omega arith; place = p; by = st 0 }

  -- the code of an expression pushes its value
  pub expression_runs :
      (e : ExpressionTree) (p : ℕ) (s : List ℤ) → HasAt code p (expression_code scope e p) →
      Runs code p s l (p + expression_size e) (λ x. x ∷ s) (value scope vs e)
  expression_runs (number k) p s has =
      goes code p (p + 1) s (k ∷ s) l l (omega arith) (one_step code p s l (Push k) has.0)
  expression_runs (named w) p s has = named_runs (meaning_of scope w.name) p s (plain w.name) has.0
  expression_runs (element w e) p s has =
      let m = meaning_of scope w.name in
      let pe = p + expression_size e in
      let front = expression_code scope e p in
      let i = load_element scope m in
      let h = has_back code p (expression_size e) front (i ∷ []) (length-expression_code scope e p) has in
      bind_runs code p s l pe _ (λ x. x ∷ s) (λ x. x ∷ s) (value scope vs e) (element_value scope vs m) (omega arith)
      (expression_runs e p s (has_front code p front (i ∷ []) has))
      (λ x. element_runs m pe _ s x (place_in (array_places scope m) x) (omega arith) refl
      (one_step code pe (x ∷ s) l i h.0))
  expression_runs (unary op e) p s has =
      let pe = p + expression_size e in
      let front = expression_code scope e p in
      let h = has_back code p (expression_size e) front (Unary op ∷ []) (length-expression_code scope e p) has in
      bind_runs code p s l pe _ (λ x. x ∷ s) (λ x. x ∷ s) (value scope vs e) (unary_value op) (omega arith)
      (expression_runs e p s (has_front code p front (Unary op ∷ []) has))
      (λ x. gives_runs code pe _ (x ∷ s) s l (unary_value op x) (omega arith)
      (one_step code pe (x ∷ s) l (Unary op) h.0))
  expression_runs (binary op a b) p s has =
      let pa = p + expression_size a in
      let pb = pa + expression_size b in
      let first = expression_code scope a p in
      let second = expression_code scope b pa in
      let hb = has_back code p (expression_size a) first (second ++ Binary op ∷ [])
      (length-expression_code scope a p) has in
      let h = has_back code pa (expression_size b) second (Binary op ∷ []) (length-expression_code scope b pa) hb in
      bind_runs code p s l pa _ (λ x. x ∷ s) (λ x. x ∷ s) (value scope vs a)
      (λ x. and_then (value scope vs b) (binary_value op x)) (omega arith)
      (expression_runs a p s (has_front code p first (second ++ Binary op ∷ []) has))
      (λ x. bind_runs code pa (x ∷ s) l pb _ (λ y. y ∷ x ∷ s) (λ y. y ∷ s) (value scope vs b) (binary_value op x)
      (omega arith)
      (expression_runs b pa (x ∷ s) (has_front code pa second (Binary op ∷ []) hb))
      (λ y. gives_runs code pb _ (y ∷ x ∷ s) s l (binary_value op x y) (omega arith)
      (one_step code pb (y ∷ x ∷ s) l (Binary op) h.0)))
  expression_runs (both a b) p s has =
      let pa = p + expression_size a in
      let pb = pa + 1 + expression_size b in
      let last : ℕ = p + (expression_size a + expression_size b + 4) in
      let first = expression_code scope a p in
      let second = expression_code scope b (pa + 1) in
      let tail = Truth ∷ Jump (pb + 2 + 1) ∷ Push (pos 0) ∷ [] in
      let rest = JumpIfZero (pb + 2) ∷ (second ++ tail) in
      let h = has_back code p (expression_size a) first rest (length-expression_code scope a p) has in
      let ht = has_back code (pa + 1) (expression_size b) second tail (length-expression_code scope b (pa + 1)) h.1 in
      let push = at_place code (pb + 1 + 1) (pb + 2) (Push (pos 0)) (omega arith) ht.1.1.0 in
      bind_runs code p s l pa _ (λ x. x ∷ s) (λ x. x ∷ s) (value scope vs a) (λ x. both_value x (value scope vs b))
      (omega arith)
      (expression_runs a p s (has_front code p first rest has))
      (λ x. branch_runs code pa (pb + 2) _ x s l (λ x. x ∷ s) (Ok (pos 0))
      (and_then (value scope vs b) (λ y. Ok (truth_of y)))
      (is_zero x) (omega arith)
      (one_step code pa (x ∷ s) l (JumpIfZero (pb + 2)) h.0)
      (let e : pb + 2 + 1 ≡ last = omega arith in
      goes code (pb + 2) _ s (pos 0 ∷ s) l l (omega arith)
      (λ k. one_step code (pb + 2) s l (Push (pos 0)) push k ∙ ap (λ n. exec code k n (pos 0 ∷ s) l) e))
      (bind_runs code (pa + 1) s l pb _ (λ y. y ∷ s) (λ y. y ∷ s) (value scope vs b) (λ y. Ok (truth_of y))
      (omega arith)
      (expression_runs b (pa + 1) s (has_front code (pa + 1) second tail h.1))
      (λ y. leads_on code pb (y ∷ s) l (pb + 1) (truth_of y ∷ s) l _ (truth_of y ∷ s) l
      (goes code pb (pb + 1) (y ∷ s) (truth_of y ∷ s) l l (omega arith) (one_step code pb (y ∷ s) l Truth ht.0))
      (jumps_to code (pb + 1) (pb + 2 + 1) _ (truth_of y ∷ s) l (omega arith) ht.1.0 (omega arith)))))
  expression_runs (either a b) p s has =
      let pa = p + expression_size a in
      let pb = pa + 3 + expression_size b in
      let last : ℕ = p + (expression_size a + expression_size b + 4) in
      let first = expression_code scope a p in
      let second = expression_code scope b (pa + 3) in
      let tail = second ++ Truth ∷ [] in
      let rest = JumpIfZero (pa + 3) ∷ Push (pos 1) ∷ Jump (pb + 1) ∷ tail in
      let h = has_back code p (expression_size a) first rest (length-expression_code scope a p) has in
      let e3 : pa + 1 + 1 + 1 ≡ pa + 3 = omega arith in
      let ht = subst (λ n. HasAt code n tail) e3 h.1.1.1 in
      let hu = has_back code (pa + 3) (expression_size b) second (Truth ∷ [])
      (length-expression_code scope b (pa + 3)) ht in
      bind_runs code p s l pa _ (λ x. x ∷ s) (λ x. x ∷ s) (value scope vs a) (λ x. either_value x (value scope vs b))
      (omega arith)
      (expression_runs a p s (has_front code p first rest has))
      (λ x. branch_runs code pa (pa + 3) _ x s l (λ x. x ∷ s) (and_then (value scope vs b) (λ y. Ok (truth_of y)))
      (Ok (pos 1))
      (is_zero x) (omega arith)
      (one_step code pa (x ∷ s) l (JumpIfZero (pa + 3)) h.0)
      (bind_runs code (pa + 3) s l pb _ (λ y. y ∷ s) (λ y. y ∷ s) (value scope vs b) (λ y. Ok (truth_of y))
      (omega arith)
      (expression_runs b (pa + 3) s (has_front code (pa + 3) second (Truth ∷ []) ht))
      (λ y.
      let e : pb + 1 ≡ last = omega arith in
      goes code pb _ (y ∷ s) (truth_of y ∷ s) l l (omega arith)
      (λ k. one_step code pb (y ∷ s) l Truth hu.0 k ∙ ap (λ n. exec code k n (truth_of y ∷ s) l) e)))
      (leads_on code (pa + 1) s l (pa + 1 + 1) (pos 1 ∷ s) l _ (pos 1 ∷ s) l
      (goes code (pa + 1) (pa + 1 + 1) s (pos 1 ∷ s) l l (omega arith) (one_step code (pa + 1) s l
      (Push (pos 1)) h.1.0))
      (jumps_to code (pa + 1 + 1) (pb + 1) _ (pos 1 ∷ s) l (omega arith) h.1.1.0 (omega arith))))

  -- the code of the arguments of a call pushes their values
  pub arguments_run :
      (es : List ExpressionTree) (p : ℕ) (s : List ℤ) → HasAt code p (arguments_code scope es p) →
      Runs code p s l (p + arguments_size es) (λ xs. stacked xs s) (values scope vs es)
  arguments_run [] p s has = renamed code p (p + 0) s l (omega arith)
  arguments_run (e ∷ es) p s has =
      let pe = p + expression_size e in
      let first = expression_code scope e p in
      let others = arguments_code scope es pe in
      let h = has_back code p (expression_size e) first others (length-expression_code scope e p) has in
      bind_runs code p s l pe _ (λ x. x ∷ s) (λ xs. stacked xs s) (value scope vs e)
      (λ x. and_then (values scope vs es) (λ xs. Ok (x ∷ xs))) (omega arith)
      (expression_runs e p s (has_front code p first others has))
      (λ x. bind_runs code pe (x ∷ s) l (pe + arguments_size es) _ (λ xs. stacked xs (x ∷ s)) (λ xs. stacked xs s)
      (values scope vs es) (λ xs. Ok (x ∷ xs)) (omega arith)
      (arguments_run es pe (x ∷ s) h)
      (λ xs. renamed code (pe + arguments_size es) _ (stacked xs (x ∷ s)) l (omega arith)))
