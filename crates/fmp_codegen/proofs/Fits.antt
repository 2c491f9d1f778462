-- The code of a tree keeps to its depth table.
use Rattle.std.proofs.Common.{◌≡◌, ℕ, ◌+◌, ◌-◌, ◌<◌, ◌≤◌, Bool, true, false, ◌&&◌, nat_eq, nat_le, nat_lt, List, []}
use Rattle.std.proofs.Common.{◌∷◌, ◌++◌, length, Option, Some, None, refl, sym, ap, ◌∙◌, subst, ⊎_elim, arith, pos}
use Rattle.std.specs.Prelude.{slice_get, is_some, option_map}
use Rattle.std.proofs.lemmas.Bool.{cases_lt}
use Rattle.std.proofs.lemmas.Bool.Decides.{nat_tests}
use Rattle.fmp_base.specs.Services.{arity, out_place}
use Rattle.fmp_base.specs.Systems.{found}
use Rattle.fmp_tasklang.specs.declared.trees.Word.{Word}
use Rattle.fmp_tasklang.specs.Trees.{ExpressionTree, number, named, element, unary, binary, both, either, CallTree}
use Rattle.fmp_tasklang.specs.Trees.{StatementTree, assign, assign_element, service_call, if_then, if_else, while}
use Rattle.fmp_tasklang.specs.Trees.{break, continue, return, Block, empty, next}
use Rattle.fmp_tasklang.specs.Layout.{total_places, first_place, places_at}
use Rattle.fmp_tasklang.specs.Scopes.{Scope, NameMeaning, Variable, Array, Object, Unknown, meaning_of}
use Rattle.fmp_tasklang.specs.Stretches.{variable_number}
use Rattle.fmp_tasklang.specs.Values.{array_number, array_places}
use Rattle.fmp_instructions.specs.declared.instructions.Instruction.{Instruction}
use Rattle.fmp_instructions.specs.declared.instructions.Instruction.TheVariants.{Push, Load, Store, Unary, Truth}
use Rattle.fmp_instructions.specs.declared.instructions.Instruction.TheVariants.{Binary, Jump, JumpIfZero, End}
use Rattle.fmp_instructions.specs.Verify.{array_fits, depth_is, entry_is, local_fits, is_same, places_fit, wants, fits}
use Rattle.fmp_tasklang.specs.CallForms.{CallFits, StatementFits, BlockFits}
use Rattle.fmp_scopes.specs.Depths.{expression_depth, arguments_depth, statement_depth, block_depth}
use Rattle.fmp_scopes.specs.DepthTables.{expression_depths, arguments_depths, statement_depths, block_depths}
use Rattle.fmp_scopes.specs.Naming.{Writes, ReadsElement, WritesElement, use_offence, uses_offence, expression_uses}
use Rattle.fmp_scopes.specs.Naming.{arguments_uses, word_uses, call_uses, statement_uses, block_uses}
use Rattle.fmp_scopes.specs.Scheme.{array_base, name_code, load_element, store_element, word_place, expression_code}
use Rattle.fmp_scopes.specs.Scheme.{arguments_code, target_place, call_instruction, statement_code, block_code}
use Rattle.fmp_scopes.specs.Sizes.{expression_size, arguments_size, statement_size, block_size}
use Rattle.fmp_codegen.specs.Tie.{HasAt}
use Rattle.fmp_codegen.proofs.DepthLengths.{HasDepths, depths_front, depths_back, length-expression_depths}
use Rattle.fmp_codegen.proofs.DepthLengths.{length-arguments_depths, length-statement_depths, length-block_depths}
use Rattle.fmp_codegen.proofs.Standing.{has_front, has_back}
use Rattle.fmp_emission.proofs.Lengths.{length-expression_code, length-arguments_code, length-statement_code}
use Rattle.fmp_emission.proofs.Lengths.{length-block_code}
use Rattle.fmp_scopes.proofs.LeastDepths.{one-le-expression_depth, arguments-le-depth}
use Rattle.fmp_scopes.proofs.KnownNames.{none-first, none-second, uses_front, uses_back, target_is, target_means}
use Rattle.fmp_scopes.proofs.KnownNames.{read_array, written_array, call-named, arguments-named}
use Rattle.fmp_codegen.proofs.Places.{IsLaidOut, below-all}

pub both_true : (a b : Bool) → a ≡ true → b ≡ true → (a && b) ≡ true
both_true a b p q = cc

pub le_true : (a b : ℕ) → a ≤ b → nat_le a b ≡ true
le_true a b h = grind (arith, nat_tests)

pub lt_true : (a b : ℕ) → a < b → nat_lt a b ≡ true
lt_true a b h = grind (arith, nat_tests)

eq_true : (a b : ℕ) → a ≡ b → nat_eq a b ≡ true
eq_true a b h = grind (arith, nat_tests)

same_true : (a b : Bool) → b ≡ a → is_same a b ≡ true
same_true true true h = refl
same_true true false h = h
same_true false true h = sym h
same_true false false h = refl

module _ (scope : Scope) (code : List Instruction) (table : List ℕ) (laid : IsLaidOut scope) where
  abbrev locals : ℕ
  locals = total_places scope.locals

  -- the instructions of these places keep to the table
  abbrev pub AllFit : ℕ → ℕ → Type 0
  AllFit a b =
      (q : ℕ) (i : Instruction) (d : ℕ) → a ≤ q → q < b → slice_get code q ≡ Some i → slice_get table q ≡ Some d →
      fits locals table q d i ≡ true

  pub fit_join : (a b c : ℕ) → AllFit a b → AllFit b c → AllFit a c
  fit_join a b c f g q i d le lt hi hd = ⊎_elim (λ h. f q i d le h hi hd) (λ h. g q i d h lt hi hd) (cases_lt q b)

  pub fit_at :
      (p q : ℕ) (i : Instruction) (d : ℕ) → p + 1 ≡ q → slice_get code p ≡ Some i → slice_get table p ≡ Some d
      → d ≤ 64 →
      wants locals table p d i ≡ true → AllFit p q
  fit_at p q i d e hi hd le w r j x a b hj hx =
      let same : r ≡ p = omega arith in
      let i' : j ≡ i = let s = ap (λ n. slice_get code n) same in cc in
      let d' : x ≡ d = let s = ap (λ n. slice_get table n) same in cc in
      ap (λ n. fits locals table n x j) same ∙ ap (λ n. fits locals table p n j) d'
      ∙ ap (λ n. fits locals table p d n) i'
      ∙ both_true (nat_le d 64) (wants locals table p d i) (le_true d 64 le) w

  pub entry_at : (q d d' : ℕ) → slice_get table q ≡ Some d → d ≡ d' → d ≤ 64 → entry_is table q d' ≡ true
  entry_at q d d' h e le =
      ap (λ o. depth_is o d') h ∙ both_true (nat_eq d d') (nat_le d' 64) (eq_true d d' e) (le_true d' 64 (omega arith))

  abbrev Entry : ℕ → ℕ → Type 0
  Entry q d = slice_get table q ≡ Some d

  entry_moved : (p q d : ℕ) → p ≡ q → Entry q d → Entry p d
  entry_moved p q d e h = subst (λ m. Entry m d) (sym e) h

  pub expression_first : (e : ExpressionTree) (d p : ℕ) → HasDepths table p (expression_depths e d) → Entry p d
  expression_first (number k) d p h = h.0
  expression_first (named w) d p h = h.0
  expression_first (element w e) d p h = expression_first e d p (depths_front table p (expression_depths e d) _ h)
  expression_first (unary op e) d p h = expression_first e d p (depths_front table p (expression_depths e d) _ h)
  expression_first (binary op a b) d p h = expression_first a d p (depths_front table p (expression_depths a d) _ h)
  expression_first (both a b) d p h = expression_first a d p (depths_front table p (expression_depths a d) _ h)
  expression_first (either a b) d p h = expression_first a d p (depths_front table p (expression_depths a d) _ h)

  -- a variable has a place below the number of the locals
  variable_below : (v : ℕ) → places_at scope.locals v ≡ 1 → first_place scope.locals v < locals
  variable_below v one = omega (arith, below-all scope.locals v, one)

  named_fits :
      (m : NameMeaning) (p d : ℕ) → ((v : ℕ) → m ≡ Variable v → places_at scope.locals v ≡ 1) → d + 1 ≤ 64 →
      slice_get code p ≡ Some (name_code scope.locals m) → Entry p d → Entry (p + 1) (d + 1) → AllFit p (p + 1)
  named_fits (Variable v) p d one le hi hd end =
      let place = first_place scope.locals v in
      fit_at p (p + 1) (Load place) d refl hi hd (omega arith)
      (both_true (nat_lt place locals) (entry_is table (p + 1) (d + 1))
      (lt_true place locals (variable_below v (one v refl)))
      (entry_at (p + 1) (d + 1) (d + 1) end refl le))
  named_fits (Array v) p d one le hi hd end =
      fit_at p (p + 1) (Push (pos 0)) d refl hi hd (omega arith) (entry_at (p + 1) (d + 1) (d + 1) end refl le)
  named_fits (Object k) p d one le hi hd end =
      fit_at p (p + 1) (Push (pos k)) d refl hi hd (omega arith) (entry_at (p + 1) (d + 1) (d + 1) end refl le)
  named_fits Unknown p d one le hi hd end =
      fit_at p (p + 1) (Push (pos 0)) d refl hi hd (omega arith) (entry_at (p + 1) (d + 1) (d + 1) end refl le)

  -- an array lies after `exinf` and within the locals
  array_fits_there :
      (w : Word) (m : NameMeaning) → m ≡ meaning_of scope w.name → m ≡ Array (array_number m) →
      array_fits locals (array_base scope m) (array_places scope m) ≡ true
  array_fits_there w m is array =
      let v = array_number m in
      let a = laid.arrays w.name v (sym is ∙ array) in
      let there : array_places scope m ≡ places_at scope.locals v = ap (array_places scope) array in
      let within = below-all scope.locals v in
      both_true (nat_le 1 (array_base scope m) && nat_le 1 (array_places scope m))
      (nat_le (array_base scope m + array_places scope m) locals)
      (both_true (nat_le 1 (array_base scope m)) (nat_le 1 (array_places scope m))
      (le_true 1 (array_base scope m) a.behind)
      (le_true 1 (array_places scope m) (omega (arith, a.some, there))))
      (le_true (array_base scope m + array_places scope m) locals (omega (arith, within, there)))

  -- an expression at d, with d + 1 at the place after it
  pub expression_fits :
      (e : ExpressionTree) (p q d : ℕ) → HasAt code p (expression_code scope e p) →
      HasDepths table p (expression_depths e d) → uses_offence scope (expression_uses e) ≡ None →
      d + expression_depth e ≤ 64 → p + expression_size e ≡ q → Entry q (d + 1) → AllFit p q
  expression_fits (number k) p q d has hd known le eq end =
      fit_at p q (Push k) d eq has.0 hd.0 (omega arith)
      (entry_at (p + 1) (d + 1) (d + 1) (entry_moved (p + 1) q (d + 1) eq end) refl le)
  expression_fits (named w) p q d has hd known le eq end =
      subst (λ m. AllFit p m) eq
      (named_fits (meaning_of scope w.name) p d (laid.plain w.name) le has.0 hd.0
      (entry_moved (p + 1) q (d + 1) eq end))
  expression_fits (element w e) p q d has hd known le eq end =
      let m = meaning_of scope w.name in
      let i = load_element scope m in
      let pe = p + expression_size e in
      let front = expression_code scope e p in
      let entries = expression_depths e d in
      let hi = has_back code p (expression_size e) front (i ∷ []) (length-expression_code scope e p) has in
      let ht = depths_back table p (expression_size e) entries ((d + 1) ∷ []) (length-expression_depths e d) hd in
      let some = one-le-expression_depth e in
      let after : pe + 1 ≡ q = omega arith in
      let here = none-first (use_offence scope (ReadsElement w)) (uses_offence scope (expression_uses e)) known in
      let inner = none-second (use_offence scope (ReadsElement w)) (uses_offence scope (expression_uses e)) known in
      let array = array_fits locals (array_base scope m) (array_places scope m) in
      fit_join p pe q
      (expression_fits e p pe d (has_front code p front (i ∷ []) has) (depths_front table p entries ((d + 1) ∷ []) hd)
      inner le refl ht.0)
      (fit_at pe q i (d + 1) after hi.0 ht.0 (omega arith)
      (both_true (array && nat_le 1 (d + 1)) (entry_is table (pe + 1) (d + 1))
      (both_true array (nat_le 1 (d + 1)) (array_fits_there w m refl (read_array scope w here))
      (le_true 1 (d + 1) (omega arith)))
      (entry_at (pe + 1) (d + 1) (d + 1) (entry_moved (pe + 1) q (d + 1) after end) refl (omega arith))))
  expression_fits (unary op e) p q d has hd known le eq end =
      let pe = p + expression_size e in
      let front = expression_code scope e p in
      let entries = expression_depths e d in
      let hi = has_back code p (expression_size e) front (Unary op ∷ []) (length-expression_code scope e p) has in
      let ht = depths_back table p (expression_size e) entries ((d + 1) ∷ []) (length-expression_depths e d) hd in
      let some = one-le-expression_depth e in
      let after : pe + 1 ≡ q = omega arith in
      fit_join p pe q
      (expression_fits e p pe d (has_front code p front (Unary op ∷ []) has)
      (depths_front table p entries ((d + 1) ∷ []) hd)
      known le refl ht.0)
      (fit_at pe q (Unary op) (d + 1) after hi.0 ht.0 (omega arith)
      (both_true (nat_le 1 (d + 1)) (entry_is table (pe + 1) (d + 1)) (le_true 1 (d + 1) (omega arith))
      (entry_at (pe + 1) (d + 1) (d + 1) (entry_moved (pe + 1) q (d + 1) after end) refl (omega arith))))
  expression_fits (binary op a b) p q d has hd known le eq end =
      let known_a = uses_front scope (expression_uses a) (expression_uses b) known in
      let known_b = uses_back scope (expression_uses a) (expression_uses b) known in
      let pa = p + expression_size a in
      let pb = pa + expression_size b in
      let first = expression_code scope a p in
      let second = expression_code scope b pa in
      let tail = second ++ Binary op ∷ [] in
      let entries = expression_depths a d in
      let entries_b = expression_depths b (d + 1) in
      let rest = entries_b ++ (d + 2) ∷ [] in
      let ha = has_back code p (expression_size a) first tail (length-expression_code scope a p) has in
      let hb = has_back code pa (expression_size b) second (Binary op ∷ []) (length-expression_code scope b pa) ha in
      let ta = depths_back table p (expression_size a) entries rest (length-expression_depths a d) hd in
      let tb = depths_back table pa (expression_size b) entries_b ((d + 2) ∷ [])
      (length-expression_depths b (d + 1)) ta in
      let fb = depths_front table pa entries_b ((d + 2) ∷ []) ta in
      let some = one-le-expression_depth b in
      let after : pb + 1 ≡ q = omega arith in
      let two : d + 2 ≡ d + 1 + 1 = omega arith in
      fit_join p pa q
      (expression_fits a p pa d (has_front code p first tail has) (depths_front table p entries rest hd) known_a
      (omega arith) refl (expression_first b (d + 1) pa fb))
      (fit_join pa pb q
      (expression_fits b pa pb (d + 1) (has_front code pa second (Binary op ∷ []) ha) fb known_b (omega arith) refl
      (subst (λ m. Entry pb m) two tb.0))
      (fit_at pb q (Binary op) (d + 2) after hb.0 tb.0 (omega arith)
      (both_true (nat_le 2 (d + 2)) (entry_is table (pb + 1) (d + 2 - 1)) (le_true 2 (d + 2) (omega arith))
      (entry_at (pb + 1) (d + 1) (d + 2 - 1) (entry_moved (pb + 1) q (d + 1) after end) (omega arith) (omega arith)))))
  expression_fits (both a b) p q d has hd known le eq end =
      let known_a = uses_front scope (expression_uses a) (expression_uses b) known in
      let known_b = uses_back scope (expression_uses a) (expression_uses b) known in
      let pa = p + expression_size a in
      let pb = pa + 1 + expression_size b in
      let first = expression_code scope a p in
      let second = expression_code scope b (pa + 1) in
      let tail = Truth ∷ Jump (pb + 2 + 1) ∷ Push (pos 0) ∷ [] in
      let rest = JumpIfZero (pb + 2) ∷ (second ++ tail) in
      let entries = expression_depths a d in
      let entries_b = expression_depths b d in
      let dtail = (d + 1) ∷ (d + 1) ∷ d ∷ [] in
      let drest = (d + 1) ∷ (entries_b ++ dtail) in
      let h = has_back code p (expression_size a) first rest (length-expression_code scope a p) has in
      let ht = has_back code (pa + 1) (expression_size b) second tail (length-expression_code scope b (pa + 1)) h.1 in
      let t = depths_back table p (expression_size a) entries drest (length-expression_depths a d) hd in
      let ts = depths_back table (pa + 1) (expression_size b) entries_b dtail (length-expression_depths b d) t.1 in
      let fb = depths_front table (pa + 1) entries_b dtail t.1 in
      let some = one-le-expression_depth a in
      let e2 : pb + 2 ≡ pb + 1 + 1 = omega arith in
      let e3 : pb + 2 + 1 ≡ q = omega arith in
      let e4 : pb + 1 + 1 + 1 ≡ q = omega arith in
      let push_entry = entry_moved (pb + 2) (pb + 1 + 1) d e2 ts.1.1.0 in
      let end3 = entry_moved (pb + 2 + 1) q (d + 1) e3 end in
      let end4 = entry_moved (pb + 1 + 1 + 1) q (d + 1) e4 end in
      fit_join p pa q
      (expression_fits a p pa d (has_front code p first rest has) (depths_front table p entries drest hd) known_a
      (omega arith) refl
      t.0)
      (fit_join pa (pa + 1) q
      (fit_at pa (pa + 1) (JumpIfZero (pb + 2)) (d + 1) refl h.0 t.0 (omega arith)
      (both_true (nat_le 1 (d + 1) && entry_is table (pb + 2) (d + 1 - 1)) (entry_is table (pa + 1) (d + 1 - 1))
      (both_true (nat_le 1 (d + 1)) (entry_is table (pb + 2) (d + 1 - 1)) (le_true 1 (d + 1) (omega arith))
      (entry_at (pb + 2) d (d + 1 - 1) push_entry (omega arith) (omega arith)))
      (entry_at (pa + 1) d (d + 1 - 1) (expression_first b d (pa + 1) fb) (omega arith) (omega arith))))
      (fit_join (pa + 1) pb q
      (expression_fits b (pa + 1) pb d (has_front code (pa + 1) second tail h.1) fb known_b (omega arith) refl ts.0)
      (fit_join pb (pb + 1) q
      (fit_at pb (pb + 1) Truth (d + 1) refl ht.0 ts.0 (omega arith)
      (both_true (nat_le 1 (d + 1)) (entry_is table (pb + 1) (d + 1)) (le_true 1 (d + 1) (omega arith))
      (entry_at (pb + 1) (d + 1) (d + 1) ts.1.0 refl (omega arith))))
      (fit_join (pb + 1) (pb + 1 + 1) q
      (fit_at (pb + 1) (pb + 1 + 1) (Jump (pb + 2 + 1)) (d + 1) refl ht.1.0 ts.1.0 (omega arith)
      (entry_at (pb + 2 + 1) (d + 1) (d + 1) end3 refl (omega arith)))
      (fit_at (pb + 1 + 1) q (Push (pos 0)) d e4 ht.1.1.0 ts.1.1.0 (omega arith)
      (entry_at (pb + 1 + 1 + 1) (d + 1) (d + 1) end4 refl (omega arith)))))))
  expression_fits (either a b) p q d has hd known le eq end =
      let known_a = uses_front scope (expression_uses a) (expression_uses b) known in
      let known_b = uses_back scope (expression_uses a) (expression_uses b) known in
      let pa = p + expression_size a in
      let pb = pa + 3 + expression_size b in
      let first = expression_code scope a p in
      let second = expression_code scope b (pa + 3) in
      let tail = second ++ Truth ∷ [] in
      let rest = JumpIfZero (pa + 3) ∷ Push (pos 1) ∷ Jump (pb + 1) ∷ tail in
      let entries = expression_depths a d in
      let entries_b = expression_depths b d in
      let dtail = entries_b ++ (d + 1) ∷ [] in
      let drest = (d + 1) ∷ d ∷ (d + 1) ∷ dtail in
      let h = has_back code p (expression_size a) first rest (length-expression_code scope a p) has in
      let t = depths_back table p (expression_size a) entries drest (length-expression_depths a d) hd in
      let e3 : pa + 1 + 1 + 1 ≡ pa + 3 = omega arith in
      let hb = subst (λ m. HasAt code m tail) e3 h.1.1.1 in
      let tb = subst (λ m. HasDepths table m dtail) e3 t.1.1.1 in
      let hu = has_back code (pa + 3) (expression_size b) second (Truth ∷ [])
      (length-expression_code scope b (pa + 3)) hb in
      let tu = depths_back table (pa + 3) (expression_size b) entries_b ((d + 1) ∷ [])
      (length-expression_depths b d) tb in
      let fb = depths_front table (pa + 3) entries_b ((d + 1) ∷ []) tb in
      let some = one-le-expression_depth a in
      let e4 : pb + 1 ≡ q = omega arith in
      let end4 = entry_moved (pb + 1) q (d + 1) e4 end in
      fit_join p pa q
      (expression_fits a p pa d (has_front code p first rest has) (depths_front table p entries drest hd) known_a
      (omega arith) refl
      t.0)
      (fit_join pa (pa + 1) q
      (fit_at pa (pa + 1) (JumpIfZero (pa + 3)) (d + 1) refl h.0 t.0 (omega arith)
      (both_true (nat_le 1 (d + 1) && entry_is table (pa + 3) (d + 1 - 1)) (entry_is table (pa + 1) (d + 1 - 1))
      (both_true (nat_le 1 (d + 1)) (entry_is table (pa + 3) (d + 1 - 1)) (le_true 1 (d + 1) (omega arith))
      (entry_at (pa + 3) d (d + 1 - 1) (expression_first b d (pa + 3) fb) (omega arith) (omega arith)))
      (entry_at (pa + 1) d (d + 1 - 1) t.1.0 (omega arith) (omega arith))))
      (fit_join (pa + 1) (pa + 1 + 1) q
      (fit_at (pa + 1) (pa + 1 + 1) (Push (pos 1)) d refl h.1.0 t.1.0 (omega arith)
      (entry_at (pa + 1 + 1) (d + 1) (d + 1) t.1.1.0 refl (omega arith)))
      (fit_join (pa + 1 + 1) (pa + 3) q
      (fit_at (pa + 1 + 1) (pa + 3) (Jump (pb + 1)) (d + 1) e3 h.1.1.0 t.1.1.0 (omega arith)
      (entry_at (pb + 1) (d + 1) (d + 1) end4 refl (omega arith)))
      (fit_join (pa + 3) pb q
      (expression_fits b (pa + 3) pb d (has_front code (pa + 3) second (Truth ∷ []) hb) fb known_b
      (omega arith) refl tu.0)
      (fit_at pb q Truth (d + 1) e4 hu.0 tu.0 (omega arith)
      (both_true (nat_le 1 (d + 1)) (entry_is table (pb + 1) (d + 1)) (le_true 1 (d + 1) (omega arith))
      (entry_at (pb + 1) (d + 1) (d + 1) end4 refl (omega arith))))))))

  -- the arguments of a call, the first at d, and the call's entry at q
  arguments_first :
      (es : List ExpressionTree) (d m p q : ℕ) → HasDepths table p (arguments_depths es d) → p + arguments_size es ≡ q →
      d + length es ≡ m → Entry q m → Entry p d
  arguments_first [] d m p q h e l end =
      let same : p ≡ q = omega arith in
      let few : m ≡ d = omega arith in
      entry_moved p q d same (subst (λ x. Entry q x) few end)
  arguments_first (e ∷ es) d m p q h eq l end =
      expression_first e d p (depths_front table p (expression_depths e d) (arguments_depths es (d + 1)) h)

  arguments_fit :
      (es : List ExpressionTree) (p q d m : ℕ) → HasAt code p (arguments_code scope es p) →
      HasDepths table p (arguments_depths es d) → uses_offence scope (arguments_uses es) ≡ None →
      d + arguments_depth es ≤ 64 → p + arguments_size es ≡ q → d + length es ≡ m → Entry q m → AllFit p q
  arguments_fit [] p q d m has hd known le eq l end = λ r i x a b hi hx. absurd (omega arith)
  arguments_fit (e ∷ es) p q d m has hd known le eq l end =
      let known_e = uses_front scope (expression_uses e) (arguments_uses es) known in
      let known_es = uses_back scope (expression_uses e) (arguments_uses es) known in
      let pe = p + expression_size e in
      let first = expression_code scope e p in
      let others = arguments_code scope es pe in
      let entries = expression_depths e d in
      let rest = arguments_depths es (d + 1) in
      let h = has_back code p (expression_size e) first others (length-expression_code scope e p) has in
      let t = depths_back table p (expression_size e) entries rest (length-expression_depths e d) hd in
      fit_join p pe q
      (expression_fits e p pe d (has_front code p first others has) (depths_front table p entries rest hd) known_e
      (omega arith) refl
      (arguments_first es (d + 1) m pe q t (omega arith) (omega arith) end))
      (arguments_fit es pe q (d + 1) m h t known_es (omega arith) (omega arith) (omega arith) end)

  pub statement_first : (s : StatementTree) (p : ℕ) → HasDepths table p (statement_depths s) → Entry p 0
  statement_first (assign w e) p h = expression_first e 0 p (depths_front table p (expression_depths e 0) _ h)
  statement_first (assign_element w i e) p h = expression_first i 0 p (depths_front table p (expression_depths i 0) _ h)
  statement_first (service_call c) p h =
      let n = arguments_size c.arguments in
      let entries = arguments_depths c.arguments 0 in
      let t = depths_back table p n entries (length c.arguments ∷ []) (length-arguments_depths c.arguments 0) h in
      arguments_first c.arguments 0 (length c.arguments) p (p + n) (depths_front table p entries _ h) refl
      (omega arith) t.0
  statement_first (if_then e s) p h = expression_first e 0 p (depths_front table p (expression_depths e 0) _ h)
  statement_first (if_else e s r) p h = expression_first e 0 p (depths_front table p (expression_depths e 0) _ h)
  statement_first (while e s) p h = expression_first e 0 p (depths_front table p (expression_depths e 0) _ h)
  statement_first break p h = h.0
  statement_first continue p h = h.0
  statement_first return p h = h.0

  pub block_first :
      (s : Block) (p q : ℕ) → HasDepths table p (block_depths s) → p + block_size s ≡ q → Entry q 0 → Entry p 0
  block_first empty p q h e end = let same : p ≡ q = omega arith in entry_moved p q 0 same end
  block_first (next s rest) p q h e end =
      statement_first s p (depths_front table p (statement_depths s) (block_depths rest) h)

  -- the test of a choice
  test_fits :
      (pe q : ℕ) → slice_get code pe ≡ Some (JumpIfZero q) → Entry pe 1 → Entry q 0 → Entry (pe + 1) 0
      → AllFit pe (pe + 1)
  test_fits pe q h t a b =
      fit_at pe (pe + 1) (JumpIfZero q) 1 refl h t (omega arith)
      (both_true (nat_le 1 1 && entry_is table q (1 - 1)) (entry_is table (pe + 1) (1 - 1))
      (both_true (nat_le 1 1) (entry_is table q (1 - 1)) refl (entry_at q 0 0 a refl (omega arith)))
      (entry_at (pe + 1) 0 0 b refl (omega arith)))

  word_fits :
      (o : Option Word) → uses_offence scope (word_uses o) ≡ None →
      (is_some (word_place scope o) ≡ is_some o) × (local_fits locals (word_place scope o) ≡ true)
  word_fits None h = (refl, refl)
  word_fits (Some w) h =
      let writes = none-first (use_offence scope (Writes w)) None h in
      let v = found 0 (variable_number (meaning_of scope w.name)) in
      let place : word_place scope (Some w) ≡ Some (target_place scope w) =
      ap (option_map (first_place scope.locals)) (target_is scope w writes) in (
        ap is_some place,
        ap (local_fits locals) place ∙
            lt_true (target_place scope w) locals (variable_below v (laid.plain w.name v
            (target_means scope w writes))),
      )

  call_fits :
      (c : CallTree) → uses_offence scope (call_uses c) ≡ None → CallFits c →
      places_fit locals c.service (word_place scope c.out) (word_place scope c.result) ≡ true
  call_fits c known fit =
      let writes = call-named scope c known in
      let out = word_fits c.out writes.1 in
      let result = word_fits c.result writes.0 in
      let o = word_place scope c.out in
      let r = word_place scope c.result in
      let same = same_true (is_some (out_place c.service)) (is_some o) (out.0 ∙ fit.1) in
      both_true (is_same (is_some (out_place c.service)) (is_some o) && local_fits locals o) (local_fits locals r)
      (both_true (is_same (is_some (out_place c.service)) (is_some o)) (local_fits locals o) same out.1) result.1

  -- a statement, between entries that are 0; `continue` and `break` lead to entries that are 0
  mutual
    pub statement_fits :
        (s : StatementTree) (p q again exit : ℕ) → HasAt code p (statement_code scope s p again exit) →
        HasDepths table p (statement_depths s) → uses_offence scope (statement_uses s) ≡ None → StatementFits s →
        statement_depth s ≤ 64 → p + statement_size s ≡ q → Entry q 0 → Entry again 0 → Entry exit 0 → AllFit p q
    statement_fits (assign w e) p q again exit has hd known fit le eq end ea ex =
        let v = target_place scope w in
        let pe = p + expression_size e in
        let front = expression_code scope e p in
        let entries = expression_depths e 0 in
        let h = has_back code p (expression_size e) front (Store v ∷ []) (length-expression_code scope e p) has in
        let t = depths_back table p (expression_size e) entries (1 ∷ []) (length-expression_depths e 0) hd in
        let n = found 0 (variable_number (meaning_of scope w.name)) in
        let writes = none-first (use_offence scope (Writes w)) (uses_offence scope (expression_uses e)) known in
        let inner = none-second (use_offence scope (Writes w)) (uses_offence scope (expression_uses e)) known in
        let one = laid.plain w.name n (target_means scope w writes) in
        let after : pe + 1 ≡ q = omega arith in
        fit_join p pe q
        (expression_fits e p pe 0 (has_front code p front (Store v ∷ []) has) (depths_front table p entries (1 ∷ []) hd)
        inner (omega arith) refl t.0)
        (fit_at pe q (Store v) 1 after h.0 t.0 (omega arith)
        (both_true (nat_lt v locals && nat_le 1 1) (entry_is table (pe + 1) (1 - 1))
        (both_true (nat_lt v locals) (nat_le 1 1) (lt_true v locals (variable_below n one)) refl)
        (entry_at (pe + 1) 0 0 (entry_moved (pe + 1) q 0 after end) refl (omega arith))))
    statement_fits (assign_element w i e) p q again exit has hd known fit le eq end ea ex =
        let m = meaning_of scope w.name in
        let st = store_element scope m in
        let pi = p + expression_size i in
        let pe = pi + expression_size e in
        let first = expression_code scope i p in
        let second = expression_code scope e pi in
        let entries = expression_depths i 0 in
        let entries_e = expression_depths e 1 in
        let hb = has_back code p (expression_size i) first (second ++ st ∷ []) (length-expression_code scope i p) has in
        let h = has_back code pi (expression_size e) second (st ∷ []) (length-expression_code scope e pi) hb in
        let tb = depths_back table p (expression_size i) entries (entries_e ++ 2 ∷ [])
        (length-expression_depths i 0) hd in
        let t = depths_back table pi (expression_size e) entries_e (2 ∷ []) (length-expression_depths e 1) tb in
        let fe = depths_front table pi entries_e (2 ∷ []) tb in
        let uses = expression_uses i ++ expression_uses e in
        let writes = none-first (use_offence scope (WritesElement w)) (uses_offence scope uses) known in
        let inner = none-second (use_offence scope (WritesElement w)) (uses_offence scope uses) known in
        let after : pe + 1 ≡ q = omega arith in
        let array = array_fits locals (array_base scope m) (array_places scope m) in
        fit_join p pi q
        (expression_fits i p pi 0 (has_front code p first (second ++ st ∷ []) has)
        (depths_front table p entries (entries_e ++ 2 ∷ []) hd) (uses_front scope (expression_uses i)
        (expression_uses e) inner)
        (omega arith) refl (expression_first e 1 pi fe))
        (fit_join pi pe q
        (expression_fits e pi pe 1 (has_front code pi second (st ∷ []) hb) fe
        (uses_back scope (expression_uses i) (expression_uses e) inner) (omega arith) refl t.0)
        (fit_at pe q st 2 after h.0 t.0 (omega arith)
        (both_true (array && nat_le 2 2) (entry_is table (pe + 1) (2 - 2))
        (both_true array (nat_le 2 2) (array_fits_there w m refl (written_array scope w writes)) refl)
        (entry_at (pe + 1) 0 0 (entry_moved (pe + 1) q 0 after end) refl (omega arith)))))
    statement_fits (service_call c) p q again exit has hd known fit le eq end ea ex =
        let es = c.arguments in
        let pe = p + arguments_size es in
        let i = call_instruction scope c in
        let front = arguments_code scope es p in
        let entries = arguments_depths es 0 in
        let h = has_back code p (arguments_size es) front (i ∷ []) (length-arguments_code scope es p) has in
        let t = depths_back table p (arguments_size es) entries (length es ∷ []) (length-arguments_depths es 0) hd in
        let after : pe + 1 ≡ q = omega arith in
        let all : 0 + length es ≡ length es = omega arith in
        let few = arguments-le-depth es in
        let o = word_place scope c.out in
        let r = word_place scope c.result in
        fit_join p pe q
        (arguments_fit es p pe 0 (length es) (has_front code p front (i ∷ []) has)
        (depths_front table p entries (length es ∷ []) hd) (arguments-named scope c known) (omega arith) refl all t.0)
        (fit_at pe q i (length es) after h.0 t.0 (omega arith)
        (both_true (nat_eq (length es) (arity c.service) && places_fit locals c.service o r) (entry_is table (pe + 1) 0)
        (both_true (nat_eq (length es) (arity c.service)) (places_fit locals c.service o r)
        (eq_true (length es) (arity c.service) fit.0) (call_fits c known fit))
        (entry_at (pe + 1) 0 0 (entry_moved (pe + 1) q 0 after end) refl (omega arith))))
    statement_fits (if_then e s) p q again exit has hd known fit le eq end ea ex =
        let pe = p + expression_size e in
        let over = pe + 1 + block_size s in
        let front = expression_code scope e p in
        let tail = JumpIfZero over ∷ block_code scope s (pe + 1) again exit in
        let entries = expression_depths e 0 in
        let h = has_back code p (expression_size e) front tail (length-expression_code scope e p) has in
        let t = depths_back table p (expression_size e) entries (1 ∷ block_depths s)
        (length-expression_depths e 0) hd in
        let known_s = uses_back scope (expression_uses e) (block_uses s) known in
        let e1 : over ≡ q = omega arith in
        fit_join p pe q
        (expression_fits e p pe 0 (has_front code p front tail has) (depths_front table p entries
        (1 ∷ block_depths s) hd)
        (uses_front scope (expression_uses e) (block_uses s) known) (omega arith) refl t.0)
        (fit_join pe (pe + 1) q
        (test_fits pe over h.0 t.0 (entry_moved over q 0 e1 end) (block_first s (pe + 1) q t.1 e1 end))
        (block_fits s (pe + 1) q again exit h.1 t.1 known_s fit (omega arith) e1 end ea ex))
    statement_fits (if_else e s r) p q again exit has hd known fit le eq end ea ex =
        let pe = p + expression_size e in
        let ps = pe + 1 + block_size s in
        let over = ps + 1 + block_size r in
        let front = expression_code scope e p in
        let first = block_code scope s (pe + 1) again exit in
        let other = Jump over ∷ block_code scope r (ps + 1) again exit in
        let tail = JumpIfZero (ps + 1) ∷ (first ++ other) in
        let entries = expression_depths e 0 in
        let dother = 0 ∷ block_depths r in
        let dtail = 1 ∷ (block_depths s ++ dother) in
        let h = has_back code p (expression_size e) front tail (length-expression_code scope e p) has in
        let t = depths_back table p (expression_size e) entries dtail (length-expression_depths e 0) hd in
        let hj = has_back code (pe + 1) (block_size s) first other (length-block_code scope s (pe + 1) again exit) h.1
        in
        let tj = depths_back table (pe + 1) (block_size s) (block_depths s) dother (length-block_depths s) t.1 in
        let ts = depths_front table (pe + 1) (block_depths s) dother t.1 in
        let names = uses_back scope (expression_uses e) (block_uses s ++ block_uses r) known in
        let known_s = uses_front scope (block_uses s) (block_uses r) names in
        let known_r = uses_back scope (block_uses s) (block_uses r) names in
        let e1 : over ≡ q = omega arith in
        fit_join p pe q
        (expression_fits e p pe 0 (has_front code p front tail has) (depths_front table p entries dtail hd)
        (uses_front scope (expression_uses e) (block_uses s ++ block_uses r) known) (omega arith) refl t.0)
        (fit_join pe (pe + 1) q
        (test_fits pe (ps + 1) h.0 t.0 (block_first r (ps + 1) q tj.1 e1 end) (block_first s (pe + 1) ps ts refl tj.0))
        (fit_join (pe + 1) ps q
        (block_fits s (pe + 1) ps again exit (has_front code (pe + 1) first other h.1) ts known_s fit.0
        (omega arith) refl
        tj.0 ea ex)
        (fit_join ps (ps + 1) q
        (fit_at ps (ps + 1) (Jump over) 0 refl hj.0 tj.0 (omega arith)
        (entry_at over 0 0 (entry_moved over q 0 e1 end) refl (omega arith)))
        (block_fits r (ps + 1) q again exit hj.1 tj.1 known_r fit.1 (omega arith) e1 end ea ex))))
    statement_fits (while e s) p q again exit has hd known fit le eq end ea ex =
        let pe = p + expression_size e in
        let ps = pe + 1 + block_size s in
        let front = expression_code scope e p in
        let inner = block_code scope s (pe + 1) p (ps + 1) in
        let tail = JumpIfZero (ps + 1) ∷ (inner ++ Jump p ∷ []) in
        let entries = expression_depths e 0 in
        let dtail = 1 ∷ (block_depths s ++ 0 ∷ []) in
        let h = has_back code p (expression_size e) front tail (length-expression_code scope e p) has in
        let t = depths_back table p (expression_size e) entries dtail (length-expression_depths e 0) hd in
        let hj = has_back code (pe + 1) (block_size s) inner (Jump p ∷ [])
        (length-block_code scope s (pe + 1) p (ps + 1)) h.1 in
        let tj = depths_back table (pe + 1) (block_size s) (block_depths s) (0 ∷ []) (length-block_depths s) t.1 in
        let ts = depths_front table (pe + 1) (block_depths s) (0 ∷ []) t.1 in
        let known_s = uses_back scope (expression_uses e) (block_uses s) known in
        let e1 : ps + 1 ≡ q = omega arith in
        let last = entry_moved (ps + 1) q 0 e1 end in
        let he = depths_front table p entries dtail hd in
        let first = expression_first e 0 p he in
        fit_join p pe q
        (expression_fits e p pe 0 (has_front code p front tail has) he
        (uses_front scope (expression_uses e) (block_uses s) known) (omega arith) refl t.0)
        (fit_join pe (pe + 1) q
        (test_fits pe (ps + 1) h.0 t.0 last (block_first s (pe + 1) ps ts refl tj.0))
        (fit_join (pe + 1) ps q
        (block_fits s (pe + 1) ps p (ps + 1) (has_front code (pe + 1) inner (Jump p ∷ []) h.1) ts known_s fit
        (omega arith)
        refl tj.0 first last)
        (fit_at ps q (Jump p) 0 e1 hj.0 tj.0 (omega arith) (entry_at p 0 0 first refl (omega arith)))))
    statement_fits break p q again exit has hd known fit le eq end ea ex =
        fit_at p q (Jump exit) 0 eq has.0 hd.0 (omega arith) (entry_at exit 0 0 ex refl (omega arith))
    statement_fits continue p q again exit has hd known fit le eq end ea ex =
        fit_at p q (Jump again) 0 eq has.0 hd.0 (omega arith) (entry_at again 0 0 ea refl (omega arith))
    statement_fits return p q again exit has hd known fit le eq end ea ex =
        fit_at p q End 0 eq has.0 hd.0 (omega arith) refl

    pub block_fits :
        (s : Block) (p q again exit : ℕ) → HasAt code p (block_code scope s p again exit) →
        HasDepths table p (block_depths s) → uses_offence scope (block_uses s) ≡ None → BlockFits s
        → block_depth s ≤ 64 →
        p + block_size s ≡ q → Entry q 0 → Entry again 0 → Entry exit 0 → AllFit p q
    block_fits empty p q again exit has hd known fit le eq end ea ex = λ r i d a b hi hx. absurd (omega arith)
    block_fits (next s rest) p q again exit has hd known fit le eq end ea ex =
        let p1 = p + statement_size s in
        let front = statement_code scope s p again exit in
        let back = block_code scope rest p1 again exit in
        let h = has_back code p (statement_size s) front back (length-statement_code scope s p again exit) has in
        let t = depths_back table p (statement_size s) (statement_depths s) (block_depths rest)
        (length-statement_depths s) hd in
        fit_join p p1 q
        (statement_fits s p p1 again exit (has_front code p front back has)
        (depths_front table p (statement_depths s) (block_depths rest) hd)
        (uses_front scope (statement_uses s) (block_uses rest) known) fit.0 (omega arith) refl
        (block_first rest p1 q t (omega arith) end) ea ex)
        (block_fits rest p1 q again exit h t (uses_back scope (statement_uses s) (block_uses rest) known) fit.1
        (omega arith)
        (omega arith) end ea ex)
