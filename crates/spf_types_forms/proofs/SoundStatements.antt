-- Statements without faults: what they stand for is lawful, and is written as they are.
use Rattle.std.proofs.Common.{◌≡◌, ℕ, ◌+◌, ◌<◌, ◌^◌, Bool, true, false, ◌||◌, inl, inr, not, nat_eq, cond, suc, Option, Some, None, List, [], ◌∷◌, ◌++◌, length, map, ℤ, pos, negsuc, refl, sym, ap, ◌∙◌, subst, arith, length-append}
use Rattle.std.specs.Prelude.{IfSome, slice_get}
use Rattle.std.specs.List.{All, Contains}
use Rattle.std.specs.Str.{bytes_eq}
use Rattle.std.proofs.lemmas.Bool.Decides.{nat_tests}
use Rattle.spf_ast.specs.Carried.{IsWidth}
use Rattle.spf_ast.specs.RawSyntax.{RawExpression, RawPredictor, By, Host, RawFoldHead, RawPairHead, RawArguments, RawStatement, Let, Assign, Store, Fill, Emit, Fail, If, For, While, Do, Fold, Pair, Break, RawBlock, end, on_line}
use Rattle.spf_ast.specs.Lawful as w
use Rattle.spf_ast.specs.Meaning as m
use Rattle.spf_ast.specs.Lawful.{Names, IsNew, Declares, DeclaresEach, IsLawfulExpression, AreLawfulArguments, IsLawfulCondition, IsLawfulPredictor, AreLawfulPredictors, IsLawfulStatement, IsLawfulBlock, declared, declared_in}
use Rattle.spf_ast.specs.Spelling.{Vocabulary, name_at, spelled_names, spelled_expression, spelled_arguments, spelled_predictor, spelled_statement, spelled_block, IsWritableExpression, AreWritableArguments, IsWritablePredictor, IsWritableStatement, IsWritableBlock, has_break, holds_break}
use Rattle.spf_types_names.specs.declared.locals.Binding.{Binding}
use Rattle.spf_types_names.specs.Globals.{Globals, global_named}
use Rattle.spf_types_names.specs.Locals as l
use Rattle.spf_types_names.specs.Locals.{binding_of, AreNew}
use Rattle.spf_types_names.specs.Faults.{Setting, Fault, Scope, when, local_named, in_turn, in_part, declared_faults, each_declared_faults, assigned_faults, indexed_faults, called_faults, count_of, expression_faults, arguments_faults, predictor_faults, predictors_faults, names_faults, width_faults, fold_widths_faults, pair_widths_faults, fold_faults, in_body, showing_each, statement_faults, block_faults, is_byte, a_number, a_truth}
use Rattle.spf_types_names.specs.Faults as f
use Rattle.spf_types_names.specs.Resolved.{scope, free, fixed, with_each, row_slots, block_slot, body_slot, slot_of, names_of, names_in, slots_in, natural, locals_after, locals_at_end, body_locals, resolved_expression, resolved_arguments, resolved_predictor, resolved_predictors, resolved_statement, resolved_block}
use Rattle.spf_types_names.proofs.Tables.{same_bytes, bytes_are}
use Rattle.spf_types_names.proofs.Scopes.{local_named_is}
use Rattle.spf_types_names.proofs.Rows.{declared_is, all_new, new_along, hides_both, hidden_before, hidden_so}
use Rattle.spf_types_forms.proofs.Blocks.{scope_each-is, scope_after-is, scope_at_end-is}
use Rattle.spf_types_forms.proofs.Alike.{Alike, alike_itself, alike_through, alike_behind, alike_showing, alike_fixed, alike_declares, alike_expression, alike_arguments, alike_block, alike_end, to_front, from_front}
use Rattle.spf_types_forms.proofs.Sound.{left_none, right_none, contains_here, contains_there, contains_cases, Holds, Fits, slots_of, fixed_slots, lawful_scope, found_there, new_there, no_when, at_index, array_ok, call_ok, number_ok, numbers_ok, truth_ok, count_is}

-- ---- slots

-- these names stand in the slots from n on
abbrev pub Stand : List (List ℕ) → ℕ → List (List ℕ) → Type 0
Stand slots n [] = Unit {0}
Stand slots n (x ∷ xs) = (slice_get slots n ≡ Some x) × Stand slots (n + 1) xs

stand_from : (slots : List (List ℕ)) (n k : ℕ) (xs : List (List ℕ)) → n ≡ k → Stand slots n xs → Stand slots k xs
stand_from slots n k xs e h = subst (λ z. Stand slots z xs) e h

pub stand_left : (slots : List (List ℕ)) (n : ℕ) (xs ys : List (List ℕ)) → Stand slots n (xs ++ ys) → Stand slots n xs
stand_left slots n [] ys h = tt
stand_left slots n (x ∷ xs) ys h = (h.0, stand_left slots (n + 1) xs ys h.1)

pub stand_right : (slots : List (List ℕ)) (n : ℕ) (xs ys : List (List ℕ)) → Stand slots n (xs ++ ys) → Stand slots (n + length xs) ys
stand_right slots n [] ys h = stand_from slots n (n + 0) ys (omega arith) h
stand_right slots n (x ∷ xs) ys h = stand_from slots (n + 1 + length xs) (n + length (x ∷ xs)) ys (omega arith) (stand_right slots (n + 1) xs ys h.1)

-- ---- declarations

pub is_new : (here : Setting) (names : Names) (v : Vocabulary) (ls : List l.Local) (k n : ℕ) (in_loop : Bool) (x : List ℕ) → Fits here names v → Holds names.slots ls → binding_of ls x ≡ None → global_named here.globals x ≡ None → slice_get names.slots n ≡ Some x → IsNew names (lawful_scope ls k in_loop) n
is_new here names v ls k n in_loop x fits holds a b e =
    let P : Option (List ℕ) → Type 0 = λ o. IfSome o (λ y. (Contains names.taken y → ⊥) × All (λ other. slice_get names.slots other ≡ Some y → ⊥) (slots_of ls)) in
    subst P (sym e) (fits.taken x b, new_there names.slots ls x holds.there a)

pub one_more : (slots : List (List ℕ)) (ls : List l.Local) (x : List ℕ) (n : ℕ) (b : Bool) → Holds slots ls → binding_of ls x ≡ None → slice_get slots n ≡ Some x → Holds slots (record { name = x; slot = n; fixed = b } ∷ ls)
one_more slots ls x n b holds a e = record { there = (e, holds.there); apart = (a, holds.apart) }

-- ---- what may not be assigned

-- a slot that may not be assigned is that of a local that may not
abbrev FixedAt : List (List ℕ) → List l.Local → ℕ → Type 0
FixedAt slots ls k = (y : List ℕ) × (c : Binding) × (slice_get slots k ≡ Some y) × (binding_of ls y ≡ Some c) × (c.fixed ≡ true)

fixed_first : (slots : List (List ℕ)) (v : l.Local) (ls : List l.Local) (k : ℕ) → slice_get slots v.slot ≡ Some v.name → v.fixed ≡ true → v.slot ≡ k → FixedAt slots (v ∷ ls) k
fixed_first slots v ls k h t e =
    (v.name, record { slot = v.slot; fixed = v.fixed }, ap (slice_get slots) (sym e) ∙ h, ap (λ b. cond b (Some (record { slot = v.slot; fixed = v.fixed })) (binding_of ls v.name)) (bytes_are v.name), t)

fixed_later : (slots : List (List ℕ)) (v : l.Local) (ls : List l.Local) (k : ℕ) → binding_of ls v.name ≡ None → FixedAt slots ls k → FixedAt slots (v ∷ ls) k
fixed_later slots v ls k a (y, c, g, h, t) = (y, c, g, past (bytes_eq v.name y) refl, t)
  where
    past : (b : Bool) → bytes_eq v.name y ≡ b → cond b (Some (record { slot = v.slot; fixed = v.fixed })) (binding_of ls y) ≡ Some c
    past true e = let n : binding_of ls y ≡ None = ap (binding_of ls) (sym (same_bytes v.name y e)) ∙ a in cc
    past false e = h

fixed_step : (slots : List (List ℕ)) (v : l.Local) (ls : List l.Local) (k : ℕ) (t : Bool) → v.fixed ≡ t → slice_get slots v.slot ≡ Some v.name → binding_of ls v.name ≡ None → (Contains (fixed_slots ls) k → FixedAt slots ls k) →
    Contains (cond t (v.slot ∷ fixed_slots ls) (fixed_slots ls)) k → FixedAt slots (v ∷ ls) k
fixed_step slots v ls k true e h a rec q =
    elim (contains_cases v.slot k (fixed_slots ls) q) [ inl same ↦ fixed_first slots v ls k h e same | inr later ↦ fixed_later slots v ls k a (rec later) ]
fixed_step slots v ls k false e h a rec q = fixed_later slots v ls k a (rec q)

fixed_in : (slots : List (List ℕ)) (ls : List l.Local) (k : ℕ) → Holds slots ls → Contains (fixed_slots ls) k → FixedAt slots ls k
fixed_in slots [] k holds h = absurd (omega (arith, h.1))
fixed_in slots (v ∷ ls) k holds h =
    fixed_step slots v ls k v.fixed refl holds.there.0 holds.apart.0 (fixed_in slots ls k (record { there = holds.there.1; apart = holds.apart.1 })) h

pub not_fixed : (slots : List (List ℕ)) (ls : List l.Local) (x : List ℕ) (b : Binding) → Holds slots ls → binding_of ls x ≡ Some b → b.fixed ≡ false → Contains (fixed_slots ls) b.slot → ⊥
not_fixed slots ls x b holds e free h =
    let p = fixed_in slots ls b.slot holds h in
    let q = found_there slots ls x b holds.there e in
    let same : p.0 ≡ x = let a = p.2 in let c = q.0 in cc in
    let k : Some p.1 ≡ Some b = sym p.3 ∙ ap (binding_of ls) same ∙ e in
    let t = p.4 in
    cc

assigned_in : (here : Setting) (sc : Scope) (line : ℕ) (x : List ℕ) (o : Option Bool) → local_named sc x ≡ o → assigned_faults here sc line x ≡ [] → o ≡ Some false
assigned_in here sc line x (Some t) e h = let k = rw e at h in ap Some (no_when t _ line k)
assigned_in here sc line x None e h = let k = rw e at h in cc

binding_in : (o : Option Binding) (p : Option Bool) → p ≡ Some false → p ≡ (elim o [ Some b ↦ Some b.fixed | None ↦ None ]) → (b : Binding) × (o ≡ Some b) × (b.fixed ≡ false)
binding_in (Some b) p e h = (b, refl, cc)
binding_in None p e h = cc

pub assigned_is : (here : Setting) (ls : List l.Local) (line : ℕ) (x : List ℕ) → assigned_faults here (scope ls) line x ≡ [] → (b : Binding) × (binding_of ls x ≡ Some b) × (b.fixed ≡ false)
assigned_is here ls line x h = binding_in (binding_of ls x) (local_named (scope ls) x) (assigned_in here (scope ls) line x (local_named (scope ls) x) refl h) (local_named_is ls x)

-- ---- how many slots are declared, and scopes

count_slots : (n : ℕ) (xs : List (List ℕ)) → length (row_slots n xs) ≡ length xs
count_slots n [] = refl
count_slots n (x ∷ xs) = let r = count_slots (n + 1) xs in omega (arith, r)

mutual
  pub declared_is_length : (g : Globals) (ls : List l.Local) (n : ℕ) (st : RawStatement) → declared (resolved_statement g ls n st) ≡ length (names_of st)
  declared_is_length g ls n (Let x value) = refl
  declared_is_length g ls n (Assign x value) = refl
  declared_is_length g ls n (Store a i value) = refl
  declared_is_length g ls n (Fill a low high value) = refl
  declared_is_length g ls n (Emit value) = refl
  declared_is_length g ls n (Fail number) = refl
  declared_is_length g ls n (If test a b) =
      let p = declared_in_is g ls n a in
      let q = declared_in_is g ls (n + slots_in a) b in
      omega (arith, p, q, length-append (names_in a) (names_in b))
  declared_is_length g ls n (For x low high body) = let p = declared_in_is g (fixed x n ∷ ls) (n + 1) body in omega (arith, p)
  declared_is_length g ls n (While test most body) = declared_in_is g ls n body
  declared_is_length g ls n (Do f given) = refl
  declared_is_length g ls n (Fold head body) =
      let p = declared_in_is g (body_locals ls n head) (body_slot n head) body in
      omega (arith, p, count_slots n head.carried, length-append head.carried (head.block ∷ names_in body))
  declared_is_length g ls n (Pair head producer consumer) =
      let p = declared_in_is g ls (n + length head.carried) producer in
      let q = declared_in_is g (with_each true ls n head.carried) (n + length head.carried + slots_in producer) consumer in
      omega (arith, p, q, count_slots n head.carried, length-append head.carried (names_in producer ++ names_in consumer), length-append (names_in producer) (names_in consumer))
  declared_is_length g ls n Break = refl

  pub declared_in_is : (g : Globals) (ls : List l.Local) (n : ℕ) (b : RawBlock) → declared_in (resolved_block g ls n b) ≡ length (names_in b)
  declared_in_is g ls n end = refl
  declared_in_is g ls n (on_line line st rest) =
      let p = declared_is_length g ls n st in
      let q = declared_in_is g (locals_after ls n st) (n + length (names_of st)) rest in
      omega (arith, p, q, length-append (names_of st) (names_in rest))

-- scopes that differ in how their next slot is written
alike_at : (visible fixed_ones : List ℕ) (n k : ℕ) (in_loop : Bool) → n ≡ k → Alike (record { visible = visible; fixed = fixed_ones; next = n; in_loop = in_loop }) (record { visible = visible; fixed = fixed_ones; next = k; in_loop = in_loop })
alike_at visible fixed_ones n k in_loop e = record { shown = λ q h. h; shown_back = λ q h. h; fixed_back = λ q h. h; next = e; in_loop = refl }

-- slots that are put before others, one after another
abbrev put_before : List ℕ → ℕ → List (List ℕ) → List ℕ
put_before slots n [] = slots
put_before slots n (x ∷ xs) = put_before (n ∷ slots) (n + 1) xs

put_is_there : (slots : List ℕ) (n : ℕ) (xs : List (List ℕ)) (k : ℕ) → Contains (put_before slots n xs) k → Contains (row_slots n xs ++ slots) k
put_is_there slots n [] k h = h
put_is_there slots n (x ∷ xs) k h = to_front (row_slots (n + 1) xs) slots n k (put_is_there (n ∷ slots) (n + 1) xs k h)

there_is_put : (slots : List ℕ) (n : ℕ) (xs : List (List ℕ)) (k : ℕ) → Contains (row_slots n xs ++ slots) k → Contains (put_before slots n xs) k
there_is_put slots n [] k h = h
there_is_put slots n (x ∷ xs) k h = there_is_put (n ∷ slots) (n + 1) xs k (from_front (row_slots (n + 1) xs) slots n k h)

slots_each : (b : Bool) (ls : List l.Local) (n : ℕ) (xs : List (List ℕ)) → slots_of (with_each b ls n xs) ≡ put_before (slots_of ls) n xs
slots_each b ls n [] = refl
slots_each b ls n (x ∷ xs) = slots_each b (record { name = x; slot = n; fixed = b } ∷ ls) (n + 1) xs

fixed_each : (ls : List l.Local) (n : ℕ) (xs : List (List ℕ)) → fixed_slots (with_each true ls n xs) ≡ put_before (fixed_slots ls) n xs
fixed_each ls n [] = refl
fixed_each ls n (x ∷ xs) = fixed_each (fixed x n ∷ ls) (n + 1) xs

free_each : (ls : List l.Local) (n : ℕ) (xs : List (List ℕ)) → fixed_slots (with_each false ls n xs) ≡ fixed_slots ls
free_each ls n [] = refl
free_each ls n (x ∷ xs) = free_each (free x n ∷ ls) (n + 1) xs

contains_along : (xs ys : List ℕ) (k : ℕ) → xs ≡ ys → Contains xs k → Contains ys k
contains_along xs ys k e h = subst (λ zs. Contains zs k) e h

-- the scope after names, which may be assigned or not
alike_free : (ls : List l.Local) (n : ℕ) (xs : List (List ℕ)) (one other : ℕ) (in_loop : Bool) → one ≡ other → Alike (lawful_scope (with_each false ls n xs) one in_loop) (record { visible = row_slots n xs ++ slots_of ls; fixed = fixed_slots ls; next = other; in_loop = in_loop })
alike_free ls n xs one other in_loop e = record {
  shown = λ k h. put_is_there (slots_of ls) n xs k (contains_along _ _ k (slots_each false ls n xs) h);
  shown_back = λ k h. contains_along _ _ k (sym (slots_each false ls n xs)) (there_is_put (slots_of ls) n xs k h);
  fixed_back = λ k h. contains_along _ _ k (sym (free_each ls n xs)) h;
  next = e;
  in_loop = refl;
}

alike_all_fixed : (ls : List l.Local) (n : ℕ) (xs : List (List ℕ)) (one other : ℕ) (in_loop : Bool) → one ≡ other → Alike (lawful_scope (with_each true ls n xs) one in_loop) (record { visible = row_slots n xs ++ slots_of ls; fixed = row_slots n xs ++ fixed_slots ls; next = other; in_loop = in_loop })
alike_all_fixed ls n xs one other in_loop e = record {
  shown = λ k h. put_is_there (slots_of ls) n xs k (contains_along _ _ k (slots_each true ls n xs) h);
  shown_back = λ k h. contains_along _ _ k (sym (slots_each true ls n xs)) (there_is_put (slots_of ls) n xs k h);
  fixed_back = λ k h. contains_along _ _ k (sym (fixed_each ls n xs)) (there_is_put (fixed_slots ls) n xs k h);
  next = e;
  in_loop = refl;
}

-- the scope after a statement
pub lawful_after : (g : Globals) (ls : List l.Local) (n : ℕ) (in_loop : Bool) (st : RawStatement) → Alike (lawful_scope (locals_after ls n st) (n + length (names_of st)) in_loop) (w.scope_after (lawful_scope ls n in_loop) (resolved_statement g ls n st))
lawful_after g ls n in_loop (Let x value) = alike_at (n ∷ slots_of ls) (fixed_slots ls) _ _ in_loop refl
lawful_after g ls n in_loop (Assign x value) = alike_at (slots_of ls) (fixed_slots ls) _ _ in_loop refl
lawful_after g ls n in_loop (Store a i value) = alike_at (slots_of ls) (fixed_slots ls) _ _ in_loop refl
lawful_after g ls n in_loop (Fill a low high value) = alike_at (slots_of ls) (fixed_slots ls) _ _ in_loop refl
lawful_after g ls n in_loop (Emit value) = alike_at (slots_of ls) (fixed_slots ls) _ _ in_loop refl
lawful_after g ls n in_loop (Fail number) = alike_at (slots_of ls) (fixed_slots ls) _ _ in_loop refl
lawful_after g ls n in_loop (If test a b) = alike_at (slots_of ls) (fixed_slots ls) _ _ in_loop (ap (λ (z : ℕ). n + z) (sym (declared_is_length g ls n (If test a b))))
lawful_after g ls n in_loop (For x low high body) = alike_at (slots_of ls) (fixed_slots ls) _ _ in_loop (ap (λ (z : ℕ). n + z) (sym (declared_is_length g ls n (For x low high body))))
lawful_after g ls n in_loop (While test most body) = alike_at (slots_of ls) (fixed_slots ls) _ _ in_loop (ap (λ (z : ℕ). n + z) (sym (declared_is_length g ls n (While test most body))))
lawful_after g ls n in_loop (Do f given) = alike_at (slots_of ls) (fixed_slots ls) _ _ in_loop refl
lawful_after g ls n in_loop (Fold head body) = alike_free ls n head.carried _ _ in_loop (ap (λ (z : ℕ). n + z) (sym (declared_is_length g ls n (Fold head body))))
lawful_after g ls n in_loop (Pair head producer consumer) = alike_free ls n head.carried _ _ in_loop (ap (λ (z : ℕ). n + z) (sym (declared_is_length g ls n (Pair head producer consumer))))
lawful_after g ls n in_loop Break = alike_at (slots_of ls) (fixed_slots ls) _ _ in_loop refl

pub lawful_at_end : (g : Globals) (ls : List l.Local) (n : ℕ) (in_loop : Bool) (b : RawBlock) → Alike (lawful_scope (locals_at_end ls n b) (n + length (names_in b)) in_loop) (w.scope_at_end (lawful_scope ls n in_loop) (resolved_block g ls n b))
lawful_at_end g ls n in_loop end = alike_at (slots_of ls) (fixed_slots ls) _ _ in_loop (let e : n + 0 ≡ n = omega arith in e)
lawful_at_end g ls n in_loop (on_line line st rest) =
    let now = locals_after ls n st in
    let k = n + length (names_of st) in
    let last = locals_at_end now k rest in
    alike_through _ _ _ (alike_at (slots_of last) (fixed_slots last) _ (k + length (names_in rest)) in_loop (let e : n + length (names_of st ++ names_in rest) ≡ k + length (names_in rest) = omega (arith, length-append (names_of st) (names_in rest)) in e))
    (alike_through _ _ _ (lawful_at_end g now k in_loop rest) (alike_end _ _ (resolved_block g now k rest) (lawful_after g ls n in_loop st)))

-- the scopes of a construct's parts
in_body_alike : (ls : List l.Local) (n : ℕ) (in_loop : Bool) (head : RawFoldHead) → Alike (lawful_scope (body_locals ls n head) (body_slot n head) false) (w.in_body (lawful_scope ls n in_loop) (row_slots n head.carried) (block_slot n head))
in_body_alike ls n in_loop head =
    let e : body_slot n head ≡ n + (length (row_slots n head.carried) + 1) = omega (arith, count_slots n head.carried) in
    alike_fixed _ _ (block_slot n head) (alike_all_fixed ls n head.carried (body_slot n head) (n + (length (row_slots n head.carried) + 1)) false e)

in_producer_alike : (ls : List l.Local) (n : ℕ) (in_loop : Bool) (xs : List (List ℕ)) → Alike (lawful_scope ls (n + length xs) false) (w.in_producer (lawful_scope ls n in_loop) (row_slots n xs))
in_producer_alike ls n in_loop xs = alike_at (slots_of ls) (fixed_slots ls) _ _ false (ap (λ (z : ℕ). n + z) (sym (count_slots n xs)))

in_consumer_alike : (g : Globals) (ls : List l.Local) (n : ℕ) (in_loop : Bool) (xs : List (List ℕ)) (producer : RawBlock) →
    Alike (lawful_scope (with_each true ls n xs) (n + length xs + slots_in producer) false) (w.in_consumer (lawful_scope ls n in_loop) (row_slots n xs) (resolved_block g ls (n + length xs) producer))
in_consumer_alike g ls n in_loop xs producer =
    let d = declared_in_is g ls (n + length xs) producer in
    let e : n + length xs + slots_in producer ≡ n + (length (row_slots n xs) + declared_in (resolved_block g ls (n + length xs) producer)) = omega (arith, d, count_slots n xs) in
    alike_all_fixed ls n xs _ _ false e

-- ---- statements

predictor_ok : (here : Setting) (names : Names) (v : Vocabulary) (ls : List l.Local) (n : ℕ) (in_loop : Bool) (line : ℕ) → Fits here names v → Holds names.slots ls → (p : RawPredictor) → predictor_faults here (scope ls) line p ≡ [] → IsWritablePredictor p →
    IsLawfulPredictor names (lawful_scope ls n in_loop) (resolved_predictor here.globals ls p) × (spelled_predictor v (resolved_predictor here.globals ls p) ≡ p)
predictor_ok here names v ls n in_loop line fits holds (By guess) h w = let r = number_ok here names v ls n in_loop line fits holds guess h w in (r.0, ap By r.1)
predictor_ok here names v ls n in_loop line fits holds (Host k) h w = (w, refl)

predictors_ok : (here : Setting) (names : Names) (v : Vocabulary) (ls : List l.Local) (n : ℕ) (in_loop : Bool) (line : ℕ) → Fits here names v → Holds names.slots ls → (ps : List RawPredictor) → predictors_faults here (scope ls) line ps ≡ [] → All IsWritablePredictor ps →
    AreLawfulPredictors names (lawful_scope ls n in_loop) (resolved_predictors here.globals ls ps) × (map (spelled_predictor v) (resolved_predictors here.globals ls ps) ≡ ps)
predictors_ok here names v ls n in_loop line fits holds [] h w = (tt, refl)
predictors_ok here names v ls n in_loop line fits holds (p ∷ ps) h w =
    let r = predictor_ok here names v ls n in_loop line fits holds p (left_none _ _ h) (w 0 p (omega arith)) in
    let q = predictors_ok here names v ls n in_loop line fits holds ps (right_none (predictor_faults here (scope ls) line p) _ h) (λ k d l. w (suc k) d (omega (arith, l))) in
    ((r.0, q.0), λ j. r.1 j ∷ q.1 j)

count_guesses : (g : Globals) (ls : List l.Local) (ps : List RawPredictor) → length (resolved_predictors g ls ps) ≡ length ps
count_guesses g ls [] = refl
count_guesses g ls (p ∷ ps) = let r = count_guesses g ls ps in omega (arith, r)

-- a list that is as long as the names
same_width : (line width count : ℕ) → width_faults line width count ≡ [] → count ≡ width
same_width line width count h =
    let t = no_when (not (nat_eq count width)) _ line h in
    grind (arith, nat_tests)

-- ---- rows

-- in a loop or not, the same is visible in the whole program
fits_in : (here : Setting) (names : Names) (v : Vocabulary) (in_loop : Bool) → Fits here names v → Fits (record here { in_loop = in_loop }) names v
fits_in here names v in_loop fits = record { arrays = fits.arrays; functions = fits.functions; index = fits.index; taken = fits.taken; slots = fits.slots }

-- the names of a row stand in its slots
named_row : (names : Names) (v : Vocabulary) (n : ℕ) (xs : List (List ℕ)) → v.slots ≡ names.slots → Stand names.slots n xs → spelled_names v (row_slots n xs) ≡ xs
named_row names v n [] e k = refl
named_row names v n (x ∷ xs) e k =
    let one : name_at v.slots n ≡ x = ap (λ sl. name_at sl n) e ∙ at_index names.slots n x [] k.0 in
    λ j. one j ∷ named_row names v (n + 1) xs e k.1 j

pub holds_each : (slots : List (List ℕ)) (b : Bool) (ls : List l.Local) (n : ℕ) (xs : List (List ℕ)) → Holds slots ls → AreNew ls xs → Stand slots n xs → Holds slots (with_each b ls n xs)
holds_each slots b ls n [] holds new k = holds
holds_each slots b ls n (x ∷ xs) holds new k =
    let one : l.Local = record { name = x; slot = n; fixed = b } in
    holds_each slots b (one ∷ ls) (n + 1) xs (one_more slots ls x n b holds new.0 k.0) (new_along (free x 0 ∷ ls) (one ∷ ls) xs (hides_both ls ls x 0 n false b (λ q none. none)) new.1) k.1

-- names that are declared without a fault, in a scope that is alike
each_ok : (here : Setting) (names : Names) (v : Vocabulary) (line : ℕ) → Fits here names v → (ls : List l.Local) (n : ℕ) (in_loop : Bool) (sc : w.Scope) → Holds names.slots ls → Alike (lawful_scope ls n in_loop) sc → (xs : List (List ℕ)) → Stand names.slots n xs → each_declared_faults here (scope ls) line xs ≡ [] → DeclaresEach names sc (row_slots n xs)
each_ok here names v line fits ls n in_loop sc holds a [] k h = tt
each_ok here names v line fits ls n in_loop sc holds a (x ∷ xs) k h =
    let d = declared_is here ls line x (left_none _ _ h) in
    let more = alike_behind (w.showing n (lawful_scope ls n in_loop)) (w.showing n sc) 1 (alike_showing (lawful_scope ls n in_loop) sc n a) in (
      alike_declares names (lawful_scope ls n in_loop) sc n a (refl, is_new here names v ls n n in_loop x fits holds d.0 d.1 k.0),
      each_ok here names v line fits (free x n ∷ ls) (n + 1) in_loop (w.behind 1 (w.showing n sc)) (one_more names.slots ls x n false holds d.0 k.0) more xs k.1 (right_none (declared_faults here (scope ls) line x) _ h),
    )

each_alike : (ls : List l.Local) (n m : ℕ) (in_loop : Bool) (sc : w.Scope) → Alike (lawful_scope ls n in_loop) sc → (xs : List (List ℕ)) → m ≡ n + length xs → Alike (lawful_scope (with_each false ls n xs) m in_loop) (w.showing_each (row_slots n xs) sc)
each_alike ls n m in_loop sc a [] e = alike_through _ _ _ (alike_at (slots_of ls) (fixed_slots ls) m n in_loop (omega (arith, e))) a
each_alike ls n m in_loop sc a (x ∷ xs) e =
    each_alike (free x n ∷ ls) (n + 1) m in_loop (w.behind 1 (w.showing n sc)) (alike_behind (w.showing n (lawful_scope ls n in_loop)) (w.showing n sc) 1 (alike_showing (lawful_scope ls n in_loop) sc n a)) xs (omega (arith, e))

or_right : (a b : Bool) → b ≡ true → (a || b) ≡ true
or_right true b e = refl
or_right false b e = e

byte_is : (number : ℤ) → is_byte number ≡ true → (natural number < 2 ^ 8) × (pos (natural number) ≡ number)
byte_is (pos n) e = (grind (arith, nat_tests), refl)
byte_is (negsuc n) e = cc

not_true : (b : Bool) → not b ≡ false → b ≡ true
not_true true e = refl
not_true false e = cc

-- the locals after a statement are there and apart
holds_after : (here : Setting) (slots : List (List ℕ)) (ls : List l.Local) (n line : ℕ) → Holds slots ls → (st : RawStatement) → Stand slots n (names_of st) → statement_faults here (scope ls) line st ≡ [] → Holds slots (locals_after ls n st)
holds_after here slots ls n line holds (Let x value) k h = one_more slots ls x n false holds (declared_is here ls line x (left_none _ _ h)).0 k.0
holds_after here slots ls n line holds (Assign x value) k h = holds
holds_after here slots ls n line holds (Store a i value) k h = holds
holds_after here slots ls n line holds (Fill a low high value) k h = holds
holds_after here slots ls n line holds (Emit value) k h = holds
holds_after here slots ls n line holds (Fail number) k h = holds
holds_after here slots ls n line holds (If test a b) k h = holds
holds_after here slots ls n line holds (For x low high body) k h = holds
holds_after here slots ls n line holds (While test most body) k h = holds
holds_after here slots ls n line holds (Do f given) k h = holds
holds_after here slots ls n line holds (Fold head body) k h =
    let new = all_new here ls line head.carried (left_none _ _ (left_none (names_faults here (scope ls) line head) _ (left_none (fold_faults here (scope ls) line head) _ h))) in
    holds_each slots false ls n head.carried holds new (stand_left slots n head.carried (head.block ∷ names_in body) k)
holds_after here slots ls n line holds (Pair head producer consumer) k h =
    holds_each slots false ls n head.carried holds (all_new here ls line head.carried (left_none _ _ h)) (stand_left slots n head.carried (names_in producer ++ names_in consumer) k)
holds_after here slots ls n line holds Break k h = holds

-- the faults of the rest of a block, in the scope of the locals there
rest_none : (here : Setting) (ls : List l.Local) (n line : ℕ) (st : RawStatement) (rest : RawBlock) → block_faults here (scope ls) (on_line line st rest) ≡ [] → block_faults here (scope (locals_after ls n st)) rest ≡ []
rest_none here ls n line st rest h = ap (λ sc. block_faults here sc rest) (scope_after-is ls n st) ∙ right_none (statement_faults here (scope ls) line st) _ h

pub holds_at_end : (here : Setting) (slots : List (List ℕ)) (ls : List l.Local) (n : ℕ) → Holds slots ls → (b : RawBlock) → Stand slots n (names_in b) → block_faults here (scope ls) b ≡ [] → Holds slots (locals_at_end ls n b)
holds_at_end here slots ls n holds end k h = holds
holds_at_end here slots ls n holds (on_line line st rest) k h =
    holds_at_end here slots (locals_after ls n st) (n + length (names_of st))
    (holds_after here slots ls n line holds st (stand_left slots n (names_of st) (names_in rest) k) (left_none _ _ h)) rest
    (stand_right slots n (names_of st) (names_in rest) k) (rest_none here ls n line st rest h)

-- a number after a block
pub value_ok : (here : Setting) (names : Names) (v : Vocabulary) (ls : List l.Local) (n : ℕ) (in_loop : Bool) (line : ℕ) → Fits here names v → Holds names.slots ls → (b : RawBlock) (e : RawExpression) → Stand names.slots n (names_in b) → block_faults here (scope ls) b ≡ [] → expression_faults here (f.scope_at_end (scope ls) b) line a_number e ≡ [] → IsWritableExpression e →
    IsLawfulExpression names (w.scope_at_end (lawful_scope ls n in_loop) (resolved_block here.globals ls n b)) (resolved_expression here.globals (locals_at_end ls n b) e) × (spelled_expression v (resolved_expression here.globals (locals_at_end ls n b) e) ≡ e)
value_ok here names v ls n in_loop line fits holds b e k h q w =
    let r = number_ok here names v (locals_at_end ls n b) (n + length (names_in b)) in_loop line fits (holds_at_end here names.slots ls n holds b k h) e (ap (λ sc. expression_faults here sc line a_number e) (scope_at_end-is ls n b) ∙ q) w in
    (alike_expression names _ _ (resolved_expression here.globals (locals_at_end ls n b) e) (lawful_at_end here.globals ls n in_loop b) r.0, r.1)

-- a row after the statements of a part, in a scope that is alike
row_ok : (here : Setting) (names : Names) (v : Vocabulary) (ls : List l.Local) (n line : ℕ) (sc : w.Scope) → Fits here names v → Holds names.slots ls → Alike (lawful_scope ls n false) sc → (b : RawBlock) (es : RawArguments) → Stand names.slots n (names_in b) → block_faults (in_part here) (scope ls) b ≡ [] → arguments_faults here (f.scope_at_end (scope ls) b) line es ≡ [] → AreWritableArguments es →
    AreLawfulArguments names (w.scope_at_end sc (resolved_block here.globals ls n b)) (resolved_arguments here.globals (locals_at_end ls n b) es) × (spelled_arguments v (resolved_arguments here.globals (locals_at_end ls n b) es) ≡ es)
row_ok here names v ls n line sc fits holds a b es k h q w =
    let r = numbers_ok here names v (locals_at_end ls n b) (n + length (names_in b)) false line fits (holds_at_end (in_part here) names.slots ls n holds b k h) es (ap (λ sc. arguments_faults here sc line es) (scope_at_end-is ls n b) ∙ q) w in
    let there = alike_through _ _ _ (lawful_at_end here.globals ls n false b) (alike_end (lawful_scope ls n false) sc (resolved_block here.globals ls n b) a) in
    (alike_arguments names _ _ (resolved_arguments here.globals (locals_at_end ls n b) es) there r.0, r.1)

-- the lists of a construct's parts are as long as its names
parts_ok : (g : Globals) (ls : List l.Local) (n : ℕ) (head : RawFoldHead) (line : ℕ) → fold_widths_faults line head ≡ [] → IsWidth (length head.carried) → (ms ps : List l.Local) → w.FoldHasOneWidth (record {
  carried = row_slots n head.carried;
  start = resolved_arguments g ls head.start;
  block = block_slot n head;
  low = resolved_expression g ls head.low;
  high = resolved_expression g ls head.high;
  predict = resolved_predictors g ps head.predict;
  next = resolved_arguments g ms head.next;
  next_line = head.next_line;
})
parts_ok g ls n head line h wide ms ps =
    let width = length head.carried in
    let s = same_width line width (count_of head.start) (left_none _ _ h) in
    let r = right_none (width_faults line width (count_of head.start)) _ h in
    let p = same_width line width (length head.predict) (left_none _ _ r) in
    let q = same_width line width (count_of head.next) (right_none (width_faults line width (length head.predict)) _ r) in
    let c = sym (count_slots n head.carried) in
    record {
      width = subst IsWidth c wide;
      start = count_is g ls head.start ∙ s ∙ c;
      predict = count_guesses g ps head.predict ∙ p ∙ c;
      next = count_is g ms head.next ∙ q ∙ c;
    }

pair_parts_ok : (g : Globals) (ls : List l.Local) (n : ℕ) (head : RawPairHead) (line : ℕ) → pair_widths_faults line head ≡ [] → IsWidth (length head.carried) → (ms : List l.Local) → w.PairHasOneWidth (record {
  carried = row_slots n head.carried;
  give = resolved_arguments g ms head.give;
  give_line = head.give_line;
  predict = resolved_predictors g ls head.predict;
})
pair_parts_ok g ls n head line h wide ms =
    let width = length head.carried in
    let s = same_width line width (count_of head.give) (left_none _ _ h) in
    let p = same_width line width (length head.predict) (right_none (width_faults line width (count_of head.give)) _ h) in
    let c = sym (count_slots n head.carried) in
    record { width = subst IsWidth c wide; give = count_is g ms head.give ∙ s ∙ c; predict = count_guesses g ls head.predict ∙ p ∙ c }

mutual
  pub statement_ok : (here : Setting) (names : Names) (v : Vocabulary) (ls : List l.Local) (n line : ℕ) → Fits here names v → Holds names.slots ls → (st : RawStatement) → Stand names.slots n (names_of st) → statement_faults here (scope ls) line st ≡ [] → IsWritableStatement st → (has_break st ≡ true → names.version ≡ 2) →
      IsLawfulStatement names here.in_main (lawful_scope ls n here.in_loop) (resolved_statement here.globals ls n st) × (spelled_statement v (resolved_statement here.globals ls n st) ≡ st)
  statement_ok here names v ls n line fits holds (Let x value) k h w br =
      let d = declared_is here ls line x (left_none _ _ h) in
      let r = number_ok here names v ls n here.in_loop line fits holds value (right_none (declared_faults here (scope ls) line x) _ h) w.1 in
      let e : name_at v.slots n ≡ x = ap (λ sl. name_at sl n) fits.slots ∙ at_index names.slots n x [] k.0 in
      ((r.0, (refl, is_new here names v ls n n here.in_loop x fits holds d.0 d.1 k.0)), λ j. Let (e j) (r.1 j))
  statement_ok here names v ls n line fits holds (Assign x value) k h w br =
      let a = assigned_is here ls line x (left_none _ _ h) in
      let u = found_there names.slots ls x a.0 holds.there a.1 in
      let r = number_ok here names v ls n here.in_loop line fits holds value (right_none (assigned_faults here (scope ls) line x) _ h) w.1 in
      let e : slot_of ls x ≡ a.0.slot = rw a.1 refl in
      let q : name_at v.slots (slot_of ls x) ≡ x = ap (λ z. name_at v.slots z) e ∙ ap (λ sl. name_at sl a.0.slot) fits.slots ∙ at_index names.slots a.0.slot x [] u.0 in
      ((rw e u.1, rw e (not_fixed names.slots ls x a.0 holds a.1 a.2), r.0), λ j. Assign (q j) (r.1 j))
  statement_ok here names v ls n line fits holds (Store a i value) k h w br =
      let x = array_ok here names v (scope ls) line a fits (left_none _ _ h) in
      let t = right_none (indexed_faults here (scope ls) line a) _ h in
      let r = number_ok here names v ls n here.in_loop line fits holds i (left_none _ _ t) w.1 in
      let q = number_ok here names v ls n here.in_loop line fits holds value (right_none (expression_faults here (scope ls) line a_number i) _ t) w.2 in
      ((x.0, r.0, q.0), λ j. Store (x.1 j) (r.1 j) (q.1 j))
  statement_ok here names v ls n line fits holds (Fill a low high value) k h w br =
      let x = array_ok here names v (scope ls) line a fits (left_none _ _ h) in
      let t = right_none (indexed_faults here (scope ls) line a) _ h in
      let r = number_ok here names v ls n here.in_loop line fits holds low (left_none _ _ t) w.1 in
      let z = right_none (expression_faults here (scope ls) line a_number low) _ t in
      let q = number_ok here names v ls n here.in_loop line fits holds high (left_none _ _ z) w.2 in
      let p = number_ok here names v ls n here.in_loop line fits holds value (right_none (expression_faults here (scope ls) line a_number high) _ z) w.3 in
      ((x.0, r.0, q.0, p.0), λ j. Fill (x.1 j) (r.1 j) (q.1 j) (p.1 j))
  statement_ok here names v ls n line fits holds (Emit value) k h w br =
      let m = not_true here.in_main (no_when (not here.in_main) _ line (left_none _ _ h)) in
      let r = number_ok here names v ls n here.in_loop line fits holds value (right_none (when (not here.in_main) _ line) _ h) w in
      ((m, r.0), ap Emit r.1)
  statement_ok here names v ls n line fits holds (Fail number) k h w br =
      let b = byte_is number (not_true (is_byte number) (no_when (not (is_byte number)) _ line h)) in
      (b.0, ap Fail b.1)
  statement_ok here names v ls n line fits holds (If test a b) k h w br =
      let t = truth_ok here names v ls n here.in_loop line fits holds test (left_none _ _ h) w.0 in
      let z = right_none (expression_faults here (scope ls) line a_truth test) _ h in
      let r = block_ok here names v ls n fits holds a (stand_left names.slots n (names_in a) (names_in b) k) (left_none _ _ z) w.1 (λ e. br (ap (λ t. t || holds_break b) e)) in
      let q = block_ok here names v ls (n + slots_in a) fits holds b (stand_right names.slots n (names_in a) (names_in b) k) (right_none (block_faults here (scope ls) a) _ z) w.2 (λ e. br (or_right (holds_break a) (holds_break b) e)) in
      let P : ℕ → Type 0 = λ c. IsLawfulBlock names here.in_main (lawful_scope ls (n + c) here.in_loop) (resolved_block here.globals ls (n + slots_in a) b) in
      ((t.0, r.0, subst P (sym (declared_in_is here.globals ls n a)) q.0), λ j. If (t.1 j) (r.1 j) (q.1 j))
  statement_ok here names v ls n line fits holds (For x low high body) k h w br =
      let d = declared_is here ls line x (left_none _ _ h) in
      let z = right_none (declared_faults here (scope ls) line x) _ h in
      let r = number_ok here names v ls n here.in_loop line fits holds low (left_none _ _ z) w.1 in
      let y = right_none (expression_faults here (scope ls) line a_number low) _ z in
      let q = number_ok here names v ls n here.in_loop line fits holds high (left_none _ _ y) w.2 in
      let b = block_ok (in_turn here) names v (fixed x n ∷ ls) (n + 1) (fits_in here names v true fits) (one_more names.slots ls x n true holds d.0 k.0) body k.1 (right_none (expression_faults here (scope ls) line a_number high) _ y) w.3 br in
      let e : name_at v.slots n ≡ x = ap (λ sl. name_at sl n) fits.slots ∙ at_index names.slots n x [] k.0 in
      ((r.0, q.0, (refl, is_new here names v ls n n here.in_loop x fits holds d.0 d.1 k.0), b.0), λ j. For (e j) (r.1 j) (q.1 j) (b.1 j))
  statement_ok here names v ls n line fits holds (While test most body) k h w br =
      let t = truth_ok here names v ls n here.in_loop line fits holds test (left_none _ _ h) w.0 in
      let b = block_ok (in_turn here) names v ls n (fits_in here names v true fits) holds body k (right_none (expression_faults here (scope ls) line a_truth test) _ h) w.2 br in
      ((t.0, w.1, b.0), λ j. While (t.1 j) most (b.1 j))
  statement_ok here names v ls n line fits holds (Do f given) k h w br =
      let x = call_ok here names v (scope ls) line f (count_of given) _ fits (left_none _ _ h) (count_is here.globals ls given) in
      let r = numbers_ok here names v ls n here.in_loop line fits holds given (right_none (called_faults here (scope ls) line f (count_of given) []) _ h) w.1 in
      ((x.0, r.0), λ j. Do (x.1 j) (r.1 j))
  statement_ok here names v ls n line fits holds (Fold head body) k h w br =
      let g = here.globals in
      let in_loop = here.in_loop in
      let ff = left_none (fold_faults here (scope ls) line head) _ h in
      let bh = right_none (fold_faults here (scope ls) line head) _ h in
      let nn = left_none (names_faults here (scope ls) line head) _ ff in
      let wr = right_none (names_faults here (scope ls) line head) _ ff in
      let wf = left_none (fold_widths_faults line head) _ wr in
      let rest = right_none (fold_widths_faults line head) _ wr in
      let p = parts_ok g ls n head line wf w.0.7 (locals_at_end (body_locals ls n head) (body_slot n head) body) (fixed head.block (block_slot n head) ∷ ls) in
      let nc = left_none (each_declared_faults here (scope ls) line head.carried) _ nn in
      let nb = right_none (each_declared_faults here (scope ls) line head.carried) _ nn in
      let new = all_new here ls line head.carried nc in
      let free_ls = with_each false ls n head.carried in
      let db = declared_is here free_ls line head.block (ap (λ sc. declared_faults here sc line head.block) (scope_each-is false ls n head.carried) ∙ nb) in
      let kc = stand_left names.slots n head.carried (head.block ∷ names_in body) k in
      let kr = stand_right names.slots n head.carried (head.block ∷ names_in body) k in
      let st = numbers_ok here names v ls n in_loop line fits holds head.start (left_none _ _ rest) w.0.1 in
      let r2 = right_none (arguments_faults here (scope ls) line head.start) _ rest in
      let lo = number_ok here names v ls n in_loop line fits holds head.low (left_none _ _ r2) w.0.3 in
      let r3 = right_none (expression_faults here (scope ls) line a_number head.low) _ r2 in
      let hi = number_ok here names v ls n in_loop line fits holds head.high (left_none _ _ r3) w.0.4 in
      let alone = hidden_before false ls n head.carried head.block db.0 in
      let pr = predictors_ok here names v (fixed head.block (block_slot n head) ∷ ls) n in_loop line fits (one_more names.slots ls head.block (block_slot n head) true holds alone kr.0) head.predict (right_none (expression_faults here (scope ls) line a_number head.high) _ r3) w.0.5 in
      let inside = hidden_so false true ls ls n n head.carried (λ q none. none) head.block db.0 in
      let h2 = one_more names.slots (with_each true ls n head.carried) head.block (block_slot n head) true (holds_each names.slots true ls n head.carried holds new kc) inside kr.0 in
      let sc : Scope = in_body (scope ls) head.carried head.block in
      let is : scope (body_locals ls n head) ≡ sc = ap (f.showing_fixed head.block) (scope_each-is true ls n head.carried) in
      let bf : block_faults (in_part here) (scope (body_locals ls n head)) body ≡ [] = ap (λ z. block_faults (in_part here) z body) is ∙ left_none (block_faults (in_part here) sc body) _ bh in
      let nf : arguments_faults here (f.scope_at_end (scope (body_locals ls n head)) body) head.next_line head.next ≡ [] = ap (λ z. arguments_faults here (f.scope_at_end z body) head.next_line head.next) is ∙ right_none (block_faults (in_part here) sc body) _ bh in
      let bo = block_ok (in_part here) names v (body_locals ls n head) (body_slot n head) (fits_in here names v false fits) h2 body kr.1 bf w.1 br in
      let alike = in_body_alike ls n in_loop head in
      let nx = row_ok here names v (body_locals ls n head) (body_slot n head) head.next_line _ fits h2 alike body head.next kr.1 bf nf w.0.6 in
      let ec = named_row names v n head.carried fits.slots kc in
      let eb : name_at v.slots (block_slot n head) ≡ head.block = ap (λ sl. name_at sl (block_slot n head)) fits.slots ∙ at_index names.slots (block_slot n head) head.block [] kr.0 in
      let hf = holds_each names.slots false ls n head.carried holds new kc in
      let each = each_alike ls n (block_slot n head) in_loop (lawful_scope ls n in_loop) (alike_itself (lawful_scope ls n in_loop)) head.carried refl in (
        (
          st.0,
          lo.0,
          hi.0,
          each_ok here names v line fits ls n in_loop (lawful_scope ls n in_loop) holds (alike_itself (lawful_scope ls n in_loop)) head.carried kc nc,
          alike_declares names _ _ (block_slot n head) each (refl, is_new here names v free_ls (block_slot n head) (block_slot n head) in_loop head.block fits hf db.0 db.1 kr.0),
          pr.0,
          alike_block names here.in_main _ _ (resolved_block g (body_locals ls n head) (body_slot n head) body) alike bo.0,
          nx.0,
          p,
        ),
        λ j. Fold (record { carried = ec j; start = st.1 j; block = eb j; low = lo.1 j; high = hi.1 j; predict = pr.1 j; next = nx.1 j; next_line = head.next_line }) (bo.1 j),
      )
  statement_ok here names v ls n line fits holds (Pair head producer consumer) k h w br =
      let g = here.globals in
      let in_loop = here.in_loop in
      let start = n + length head.carried in
      let nc = left_none (each_declared_faults here (scope ls) line head.carried) _ h in
      let r1 = right_none (each_declared_faults here (scope ls) line head.carried) _ h in
      let p = pair_parts_ok g ls n head line (left_none (pair_widths_faults line head) _ r1) w.0.3 (locals_at_end ls start producer) in
      let r2 = right_none (pair_widths_faults line head) _ r1 in
      let made = block_faults (in_part here) (scope ls) producer ++ arguments_faults here (f.scope_at_end (scope ls) producer) head.give_line head.give in
      let vp = left_none made _ r2 in
      let r3 = right_none made _ r2 in
      let new = all_new here ls line head.carried nc in
      let kn = stand_left names.slots n head.carried (names_in producer ++ names_in consumer) k in
      let kr = stand_right names.slots n head.carried (names_in producer ++ names_in consumer) k in
      let kp = stand_left names.slots start (names_in producer) (names_in consumer) kr in
      let kc = stand_right names.slots start (names_in producer) (names_in consumer) kr in
      let pf = left_none (block_faults (in_part here) (scope ls) producer) _ vp in
      let po = block_ok (in_part here) names v ls start (fits_in here names v false fits) holds producer kp pf w.1 (λ e. br (ap (λ t. t || holds_break consumer) e)) in
      let made_alike = in_producer_alike ls n in_loop head.carried in
      let gv = row_ok here names v ls start head.give_line _ fits holds made_alike producer head.give kp pf (right_none (block_faults (in_part here) (scope ls) producer) _ vp) w.0.1 in
      let pr = predictors_ok here names v ls n in_loop line fits holds head.predict (left_none _ _ r3) w.0.2 in
      let inside = with_each true ls n head.carried in
      let is : scope inside ≡ showing_each true (scope ls) head.carried = scope_each-is true ls n head.carried in
      let cf : block_faults (in_part here) (scope inside) consumer ≡ [] = ap (λ z. block_faults (in_part here) z consumer) is ∙ right_none (predictors_faults here (scope ls) line head.predict) _ r3 in
      let co = block_ok (in_part here) names v inside (start + slots_in producer) (fits_in here names v false fits) (holds_each names.slots true ls n head.carried holds new kn) consumer kc cf w.2 (λ e. br (or_right (holds_break producer) (holds_break consumer) e)) in
      let ec = named_row names v n head.carried fits.slots kn in (
        (
          each_ok here names v line fits ls n in_loop (lawful_scope ls n in_loop) holds (alike_itself (lawful_scope ls n in_loop)) head.carried kn nc,
          alike_block names here.in_main _ _ (resolved_block g ls start producer) made_alike po.0,
          gv.0,
          pr.0,
          alike_block names here.in_main _ _ (resolved_block g inside (start + slots_in producer) consumer) (in_consumer_alike g ls n in_loop head.carried producer) co.0,
          p,
        ),
        λ j. Pair (record { carried = ec j; give = gv.1 j; give_line = head.give_line; predict = pr.1 j }) (po.1 j) (co.1 j),
      )
  statement_ok here names v ls n line fits holds Break k h w br = ((br refl, not_true here.in_loop (no_when (not here.in_loop) _ line h)), refl)

  pub block_ok : (here : Setting) (names : Names) (v : Vocabulary) (ls : List l.Local) (n : ℕ) → Fits here names v → Holds names.slots ls → (b : RawBlock) → Stand names.slots n (names_in b) → block_faults here (scope ls) b ≡ [] → IsWritableBlock b → (holds_break b ≡ true → names.version ≡ 2) →
      IsLawfulBlock names here.in_main (lawful_scope ls n here.in_loop) (resolved_block here.globals ls n b) × (spelled_block v (resolved_block here.globals ls n b) ≡ b)
  block_ok here names v ls n fits holds end k h w br = (tt, refl)
  block_ok here names v ls n fits holds (on_line line st rest) k h w br =
      let now = locals_after ls n st in
      let m = n + length (names_of st) in
      let a = stand_left names.slots n (names_of st) (names_in rest) k in
      let none = left_none _ _ h in
      let r = statement_ok here names v ls n line fits holds st a none w.0 (λ e. br (ap (λ t. t || holds_break rest) e)) in
      let q = block_ok here names v now m fits (holds_after here names.slots ls n line holds st a none) rest (stand_right names.slots n (names_of st) (names_in rest) k) (rest_none here ls n line st rest h) w.1 (λ e. br (or_right (has_break st) (holds_break rest) e)) in
      ((r.0, alike_block names here.in_main _ _ (resolved_block here.globals now m rest) (lawful_after here.globals ls n here.in_loop st) q.0), λ j. on_line line (r.1 j) (q.1 j))
