-- A lawful form is what its spelling stands for.
use Rattle.std.proofs.Common.{◌≡◌, ℕ, ◌+◌, ◌<◌, ◌≤◌, zero, suc, Bool, true, false, inl, inr, cond, Option, Some, List, [], ◌∷◌, ◌++◌, length, map, refl, sym, ap, ◌∙◌, subst, arith, length-append}
use Rattle.std.specs.Prelude.{IfSome, slice_get, slice_index_or}
use Rattle.std.specs.List.{All, Contains}
use Rattle.std.specs.Str.{bytes_eq}
use Rattle.std.proofs.lemmas.List.Elements.{All-contains}
use Rattle.spf_ast.specs.Syntax.{Expression, Number, Local, Len, Input, Load, Call, Neg, Binary, Arguments, no_more, argument, Condition, Compare, Both, Either, Not, Predictor, By, Host}
use Rattle.spf_ast.specs.Syntax.{Statement, Let, Assign, Store, Fill, Emit, Fail, If, For, While, Do, Fold, Pair, Break, Block, end, on_line}
use Rattle.spf_ast.specs.Meaning as meaning
use Rattle.spf_ast.specs.Lawful.{Names, Scope, behind, showing, showing_fixed, showing_each, in_turn, in_part, in_producer, in_consumer, scope_after, scope_at_end, declared, declared_in, in_predictor, in_body, IsNew, DeclaresEach, IsCallable, IsLawfulExpression, AreLawfulArguments, IsLawfulCondition, IsLawfulPredictor, AreLawfulPredictors, IsLawfulStatement, IsLawfulBlock}
use Rattle.spf_ast.specs.Spelling.{Vocabulary, name_at, spelled_names, spelled_fold, spelled_expression, spelled_arguments, spelled_condition, spelled_predictor, spelled_statement, spelled_block}
use Rattle.spf_types_names.specs.declared.locals.Binding.{Binding}
use Rattle.spf_types_names.specs.Globals.{Globals}
use Rattle.spf_types_names.specs.Locals as l
use Rattle.spf_types_names.specs.Locals.{binding_of}
use Rattle.spf_types_names.specs.Resolved.{fixed, with_each, row_slots, block_slot, body_slot, body_locals, slot_of, index_of, names_of, names_in, locals_after, locals_at_end, resolved_expression, resolved_arguments, resolved_condition, resolved_predictor, resolved_predictors, resolved_statement, resolved_block}
use Rattle.spf_types_names.proofs.Tables.{same_bytes, bytes_are}
use Rattle.std.proofs.lemmas.List.{length-map}
use Rattle.spf_types_forms.proofs.Alike.{new_along, to_front, from_front, each_is_there, there_is_each}
use Rattle.spf_types_forms.proofs.Sound.{contains_cases, contains_here, contains_there, at_index}

-- the numbers of arrays and functions come back from their names
pub record Back (g : Globals) (names : Names) (v : Vocabulary) : Type 0 where
  pub arrays : (a : ℕ) → a < names.arrays → index_of g (name_at v.arrays a) ≡ a
  pub functions : (f count : ℕ) → IsCallable names f count → index_of g (name_at v.functions f) ≡ f
  pub slots : v.slots ≡ names.slots

-- a slot comes back from its name
pub record ComesBack (slots : List (List ℕ)) (ls : List l.Local) (slot : ℕ) : Type 0 where
  pub name : List ℕ
  pub there : slice_get slots slot ≡ Some name
  pub binding : Binding
  pub found : binding_of ls name ≡ Some binding
  pub same : binding.slot ≡ slot

-- each slot that may be used comes back from its name
abbrev pub Finds : List (List ℕ) → List l.Local → List ℕ → Type 0
Finds slots ls visible = (slot : ℕ) → Contains visible slot → ComesBack slots ls slot

slot_is : (ls : List l.Local) (x : List ℕ) (b : Binding) → binding_of ls x ≡ Some b → slot_of ls x ≡ b.slot
slot_is ls x b e = rw e refl

local_back : (names : Names) (v : Vocabulary) (g : Globals) (ls : List l.Local) (visible : List ℕ) (slot : ℕ) → Back g names v → Finds names.slots ls visible → Contains visible slot → slot_of ls (name_at v.slots slot) ≡ slot
local_back names v g ls visible slot back finds h =
    let f = finds slot h in
    ap (slot_of ls) (ap (λ sl. name_at sl slot) back.slots ∙ at_index names.slots slot f.name [] f.there) ∙ slot_is ls f.name f.binding f.found ∙ f.same

mutual
  pub expression_back : (g : Globals) (names : Names) (v : Vocabulary) (ls : List l.Local) (s : Scope) → Back g names v → Finds names.slots ls s.visible → (e : Expression) → IsLawfulExpression names s e → resolved_expression g ls (spelled_expression v e) ≡ e
  expression_back g names v ls s back finds (Number n) h = refl
  expression_back g names v ls s back finds (Local slot) h = ap Local (local_back names v g ls s.visible slot back finds h)
  expression_back g names v ls s back finds Len h = refl
  expression_back g names v ls s back finds (Input i) h = ap Input (expression_back g names v ls s back finds i h)
  expression_back g names v ls s back finds (Load a i) h = λ j. Load (back.arrays a h.0 j) (expression_back g names v ls s back finds i h.1 j)
  expression_back g names v ls s back finds (Call f given) h = λ j. Call (back.functions f (meaning.count_of given) h.0 j) (arguments_back g names v ls s back finds given h.1 j)
  expression_back g names v ls s back finds (Neg i) h = ap Neg (expression_back g names v ls s back finds i h)
  expression_back g names v ls s back finds (Binary op a b) h = λ j. Binary op (expression_back g names v ls s back finds a h.0 j) (expression_back g names v ls s back finds b h.1 j)

  arguments_back : (g : Globals) (names : Names) (v : Vocabulary) (ls : List l.Local) (s : Scope) → Back g names v → Finds names.slots ls s.visible → (es : Arguments) → AreLawfulArguments names s es → resolved_arguments g ls (spelled_arguments v es) ≡ es
  arguments_back g names v ls s back finds no_more h = refl
  arguments_back g names v ls s back finds (argument first rest) h = λ j. argument (expression_back g names v ls s back finds first h.0 j) (arguments_back g names v ls s back finds rest h.1 j)

condition_back : (g : Globals) (names : Names) (v : Vocabulary) (ls : List l.Local) (s : Scope) → Back g names v → Finds names.slots ls s.visible → (c : Condition) → IsLawfulCondition names s c → resolved_condition g ls (spelled_condition v c) ≡ c
condition_back g names v ls s back finds (Compare t a b) h = λ j. Compare t (expression_back g names v ls s back finds a h.0 j) (expression_back g names v ls s back finds b h.1 j)
condition_back g names v ls s back finds (Both a b) h = λ j. Both (condition_back g names v ls s back finds a h.0 j) (condition_back g names v ls s back finds b h.1 j)
condition_back g names v ls s back finds (Either a b) h = λ j. Either (condition_back g names v ls s back finds a h.0 j) (condition_back g names v ls s back finds b h.1 j)
condition_back g names v ls s back finds (Not a) h = ap Not (condition_back g names v ls s back finds a h)

predictor_back : (g : Globals) (names : Names) (v : Vocabulary) (ls : List l.Local) (s : Scope) → Back g names v → Finds names.slots ls s.visible → (p : Predictor) → IsLawfulPredictor names s p → resolved_predictor g ls (spelled_predictor v p) ≡ p
predictor_back g names v ls s back finds (By e) h = ap By (expression_back g names v ls s back finds e h)
predictor_back g names v ls s back finds (Host n) h = refl

predictors_back : (g : Globals) (names : Names) (v : Vocabulary) (ls : List l.Local) (s : Scope) → Back g names v → Finds names.slots ls s.visible → (ps : List Predictor) → AreLawfulPredictors names s ps → resolved_predictors g ls (map (spelled_predictor v) ps) ≡ ps
predictors_back g names v ls s back finds [] h = refl
predictors_back g names v ls s back finds (p ∷ ps) h = λ j. predictor_back g names v ls s back finds p h.0 j ∷ predictors_back g names v ls s back finds ps h.1 j

-- ---- one more slot

slot_there : (slots : List (List ℕ)) (n : ℕ) → n < length slots → slice_get slots n ≡ Some (slice_index_or slots n [])
slot_there [] n h = absurd (omega (arith, h))
slot_there (x ∷ xs) zero h = refl
slot_there (x ∷ xs) (suc n) h = slot_there xs n (omega (arith, h))

found_first : (slots : List (List ℕ)) (ls : List l.Local) (x : List ℕ) (n : ℕ) (b : Bool) → slice_get slots n ≡ Some x → ComesBack slots (record { name = x; slot = n; fixed = b } ∷ ls) n
found_first slots ls x n b e = record {
  name = x;
  there = e;
  binding = record { slot = n; fixed = b };
  found = ap (λ t. cond t (Some (record { slot = n; fixed = b })) (binding_of ls x)) (bytes_are x);
  same = refl;
}

found_past : (slots : List (List ℕ)) (ls : List l.Local) (x : List ℕ) (n : ℕ) (b : Bool) (slot : ℕ) → (slice_get slots slot ≡ Some x → ⊥) → ComesBack slots ls slot → ComesBack slots (record { name = x; slot = n; fixed = b } ∷ ls) slot
found_past slots ls x n b slot never f = record {
  name = f.name;
  there = f.there;
  binding = f.binding;
  found = past (bytes_eq x f.name) refl;
  same = f.same;
}
  where
    past : (t : Bool) → bytes_eq x f.name ≡ t → cond t (Some (record { slot = n; fixed = b })) (binding_of ls f.name) ≡ Some f.binding
    past true e = absurd (never (f.there ∙ ap Some (sym (same_bytes x f.name e))))
    past false e = f.found

new_at : (o : Option (List ℕ)) (x : List ℕ) (P : List ℕ → Type 0) → o ≡ Some x → IfSome o P → P x
new_at o x P e h = let Q : Option (List ℕ) → Type 0 = λ q. IfSome q P in subst Q e h

-- a slot that is declared may be used besides
pub finds_more : (names : Names) (ls : List l.Local) (s : Scope) (slot n : ℕ) (b : Bool) (x : List ℕ) → Finds names.slots ls s.visible → IsNew names s slot → slot ≡ n → slice_get names.slots slot ≡ Some x → Finds names.slots (record { name = x; slot = n; fixed = b } ∷ ls) (slot ∷ s.visible)
finds_more names ls s slot n b x finds new at e k c =
    let q = new_at (slice_get names.slots slot) x (λ y. (Contains names.taken y → ⊥) × All (λ other. slice_get names.slots other ≡ Some y → ⊥) s.visible) e new in
    let first : ComesBack names.slots (record { name = x; slot = n; fixed = b } ∷ ls) n = found_first names.slots ls x n b (ap (slice_get names.slots) (sym at) ∙ e) in
    elim (contains_cases slot k s.visible c) [
      | inl same ↦ subst (λ z. ComesBack names.slots (record { name = x; slot = n; fixed = b } ∷ ls) z) (sym at ∙ same) first
      | inr later ↦ found_past names.slots ls x n b k (All-contains (λ (other : ℕ). slice_get names.slots other ≡ Some x → ⊥) s.visible k q.1 later) (finds k later)
    ]

-- the name of a slot
named : (g : Globals) (names : Names) (v : Vocabulary) (slot : ℕ) → Back g names v → slot < length names.slots → slice_get names.slots slot ≡ Some (name_at v.slots slot)
named g names v slot back h = slot_there names.slots slot h ∙ ap (λ sl. Some (name_at sl slot)) (sym back.slots)

-- the slots of a row come back from its names
row_back : (names : Names) (v : Vocabulary) (s : Scope) (n : ℕ) (slots : List ℕ) → s.next ≡ n → DeclaresEach names s slots → row_slots n (spelled_names v slots) ≡ slots
row_back names v s n [] at h = refl
row_back names v s n (slot ∷ slots) at h = λ j. sym (h.0.0 ∙ at) j ∷ row_back names v (behind 1 (showing slot s)) (n + 1) slots (ap (λ k. k + 1) at) h.1 j

-- slots that are declared from left to right may be used besides
finds_each : (g : Globals) (names : Names) (v : Vocabulary) (b : Bool) (ls : List l.Local) (s : Scope) (n : ℕ) → Back g names v → (slots : List ℕ) → Finds names.slots ls s.visible → s.next ≡ n → n + length slots ≤ length names.slots → DeclaresEach names s slots → Finds names.slots (with_each b ls n (spelled_names v slots)) (showing_each slots s).visible
finds_each g names v b ls s n back [] finds at room h = finds
finds_each g names v b ls s n back (slot ∷ slots) finds at room h =
    let x = name_at v.slots slot in
    let e = h.0.0 ∙ at in
    finds_each g names v b (record { name = x; slot = n; fixed = b } ∷ ls) (behind 1 (showing slot s)) (n + 1) back slots (finds_more names ls s slot n b x finds h.0.1 e (named g names v slot back (omega (arith, e, room)))) (ap (λ k. k + 1) at) (omega (arith, room)) h.1

right_there : (front slots : List ℕ) (k : ℕ) → Contains slots k → Contains (front ++ slots) k
right_there [] slots k h = h
right_there (x ∷ front) slots k h = contains_there x k (front ++ slots) (right_there front slots k h)

-- and so they are in another order
finds_row : (g : Globals) (names : Names) (v : Vocabulary) (b : Bool) (ls : List l.Local) (s : Scope) (n : ℕ) → Back g names v → (slots : List ℕ) → Finds names.slots ls s.visible → s.next ≡ n → n + length slots ≤ length names.slots → DeclaresEach names s slots → Finds names.slots (with_each b ls n (spelled_names v slots)) (slots ++ s.visible)
finds_row g names v b ls s n back slots finds at room h slot c = finds_each g names v b ls s n back slots finds at room h slot (there_is_each slots s slot c)

pub next_each : (slots : List ℕ) (s : Scope) → (showing_each slots s).next ≡ s.next + length slots
next_each [] s = omega arith
next_each (slot ∷ slots) s = let r = next_each slots (behind 1 (showing slot s)) in omega (arith, r)

pub count_names : (v : Vocabulary) (slots : List ℕ) → length (spelled_names v slots) ≡ length slots
count_names v slots = length-map slots (name_at v.slots)

-- ---- how many names a spelling declares

mutual
  pub count_back : (v : Vocabulary) (st : Statement) → length (names_of (spelled_statement v st)) ≡ declared st
  count_back v (Let slot value) = refl
  count_back v (Assign slot value) = refl
  count_back v (Store a i value) = refl
  count_back v (Fill a low high value) = refl
  count_back v (Emit value) = refl
  count_back v (Fail number) = refl
  count_back v (If test a b) = let p = count_in_back v a in let q = count_in_back v b in omega (arith, p, q, length-append (names_in (spelled_block v a)) (names_in (spelled_block v b)))
  count_back v (For slot low high body) = let p = count_in_back v body in omega (arith, p)
  count_back v (While test most body) = count_in_back v body
  count_back v (Do f given) = refl
  count_back v (Fold head body) =
      let p = count_in_back v body in
      omega (arith, p, count_names v head.carried, length-append (spelled_names v head.carried) (name_at v.slots head.block ∷ names_in (spelled_block v body)))
  count_back v (Pair head a b) =
      let p = count_in_back v a in
      let q = count_in_back v b in
      omega (arith, p, q, count_names v head.carried, length-append (spelled_names v head.carried) (names_in (spelled_block v a) ++ names_in (spelled_block v b)), length-append (names_in (spelled_block v a)) (names_in (spelled_block v b)))
  count_back v Break = refl

  pub count_in_back : (v : Vocabulary) (b : Block) → length (names_in (spelled_block v b)) ≡ declared_in b
  count_in_back v end = refl
  count_in_back v (on_line line st rest) = let p = count_back v st in let q = count_in_back v rest in omega (arith, p, q, length-append (names_of (spelled_statement v st)) (names_in (spelled_block v rest)))

-- ---- statements

finds_after : (g : Globals) (names : Names) (v : Vocabulary) (m : Bool) (ls : List l.Local) (s : Scope) (n : ℕ) → Back g names v → Finds names.slots ls s.visible → s.next ≡ n → (st : Statement) → n + declared st ≤ length names.slots → IsLawfulStatement names m s st → Finds names.slots (locals_after ls n (spelled_statement v st)) (scope_after s st).visible
finds_after g names v m ls s n back finds at (Let slot value) room h = finds_more names ls s slot n false (name_at v.slots slot) finds h.1.1 (h.1.0 ∙ at) (named g names v slot back (omega (arith, h.1.0, at, room)))
finds_after g names v m ls s n back finds at (Assign slot value) room h = finds
finds_after g names v m ls s n back finds at (Store a i value) room h = finds
finds_after g names v m ls s n back finds at (Fill a low high value) room h = finds
finds_after g names v m ls s n back finds at (Emit value) room h = finds
finds_after g names v m ls s n back finds at (Fail number) room h = finds
finds_after g names v m ls s n back finds at (If test a b) room h = finds
finds_after g names v m ls s n back finds at (For slot low high body) room h = finds
finds_after g names v m ls s n back finds at (While test most body) room h = finds
finds_after g names v m ls s n back finds at (Do f given) room h = finds
finds_after g names v m ls s n back finds at (Fold head body) room h = finds_row g names v false ls s n back head.carried finds at (omega (arith, room)) h.3
finds_after g names v m ls s n back finds at (Pair head a b) room h = finds_row g names v false ls s n back head.carried finds at (omega (arith, room)) h.0
finds_after g names v m ls s n back finds at Break room h = finds

pub finds_end : (g : Globals) (names : Names) (v : Vocabulary) (m : Bool) (ls : List l.Local) (s : Scope) (n : ℕ) → Back g names v → Finds names.slots ls s.visible → s.next ≡ n → (b : Block) → n + declared_in b ≤ length names.slots → IsLawfulBlock names m s b → Finds names.slots (locals_at_end ls n (spelled_block v b)) (scope_at_end s b).visible
finds_end g names v m ls s n back finds at end room h = finds
finds_end g names v m ls s n back finds at (on_line line st rest) room h =
    let c = count_back v st in
    finds_end g names v m (locals_after ls n (spelled_statement v st)) (scope_after s st) (n + length (names_of (spelled_statement v st))) back (finds_after g names v m ls s n back finds at st (omega (arith, room)) h.0) (omega (arith, at, c)) rest (omega (arith, c, room)) h.1

pub value_back : (g : Globals) (names : Names) (v : Vocabulary) (m : Bool) (ls : List l.Local) (s : Scope) (n : ℕ) → Back g names v → Finds names.slots ls s.visible → s.next ≡ n → (b : Block) (e : Expression) → n + declared_in b ≤ length names.slots → IsLawfulBlock names m s b → IsLawfulExpression names (scope_at_end s b) e → resolved_expression g (locals_at_end ls n (spelled_block v b)) (spelled_expression v e) ≡ e
value_back g names v m ls s n back finds at b e room h k = expression_back g names v (locals_at_end ls n (spelled_block v b)) (scope_at_end s b) back (finds_end g names v m ls s n back finds at b room h) e k

-- and a row after a block
row_value_back : (g : Globals) (names : Names) (v : Vocabulary) (m : Bool) (ls : List l.Local) (s : Scope) (n : ℕ) → Back g names v → Finds names.slots ls s.visible → s.next ≡ n → (b : Block) (es : Arguments) → n + declared_in b ≤ length names.slots → IsLawfulBlock names m s b → AreLawfulArguments names (scope_at_end s b) es → resolved_arguments g (locals_at_end ls n (spelled_block v b)) (spelled_arguments v es) ≡ es
row_value_back g names v m ls s n back finds at b es room h k = arguments_back g names v (locals_at_end ls n (spelled_block v b)) (scope_at_end s b) back (finds_end g names v m ls s n back finds at b room h) es k

mutual
  pub statement_back : (g : Globals) (names : Names) (v : Vocabulary) (m : Bool) (ls : List l.Local) (s : Scope) (n : ℕ) → Back g names v → Finds names.slots ls s.visible → s.next ≡ n → (st : Statement) → n + declared st ≤ length names.slots → IsLawfulStatement names m s st → resolved_statement g ls n (spelled_statement v st) ≡ st
  statement_back g names v m ls s n back finds at (Let slot value) room h = λ j. Let (sym (h.1.0 ∙ at) j) (expression_back g names v ls s back finds value h.0 j)
  statement_back g names v m ls s n back finds at (Assign slot value) room h = λ j. Assign (local_back names v g ls s.visible slot back finds h.0 j) (expression_back g names v ls s back finds value h.2 j)
  statement_back g names v m ls s n back finds at (Store a i value) room h = λ j. Store (back.arrays a h.0 j) (expression_back g names v ls s back finds i h.1 j) (expression_back g names v ls s back finds value h.2 j)
  statement_back g names v m ls s n back finds at (Fill a low high value) room h = λ j. Fill (back.arrays a h.0 j) (expression_back g names v ls s back finds low h.1 j) (expression_back g names v ls s back finds high h.2 j) (expression_back g names v ls s back finds value h.3 j)
  statement_back g names v m ls s n back finds at (Emit value) room h = ap Emit (expression_back g names v ls s back finds value h.1)
  statement_back g names v m ls s n back finds at (Fail number) room h = refl
  statement_back g names v m ls s n back finds at (If test a b) room h =
      let c = count_in_back v a in
      λ j. If (condition_back g names v ls s back finds test h.0 j) (block_back g names v m ls s n back finds at a (omega (arith, room)) h.1 j) (block_back g names v m ls (behind (declared_in a) s) (n + length (names_in (spelled_block v a))) back finds (omega (arith, at, c)) b (omega (arith, c, room)) h.2 j)
  statement_back g names v m ls s n back finds at (For slot low high body) room h =
      let e = h.2.0 ∙ at in
      let inside = finds_more names ls s slot n true (name_at v.slots slot) finds h.2.1 e (named g names v slot back (omega (arith, e, room))) in
      λ j. For (sym e j) (expression_back g names v ls s back finds low h.0 j) (expression_back g names v ls s back finds high h.1 j) (block_back g names v m (fixed (name_at v.slots slot) n ∷ ls) (in_turn (behind 1 (showing_fixed slot s))) (n + 1) back inside (ap (λ k. k + 1) at) body (omega (arith, room)) h.3 j)
  statement_back g names v m ls s n back finds at (While test most body) room h = λ j. While (condition_back g names v ls s back finds test h.0 j) most (block_back g names v m ls (in_turn s) n back finds at body room h.2 j)
  statement_back g names v m ls s n back finds at (Do f given) room h = λ j. Do (back.functions f (meaning.count_of given) h.0 j) (arguments_back g names v ls s back finds given h.1 j)
  statement_back g names v m ls s n back finds at (Fold head body) room h =
      let xs = spelled_names v head.carried in
      let bn = name_at v.slots head.block in
      let c = count_names v head.carried in
      let k = n + length xs in
      let few : n + length head.carried ≤ length names.slots = omega (arith, room) in
      let after = showing_each head.carried s in
      let d : head.block ≡ k = omega (arith, h.4.0, next_each head.carried s, at, c) in
      let bt = named g names v head.block back (omega (arith, d, c, room)) in
      let alone = new_along (slice_get names.slots head.block) (λ y. Contains names.taken y → ⊥) names.slots after.visible s.visible (λ q e. there_is_each head.carried s q (right_there head.carried s.visible q e)) h.4.1 in
      let guess = finds_more names ls s head.block k true bn finds alone d bt in
      let one = finds_each g names v true ls s n back head.carried finds at few h.3 in
      let two = finds_more names (with_each true ls n xs) after head.block k true bn one h.4.1 d bt in
      let sp = in_body s head.carried head.block in
      let both : Finds names.slots (fixed bn k ∷ with_each true ls n xs) sp.visible = λ slot e. two slot (elim (contains_cases head.block slot (head.carried ++ s.visible) e) [ inl same ↦ contains_here head.block slot after.visible same | inr later ↦ contains_there head.block slot after.visible (there_is_each head.carried s slot later) ]) in
      let inside : List l.Local = fixed bn k ∷ with_each true ls n xs in
      let next : sp.next ≡ k + 1 = omega (arith, at, c) in
      let r : k + 1 + declared_in body ≤ length names.slots = omega (arith, c, room) in
      λ j. Fold (record {
        carried = row_back names v s n head.carried at h.3 j;
        start = arguments_back g names v ls s back finds head.start h.0 j;
        block = sym d j;
        low = expression_back g names v ls s back finds head.low h.1 j;
        high = expression_back g names v ls s back finds head.high h.2 j;
        predict = predictors_back g names v (fixed bn k ∷ ls) (in_predictor s head.block) back guess head.predict h.5 j;
        next = row_value_back g names v m inside sp (k + 1) back both next body head.next r h.6 h.7 j;
        next_line = head.next_line;
      }) (block_back g names v m inside sp (k + 1) back both next body r h.6 j)
  statement_back g names v m ls s n back finds at (Pair head a b) room h =
      let xs = spelled_names v head.carried in
      let c = count_names v head.carried in
      let k = n + length xs in
      let few : n + length head.carried ≤ length names.slots = omega (arith, room) in
      let one = finds_row g names v true ls s n back head.carried finds at few h.0 in
      let q = count_in_back v a in
      let sp = in_producer s head.carried in
      let next : sp.next ≡ k = omega (arith, at, c) in
      let r : k + declared_in a ≤ length names.slots = omega (arith, c, room) in
      let sq = in_consumer s head.carried a in
      let last : sq.next ≡ k + length (names_in (spelled_block v a)) = omega (arith, at, c, q) in
      λ j. Pair (record {
        carried = row_back names v s n head.carried at h.0 j;
        give = row_value_back g names v m ls sp k back finds next a head.give r h.1 h.2 j;
        give_line = head.give_line;
        predict = predictors_back g names v ls s back finds head.predict h.3 j;
      }) (block_back g names v m ls sp k back finds next a r h.1 j)
      (block_back g names v m (with_each true ls n xs) sq (k + length (names_in (spelled_block v a))) back one last b (omega (arith, q, c, room)) h.4 j)
  statement_back g names v m ls s n back finds at Break room h = refl

  pub block_back : (g : Globals) (names : Names) (v : Vocabulary) (m : Bool) (ls : List l.Local) (s : Scope) (n : ℕ) → Back g names v → Finds names.slots ls s.visible → s.next ≡ n → (b : Block) → n + declared_in b ≤ length names.slots → IsLawfulBlock names m s b → resolved_block g ls n (spelled_block v b) ≡ b
  block_back g names v m ls s n back finds at end room h = refl
  block_back g names v m ls s n back finds at (on_line line st rest) room h =
      let c = count_back v st in
      let r : n + declared st ≤ length names.slots = omega (arith, room) in
      λ j. on_line line (statement_back g names v m ls s n back finds at st r h.0 j) (block_back g names v m (locals_after ls n (spelled_statement v st)) (scope_after s st) (n + length (names_of (spelled_statement v st))) back (finds_after g names v m ls s n back finds at st r h.0) (omega (arith, at, c)) rest (omega (arith, c, room)) h.1 j)
