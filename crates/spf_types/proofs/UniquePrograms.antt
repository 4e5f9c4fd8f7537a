-- A lawful program is what its spelling stands for.
use Rattle.std.proofs.Common.{◌≡◌, ℕ, ◌+◌, ◌<◌, ◌≤◌, zero, suc, Bool, true, false, inl, inr, cond, Option, Some, None, List, [], ◌∷◌, ◌++◌, length, map, take, drop, refl, sym, ap, ◌∙◌, subst, arith, zero-add}
use Rattle.std.specs.Prelude.{IfSome, slice_get, slice_index_or}
use Rattle.std.specs.List.{Contains, range_with_len}
use Rattle.std.specs.Option.{option_map}
use Rattle.std.specs.Str.{bytes_eq}
use Rattle.std.proofs.lemmas.List.{length-map, length-take, drop_all, take-append-drop}
use Rattle.spf_ast.specs.Syntax.{Statement, Let, Assign, Store, Fill, Emit, Fail, If, For, While, Do, Fold, Pair, Break, Block, end, on_line, Array, Function, Program}
use Rattle.spf_ast.specs.RawSyntax.{RawFunction}
use Rattle.spf_ast.specs.Lawful.{Names, Scope, behind, showing, showing_fixed, showing_each, in_turn, in_body, in_producer, in_consumer, DeclaresEach, scope_after, declared, declared_in, AreDifferent, IsNew, IsLawfulStatement, IsLawfulBlock, IsLawfulFunction, IsScoped, names_at, names_taken, parameters}
use Rattle.spf_ast.specs.Spelling.{Vocabulary, vocabulary, name_at, spelled_names, spelled_statement, spelled_block, spelled_function, spelled}
use Rattle.spf_types_names.specs.declared.globals.Outer.TheVariants as outer
use Rattle.spf_types_names.specs.Names.{index_in}
use Rattle.spf_types_names.specs.Globals.{Globals, globals_of, either, global_named}
use Rattle.spf_types_names.specs.Locals as l
use Rattle.spf_types_names.specs.Resolved as z
use Rattle.spf_types_names.specs.Resolved.{free, index_of, names_of, names_in, resolved_function, resolved}
use Rattle.spf_types_names.proofs.Tables.{same_bytes, bytes_are, map_twice}
use Rattle.spf_types_forms.proofs.Sound.{contains_here, contains_there, contains_cases}
use Rattle.spf_types_forms.proofs.SoundStatements.{Stand, stand_left}
use Rattle.spf_types.proofs.SoundPrograms.{stand_self, in_range, range_in, le_cases, same_all}
use Rattle.spf_types_forms.proofs.Unique.{Back, Finds, finds_more, next_each, count_names, count_back, count_in_back, block_back, value_back}

-- ---- slots

slot_named : (names : Names) (v : Vocabulary) (slot n : ℕ) → v.slots ≡ names.slots → slot ≡ n → n < length names.slots → slice_get names.slots n ≡ Some (name_at v.slots slot)
slot_named names v slot n e at h = there names.slots n h ∙ (λ j. Some (name_at (sym e j) (sym at j)))
  where
    there : (slots : List (List ℕ)) (n : ℕ) → n < length slots → slice_get slots n ≡ Some (slice_index_or slots n [])
    there [] n h = absurd (omega (arith, h))
    there (x ∷ xs) zero h = refl
    there (x ∷ xs) (suc n) h = there xs n (omega (arith, h))

stand_join : (slots : List (List ℕ)) (n : ℕ) (xs ys : List (List ℕ)) → Stand slots n xs → Stand slots (n + length xs) ys → Stand slots n (xs ++ ys)
stand_join slots n [] ys a b = subst (λ k. Stand slots k ys) (let e : n + 0 ≡ n = omega arith in e) b
stand_join slots n (x ∷ xs) ys a b = (a.0, stand_join slots (n + 1) xs ys a.1 (subst (λ k. Stand slots k ys) (let e : n + length (x ∷ xs) ≡ n + 1 + length xs = omega arith in e) b))

stand_each : (names : Names) (v : Vocabulary) (s : Scope) (n : ℕ) → v.slots ≡ names.slots → s.next ≡ n → (slots : List ℕ) → n + length slots ≤ length names.slots → DeclaresEach names s slots → Stand names.slots n (spelled_names v slots)
stand_each names v s n e at [] room h = tt
stand_each names v s n e at (slot ∷ slots) room h =
    (slot_named names v slot n e (h.0.0 ∙ at) (omega (arith, room)), stand_each names v (behind 1 (showing slot s)) (n + 1) e (ap (λ k. k + 1) at) slots (omega (arith, room)) h.1)

mutual
  stand_back : (names : Names) (v : Vocabulary) (m : Bool) (s : Scope) (n : ℕ) → v.slots ≡ names.slots → s.next ≡ n → (st : Statement) → n + declared st ≤ length names.slots → IsLawfulStatement names m s st → Stand names.slots n (names_of (spelled_statement v st))
  stand_back names v m s n e at (Let slot value) room h = (slot_named names v slot n e (h.1.0 ∙ at) (omega (arith, room)), tt)
  stand_back names v m s n e at (Assign slot value) room h = tt
  stand_back names v m s n e at (Store a i value) room h = tt
  stand_back names v m s n e at (Fill a low high value) room h = tt
  stand_back names v m s n e at (Emit value) room h = tt
  stand_back names v m s n e at (Fail number) room h = tt
  stand_back names v m s n e at (If test a b) room h =
      let c = count_in_back v a in
      stand_join names.slots n (names_in (spelled_block v a)) (names_in (spelled_block v b)) (stand_in_back names v m s n e at a (omega (arith, room)) h.1) (stand_in_back names v m (behind (declared_in a) s) (n + length (names_in (spelled_block v a))) e (omega (arith, at, c)) b (omega (arith, c, room)) h.2)
  stand_back names v m s n e at (For slot low high body) room h =
      (slot_named names v slot n e (h.2.0 ∙ at) (omega (arith, room)), stand_in_back names v m (in_turn (behind 1 (showing_fixed slot s))) (n + 1) e (ap (λ k. k + 1) at) body (omega (arith, room)) h.3)
  stand_back names v m s n e at (While test most body) room h = stand_in_back names v m (in_turn s) n e at body room h.2
  stand_back names v m s n e at (Do f given) room h = tt
  stand_back names v m s n e at (Fold head body) room h =
      let xs = spelled_names v head.carried in
      let c = count_names v head.carried in
      let k = n + length xs in
      let d : head.block ≡ k = omega (arith, h.4.0, next_each head.carried s, at, c) in
      let next : (in_body s head.carried head.block).next ≡ k + 1 = omega (arith, at, c) in
      stand_join names.slots n xs (name_at v.slots head.block ∷ names_in (spelled_block v body)) (stand_each names v s n e at head.carried (omega (arith, room)) h.3)
      (slot_named names v head.block k e d (omega (arith, c, room)), stand_in_back names v m (in_body s head.carried head.block) (k + 1) e next body (omega (arith, c, room)) h.6)
  stand_back names v m s n e at (Pair head a b) room h =
      let xs = spelled_names v head.carried in
      let c = count_names v head.carried in
      let q = count_in_back v a in
      let k = n + length xs in
      let next : (in_producer s head.carried).next ≡ k = omega (arith, at, c) in
      let last : (in_consumer s head.carried a).next ≡ k + length (names_in (spelled_block v a)) = omega (arith, at, c, q) in
      stand_join names.slots n xs (names_in (spelled_block v a) ++ names_in (spelled_block v b)) (stand_each names v s n e at head.carried (omega (arith, room)) h.0)
      (stand_join names.slots k (names_in (spelled_block v a)) (names_in (spelled_block v b)) (stand_in_back names v m (in_producer s head.carried) k e next a (omega (arith, c, room)) h.1)
      (stand_in_back names v m (in_consumer s head.carried a) (k + length (names_in (spelled_block v a))) e last b (omega (arith, q, c, room)) h.4))
  stand_back names v m s n e at Break room h = tt

  stand_in_back : (names : Names) (v : Vocabulary) (m : Bool) (s : Scope) (n : ℕ) → v.slots ≡ names.slots → s.next ≡ n → (b : Block) → n + declared_in b ≤ length names.slots → IsLawfulBlock names m s b → Stand names.slots n (names_in (spelled_block v b))
  stand_in_back names v m s n e at end room h = tt
  stand_in_back names v m s n e at (on_line line st rest) room h =
      let c = count_back v st in
      stand_join names.slots n (names_of (spelled_statement v st)) (names_in (spelled_block v rest)) (stand_back names v m s n e at st (omega (arith, room)) h.0) (stand_in_back names v m (scope_after s st) (n + length (names_of (spelled_statement v st))) e (omega (arith, at, c)) rest (omega (arith, c, room)) h.1)

drop_here : (slots : List (List ℕ)) (n : ℕ) (x : List ℕ) → slice_get slots n ≡ Some x → drop n slots ≡ x ∷ drop (suc n) slots
drop_here [] n x e = cc
drop_here (y ∷ ys) zero x e = let q : y ≡ x = cc in ap (λ k. k ∷ ys) q
drop_here (y ∷ ys) (suc n) x e = drop_here ys n x e

stand_drop : (slots : List (List ℕ)) (n : ℕ) (xs : List (List ℕ)) → Stand slots n xs → length slots ≡ n + length xs → drop n slots ≡ xs
stand_drop slots n [] h e = drop_all n slots (omega (arith, e))
stand_drop slots n (x ∷ xs) h e =
    drop_here slots n x h.0 ∙ ap (λ k. x ∷ k) (ap (λ k. drop k slots) (let q : suc n ≡ n + 1 = omega arith in q) ∙ stand_drop slots (n + 1) xs h.1 (omega (arith, e)))

-- ---- names of arrays and functions

pub in_list : (xs : List (List ℕ)) (a : ℕ) → a < length xs → Contains xs (name_at xs a)
in_list [] a h = absurd (omega (arith, h))
in_list (y ∷ ys) zero h = contains_here y y ys refl
in_list (y ∷ ys) (suc a) h = contains_there y (name_at ys a) ys (in_list ys a (omega (arith, h)))

past_first : (x : List ℕ) (xs : List (List ℕ)) (y : List ℕ) (a : ℕ) (b : Bool) → bytes_eq x y ≡ b → (Contains xs x → ⊥) → Contains xs y → index_in xs y ≡ Some a → cond b (Some 0) (option_map (λ n. n + 1) (index_in xs y)) ≡ Some (suc a)
past_first x xs y a true e d c p = absurd (d (subst (λ k. Contains xs k) (sym (same_bytes x y e)) c))
past_first x xs y a false e d c p = ap (option_map (λ n. n + 1)) p ∙ ap Some (let q : a + 1 ≡ suc a = omega arith in q)

index_back : (xs : List (List ℕ)) (a : ℕ) → AreDifferent xs → a < length xs → index_in xs (name_at xs a) ≡ Some a
index_back [] a d h = absurd (omega (arith, h))
index_back (x ∷ xs) zero d h = ap (λ b. cond b (Some 0) (option_map (λ n. n + 1) (index_in xs x))) (bytes_are x)
index_back (x ∷ xs) (suc a) d h =
    let k : a < length xs = omega (arith, h) in
    past_first x xs (name_at xs a) a (bytes_eq x (name_at xs a)) refl d.0 (in_list xs a k) (index_back xs a d.1 k)

pub contains_left : (xs ys : List (List ℕ)) (x : List ℕ) → Contains xs x → Contains (xs ++ ys) x
contains_left [] ys x h = absurd (omega (arith, h.1))
contains_left (y ∷ xs) ys x h = elim (contains_cases y x xs h) [ inl e ↦ contains_here y x (xs ++ ys) e | inr g ↦ contains_there y x (xs ++ ys) (contains_left xs ys x g) ]

pub contains_right : (xs ys : List (List ℕ)) (x : List ℕ) → Contains ys x → Contains (xs ++ ys) x
contains_right [] ys x h = h
contains_right (y ∷ xs) ys x h = contains_there y x (xs ++ ys) (contains_right xs ys x h)

different_left : (xs ys : List (List ℕ)) → AreDifferent (xs ++ ys) → AreDifferent xs
different_left [] ys d = tt
different_left (x ∷ xs) ys d = (λ c. d.0 (contains_left xs ys x c), different_left xs ys d.1)

different_right : (xs ys : List (List ℕ)) → AreDifferent (xs ++ ys) → AreDifferent ys
different_right [] ys d = d
different_right (x ∷ xs) ys d = different_right xs ys d.1

pub absent : (x : List ℕ) (y : List ℕ) (b : Bool) (o : Option ℕ) → bytes_eq x y ≡ b → (x ≡ y → ⊥) → o ≡ None → cond b (Some 0) (option_map (λ n. n + 1) o) ≡ None
absent x y true o e never p = absurd (never (same_bytes x y e))
absent x y false o e never p = ap (option_map (λ n. n + 1)) p

not_in_front : (xs ys : List (List ℕ)) (y : List ℕ) → AreDifferent (xs ++ ys) → Contains ys y → index_in xs y ≡ None
not_in_front [] ys y d c = refl
not_in_front (x ∷ xs) ys y d c =
    absent x y (bytes_eq x y) (index_in xs y) refl (λ e. d.0 (subst (λ k. Contains (xs ++ ys) k) (sym e) (contains_right xs ys y c))) (not_in_front xs ys y d.1 c)

index_in_index : (g : Globals) (x : List ℕ) (n : ℕ) → global_named g x ≡ Some (outer.Array n) → index_of g x ≡ n
index_in_index g x n e = rw e refl

function_in_index : (g : Globals) (x : List ℕ) (n : ℕ) → global_named g x ≡ Some (outer.Function n) → index_of g x ≡ n
function_in_index g x n e = rw e refl

pub array_named : (g : Globals) (a : ℕ) → AreDifferent (g.arrays ++ g.functions) → a < length g.arrays → global_named g (name_at g.arrays a) ≡ Some (outer.Array a)
array_named g a d h =
    ap (λ o. either (option_map outer.Array o) (option_map outer.Function (index_in g.functions (name_at g.arrays a)))) (index_back g.arrays a (different_left g.arrays g.functions d) h)

pub function_named : (g : Globals) (f : ℕ) → AreDifferent (g.arrays ++ g.functions) → f < length g.functions → global_named g (name_at g.functions f) ≡ Some (outer.Function f)
function_named g f d h =
    let p = index_back g.functions f (different_right g.arrays g.functions d) h in
    let q = not_in_front g.arrays g.functions (name_at g.functions f) d (in_list g.functions f h) in
    λ j. either (option_map outer.Array (q j)) (option_map outer.Function (p j))

array_back : (g : Globals) (a : ℕ) → AreDifferent (g.arrays ++ g.functions) → a < length g.arrays → index_of g (name_at g.arrays a) ≡ a
array_back g a d h = index_in_index g (name_at g.arrays a) a (array_named g a d h)

function_back : (g : Globals) (f : ℕ) → AreDifferent (g.arrays ++ g.functions) → f < length g.functions → index_of g (name_at g.functions f) ≡ f
function_back g f d h = function_in_index g (name_at g.functions f) f (function_named g f d h)

-- the arrays and functions of a program's spelling
abbrev pub globals_back : Program → Globals
globals_back p = globals_of p.arrays (map (spelled_function p) p.functions)

pub functions_are : (p : Program) → map (λ (f : Function). f.name) p.functions ≡ (globals_back p).functions
functions_are p = map_twice (spelled_function p) (λ (f : RawFunction). f.name) p.functions

pub back_program : (p : Program) (index : ℕ) (slots : List (List ℕ)) → AreDifferent (names_taken p) → index ≤ length p.functions → Back (globals_back p) (names_at p index slots) (vocabulary p slots)
back_program p index slots d h =
    let g = globals_back p in
    let e : AreDifferent (g.arrays ++ g.functions) = subst (λ ns. AreDifferent (g.arrays ++ ns)) (functions_are p) d in
    record {
      arrays = λ a k. array_back g a e (omega (arith, length-map p.arrays (λ (a : Array). a.name), k));
      functions = λ f count k. ap (λ ns. index_of g (name_at ns f)) (functions_are p) ∙ function_back g f e (let n : length g.functions ≡ length p.functions = ap length (sym (functions_are p)) ∙ length-map p.functions (λ (f : Function). f.name) in omega (arith, n, k.0, h));
      slots = refl;
    }

-- ---- functions

pub range_step : (n k : ℕ) → Contains (range_with_len 0 (n + 1)) k → Contains (n ∷ range_with_len 0 n) k
range_step n k c =
    let h = range_in (n + 1) k c in
    elim (le_cases k n (omega (arith, h))) [ inl e ↦ contains_here n k (range_with_len 0 n) (sym e) | inr g ↦ contains_there n k (range_with_len 0 n) (in_range n k (omega (arith, g))) ]

finds_params : (names : Names) (ls : List l.Local) (n : ℕ) → Finds names.slots ls (range_with_len 0 n) → (xs : List (List ℕ)) → Stand names.slots n xs → ((slot : ℕ) → n ≤ slot → slot < n + length xs → IsNew names (parameters slot) slot) → Finds names.slots (z.with_each false ls n xs) (range_with_len 0 (n + length xs))
finds_params names ls n finds [] k new = subst (λ q. Finds names.slots ls (range_with_len 0 q)) (let e : n ≡ n + 0 = omega arith in e) finds
finds_params names ls n finds (x ∷ xs) k new =
    let more = finds_more names ls (parameters n) n n false x finds (new n (omega arith) (omega arith)) refl k.0 in
    subst (λ q. Finds names.slots (z.with_each false (free x n ∷ ls) (n + 1) xs) (range_with_len 0 q)) (let e : n + 1 + length xs ≡ n + length (x ∷ xs) = omega arith in e)
    (finds_params names (free x n ∷ ls) (n + 1) (λ slot c. more slot (range_step n slot c)) xs k.1 (λ slot a b. new slot (omega (arith, a)) (omega (arith, b))))

pub function_same : (p : Program) (index : ℕ) (f : Function) → AreDifferent (names_taken p) → index ≤ length p.functions → IsLawfulFunction p index f → resolved_function (globals_back p) (spelled_function p f) ≡ f
function_same p index f d h w =
    let g = globals_back p in
    let names = names_at p index f.slots in
    let v = vocabulary p f.slots in
    let back = back_program p index f.slots d h in
    let params = take f.params f.slots in
    let sl = w.slots in
    let n : length params ≡ f.params = omega (arith, length-take f.params f.slots, sl) in
    let front = stand_left f.slots 0 params (drop f.params f.slots) (subst (λ k. Stand f.slots 0 k) (sym (take-append-drop f.params f.slots)) (stand_self f.slots)) in
    let none : Finds f.slots [] (range_with_len 0 0) = λ slot c. absurd (omega (arith, c.1)) in
    let finds = subst (λ q. Finds f.slots (z.with_each false [] 0 params) (range_with_len 0 q)) (zero-add (length params) ∙ n) (finds_params names [] 0 none params front (λ slot a b. w.parameters_are_new slot (omega (arith, b, n)))) in
    let room : f.params + declared_in f.body ≤ length f.slots = omega (arith, sl) in
    let stands = stand_in_back names v false (parameters f.params) f.params refl refl f.body room w.body in
    let names_are : drop f.params f.slots ≡ names_in (spelled_block v f.body) = stand_drop f.slots f.params (names_in (spelled_block v f.body)) stands (sl ∙ ap (λ k. f.params + k) (sym (count_in_back v f.body))) in
    let ls = z.with_each false [] 0 params in
    λ j. record {
      name = f.name;
      params = n j;
      slots = (ap (λ k. params ++ k) (sym names_are) ∙ take-append-drop f.params f.slots) j;
      body = (ap (λ k. z.resolved_block g ls k (spelled_block v f.body)) n ∙ block_back g names v false ls (parameters f.params) f.params back finds refl f.body room w.body) j;
      answer = (ap (λ k. z.resolved_expression g (z.locals_at_end ls k (spelled_block v f.body)) (spelled_function p f).answer) n ∙ value_back g names v false ls (parameters f.params) f.params back finds refl f.body f.answer room w.body w.answer) j;
      answer_line = f.answer_line;
      line = f.line;
    }

-- ---- programs

pub index_inside : (xs : List Function) (k : ℕ) (x : Function) → slice_get xs k ≡ Some x → k < length xs
index_inside [] k x e = cc
index_inside (y ∷ ys) zero x e = omega arith
index_inside (y ∷ ys) (suc k) x e = let r = index_inside ys k x e in omega (arith, r)

each_same : (p : Program) → AreDifferent (names_taken p) → (o : Option Function) (i : ℕ) → slice_get p.functions i ≡ o → IfSome o (IsLawfulFunction p i) → IfSome o (λ f. resolved_function (globals_back p) (spelled_function p f) ≡ f)
each_same p d (Some f) i e h = function_same p i f d (let k = index_inside p.functions i f e in omega (arith, k)) h
each_same p d None i e h = tt

pub program_same : (main_line : ℕ) (p : Program) → IsScoped p → resolved (spelled main_line p) ≡ p
program_same main_line p w =
    let g = globals_back p in
    let n = length p.functions in
    let names = names_at p n p.slots in
    let v = vocabulary p p.slots in
    let back = back_program p n p.slots w.taken_are_different (omega arith) in
    let none : Finds p.slots [] (range_with_len 0 0) = λ slot c. absurd (omega (arith, c.1)) in
    let sl = w.slots in
    let room : 0 + declared_in p.main ≤ length p.slots = omega (arith, sl) in
    let stands = stand_in_back names v true (parameters 0) 0 refl refl p.main room w.main in
    λ j. record {
      version = p.version;
      arrays = p.arrays;
      functions = (sym (map_twice (spelled_function p) (resolved_function g) p.functions) ∙ same_all (λ f. resolved_function g (spelled_function p f)) p.functions (λ i. each_same p w.taken_are_different (slice_get p.functions i) i refl (w.functions i))) j;
      slots = sym (stand_drop p.slots 0 (names_in (spelled_block v p.main)) stands (sl ∙ sym (zero-add (declared_in p.main)) ∙ ap (λ k. 0 + k) (sym (count_in_back v p.main)))) j;
      main = block_back g names v true [] (parameters 0) 0 back none refl p.main room w.main j;
    }
