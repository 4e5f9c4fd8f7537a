-- What the tables of names have after a change.
use Rattle.std.proofs.Common.{◌≡◌, ℕ, ◌+◌, ◌-◌, Bool, true, false, cond, List, [], ◌∷◌, ◌++◌, length, map, take, drop, reverse, Option, Some, None, is_some, not, refl, sym, ap, get_or, vec_len, ◌<◌, ◌≤◌, zero, suc, ◌∙◌, subst, arith, rules}
use Rattle.std.specs.Option.{option_map}
use Rattle.std.specs.Str.{bytes_eq}
use Rattle.std.specs.Ordering.{is_eq, nat_cmp}
use Rattle.std.specs.Cmp.Lexicographic.{slice_cmp}
use Rattle.std.specs.BTreeMap as tree
use Rattle.std.specs.Map.{lookup}
use Rattle.std.proofs.lemmas.Map.Text.{is_eq-slice_cmp}
use Rattle.std.proofs.lemmas.Slice.Eq.{bytes_eq-Decides}
use denote.Ref.{Bor}
use Rattle.std.proofs.lemmas.List.{drop-drop, length-drop, map-append, reverse-append, length-map, length-take, take_more, take_all, get_or-map}
use Rattle.spf_types_names.specs.Names.{index_in}
use Rattle.spf_types_names.specs.Locals.{Local, binding_of}
use Rattle.spf_types_names.specs.LocalsView.{IsLocalTable, AreApart, seen_visible, seen_locals}
use Rattle.spf_types_names.specs.declared.locals.LocalTable.TheInside.{Inside}
use Rattle.spf_types_names.specs.declared.locals.Visible as code_visible
use Rattle.spf_ast.specs.Syntax.{Array}
use Rattle.spf_ast.specs.declared.raw.RawFunction as code_function
use Rattle.spf_ast.specs.declared.syntax.Array as code_array
use Rattle.spf_ast.specs.View.{name, array as seen_array}
use Rattle.spf_ast.specs.RawSyntax.{RawFunction}
use Rattle.spf_types_names.specs.declared.globals.Outer.TheVariants as outer
use Rattle.spf_ast.specs.RawView.{raw_function}
use Rattle.spf_types_names.specs.Globals.{either, globals_of, params_of, global_named}
use Rattle.spf_types_names.specs.Found.{found}

-- where two names are one
pub same_bytes : (x y : List ℕ) → bytes_eq x y ≡ true → x ≡ y
same_bytes x y h = (bytes_eq-Decides x y).0 h

pub bytes_are : (x : List ℕ) → bytes_eq x x ≡ true
bytes_are x = (bytes_eq-Decides x x).1 refl

-- the map at a name, whatever refers to it
pub found_along : {X : Type 0} (m : tree.BTreeMap (Bor (List ℕ)) X) (p q : Bor (List ℕ)) → p.now ≡ q.now → found m p ≡ found m q
found_along m p q e = ap (λ (xs : List ℕ). lookup (λ (k : Bor (List ℕ)). is_eq (slice_cmp nat_cmp xs k.now)) m.entries) e

-- what a map has after a change at a name
pub changed : {X : Type 0} (m n : tree.BTreeMap (Bor (List ℕ)) X) (k : Bor (List ℕ)) (w : Option X) → tree.Updates (λ (x y : Bor (List ℕ)). slice_cmp nat_cmp x.now y.now) m n k w → (q : Bor (List ℕ)) → found n q ≡ cond (bytes_eq k.now q.now) w (found m q)
changed m n k w h q = h.0 q ∙ ap (λ b. cond b w (found m q)) (is_eq-slice_cmp k.now q.now)

pub either_none : {X : Type 0} (m : Option X) → m ≡ either m None
either_none (Some x) = refl
either_none None = refl

either_first : {X : Type 0} (m : Option X) (w : Option X) → m ≡ None → w ≡ either m w
either_first m w e = ap (λ o. either o w) (sym e)

pub none_there : {X Y : Type 0} (f : X → Y) (r : Option X) (n : Bool) → is_some r ≡ not n → n ≡ true → option_map f r ≡ None
none_there f (Some x) true e h = cc
none_there f (Some x) false e h = cc
none_there f None n e h = refl

-- a name that is new gets a value, and any other keeps its own
pub entered : {X : Type 0} (m n : Option X) (w : X) (b : Bool) → n ≡ cond b (Some w) m → (b ≡ true → m ≡ None) → n ≡ either m (cond b (Some w) None)
entered m n w true e h = e ∙ either_first m (Some w) (h refl)
entered m n w false e h = e ∙ either_none m

-- a name that is there keeps its value
pub kept : {X : Type 0} (m : Option X) (x : X) (w : Option X) → m ≡ Some x → m ≡ either m w
kept m x w e = e ∙ ap (λ o. either o w) (sym e)

pub either_assoc : {X : Type 0} (a b c : Option X) → either (either a b) c ≡ either a (either b c)
either_assoc (Some x) b c = refl
either_assoc None b c = refl

-- one more name
shifted : (a : Option ℕ) (n : ℕ) (b : Bool) → option_map (λ k. k + 1) (either a (cond b (Some n) None)) ≡ either (option_map (λ k. k + 1) a) (cond b (Some (n + 1)) None)
shifted (Some k) n b = refl
shifted None n true = refl
shifted None n false = refl

pushed : (b : Bool) (a w : Option ℕ) (xs : List (List ℕ)) (y q : List ℕ) → w ≡ either a (cond (bytes_eq y q) (Some (length xs)) None) → cond b (Some 0) (option_map (λ n. n + 1) w) ≡ either (cond b (Some 0) (option_map (λ n. n + 1) a)) (cond (bytes_eq y q) (Some (length xs + 1)) None)
pushed true a w xs y q h = refl
pushed false a w xs y q h = ap (option_map (λ n. n + 1)) h ∙ shifted a (length xs) (bytes_eq y q)

pub index_in_push : (xs : List (List ℕ)) (y q : List ℕ) → index_in (xs ++ y ∷ []) q ≡ either (index_in xs q) (cond (bytes_eq y q) (Some (length xs)) None)
index_in_push [] y q = refl
index_in_push (x ∷ xs) y q =
    pushed (bytes_eq x q) (index_in xs q) (index_in (xs ++ y ∷ []) q) xs y q (index_in_push xs y q)
    ∙ ap (λ n. either (index_in (x ∷ xs) q) (cond (bytes_eq y q) (Some n) None)) (omega arith)

under : {X : Type 0} (make : ℕ → X) (n : ℕ) (a : Option ℕ) (b : Bool) → option_map make (either a (cond b (Some n) None)) ≡ either (option_map make a) (cond b (Some (make n)) None)
under make n (Some k) b = refl
under make n None true = refl
under make n None false = refl

-- the same under a form of the value
pub index_in_more : {X : Type 0} (make : ℕ → X) (xs : List (List ℕ)) (y q : List ℕ) → option_map make (index_in (xs ++ y ∷ []) q) ≡ either (option_map make (index_in xs q)) (cond (bytes_eq y q) (Some (make (length xs))) None)
index_in_more make xs y q = ap (option_map make) (index_in_push xs y q) ∙ under make (length xs) (index_in xs q) (bytes_eq y q)

-- one more form of a list of forms with names
pub name_more : {A X : Type 0} (make : ℕ → X) (f : A → List ℕ) (xs : List A) (i : ℕ) (x : A) (q : List ℕ) → i < length xs → x ≡ get_or xs i x → option_map make (index_in (take (i + 1) (map f xs)) q) ≡ either (option_map make (index_in (take i (map f xs)) q)) (cond (bytes_eq (f x) q) (Some (make i)) None)
name_more make f xs i x q h e =
    let l : i < length (map f xs) = simp length-map h in
    let n : length (take i (map f xs)) ≡ i = omega (arith, length-take i (map f xs), l) in
    let y : get_or (map f xs) i [] ≡ f x = get_or-map f xs i x [] h ∙ ap f (sym e) in
    ap (λ (ns : List (List ℕ)). option_map make (index_in ns q)) (take_more (map f xs) i [] l ∙ ap (λ (z : List ℕ). take i (map f xs) ++ z ∷ []) y)
    ∙ index_in_more make (take i (map f xs)) (f x) q
    ∙ ap (λ (k : ℕ). either (option_map make (index_in (take i (map f xs)) q)) (cond (bytes_eq (f x) q) (Some (make k)) None)) n

-- what a table has after one more form
pub table_more : {A X : Type 0} (make : ℕ → X) (f : A → List ℕ) (xs : List A) (i n : ℕ) (x : A) (q : List ℕ) (before first now : Option X) → i < length xs → x ≡ get_or xs i x → n ≡ i →
    before ≡ either first (option_map make (index_in (take i (map f xs)) q)) → now ≡ either before (cond (bytes_eq (f x) q) (Some (make n)) None) →
    now ≡ either first (option_map make (index_in (take (i + 1) (map f xs)) q))
table_more make f xs i n x q before first now h e k was is =
    is ∙ ap (λ o. either o (cond (bytes_eq (f x) q) (Some (make n)) None)) was
    ∙ either_assoc first _ _
    ∙ ap (either first) (ap (λ (m : ℕ). either (option_map make (index_in (take i (map f xs)) q)) (cond (bytes_eq (f x) q) (Some (make m)) None)) k ∙ sym (name_more make f xs i x q h e))

pub no_more_names : {A X : Type 0} (make : ℕ → X) (f : A → List ℕ) (xs : List A) (i : ℕ) (q : List ℕ) → length xs ≤ i → option_map make (index_in (take i (map f xs)) q) ≡ option_map make (index_in (map f xs) q)
no_more_names make f xs i q h = ap (λ (ns : List (List ℕ)). option_map make (index_in ns q)) (take_all i (map f xs) (simp length-map h))

-- ---- locals

pub binding_hidden : (l : Local) (ls : List Local) (q : List ℕ) → binding_of ls l.name ≡ None → binding_of ls q ≡ cond (bytes_eq l.name q) None (binding_of (l ∷ ls) q)
binding_hidden l ls q h = hidden (bytes_eq l.name q) refl
  where
    hidden : (b : Bool) → bytes_eq l.name q ≡ b → binding_of ls q ≡ cond b None (cond b (Some (record { slot = l.slot; fixed = l.fixed })) (binding_of ls q))
    hidden true e = ap (binding_of ls) (sym (same_bytes l.name q e)) ∙ h
    hidden false e = refl

reverse_pushed : (vs : List code_visible.Visible) (v : code_visible.Visible) → reverse (map seen_visible (vs ++ v ∷ [])) ≡ seen_visible v ∷ reverse (map seen_visible vs)
reverse_pushed vs v = ap reverse (map-append seen_visible vs (v ∷ [])) ∙ reverse-append (map seen_visible vs) (seen_visible v ∷ [])

-- the table without its last local
pub without_last : (t u : Inside) (v : code_visible.Visible) → t.visible.items ≡ u.visible.items ++ v ∷ [] → ((q : Bor (List ℕ)) → found u.table q ≡ cond (bytes_eq v.name.now q.now) None (found t.table q)) → IsLocalTable t → IsLocalTable u
without_last t u v e h is =
    let old = ap (λ vs. reverse (map seen_visible vs)) e ∙ reverse_pushed u.visible.items v in
    let apart = subst AreApart old is.apart in
    record {
      finds = λ q. h q ∙ ap (cond (bytes_eq v.name.now q.now) None) (is.finds q ∙ ap (λ ls. binding_of ls q.now) old) ∙ sym (binding_hidden (seen_visible v) (reverse (map seen_visible u.visible.items)) q.now apart.0);
      apart = apart.1;
    }

-- the table with one more local
pub with_one : (t u : Inside) (v : code_visible.Visible) → u.visible.items ≡ t.visible.items ++ v ∷ [] → binding_of (seen_locals t).locals v.name.now ≡ None → ((q : Bor (List ℕ)) → found u.table q ≡ cond (bytes_eq v.name.now q.now) (Some v.binding) (found t.table q)) → IsLocalTable t → IsLocalTable u
with_one t u v e new h is =
    let now = ap (λ vs. reverse (map seen_visible vs)) e ∙ reverse_pushed t.visible.items v in
    record {
      finds = λ q. h q ∙ ap (cond (bytes_eq v.name.now q.now) (Some v.binding)) (is.finds q) ∙ ap (λ ls. binding_of ls q.now) (sym now);
      apart = subst AreApart (sym now) (new, is.apart);
    }

-- one local fewer
pub drop_one : {A : Type 0} (n k : ℕ) (xs ys zs : List A) → ys ≡ drop (length xs - length ys) xs → length ys ≤ length xs → zs ≡ drop 1 ys → k < length ys →
    record { left : zs ≡ drop (length xs - length zs) xs; most : length zs ≤ length xs; count : length zs + 1 ≡ length ys }
drop_one n k xs ys zs e most is lt =
    let l : length zs + 1 ≡ length ys = omega (arith, ap length is, length-drop 1 ys) in
    record {
      left = is ∙ ap (drop 1) e ∙ drop-drop 1 (length xs - length ys) xs ∙ ap (λ m. drop m xs) (omega arith);
      most = omega arith;
      count = l;
    }

-- ---- functions

pub map_twice : {A B C : Type 0} (f : A → B) (g : B → C) (xs : List A) → map (λ x. g (f x)) xs ≡ map g (map f xs)
map_twice f g [] = refl
map_twice f g (x ∷ xs) = ap (λ ys. g (f x) ∷ ys) (map_twice f g xs)

-- the names that are seen are those of what is seen
pub global_named-seen : (arrays : List code_array.Array) (functions : List code_function.RawFunction) (q : List ℕ) →
    either (option_map outer.Array (index_in (map (λ a. (seen_array a).name) arrays) q)) (option_map outer.Function (index_in (map (λ f. (raw_function f).name) functions) q)) ≡ global_named (globals_of (map seen_array arrays) (map raw_function functions)) q
global_named-seen arrays functions q =
    let a = map_twice seen_array (λ (k : Array). k.name) arrays in
    let f = map_twice raw_function (λ (k : RawFunction). k.name) functions in
    λ i. either (option_map outer.Array (index_in (a i) q)) (option_map outer.Function (index_in (f i) q))

pub params_at : (arrays : List Array) (fs : List code_function.RawFunction) (index : ℕ) (f : code_function.RawFunction) → index < length fs → f ≡ get_or fs index f → vec_len f.params ≡ params_of (globals_of arrays (map raw_function fs)) index
params_at arrays [] index f h e = absurd (omega (arith, h))
params_at arrays (g ∷ fs) zero f h e = search rules ∙ sym (length-map f.params.items name) ∙ ap (λ (k : code_function.RawFunction). length (map name k.params.items)) e
params_at arrays (g ∷ fs) (suc n) f h e = params_at arrays fs n f (omega (arith, h)) e
