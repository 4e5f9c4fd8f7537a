-- Plain runs of single forms.
use Rattle.std.proofs.Common.{◌≡◌, ◌≢◌, ◌⊎◌, inl, inr, ℕ, zero, suc, ◌+◌, ◌-◌, ◌<◌, ◌≤◌, ◌^◌, Bool, true, false, List, [], ◌∷◌, length, Result, Ok, Err, ℤ, pos, refl, ap, sym, ◌∙◌, subst, arith}
use Rattle.std.specs.Prelude.{nat_le, ◌&&◌, if◌then◌else◌, slice_index_or, slice_index, slice_set, ◌+ℤ◌}
use Rattle.std.proofs.lemmas.Int.{ints}
use Rattle.std.proofs.lemmas.Bool.{lt-ltb}
use Rattle.std.proofs.lemmas.Bool.Decides.{nat_tests}
use Rattle.std.proofs.lemmas.List.{set-get_or}
use Rattle.std.specs.Int.{int_gap}
use Rattle.spf_ast.specs.declared.outcome.Trap.{Trap}
use Rattle.spf_ast.specs.declared.outcome.TrapKind.{TrapKind}
use Rattle.spf_ast.specs.declared.outcome.TrapKind.TheVariants.{Overflow, Index, Range}
use Rattle.spf_ast.specs.declared.syntax.Op.{Op}
use Rattle.spf_ast.specs.declared.syntax.Test.{Test}
use Rattle.spf_ast.specs.Event.{word_at}
use Rattle.spf_ast.specs.Word.{exact, binary_words}
use Rattle.spf_ast.specs.Interaction.{State, Flow, Onward, Broken, Ending, Value, Trapped, Meaning, ◌>>=◌, ◌>>◌, ◌>->◌, unless_broken, unless_ended}
use Rattle.spf_ast.specs.Carried.{Carried}
use Rattle.spf_ast.specs.Plain.{plain_answer, plain_memory}
use Rattle.spf_ast.specs.Syntax.{Expression, Number, Local, Len, Input, Load, Binary, no_more, argument, Condition, Compare, Statement, Let, Assign, Store, Fill, If, For, Block, end, on_line}
use Rattle.spf_ast.specs.Meaning.{Environment, expression_means, condition_means, statement_means, block_means, checked, sets, loads, stores, gives, byte_of, cell_of, extent_in, compares, turns, for_turns, cells_of, stores_each, fold_blocks, arguments_mean, sets_row, main_means}
use Rattle.spf_ast_laws.proofs.Plainly.{Comes, comes-then, comes-trap, Parted, gave, trapped, part}

-- ---- words

pub word-ok : (n : ℕ) → n < 2 ^ 63 → exact (pos n) ≡ Ok (pos n)
word-ok n h = ap (λ b. if b then Ok (pos n) else Err Overflow) (lt-ltb n (2 ^ 63) h)

-- ---- slots

pub below_differs : (a b : ℕ) → a < b → a ≢ b
below_differs a b h e = omega (arith, h, e)

-- ---- expressions

-- an expression gives a word, and changes nothing
abbrev pub Gives : Environment → ℕ → Expression → State → List ℤ → ℤ → Type 0
Gives g line e s m v = Comes (expression_means g line e) s m (Value v s) m

pub gives-number : (g : Environment) (line : ℕ) (n : ℤ) (s : State) (m : List ℤ) → Gives g line (Number n) s m n
gives-number g line n s m = record { answer = refl; memory = refl }

pub gives-len : (g : Environment) (line : ℕ) (s : State) (m : List ℤ) → Gives g line Len s m (pos (length g.input))
gives-len g line s m = record { answer = refl; memory = refl }

pub gives-local : (g : Environment) (line slot : ℕ) (s : State) (m : List ℤ) (v : ℤ) → slice_index_or s.slots slot (pos 0) ≡ v → Gives g line (Local slot) s m v
gives-local g line slot s m v e = record { answer = ap (λ w. Value w s) e; memory = refl }

pub checked-ok : {A : Type 0} (line : ℕ) (r : Result A TrapKind) (a : A) (s : State) (m : List ℤ) → r ≡ Ok a → Comes (checked line r) s m (Value a s) m
checked-ok line r a s m e = record { answer = ap (λ x. plain_answer (checked line x s) m) e; memory = ap (λ x. plain_memory (checked line x s) m) e }

pub gives-input : (g : Environment) (line : ℕ) (index : Expression) (s : State) (m : List ℤ) (i : ℕ) → Gives g line index s m (pos i) → i < length g.input → Gives g line (Input index) s m (pos (slice_index g.input i))
gives-input g line index s m i p h =
    comes-then (λ k. checked line (byte_of g.input k)) p
    (checked-ok line (byte_of g.input (pos i)) (pos (slice_index g.input i)) s m (ap (λ b. if b then Ok (pos (slice_index g.input i)) else Err Index) (lt-ltb i (length g.input) h)))

pub cell-ok : (extent : ℕ × ℕ) (i : ℕ) → i < extent.1 → cell_of extent (pos i) ≡ Ok (extent.0 + i)
cell-ok extent i h = ap (λ b. if b then Ok (extent.0 + i) else Err Index) (lt-ltb i extent.1 h)

pub gives-load : (g : Environment) (line array : ℕ) (index : Expression) (s : State) (m : List ℤ) (i : ℕ) → Gives g line index s m (pos i) → i < (extent_in g.extents array).1 → Gives g line (Load array index) s m (word_at m ((extent_in g.extents array).0 + i))
gives-load g line array index s m i p h =
    comes-then (λ k. checked line (cell_of (extent_in g.extents array) k) >>= loads) p
    (comes-then loads (checked-ok line (cell_of (extent_in g.extents array) (pos i)) ((extent_in g.extents array).0 + i) s m (cell-ok (extent_in g.extents array) i h))
    (record { answer = refl; memory = refl }))

pub gives-binary : (g : Environment) (line : ℕ) (op : Op) (a b : Expression) (s : State) (m : List ℤ) (x y v : ℤ) → Gives g line a s m x → Gives g line b s m y → binary_words op x y ≡ Ok v → Gives g line (Binary op a b) s m v
gives-binary g line op a b s m x y v p q e =
    comes-then (λ k. expression_means g line b >>= λ l. checked line (binary_words op k l)) p
    (comes-then (λ l. checked line (binary_words op x l)) q (checked-ok line (binary_words op x y) v s m e))

-- ---- conditions

pub tells : (g : Environment) (line : ℕ) (test : Test) (a b : Expression) (s : State) (m : List ℤ) (x y : ℤ) (holds : Bool) → Gives g line a s m x → Gives g line b s m y → compares test x y ≡ holds → Comes (condition_means g line (Compare test a b)) s m (Value holds s) m
tells g line test a b s m x y holds p q e =
    comes-then (λ k. expression_means g line b >>= λ l. gives (compares test k l)) p
    (comes-then (λ l. gives (compares test x l)) q (record { answer = ap (λ h. Value h s) e; memory = refl }))

-- ---- statements

-- the state with a word in a slot
abbrev pub with_slot : ℕ → ℤ → State → State
with_slot slot v s = record s { slots = slice_set s.slots slot v }

pub comes-let : (g : Environment) (line slot : ℕ) (e : Expression) (s : State) (m : List ℤ) (v : ℤ) → Gives g line e s m v → Comes (statement_means g line (Let slot e)) s m (Value Onward (with_slot slot v s)) m
comes-let g line slot e s m v p = comes-then (sets slot) p (record { answer = refl; memory = refl })

pub comes-assign : (g : Environment) (line slot : ℕ) (e : Expression) (s : State) (m : List ℤ) (v : ℤ) → Gives g line e s m v → Comes (statement_means g line (Assign slot e)) s m (Value Onward (with_slot slot v s)) m
comes-assign g line slot e s m v p = comes-then (sets slot) p (record { answer = refl; memory = refl })

pub comes-store : (g : Environment) (line array : ℕ) (index value : Expression) (s : State) (m : List ℤ) (i : ℕ) (v : ℤ) → Gives g line index s m (pos i) → Gives g line value s m v → i < (extent_in g.extents array).1 → Comes (statement_means g line (Store array index value)) s m (Value Onward s) (slice_set m ((extent_in g.extents array).0 + i) v)
comes-store g line array index value s m i v p q h =
    comes-then (λ k. expression_means g line value >>= λ w. checked line (cell_of (extent_in g.extents array) k) >>= λ cell. stores cell w) p
    (comes-then (λ w. checked line (cell_of (extent_in g.extents array) (pos i)) >>= λ cell. stores cell w) q
    (comes-then (λ cell. stores cell v) (checked-ok line (cell_of (extent_in g.extents array) (pos i)) ((extent_in g.extents array).0 + i) s m (cell-ok (extent_in g.extents array) i h))
    (record { answer = refl; memory = refl })))

-- one statement, and then the rest
pub comes-on : (g : Environment) (line : ℕ) (first : Statement) (rest : Block) (s between : State) (m x y : List ℤ) (e : Ending Flow) → Comes (statement_means g line first) s m (Value Onward between) x → Comes (block_means g rest) between x e y → Comes (block_means g (on_line line first rest)) s m e y
comes-on g line first rest s between m x y e p q = comes-then (unless_broken (block_means g rest)) p q

pub comes-end : (g : Environment) (s : State) (m : List ℤ) → Comes (block_means g end) s m (Value Onward s) m
comes-end g s m = record { answer = refl; memory = refl }

-- a statement alone
pub comes-only : (g : Environment) (line : ℕ) (first : Statement) (s between : State) (m x : List ℤ) → Comes (statement_means g line first) s m (Value Onward between) x → Comes (block_means g (on_line line first end)) s m (Value Onward between) x
comes-only g line first s between m x p = comes-on g line first end s between m x x (Value Onward between) p (comes-end g between x)

pub comes-then_branch : (g : Environment) (line : ℕ) (c : Condition) (a b : Block) (s : State) (m y : List ℤ) (e : Ending Flow) → Comes (condition_means g line c) s m (Value true s) m → Comes (block_means g a) s m e y → Comes (statement_means g line (If c a b)) s m e y
comes-then_branch g line c a b s m y e p q = comes-then (λ h. if h then block_means g a else block_means g b) p q

pub comes-else_branch : (g : Environment) (line : ℕ) (c : Condition) (a b : Block) (s : State) (m y : List ℤ) (e : Ending Flow) → Comes (condition_means g line c) s m (Value false s) m → Comes (block_means g b) s m e y → Comes (statement_means g line (If c a b)) s m e y
comes-else_branch g line c a b s m y e p q = comes-then (λ h. if h then block_means g a else block_means g b) p q

-- ---- forms that reach a state

-- a form ends with a state and a memory that pass a test
pub record Reaches (form : Meaning Flow) (P : State → List ℤ → Type 0) (s : State) (m : List ℤ) : Type 0 where
  pub state : State
  pub memory : List ℤ
  pub comes : Comes form s m (Value Onward state) memory
  pub holds : P state memory

pub reaches-then : (first next : Meaning Flow) (P Q : State → List ℤ → Type 0) (s : State) (m : List ℤ) → Reaches first P s m → ((t : State) (x : List ℤ) → P t x → Reaches next Q t x) → Reaches (first >-> next) Q s m
reaches-then first next P Q s m r f =
    let q = f r.state r.memory r.holds in
    record { state = q.state; memory = q.memory; comes = comes-then (unless_broken next) r.comes q.comes; holds = q.holds }

-- the body of a loop, and then its other turns
turns-reach : (body others : Meaning Flow) (P Q : State → List ℤ → Type 0) (s : State) (m : List ℤ) → Reaches body P s m → ((t : State) (x : List ℤ) → P t x → Reaches others Q t x) → Reaches (body >>= unless_ended others) Q s m
turns-reach body others P Q s m r f =
    let q = f r.state r.memory r.holds in
    record { state = q.state; memory = q.memory; comes = comes-then (unless_ended others) r.comes q.comes; holds = q.holds }

-- a form that ends in a state reaches it
pub reached : (form : Meaning Flow) (P : State → List ℤ → Type 0) (s t : State) (m x : List ℤ) → Comes form s m (Value Onward t) x → P t x → Reaches form P s m
reached form P s t m x c h = record { state = t; memory = x; comes = c; holds = h }

-- the branch that is taken
pub reaches-then_branch : (g : Environment) (line : ℕ) (c : Condition) (a b : Block) (P : State → List ℤ → Type 0) (s : State) (m : List ℤ) → Comes (condition_means g line c) s m (Value true s) m → Reaches (block_means g a) P s m → Reaches (statement_means g line (If c a b)) P s m
reaches-then_branch g line c a b P s m p r =
    record { state = r.state; memory = r.memory; comes = comes-then_branch g line c a b s m r.memory (Value Onward r.state) p r.comes; holds = r.holds }

pub comes-turn : (s : State) (m : List ℤ) → Comes turns s m (Value tt s) m
comes-turn s m = record { answer = refl; memory = refl }

pub comes-sets : (slot : ℕ) (v : ℤ) (s : State) (m : List ℤ) → Comes (sets slot v) s m (Value Onward (with_slot slot v s)) m
comes-sets slot v s m = record { answer = refl; memory = refl }

turn-reaches : (next : Meaning Flow) (Q : State → List ℤ → Type 0) (s : State) (m : List ℤ) → Reaches next Q s m → Reaches (turns >> next) Q s m
turn-reaches next Q s m r = record { state = r.state; memory = r.memory; comes = comes-then (λ _. next) (comes-turn s m) r.comes; holds = r.holds }

sets-reaches : (slot : ℕ) (v : ℤ) (next : Meaning Flow) (Q : State → List ℤ → Type 0) (s : State) (m : List ℤ) → Reaches next Q (with_slot slot v s) m → Reaches (sets slot v >> next) Q s m
sets-reaches slot v next Q s m r = record { state = r.state; memory = r.memory; comes = comes-then (λ _. next) (comes-sets slot v s m) r.comes; holds = r.holds }

-- the turns of a `for`
pub for-reaches : (slot : ℕ) (body : Meaning Flow) (P : ℕ → State → List ℤ → Type 0) (from count : ℕ)
    → ((p : ℕ) (s : State) (m : List ℤ) → from ≤ p → p < from + count → P p s m → Reaches body (P (suc p)) (with_slot slot (pos p) s) m)
    → (s : State) (m : List ℤ) → P from s m → Reaches (for_turns count (pos from) slot body) (P (from + count)) s m
for-reaches slot body P from zero step s m h =
    reached (for_turns 0 (pos from) slot body) (P (from + 0)) s s m m (record { answer = refl; memory = refl }) (subst (λ n. P n s m) (let e : from ≡ from + 0 = omega arith in e) h)
for-reaches slot body P from (suc count) step s m h =
    let next : pos from +ℤ pos 1 ≡ pos (suc from) = omega (arith, ints) in
    let far : suc from + count ≡ from + suc count = omega arith in
    let rest = for_turns count (pos from +ℤ pos 1) slot body in
    turn-reaches (sets slot (pos from) >> (body >>= unless_ended rest)) (P (from + suc count)) s m
    (sets-reaches slot (pos from) (body >>= unless_ended rest) (P (from + suc count)) s m
    (turns-reach body rest (P (suc from)) (P (from + suc count)) (with_slot slot (pos from) s) m
    (step from s m (omega arith) (omega arith) h)
    (λ t x q. subst (λ z. Reaches (for_turns count z slot body) (P (from + suc count)) t x) (sym next)
    (subst (λ n. Reaches (for_turns count (pos (suc from)) slot body) (P n) t x) far
    (for-reaches slot body P (suc from) count (λ p s' m' low high. step p s' m' (omega (arith, low)) (omega (arith, high))) t x q)))))

-- ---- fills

pub comes-fill : (g : Environment) (line array : ℕ) (low high value : Expression) (s : State) (m after : List ℤ) (i j : ℕ) (v : ℤ) → Gives g line low s m (pos i) → Gives g line high s m (pos j) → Gives g line value s m v → i ≤ j → j ≤ (extent_in g.extents array).1
    → Comes (stores_each ((extent_in g.extents array).0 + i) (j - i) v) s m (Value Onward s) after → Comes (statement_means g line (Fill array low high value)) s m (Value Onward s) after
comes-fill g line array low high value s m after i j v p q r ordered inside stored =
    let extent = extent_in g.extents array in
    comes-then (λ k. expression_means g line high >>= λ l. expression_means g line value >>= λ w. checked line (cells_of extent k l) >>= λ cells. stores_each cells.0 cells.1 w) p
    (comes-then (λ l. expression_means g line value >>= λ w. checked line (cells_of extent (pos i) l) >>= λ cells. stores_each cells.0 cells.1 w) q
    (comes-then (λ w. checked line (cells_of extent (pos i) (pos j)) >>= λ cells. stores_each cells.0 cells.1 w) r
    (comes-then (λ cells. stores_each cells.0 cells.1 v)
    (checked-ok line (cells_of extent (pos i) (pos j)) (extent.0 + i, j - i) s m (λ t. if le_holds i j ordered t && le_holds j extent.1 inside t then Ok (extent.0 + i, j - i) else Err Range))
    stored)))
  where
    le_holds : (a b : ℕ) → a ≤ b → nat_le a b ≡ true
    le_holds a b h = grind (arith, nat_tests, h)

-- zeros that are stored where zeros are
pub zeros-stay : (first count : ℕ) (s : State) (m : List ℤ) → ((c : ℕ) → first ≤ c → slice_index_or m c (pos 0) ≡ pos 0) → Comes (stores_each first count (pos 0)) s m (Value Onward s) m
zeros-stay first zero s m h = record { answer = refl; memory = refl }
zeros-stay first (suc count) s m h =
    let same : slice_set m first (pos 0) ≡ m = ap (slice_set m first) (sym (h first (omega arith))) ∙ set-get_or m first (pos 0) in
    let one : Comes (stores first (pos 0)) s m (Value Onward s) m = record { answer = refl; memory = same } in
    comes-then (λ _. stores_each (suc first) count (pos 0)) one (zeros-stay (suc first) count s m (λ c k. h c (omega (arith, k))))

-- ---- loops

pub gap-is : (low count : ℕ) → int_gap (pos low) (pos (low + count)) ≡ count
gap-is low count = grind (arith, ints)

pub reaches-for : (g : Environment) (line slot : ℕ) (low high : Expression) (body : Block) (P : State → List ℤ → Type 0) (s : State) (m : List ℤ) (i count : ℕ) → Gives g line low s m (pos i) → Gives g line high s m (pos (i + count)) → Reaches (for_turns count (pos i) slot (block_means g body)) P s m → Reaches (statement_means g line (For slot low high body)) P s m
reaches-for g line slot low high body P s m i count p q r = record {
  state = r.state;
  memory = r.memory;
  comes =
      comes-then (λ k. expression_means g line high >>= λ l. for_turns (int_gap k l) k slot (block_means g body)) p
      (comes-then (λ l. for_turns (int_gap (pos i) l) (pos i) slot (block_means g body)) q
      (subst (λ n. Comes (for_turns n (pos i) slot (block_means g body)) s m (Value Onward r.state) r.memory) (sym (gap-is i count)) r.comes));
  holds = r.holds;
}

-- one statement, and then the rest
pub reaches-on : (g : Environment) (line : ℕ) (first : Statement) (rest : Block) (P Q : State → List ℤ → Type 0) (s : State) (m : List ℤ) → Reaches (statement_means g line first) P s m → ((t : State) (x : List ℤ) → P t x → Reaches (block_means g rest) Q t x) → Reaches (block_means g (on_line line first rest)) Q s m
reaches-on g line first rest P Q s m r f = reaches-then (statement_means g line first) (block_means g rest) P Q s m r f

pub reaches-end : (g : Environment) (P : State → List ℤ → Type 0) (s : State) (m : List ℤ) → P s m → Reaches (block_means g end) P s m
reaches-end g P s m h = reached (block_means g end) P s s m m (comes-end g s m) h

-- ---- forms that give a row

-- a row of one word
pub gives-row : (g : Environment) (line : ℕ) (e : Expression) (s : State) (m : List ℤ) (v : ℤ) → Gives g line e s m v → Comes (arguments_mean g line (argument e no_more)) s m (Value (v ∷ []) s) m
gives-row g line e s m v p = comes-then (λ w. arguments_mean g line no_more >>= λ others. gives (w ∷ others)) p (record { answer = refl; memory = refl })

pub comes-sets_row : (slot : ℕ) (v : ℤ) (s : State) (m : List ℤ) → Comes (sets_row (slot ∷ []) (v ∷ [])) s m (Value Onward (with_slot slot v s)) m
comes-sets_row slot v s m = record { answer = refl; memory = refl }

-- a form that gives a row of one word, and reaches a state
pub record Yields (form : Meaning Carried) (v : ℤ) (P : State → List ℤ → Type 0) (s : State) (m : List ℤ) : Type 0 where
  pub state : State
  pub memory : List ℤ
  pub comes : Comes form s m (Value (v ∷ []) state) memory
  pub holds : P state memory

-- the blocks of a fold that carries one word, which is given at each
pub fold-yields : (block carried : ℕ) (body : Meaning Carried) (values : ℕ → ℤ) (P : ℕ → State → List ℤ → Type 0) (from count : ℕ)
    → ((k : ℕ) (s : State) (m : List ℤ) → from ≤ k → k < from + count → P k s m → Yields body (values (suc k)) (P (suc k)) (with_slot carried (values k) (with_slot block (pos k) s)) m)
    → (s : State) (m : List ℤ) → P from s m → Yields (fold_blocks count (pos from) block (carried ∷ []) (values from ∷ []) body) (values (from + count)) (P (from + count)) s m
fold-yields block carried body values P from zero step s m h =
    let same : from ≡ from + 0 = omega arith in
    record { state = s; memory = m; comes = record { answer = ap (λ n. Value (values n ∷ []) s) same; memory = refl }; holds = subst (λ n. P n s m) same h }
fold-yields block carried body values P from (suc count) step s m h =
    let next : pos from +ℤ pos 1 ≡ pos (suc from) = omega (arith, ints) in
    let far : suc from + count ≡ from + suc count = omega arith in
    let one = step from s m (omega arith) (omega arith) h in
    let rest = fold-yields block carried body values P (suc from) count (λ k s' m' low high. step k s' m' (omega (arith, low)) (omega (arith, high))) one.state one.memory one.holds in
    let s1 = with_slot block (pos from) s in
    let s2 = with_slot carried (values from) s1 in
    record {
      state = rest.state;
      memory = rest.memory;
      comes =
          comes-then (λ _. sets block (pos from) >> (sets_row (carried ∷ []) (values from ∷ []) >> (body >>= λ v. fold_blocks count (pos from +ℤ pos 1) block (carried ∷ []) v body))) (comes-turn s m)
          (comes-then (λ _. sets_row (carried ∷ []) (values from ∷ []) >> (body >>= λ v. fold_blocks count (pos from +ℤ pos 1) block (carried ∷ []) v body)) (comes-sets block (pos from) s m)
          (comes-then (λ _. body >>= λ v. fold_blocks count (pos from +ℤ pos 1) block (carried ∷ []) v body) (comes-sets_row carried (values from) s1 m)
          (comes-then (λ v. fold_blocks count (pos from +ℤ pos 1) block (carried ∷ []) v body) one.comes
          (subst (λ z. Comes (fold_blocks count z block (carried ∷ []) (values (suc from) ∷ []) body) one.state one.memory (Value (values (from + suc count) ∷ []) rest.state) rest.memory) (sym next)
          (subst (λ n. Comes (fold_blocks count (pos (suc from)) block (carried ∷ []) (values (suc from) ∷ []) body) one.state one.memory (Value (values n ∷ []) rest.state) rest.memory) far rest.comes)))));
      holds = subst (λ n. P n rest.state rest.memory) far rest.holds;
    }

-- ---- forms that end in some way

-- a form has an ending and a memory that pass a test
pub record Ends (form : Meaning Flow) (Q : Ending Flow → List ℤ → Type 0) (s : State) (m : List ℤ) : Type 0 where
  pub ending : Ending Flow
  pub memory : List ℤ
  pub comes : Comes form s m ending memory
  pub holds : Q ending memory

-- one statement, and then the rest
pub ends-on : (g : Environment) (line : ℕ) (first : Statement) (rest : Block) (P : State → List ℤ → Type 0) (Q : Ending Flow → List ℤ → Type 0) (s : State) (m : List ℤ) → Reaches (statement_means g line first) P s m → ((t : State) (x : List ℤ) → P t x → Ends (block_means g rest) Q t x) → Ends (block_means g (on_line line first rest)) Q s m
ends-on g line first rest P Q s m r f =
    let q = f r.state r.memory r.holds in
    record { ending = q.ending; memory = q.memory; comes = comes-on g line first rest s r.state m r.memory q.memory q.ending r.comes q.comes; holds = q.holds }

-- ---- forms that reach a state, or trap

pub record Halts (form : Meaning Flow) (t : Trap) (output : List ℕ) (s : State) (m : List ℤ) : Type 0 where
  pub memory : List ℤ
  pub comes : Comes form s m (Trapped t output) memory

abbrev pub Goes : Meaning Flow → (State → List ℤ → Type 0) → Trap → List ℕ → State → List ℤ → Type 0
Goes form P t output s m = Reaches form P s m ⊎ Halts form t output s m

-- a form that ends well, and then one that reaches a state or traps
goes-after : {A : Type 0} (first : Meaning A) (next : A → Meaning Flow) (a : A) (Q : State → List ℤ → Type 0) (t : Trap) (output : List ℕ) (s between : State) (m x : List ℤ) → Comes first s m (Value a between) x → Goes (next a) Q t output between x → Goes (first >>= next) Q t output s m
goes-after first next a Q t output s between m x c (inl r) = inl (record { state = r.state; memory = r.memory; comes = comes-then next c r.comes; holds = r.holds })
goes-after first next a Q t output s between m x c (inr h) = inr (record { memory = h.memory; comes = comes-then next c h.comes })

goes-then : (first : Meaning Flow) (next : Flow → Meaning Flow) (P Q : State → List ℤ → Type 0) (t : Trap) (output : List ℕ) (s : State) (m : List ℤ) → Goes first P t output s m → ((u : State) (x : List ℤ) → P u x → Goes (next Onward) Q t output u x) → Goes (first >>= next) Q t output s m
goes-then first next P Q t output s m (inl r) f = goes-after first next Onward Q t output s r.state m r.memory r.comes (f r.state r.memory r.holds)
goes-then first next P Q t output s m (inr h) f = inr (record { memory = h.memory; comes = comes-trap next h.comes })

-- one statement, and then the rest
pub goes-on : (g : Environment) (line : ℕ) (first : Statement) (rest : Block) (P Q : State → List ℤ → Type 0) (t : Trap) (output : List ℕ) (s : State) (m : List ℤ) → Goes (statement_means g line first) P t output s m → ((u : State) (x : List ℤ) → P u x → Goes (block_means g rest) Q t output u x) → Goes (block_means g (on_line line first rest)) Q t output s m
goes-on g line first rest P Q t output s m p f = goes-then (statement_means g line first) (unless_broken (block_means g rest)) P Q t output s m p f

-- the turns of a `for`
pub for-goes : (slot : ℕ) (body : Meaning Flow) (P : ℕ → State → List ℤ → Type 0) (t : Trap) (output : List ℕ) (from count : ℕ)
    → ((p : ℕ) (s : State) (m : List ℤ) → from ≤ p → p < from + count → P p s m → Goes body (P (suc p)) t output (with_slot slot (pos p) s) m)
    → (s : State) (m : List ℤ) → P from s m → Goes (for_turns count (pos from) slot body) (P (from + count)) t output s m
for-goes slot body P t output from zero step s m h =
    inl (reached (for_turns 0 (pos from) slot body) (P (from + 0)) s s m m (record { answer = refl; memory = refl }) (subst (λ n. P n s m) (let e : from ≡ from + 0 = omega arith in e) h))
for-goes slot body P t output from (suc count) step s m h =
    let next : pos from +ℤ pos 1 ≡ pos (suc from) = omega (arith, ints) in
    let far : suc from + count ≡ from + suc count = omega arith in
    let rest = for_turns count (pos from +ℤ pos 1) slot body in
    goes-after turns (λ _. sets slot (pos from) >> (body >>= unless_ended rest)) tt (P (from + suc count)) t output s s m m (comes-turn s m)
    (goes-after (sets slot (pos from)) (λ _. body >>= unless_ended rest) Onward (P (from + suc count)) t output s (with_slot slot (pos from) s) m m (comes-sets slot (pos from) s m)
    (goes-then body (unless_ended rest) (P (suc from)) (P (from + suc count)) t output (with_slot slot (pos from) s) m
    (step from s m (omega arith) (omega arith) h)
    (λ u x q. subst (λ z. Goes (for_turns count z slot body) (P (from + suc count)) t output u x) (sym next)
    (subst (λ n. Goes (for_turns count (pos (suc from)) slot body) (P n) t output u x) far
    (for-goes slot body P t output (suc from) count (λ p s2 m2 low high. step p s2 m2 (omega (arith, low)) (omega (arith, high))) u x q)))))

pub goes-for : (g : Environment) (line slot : ℕ) (low high : Expression) (body : Block) (P : State → List ℤ → Type 0) (t : Trap) (output : List ℕ) (s : State) (m : List ℤ) (i count : ℕ) → Gives g line low s m (pos i) → Gives g line high s m (pos (i + count)) → Goes (for_turns count (pos i) slot (block_means g body)) P t output s m → Goes (statement_means g line (For slot low high body)) P t output s m
goes-for g line slot low high body P t output s m i count p q (inl r) = inl (reaches-for g line slot low high body P s m i count p q r)
goes-for g line slot low high body P t output s m i count p q (inr h) =
    inr (record {
      memory = h.memory;
      comes =
          comes-then (λ k. expression_means g line high >>= λ l. for_turns (int_gap k l) k slot (block_means g body)) p
          (comes-then (λ l. for_turns (int_gap (pos i) l) (pos i) slot (block_means g body)) q
          (subst (λ n. Comes (for_turns n (pos i) slot (block_means g body)) s m (Trapped t output) h.memory) (sym (gap-is i count)) h.comes));
    })

-- ---- `main`

-- how `main` ends where its statements end so
abbrev pub main_ending : Ending Flow → Ending (Unit {0})
main_ending (Value flow s) = Value tt s
main_ending (Trapped trap output) = Trapped trap output

-- no `break` is left
abbrev pub IsOnward : Ending Flow → Type 0
IsOnward (Value Onward s) = Unit {0}
IsOnward (Value Broken s) = ⊥
IsOnward (Trapped trap output) = Unit {0}

pub main-comes : (g : Environment) (b : Block) (s : State) (m y : List ℤ) (e : Ending Flow) → Comes (block_means g b) s m e y → IsOnward e → Comes (main_means g b) s m (main_ending e) y
main-comes g end s m y e p h = record { answer = ap main_ending p.answer; memory = p.memory }
main-comes g (on_line line first rest) s m y e p h =
    go (part (statement_means g line first) (unless_broken (block_means g rest)) s m e y p) (λ between x q. main-comes g rest between x y e q h)
  where
    go : Parted (statement_means g line first) (unless_broken (block_means g rest)) s m e y → ((between : State) (x : List ℤ) → Comes (block_means g rest) between x e y → Comes (main_means g rest) between x (main_ending e) y) → Comes (statement_means g line first >> main_means g rest) s m (main_ending e) y
    go (gave Onward between x c d) others = comes-then (λ _. main_means g rest) c (others between x d)
    go (gave Broken between x c d) others = absurd (subst IsOnward (sym d.answer) h)
    go (trapped trap output c is) others = subst (λ z. Comes (statement_means g line first >> main_means g rest) s m (main_ending z) y) is (comes-trap (λ _. main_means g rest) c)
