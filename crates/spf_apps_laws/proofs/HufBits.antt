-- A bit of a code word, and a byte of them.
use Rattle.std.proofs.Common.{◌≡◌, ℕ, zero, suc, ◌+◌, ◌-◌, ◌*◌, ◌/◌, ◌%◌, ◌^◌, ◌<◌, ◌≤◌, Bool, true, false, List, [], ◌∷◌, ◌++◌, length, map, replicate, Ok, Err, ℤ, pos, refl, ap, sym, ◌∙◌, subst, arith}
use Rattle.std.specs.Prelude.{◌==◌, not, nat_lt, if◌then◌else◌, slice_index, slice_index_or, slice_set, ◌-ℤ◌, int_lt}
use Rattle.std.specs.Ordering.{int_eq}
use Rattle.std.specs.Int.{int_bit_and, int_shr, w64}
use Rattle.std.specs.Int.Bits.{bit_and}
use Rattle.std.proofs.lemmas.Int.{ints, to_z_pos}
use Rattle.std.proofs.lemmas.Bool.{lt-ltb}
use Rattle.std.proofs.lemmas.Bool.Decides.{nat_tests}
use Rattle.std.proofs.lemmas.Nat.{and_mask}
use Rattle.spf_ast.specs.Event.{word_at}
use Rattle.spf_ast.specs.declared.outcome.TrapKind.TheVariants.{Shift}
use Rattle.spf_ast.specs.declared.syntax.Op.TheVariants.{Add, Sub, Mul, Shr, And}
use Rattle.spf_ast.specs.declared.syntax.Test.TheVariants.{Ne, Gt}
use Rattle.spf_ast.specs.Word.{exact, binary_words}
use Rattle.spf_ast.specs.Interaction.{Onward, State, Value}
use Rattle.spf_ast.specs.Syntax.{Condition, Block, Local, Load, Compare, Assign, Store, If, end, on_line}
use Rattle.spf_ast.specs.Meaning.{Environment, block_means, statement_means, extent_in}
use Rattle.spf_ast_laws.proofs.Plainly.{Comes}
use Rattle.spf_apps_programs.specs.Writing.{number, plus, minus, times, shifted_right, masked, only}
use Rattle.spf_apps_programs.specs.Huffman.{with_bit, sym_offset, bits_begin, word_end, one_bit}
use Rattle.spf_apps_laws.proofs.HufWords.{bit, bit_of, grown, kept, next_number, entry_at}
use Rattle.spf_apps_laws.proofs.HufIndices.{cell_at, cells_before, cells_at, cell_set, cell_kept}
use Rattle.spf_apps_laws.proofs.HufTable.{Arrays}
use Rattle.spf_apps_laws.proofs.LexBody.{sum_ok, product_ok}
use Rattle.spf_apps_laws.proofs.Steps.{Gives, gives-number, gives-local, gives-load, gives-binary, tells, comes-assign, comes-store, comes-on, comes-only, comes-end, comes-then_branch, comes-else_branch, word-ok}

-- the state in a block, with no output
abbrev pub at : (v n y carried block h i byte j : ℤ) → State
at v n y carried block h i byte j =
    record { slots = v ∷ n ∷ y ∷ carried ∷ block ∷ h ∷ i ∷ byte ∷ j ∷ pos 0 ∷ pos 0 ∷ pos 0 ∷ []; output = [] }

-- the index of a bit
abbrev pub bit_index : (size k i j : ℕ) → ℕ
bit_index size k i j = ((8 * size) * k + 8 * i) + j

-- a block, a byte and a bit of it whose index the array has
pub record Inside (size k i j room : ℕ) : Type 0 where
  pub there : bit_index size k i j < room
  pub few : room ≤ 4194304

-- ---- sums of bits

odd_word : (x : ℕ) → int_bit_and w64 (pos x) (pos 1) ≡ pos (x % 2)
odd_word x =
    let masked_is = and_mask x 1 in
    to_z_pos w64 (bit_and x 1) (omega (arith, masked_is)) ∙ ap pos masked_is

shift_ok : (b e : ℕ) → e < 64 → binary_words Shr (pos b) (pos e) ≡ Ok (pos (b / 2 ^ e))
shift_ok b e h = ap (λ t. if t then Ok (int_shr (pos b) e) else Err Shift) (lt-ltb e 64 h)

pub less_ok : (a b c : ℕ) → a ≡ b + c → c ≤ 4194304 → binary_words Sub (pos a) (pos b) ≡ Ok (pos c)
less_ok a b c e h =
    let rest : pos a -ℤ pos b ≡ pos c = omega (arith, ints, e) in
    ap exact rest ∙ word-ok c (omega (arith, h))

gives-with_bit : (g : Environment) (line : ℕ) (s : State) (m : List ℤ) (h b j : ℕ) (x : Bool) → slice_index_or s.slots 5 (pos 0) ≡ pos h → slice_index_or s.slots 7 (pos 0) ≡ pos b → slice_index_or s.slots 8 (pos 0) ≡ pos j
    → h < 65536 → j < 8 → x ≡ (b / 2 ^ (7 - j) % 2 == 1) → Gives g line (with_bit 5 7 8) s m (pos (grown h x))
gives-with_bit g line s m h b j x h_is b_is j_is small few e =
    let shift = shifted_right (Local 7) (minus (number 7) (Local 8)) in
    let odd = b / 2 ^ (7 - j) % 2 in
    let is : odd ≡ bit x = sym (bit_of (b / 2 ^ (7 - j))) ∙ ap bit (sym e) in
    subst (λ n. Gives g line (with_bit 5 7 8) s m (pos (h * 2 + n))) is
    (gives-binary g line Add (times (Local 5) (number 2)) (masked shift (number 1)) s m (pos (h * 2)) (pos odd) (pos (h * 2 + odd))
    (gives-binary g line Mul (Local 5) (number 2) s m (pos h) (pos 2) (pos (h * 2)) (gives-local g line 5 s m (pos h) h_is) (gives-number g line (pos 2) s m) (product_ok h 2 (omega (arith, small))))
    (gives-binary g line And shift (number 1) s m (pos (b / 2 ^ (7 - j))) (pos 1) (pos odd)
    (gives-binary g line Shr (Local 7) (minus (number 7) (Local 8)) s m (pos b) (pos (7 - j)) (pos (b / 2 ^ (7 - j)))
    (gives-local g line 7 s m (pos b) b_is)
    (gives-binary g line Sub (number 7) (Local 8) s m (pos 7) (pos j) (pos (7 - j)) (gives-number g line (pos 7) s m) (gives-local g line 8 s m (pos j) j_is) (less_ok 7 j (7 - j) (omega (arith, few)) (omega arith)))
    (shift_ok b (7 - j) (omega arith)))
    (gives-number g line (pos 1) s m)
    (ap Ok (odd_word (b / 2 ^ (7 - j)))))
    (sum_ok (h * 2) odd (omega (arith, small))))

gives-index : (g : Environment) (line size k i j room : ℕ) (s : State) (m : List ℤ) → slice_index_or s.slots 4 (pos 0) ≡ pos k → slice_index_or s.slots 6 (pos 0) ≡ pos i → slice_index_or s.slots 8 (pos 0) ≡ pos j → Inside size k i j room
    → Gives g line (sym_offset size) s m (pos (bit_index size k i j))
gives-index g line size k i j room s m k_is i_is j_is d =
    let there = d.there in
    let few = d.few in
    gives-binary g line Add (plus (bits_begin size) (times (number 8) (Local 6))) (Local 8) s m (pos ((8 * size) * k + 8 * i)) (pos j) (pos (bit_index size k i j))
    (gives-binary g line Add (bits_begin size) (times (number 8) (Local 6)) s m (pos ((8 * size) * k)) (pos (8 * i)) (pos ((8 * size) * k + 8 * i))
    (gives-binary g line Mul (number (8 * size)) (Local 4) s m (pos (8 * size)) (pos k) (pos ((8 * size) * k)) (gives-number g line (pos (8 * size)) s m) (gives-local g line 4 s m (pos k) k_is) (product_ok (8 * size) k (omega (arith, there, few))))
    (gives-binary g line Mul (number 8) (Local 6) s m (pos 8) (pos i) (pos (8 * i)) (gives-number g line (pos 8) s m) (gives-local g line 6 s m (pos i) i_is) (product_ok 8 i (omega (arith, there, few))))
    (sum_ok ((8 * size) * k) (8 * i) (omega (arith, there, few))))
    (gives-local g line 8 s m (pos j) j_is) (sum_ok ((8 * size) * k + 8 * i) j (omega (arith, there, few)))

-- ---- a bit

-- the memory after a bit with this entry
abbrev pub stored : ℕ → ℕ → List ℤ → List ℤ
stored zero p m = m
stored (suc y) p m = slice_set m (65536 + p) (pos (suc y))

abbrev is_whole : Condition
is_whole = Compare Ne (Load 0 (Local 5)) (number 0)

abbrev whole : ℕ → Block
whole size = on_line 40 (Store 1 (sym_offset size) (Load 0 (Local 5))) (only 40 (Assign 5 (number 1)))

gives-entry : (g : Environment) (room : ℕ) → Arrays g room → (s : State) (m : List ℤ) (n e : ℕ) → slice_index_or s.slots 5 (pos 0) ≡ pos n → n < 65536 → slice_index_or m n (pos 0) ≡ pos e → Gives g 40 (Load 0 (Local 5)) s m (pos e)
gives-entry g room a s m n e n_is small word =
    let base = (extent_in g.extents 0).0 in
    let cell : base + n ≡ n = let f = a.code_first in omega (arith, f) in
    subst (λ v. Gives g 40 (Load 0 (Local 5)) s m v) (ap (word_at m) cell ∙ word)
    (gives-load g 40 0 (Local 5) s m n (gives-local g 40 5 s m (pos n) n_is) (let r = a.code_room in omega (arith, small, r)))

-- the end of a code word, or not
word-comes : (g : Environment) (size room : ℕ) → Arrays g room → (v t y c : ℤ) (k i j n e : ℕ) (b : ℤ) (m : List ℤ) → Inside size k i j room → n < 65536 → slice_index_or m n (pos 0) ≡ pos e
    → Comes (block_means g (word_end size)) (at v t y c (pos k) (pos n) (pos i) b (pos j)) m (Value Onward (at v t y c (pos k) (pos (kept e n)) (pos i) b (pos j))) (stored e (bit_index size k i j) m)
word-comes g size room a v t y c k i j n zero b m d small word =
    let s = at v t y c (pos k) (pos n) (pos i) b (pos j) in
    comes-only g 40 (If is_whole (whole size) end) s s m m
    (comes-else_branch g 40 is_whole (whole size) end s m m (Value Onward s)
    (tells g 40 Ne (Load 0 (Local 5)) (number 0) s m (pos 0) (pos 0) false (gives-entry g room a s m n 0 refl small word) (gives-number g 40 (pos 0) s m) refl)
    (comes-end g s m))
word-comes g size room a v t y c k i j n (suc e) b m d small word =
    let s = at v t y c (pos k) (pos n) (pos i) b (pos j) in
    let u = at v t y c (pos k) (pos 1) (pos i) b (pos j) in
    let p = bit_index size k i j in
    let base = (extent_in g.extents 1).0 in
    let after = slice_set m (base + p) (pos (suc e)) in
    let cell : base + p ≡ 65536 + p = let f = a.sym_first in omega (arith, f) in
    let other : not (int_eq (pos (suc e)) (pos 0)) ≡ true = ap not (let o : int_eq (pos (suc e)) (pos 0) ≡ false = grind (arith, ints) in o) in
    let loaded = gives-entry g room a s m n (suc e) refl small word in
    subst (λ q. Comes (block_means g (word_end size)) s m (Value Onward u) (slice_set m q (pos (suc e)))) cell
    (comes-only g 40 (If is_whole (whole size) end) s u m after
    (comes-then_branch g 40 is_whole (whole size) end s m after (Value Onward u)
    (tells g 40 Ne (Load 0 (Local 5)) (number 0) s m (pos (suc e)) (pos 0) true loaded (gives-number g 40 (pos 0) s m) other)
    (comes-on g 40 (Store 1 (sym_offset size) (Load 0 (Local 5))) (only 40 (Assign 5 (number 1))) s s m after after (Value Onward u)
    (comes-store g 40 1 (sym_offset size) (Load 0 (Local 5)) s m p (pos (suc e)) (gives-index g 40 size k i j room s m refl refl refl d) loaded (let r = a.sym_room in let there = d.there in omega (arith, r, there)))
    (comes-only g 40 (Assign 5 (number 1)) s u after after (comes-assign g 40 5 (number 1) s after (pos 1) (gives-number g 40 (pos 1) s after))))))

abbrev is_long : Condition
is_long = Compare Gt (Local 5) (number 65535)

abbrev too_long : Block
too_long = only 39 (Assign 5 (number 0))

-- the number with one more bit
long-comes : (g : Environment) (size room : ℕ) → Arrays g room → (v t y c : ℤ) (k i j n : ℕ) (b : ℤ) (m : List ℤ) (code : List ℕ) → Inside size k i j room → ((q : ℕ) → q < 65536 → slice_index_or m q (pos 0) ≡ pos (slice_index code q)) → (holds : Bool) → nat_lt 65535 n ≡ holds
    → Comes (statement_means g 39 (If is_long too_long (word_end size))) (at v t y c (pos k) (pos n) (pos i) b (pos j)) m
    (Value Onward (at v t y c (pos k) (pos (if holds then 0 else kept (slice_index code n) n)) (pos i) b (pos j))) (stored (if holds then 0 else slice_index code n) (bit_index size k i j) m)
long-comes g size room a v t y c k i j n b m code d words true e =
    let s = at v t y c (pos k) (pos n) (pos i) b (pos j) in
    let u = at v t y c (pos k) (pos 0) (pos i) b (pos j) in
    let above : 65535 < n = grind (arith, nat_tests, e) in
    let long : int_lt (pos 65535) (pos n) ≡ true = grind (arith, ints, above) in
    comes-then_branch g 39 is_long too_long (word_end size) s m m (Value Onward u)
    (tells g 39 Gt (Local 5) (number 65535) s m (pos n) (pos 65535) true (gives-local g 39 5 s m (pos n) refl) (gives-number g 39 (pos 65535) s m) long)
    (comes-only g 39 (Assign 5 (number 0)) s u m m (comes-assign g 39 5 (number 0) s m (pos 0) (gives-number g 39 (pos 0) s m)))
long-comes g size room a v t y c k i j n b m code d words false e =
    let s = at v t y c (pos k) (pos n) (pos i) b (pos j) in
    let e2 = slice_index code n in
    let u = at v t y c (pos k) (pos (kept e2 n)) (pos i) b (pos j) in
    let below : n ≤ 65535 = grind (arith, nat_tests, e) in
    let long : int_lt (pos 65535) (pos n) ≡ false = grind (arith, ints, below) in
    let small : n < 65536 = omega (arith, below) in
    comes-else_branch g 39 is_long too_long (word_end size) s m (stored e2 (bit_index size k i j) m) (Value Onward u)
    (tells g 39 Gt (Local 5) (number 65535) s m (pos n) (pos 65535) false (gives-local g 39 5 s m (pos n) refl) (gives-number g 39 (pos 65535) s m) long)
    (word-comes g size room a v t y c k i j n e2 b m d small (words n small))

abbrev is_begun : Condition
is_begun = Compare Ne (Local 5) (number 0)

abbrev longer : ℕ → Block
longer size = on_line 38 (Assign 5 (with_bit 5 7 8)) (only 39 (If is_long too_long (word_end size)))

pub bit-comes : (g : Environment) (size room : ℕ) → Arrays g room → (v t y c : ℤ) (k i j h b : ℕ) (x : Bool) (m : List ℤ) (code : List ℕ) → Inside size k i j room → ((q : ℕ) → q < 65536 → slice_index_or m q (pos 0) ≡ pos (slice_index code q)) → h < 65536 → j < 8 → x ≡ (b / 2 ^ (7 - j) % 2 == 1)
    → Comes (block_means g (one_bit size)) (at v t y c (pos k) (pos h) (pos i) (pos b) (pos j)) m
    (Value Onward (at v t y c (pos k) (pos (next_number code h x)) (pos i) (pos b) (pos j))) (stored (entry_at code h x) (bit_index size k i j) m)
bit-comes g size room a v t y c k i j zero b x m code d words small few e =
    let s = at v t y c (pos k) (pos 0) (pos i) (pos b) (pos j) in
    comes-only g 37 (If is_begun (longer size) end) s s m m
    (comes-else_branch g 37 is_begun (longer size) end s m m (Value Onward s)
    (tells g 37 Ne (Local 5) (number 0) s m (pos 0) (pos 0) false (gives-local g 37 5 s m (pos 0) refl) (gives-number g 37 (pos 0) s m) refl)
    (comes-end g s m))
bit-comes g size room a v t y c k i j (suc h) b x m code d words small few e =
    let n = grown (suc h) x in
    let s = at v t y c (pos k) (pos (suc h)) (pos i) (pos b) (pos j) in
    let u = at v t y c (pos k) (pos n) (pos i) (pos b) (pos j) in
    let holds = nat_lt 65535 n in
    let z = at v t y c (pos k) (pos (if holds then 0 else kept (slice_index code n) n)) (pos i) (pos b) (pos j) in
    let after = stored (if holds then 0 else slice_index code n) (bit_index size k i j) m in
    let other : not (int_eq (pos (suc h)) (pos 0)) ≡ true = ap not (let o : int_eq (pos (suc h)) (pos 0) ≡ false = grind (arith, ints) in o) in
    comes-only g 37 (If is_begun (longer size) end) s z m after
    (comes-then_branch g 37 is_begun (longer size) end s m after (Value Onward z)
    (tells g 37 Ne (Local 5) (number 0) s m (pos (suc h)) (pos 0) true (gives-local g 37 5 s m (pos (suc h)) refl) (gives-number g 37 (pos 0) s m) other)
    (comes-on g 38 (Assign 5 (with_bit 5 7 8)) (only 39 (If is_long too_long (word_end size))) s u m m after (Value Onward z)
    (comes-assign g 38 5 (with_bit 5 7 8) s m (pos n) (gives-with_bit g 38 s m (suc h) b j x refl refl refl small few e))
    (comes-only g 39 (If is_long too_long (word_end size)) u z m after
    (long-comes g size room a v t y c k i j n (pos b) m code d words holds refl))))

-- a bit's cell, among zeros
pub stored-next : (code : List ℕ) (all : List Bool) (room p e : ℕ) → length code ≡ 65536 → p < room → cell_at code all p ≡ e → stored e p (cells_at code all room p) ≡ cells_at code all room (suc p)
stored-next code all room p zero long there is =
    cell_kept code all room p there ∙ ap (λ n. map pos code ++ ((cells_before code all p ++ pos n ∷ []) ++ replicate (room - suc p) (pos 0))) (sym is)
stored-next code all room p (suc e) long there is =
    cell_set code all 65536 room p (suc e) long there ∙ ap (λ n. map pos code ++ ((cells_before code all p ++ pos n ∷ []) ++ replicate (room - suc p) (pos 0))) (sym is)
