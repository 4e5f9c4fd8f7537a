-- The table of code words.
use Rattle.std.proofs.Common.{◌≡◌, ◌⊎◌, inl, inr, ℕ, zero, suc, ◌+◌, ◌*◌, ◌^◌, ◌<◌, ◌≤◌, Bool, true, false, List, [], ◌∷◌, ◌++◌, length, map, take, replicate, Ok, Err, ℤ, pos, refl, ap, sym, ◌∙◌, subst, arith, get_or-set_same, get_or-set_other}
use Rattle.std.specs.Prelude.{◌==◌, if◌then◌else◌, slice_index, slice_set, ◌*ℤ◌}
use Rattle.std.specs.List.{count_by}
use Rattle.std.specs.Ordering.{int_eq}
use Rattle.std.proofs.lemmas.Int.{ints}
use Rattle.std.proofs.lemmas.Bool.{lt-ltb}
use Rattle.std.proofs.lemmas.Bool.Decides.{nat_tests}
use Rattle.std.proofs.lemmas.List.{length-set, length-replicate, take_all}
use Rattle.std.proofs.lemmas.List.Sums.{count_by_more_yes, count_by_more_no}
use Rattle.std.proofs.Math.Nat.{pow-le-pow_right}
use Rattle.spf_ast_lemmas.proofs.Members.{cases}
use Rattle.spf_ast.specs.declared.outcome.TrapKind.TheVariants.{Shift}
use Rattle.spf_ast.specs.declared.syntax.Op.TheVariants.{Add, Mul, Shl}
use Rattle.spf_ast.specs.declared.syntax.Test.TheVariants.{Eq}
use Rattle.spf_ast.specs.Word.{exact, binary_words}
use Rattle.spf_ast.specs.Interaction.{Onward, State, Value}
use Rattle.spf_ast.specs.Syntax.{Expression, Condition, Block, Local, Input, Binary, Compare, Assign, Store, If, For, end, on_line}
use Rattle.spf_ast.specs.Meaning.{Environment, block_means, statement_means, condition_means, extent_in}
use Rattle.spf_ast_laws.proofs.Plainly.{Comes}
use Rattle.spf_apps_formats.specs.Huffman.{AreCodeLengths, first_word, words_of_length, word_number}
use Rattle.spf_apps_formats.proofs.PrefixFree.{HasWord, words_fit, words_are}
use Rattle.spf_apps_programs.specs.Writing.{number, plus, times, only}
use Rattle.spf_apps_programs.specs.Huffman.{table_entry, table}
use Rattle.spf_apps_laws.proofs.HufWords.{index_of, index_once, index_small, IsTable}
use Rattle.spf_apps_laws.proofs.HufIndices.{table_set}
use Rattle.spf_apps_laws.proofs.LexBody.{sum_ok, product_ok}
use Rattle.spf_apps_laws.proofs.Steps.{Gives, gives-number, gives-local, gives-input, gives-binary, tells, comes-assign, comes-store, comes-on, comes-only, comes-end, comes-then_branch, comes-else_branch, with_slot, Reaches, reached, reaches-on, reaches-for, for-reaches, word-ok}

-- how many cells there are for the bits
abbrev pub room_for : ℕ → List ℕ → ℕ
room_for size content = 8 * (264 + length content) + 8 * size

-- the arrays of the program
pub record Arrays (g : Environment) (room : ℕ) : Type 0 where
  pub code_first : (extent_in g.extents 0).0 ≡ 0
  pub code_room : (extent_in g.extents 0).1 ≡ 65536
  pub sym_first : (extent_in g.extents 1).0 ≡ 65536
  pub sym_room : (extent_in g.extents 1).1 ≡ room

-- where the program runs: its input has a header with the lengths of a code and then a content, and its arrays have enough cells
pub record Decoding (g : Environment) (size : ℕ) (lengths content : List ℕ) : Type 0 where
  pub arrays : Arrays g (room_for size content)
  pub long : length g.input ≡ 264 + length content
  pub length_at : (y : ℕ) → y < 256 → slice_index g.input (4 + y) ≡ slice_index lengths y
  pub byte_at : (i : ℕ) → slice_index g.input (264 + i) ≡ slice_index content i
  pub many : length lengths ≡ 256
  pub code : AreCodeLengths lengths
  pub bytes : (i : ℕ) → slice_index content i < 256
  pub some : 1 ≤ size
  pub few : 65536 + room_for size content ≤ 4194304

-- the state with these words in the first slots, and no output
abbrev pub begun_at : (v n y : ℤ) → State
begun_at v n y =
    record { slots = v ∷ n ∷ y ∷ pos 0 ∷ pos 0 ∷ pos 0 ∷ pos 0 ∷ pos 0 ∷ pos 0 ∷ pos 0 ∷ pos 0 ∷ pos 0 ∷ []; output = [] }

-- ---- what the table holds

-- the symbols with shorter code words, and those before y with code words of n bits
abbrev IsBefore : List ℕ → (n y z : ℕ) → Type 0
IsBefore lengths n y z = (slice_index lengths z < n) ⊎ ((slice_index lengths z ≡ n) × (z < y))

record Fills (lengths code : List ℕ) (n y : ℕ) : Type 0 where
  long : length code ≡ 65536
  words : (z : ℕ) → HasWord lengths z → IsBefore lengths n y z → slice_index code (index_of lengths z) ≡ suc z
  only : (i z : ℕ) → slice_index code i ≡ suc z → HasWord lengths z × (i ≡ index_of lengths z)

abbrev Apart : ℕ → ℕ → Type 0
Apart a b = (a < b) ⊎ (b < a)

same_or_apart : (a b : ℕ) → (a ≡ b) ⊎ Apart a b
same_or_apart a b = grind arith

apart_differ : (a b : ℕ) → Apart a b → a ≡ b → ⊥
apart_differ a b (inl h) e = omega (arith, h, e)
apart_differ a b (inr h) e = omega (arith, h, e)

some_once : (a b c : ℕ) → a ≡ suc b → a ≡ suc c → c ≡ b
some_once a b c h k = omega (arith, h, k)

fills-more : (lengths code : List ℕ) (n y : ℕ) → AreCodeLengths lengths → HasWord lengths y → slice_index lengths y ≡ n → Fills lengths code n y → Fills lengths (slice_set code (index_of lengths y) (suc y)) n (suc y)
fills-more lengths code n y a h is f = record { long = length-set code index (suc y) ∙ f.long; words = words; only = only }
  where
    index : ℕ
    index = index_of lengths y

    inside : index_of lengths y < length code
    inside = let small = index_small lengths y a h in omega (arith, small, f.long)

    before : (z : ℕ) → IsBefore lengths n (suc y) z → (z ≡ y → ⊥) → IsBefore lengths n y z
    before z (inl less) other = inl less
    before z (inr k) other = inr (k.0, cases (same_or_apart z y) (λ e. absurd (other e)) (λ apart. cases apart (λ less. less) (λ more. absurd (omega (arith, more, k.1)))))

    words : (z : ℕ) → HasWord lengths z → IsBefore lengths n (suc y) z → slice_index (slice_set code (index_of lengths y) (suc y)) (index_of lengths z) ≡ suc z
    words z k b =
        cases (same_or_apart z y)
        (λ e. ap (λ x. slice_index (slice_set code (index_of lengths y) (suc y)) (index_of lengths x)) e ∙ get_or-set_same code (index_of lengths y) (suc y) 0 inside ∙ ap suc (sym e))
        (λ apart. get_or-set_other code (index_of lengths y) (index_of lengths z) (suc y) 0 (λ e. apart_differ z y apart (index_once lengths z y a k h e)) ∙ f.words z k (before z b (apart_differ z y apart)))

    only : (i z : ℕ) → slice_index (slice_set code (index_of lengths y) (suc y)) i ≡ suc z → HasWord lengths z × (i ≡ index_of lengths z)
    only i z e =
        cases (same_or_apart i (index_of lengths y))
        (λ here.
        let same = some_once (slice_index (slice_set code (index_of lengths y) (suc y)) i) y z (ap (slice_index (slice_set code (index_of lengths y) (suc y))) here ∙ get_or-set_same code (index_of lengths y) (suc y) 0 inside) e in
        subst (λ x. HasWord lengths x × (i ≡ index_of lengths x)) (sym same) (h, here))
        (λ apart. f.only i z (sym (get_or-set_other code (index_of lengths y) i (suc y) 0 (apart_differ i (index_of lengths y) apart)) ∙ e))

fills-same : (lengths code : List ℕ) (n y : ℕ) → Apart (slice_index lengths y) n → Fills lengths code n y → Fills lengths code n (suc y)
fills-same lengths code n y other f = record { long = f.long; words = λ z k b. f.words z k (before z b); only = f.only }
  where
    before : (z : ℕ) → IsBefore lengths n (suc y) z → IsBefore lengths n y z
    before z (inl less) = inl less
    before z (inr k) =
        inr (k.0, cases (same_or_apart z y) (λ e. absurd (apart_differ (slice_index lengths y) n other (ap (slice_index lengths) (sym e) ∙ k.0))) (λ apart. cases apart (λ less. less) (λ more. absurd (omega (arith, more, k.1)))))

fills-next : (lengths code : List ℕ) (n : ℕ) → length lengths ≡ 256 → Fills lengths code n 256 → Fills lengths code (suc n) 0
fills-next lengths code n many f = record { long = f.long; words = λ z k b. f.words z k (before z k b); only = f.only }
  where
    upto : (a b : ℕ) → a < suc b → (a < b) ⊎ (a ≡ b)
    upto a b h = grind (arith, h)

    before : (z : ℕ) → HasWord lengths z → IsBefore lengths (suc n) 0 z → IsBefore lengths n 256 z
    before z k (inl less) = cases (upto (slice_index lengths z) n less) (λ l. inl l) (λ e. inr (e, (let i = k.inside in omega (arith, i, many))))
    before z k (inr b) = absurd (let e = b.1 in omega (arith, e))

fills-table : (lengths code : List ℕ) → AreCodeLengths lengths → Fills lengths code 16 0 → IsTable lengths code
fills-table lengths code a f = record {
  words = λ y h. f.words y h (inl (let s = a.short y h.inside in omega (arith, s)));
  only = f.only;
}

-- an empty table
zero_in : (n i : ℕ) → slice_index (replicate n 0) i ≡ 0
zero_in zero i = refl
zero_in (suc n) zero = refl
zero_in (suc n) (suc i) = zero_in n i

fills-none : (lengths : List ℕ) (n : ℕ) → n ≡ 65536 → Fills lengths (replicate n 0) 1 0
fills-none lengths n e = record {
  long = length-replicate n 0 ∙ e;
  words = λ z h b. absurd (none z h b);
  only = λ i z k. absurd (let zero_there = zero_in n i in omega (arith, zero_there, k));
}
  where
    none : (z : ℕ) → HasWord lengths z → IsBefore lengths 1 0 z → ⊥
    none z h (inl less) = let some = h.some in omega (arith, some, less)
    none z h (inr b) = let some = b.1 in omega (arith, some)

-- ---- a symbol

abbrev is_entry : Condition
is_entry = Compare Eq (Input (plus (number 4) (Local 2))) (Local 1)

abbrev index : Expression
index = plus (Binary Shl (number 1) (Local 1)) (Local 0)

abbrev entry_set : Block
entry_set = on_line 26 (Store 0 index (plus (Local 2) (number 1))) (only 26 (Assign 0 (plus (Local 0) (number 1))))

pub more_ok : (a : ℕ) → a < 4194304 → binary_words Add (pos a) (pos 1) ≡ Ok (pos (suc a))
more_ok a h = sum_ok a 1 (omega (arith, h)) ∙ ap (λ n. Ok (pos n)) (let e : a + 1 ≡ suc a = omega arith in e)

power_ok : (n : ℕ) → n ≤ 15 → binary_words Shl (pos 1) (pos n) ≡ Ok (pos (2 ^ n))
power_ok n h =
    let once : 1 * 2 ^ n ≡ 2 ^ n = omega arith in
    ap (λ b. if b then exact (pos 1 *ℤ pos (2 ^ n)) else Err Shift) (lt-ltb n 64 (omega (arith, h)))
    ∙ ap (λ k. exact (pos k)) once
    ∙ word-ok (2 ^ n) (power_small n h)
  where
    two_some : 0 < 2
    two_some = omega arith

    power_small : (n : ℕ) → n ≤ 15 → 2 ^ n < 2 ^ 63
    power_small n h = let e = pow-le-pow_right {n = 2} two_some {i = n} {j = 15} h in omega (arith, e)

entry_tells : (g : Environment) (size : ℕ) (lengths content : List ℕ) → Decoding g size lengths content → (v : ℤ) (n y : ℕ) (m : List ℤ) (holds : Bool) → y < 256 → int_eq (pos (slice_index lengths y)) (pos n) ≡ holds
    → Comes (condition_means g 26 is_entry) (begun_at v (pos n) (pos y)) m (Value holds (begun_at v (pos n) (pos y))) m
entry_tells g size lengths content d v n y m holds small e =
    let s = begun_at v (pos n) (pos y) in
    let index = plus (number 4) (Local 2) in
    tells g 26 Eq (Input index) (Local 1) s m (pos (slice_index lengths y)) (pos n) holds
    (subst (λ w. Gives g 26 (Input index) s m (pos w)) (d.length_at y small)
    (gives-input g 26 index s m (4 + y)
    (gives-binary g 26 Add (number 4) (Local 2) s m (pos 4) (pos y) (pos (4 + y)) (gives-number g 26 (pos 4) s m) (gives-local g 26 2 s m (pos y) refl) (sum_ok 4 y (omega (arith, small))))
    (let l = d.long in omega (arith, l, small))))
    (gives-local g 26 1 s m (pos n) refl) e

entry-stored : (g : Environment) (size : ℕ) (lengths content : List ℕ) → Decoding g size lengths content → (v n y : ℕ) (m : List ℤ) → y < 256 → n ≤ 15 → 2 ^ n + v < 65536
    → Comes (block_means g entry_set) (begun_at (pos v) (pos n) (pos y)) m (Value Onward (begun_at (pos (suc v)) (pos n) (pos y))) (slice_set m (2 ^ n + v) (pos (suc y)))
entry-stored g size lengths content d v n y m small short inside =
    let s = begun_at (pos v) (pos n) (pos y) in
    let t = begun_at (pos (suc v)) (pos n) (pos y) in
    let base = (extent_in g.extents 0).0 in
    let cell : base + (2 ^ n + v) ≡ 2 ^ n + v = let f = d.arrays.code_first in omega (arith, f) in
    let after = slice_set m (base + (2 ^ n + v)) (pos (suc y)) in
    subst (λ q. Comes (block_means g entry_set) s m (Value Onward t) (slice_set m q (pos (suc y)))) cell
    (comes-on g 26 (Store 0 index (plus (Local 2) (number 1))) (only 26 (Assign 0 (plus (Local 0) (number 1)))) s s m after after (Value Onward t)
    (comes-store g 26 0 index (plus (Local 2) (number 1)) s m (2 ^ n + v) (pos (suc y))
    (gives-binary g 26 Add (Binary Shl (number 1) (Local 1)) (Local 0) s m (pos (2 ^ n)) (pos v) (pos (2 ^ n + v))
    (gives-binary g 26 Shl (number 1) (Local 1) s m (pos 1) (pos n) (pos (2 ^ n)) (gives-number g 26 (pos 1) s m) (gives-local g 26 1 s m (pos n) refl) (power_ok n short))
    (gives-local g 26 0 s m (pos v) refl) (sum_ok (2 ^ n) v (omega (arith, inside))))
    (gives-binary g 26 Add (Local 2) (number 1) s m (pos y) (pos 1) (pos (suc y)) (gives-local g 26 2 s m (pos y) refl) (gives-number g 26 (pos 1) s m) (more_ok y (omega (arith, small))))
    (let r = d.arrays.code_room in omega (arith, r, inside)))
    (comes-only g 26 (Assign 0 (plus (Local 0) (number 1))) s t after after
    (comes-assign g 26 0 (plus (Local 0) (number 1)) s after (pos (suc v))
    (gives-binary g 26 Add (Local 0) (number 1) s after (pos v) (pos 1) (pos (suc v)) (gives-local g 26 0 s after (pos v) refl) (gives-number g 26 (pos 1) s after) (more_ok v (omega (arith, inside)))))))

-- ---- the symbols with code words of one length

-- the number of the next code word of n bits, after those of the symbols before y
abbrev next_word : List ℕ → ℕ → ℕ → ℕ
next_word lengths n y = first_word lengths n + count_by (λ l. l == n) (take y lengths)

record TableAt (lengths : List ℕ) (room n y : ℕ) (s : State) (m : List ℤ) : Type 0 where
  code : List ℕ
  turn : ℤ
  s_is : s ≡ begun_at (pos (next_word lengths n y)) (pos n) turn
  m_is : m ≡ map pos code ++ replicate room (pos 0)
  fills : Fills lengths code n y

word_turn : (g : Environment) (size : ℕ) (lengths content : List ℕ) → Decoding g size lengths content → (n y : ℕ) (code : List ℕ) → 1 ≤ n → n ≤ 15 → y < 256 → Fills lengths code n y → slice_index lengths y ≡ n
    → Reaches (block_means g table_entry) (TableAt lengths (room_for size content) n (suc y)) (begun_at (pos (next_word lengths n y)) (pos n) (pos y)) (map pos code ++ replicate (room_for size content) (pos 0))
word_turn g size lengths content d n y code some short small f is =
    let room = room_for size content in
    let v = next_word lengths n y in
    let m = map pos code ++ replicate room (pos 0) in
    let s = begun_at (pos v) (pos n) (pos y) in
    let t = begun_at (pos (suc v)) (pos n) (pos y) in
    let h : HasWord lengths y = record { inside = let l = d.many in omega (arith, small, l); some = omega (arith, is, some) } in
    let word : word_number lengths y ≡ v = ap (λ k. first_word lengths k + count_by (λ l. l == k) (take y lengths)) is in
    let index_is : index_of lengths y ≡ 2 ^ n + v = (λ i. 2 ^ is i + word i) in
    let inside : 2 ^ n + v < 65536 = omega (arith, index_is, index_small lengths y d.code h) in
    let there : 2 ^ n + v < length code = omega (arith, inside, f.long) in
    let equal : int_eq (pos (slice_index lengths y)) (pos n) ≡ true = grind (arith, ints, is) in
    let yes : (slice_index lengths y == n) ≡ true = grind (arith, nat_tests, is) in
    let counted = count_by_more_yes (λ l. l == n) lengths y 0 h.inside yes in
    let later : suc y ≡ y + 1 = omega arith in
    let next : suc v ≡ next_word lengths n (suc y) = omega (arith, counted, ap (λ k. count_by (λ l. l == n) (take k lengths)) later) in
    reached (block_means g table_entry) (TableAt lengths room n (suc y)) s t m (slice_set m (2 ^ n + v) (pos (suc y)))
    (comes-only g 26 (If is_entry entry_set end) s t m (slice_set m (2 ^ n + v) (pos (suc y)))
    (comes-then_branch g 26 is_entry entry_set end s m (slice_set m (2 ^ n + v) (pos (suc y))) (Value Onward t)
    (entry_tells g size lengths content d (pos v) n y m true small equal)
    (entry-stored g size lengths content d v n y m small short inside)))
    (record {
      code = slice_set code (2 ^ n + v) (suc y);
      turn = pos y;
      s_is = ap (λ k. begun_at (pos k) (pos n) (pos y)) next;
      m_is = table_set code (replicate room (pos 0)) (2 ^ n + v) (suc y) there;
      fills = subst (λ k. Fills lengths (slice_set code k (suc y)) n (suc y)) index_is (fills-more lengths code n y d.code h is f);
    })

other_turn : (g : Environment) (size : ℕ) (lengths content : List ℕ) → Decoding g size lengths content → (n y : ℕ) (code : List ℕ) → y < 256 → Fills lengths code n y → Apart (slice_index lengths y) n
    → Reaches (block_means g table_entry) (TableAt lengths (room_for size content) n (suc y)) (begun_at (pos (next_word lengths n y)) (pos n) (pos y)) (map pos code ++ replicate (room_for size content) (pos 0))
other_turn g size lengths content d n y code small f other =
    let room = room_for size content in
    let v = next_word lengths n y in
    let m = map pos code ++ replicate room (pos 0) in
    let s = begun_at (pos v) (pos n) (pos y) in
    let inside : y < length lengths = let l = d.many in omega (arith, small, l) in
    let counted = count_by_more_no (λ l. l == n) lengths y 0 inside (differs (slice_index lengths y) n other) in
    let later : suc y ≡ y + 1 = omega arith in
    let next : v ≡ next_word lengths n (suc y) = omega (arith, counted, ap (λ k. count_by (λ l. l == n) (take k lengths)) later) in
    reached (block_means g table_entry) (TableAt lengths room n (suc y)) s s m m
    (comes-only g 26 (If is_entry entry_set end) s s m m
    (comes-else_branch g 26 is_entry entry_set end s m m (Value Onward s)
    (entry_tells g size lengths content d (pos v) n y m false small (unequal (slice_index lengths y) n other))
    (comes-end g s m)))
    (record {
      code = code;
      turn = pos y;
      s_is = ap (λ k. begun_at (pos k) (pos n) (pos y)) next;
      m_is = refl;
      fills = fills-same lengths code n y other f;
    })
  where
    unequal : (a b : ℕ) → Apart a b → int_eq (pos a) (pos b) ≡ false
    unequal a b (inl h) = grind (arith, ints, h)
    unequal a b (inr h) = grind (arith, ints, h)

    differs : (a b : ℕ) → Apart a b → (a == b) ≡ false
    differs a b (inl h) = grind (arith, nat_tests, h)
    differs a b (inr h) = grind (arith, nat_tests, h)

entry_turn : (g : Environment) (size : ℕ) (lengths content : List ℕ) → Decoding g size lengths content → (n y : ℕ) (s : State) (m : List ℤ) → 1 ≤ n → n ≤ 15 → y < 256 → TableAt lengths (room_for size content) n y s m
    → Reaches (block_means g table_entry) (TableAt lengths (room_for size content) n (suc y)) (with_slot 2 (pos y) s) m
entry_turn g size lengths content d n y s m some short small h =
    subst (λ (z : State × List ℤ). Reaches (block_means g table_entry) (TableAt lengths (room_for size content) n (suc y)) (with_slot 2 (pos y) z.0) z.1) (λ i. (sym h.s_is i, sym h.m_is i))
    (cases (same_or_apart (slice_index lengths y) n)
    (λ is. word_turn g size lengths content d n y h.code some short small h.fills is)
    (λ other. other_turn g size lengths content d n y h.code small h.fills other))

-- ---- all lengths

-- the table of the code words with fewer than n bits
pub record Shorter (lengths : List ℕ) (room n : ℕ) (s : State) (m : List ℤ) : Type 0 where
  pub code : List ℕ
  pub word : ℤ
  pub bits : ℤ
  pub turn : ℤ
  pub word_is : word ≡ pos (first_word lengths n)
  pub s_is : s ≡ begun_at word bits turn
  pub m_is : m ≡ map pos code ++ replicate room (pos 0)
  fills : Fills lengths code n 0

abbrev length_block : Block
length_block = on_line 25 (For 2 (number 0) (number 256) table_entry) (only 28 (Assign 0 (times (Local 0) (number 2))))

-- the last code word of n bits is followed by a zero
doubled : (g : Environment) (size : ℕ) (lengths content : List ℕ) → Decoding g size lengths content → (n : ℕ) (s : State) (m : List ℤ) → 1 ≤ n → n ≤ 15 → TableAt lengths (room_for size content) n 256 s m
    → Reaches (block_means g (only 28 (Assign 0 (times (Local 0) (number 2))))) (Shorter lengths (room_for size content) (suc n)) s m
doubled g size lengths content d n s m some short h =
    let room = room_for size content in
    let v = next_word lengths n 256 in
    let t = begun_at (pos v) (pos n) h.turn in
    let u = begun_at (pos (first_word lengths (suc n))) (pos n) h.turn in
    let counted : v ≡ first_word lengths n + words_of_length lengths n = ap (λ k. first_word lengths n + k) (ap (count_by (λ l. l == n)) (take_all 256 lengths (let l = d.many in omega (arith, l))) ∙ sym (words_are lengths n (omega (arith, some)))) in
    let next : v * 2 ≡ first_word lengths (suc n) = omega (arith, counted) in
    let fit = words_fit lengths n d.code short in
    let power = pow-le-pow_right {n = 2} two_some {i = n} {j = 15} short in
    subst (λ (z : State). Reaches (block_means g (only 28 (Assign 0 (times (Local 0) (number 2))))) (Shorter lengths room (suc n)) z m) (sym h.s_is)
    (reached (block_means g (only 28 (Assign 0 (times (Local 0) (number 2))))) (Shorter lengths room (suc n)) t u m m
    (comes-only g 28 (Assign 0 (times (Local 0) (number 2))) t u m m
    (comes-assign g 28 0 (times (Local 0) (number 2)) t m (pos (first_word lengths (suc n)))
    (gives-binary g 28 Mul (Local 0) (number 2) t m (pos v) (pos 2) (pos (first_word lengths (suc n))) (gives-local g 28 0 t m (pos v) refl) (gives-number g 28 (pos 2) t m)
    (product_ok v 2 (omega (arith, counted, fit, power)) ∙ ap (λ k. Ok (pos k)) next))))
    (record { code = h.code; word = pos (first_word lengths (suc n)); bits = pos n; turn = h.turn; word_is = refl; s_is = refl; m_is = h.m_is; fills = fills-next lengths h.code n d.many h.fills }))
  where
    two_some : 0 < 2
    two_some = omega arith

length_turn : (g : Environment) (size : ℕ) (lengths content : List ℕ) → Decoding g size lengths content → (n : ℕ) (s : State) (m : List ℤ) → 1 ≤ n → n ≤ 15 → Shorter lengths (room_for size content) n s m
    → Reaches (block_means g length_block) (Shorter lengths (room_for size content) (suc n)) (with_slot 1 (pos n) s) m
length_turn g size lengths content d n s m some short h =
    let room = room_for size content in
    let t = with_slot 1 (pos n) s in
    let none : first_word lengths n ≡ next_word lengths n 0 = omega arith in
    let begun : TableAt lengths room n 0 t m = record {
      code = h.code;
      turn = h.turn;
      s_is = ap (λ (z : State). with_slot 1 (pos n) z) h.s_is ∙ ap (λ k. begun_at k (pos n) h.turn) (h.word_is ∙ ap pos none);
      m_is = h.m_is;
      fills = h.fills;
    } in
    reaches-on g 25 (For 2 (number 0) (number 256) table_entry) (only 28 (Assign 0 (times (Local 0) (number 2)))) (TableAt lengths room n (0 + 256)) (Shorter lengths room (suc n)) t m
    (reaches-for g 25 2 (number 0) (number 256) table_entry (TableAt lengths room n (0 + 256)) t m 0 256 (gives-number g 25 (pos 0) t m) (gives-number g 25 (pos 256) t m)
    (for-reaches 2 (block_means g table_entry) (TableAt lengths room n) 0 256 (λ y a x low high q. entry_turn g size lengths content d n y a x some short (omega (arith, high)) q) t m begun))
    (λ a x q. doubled g size lengths content d n a x some short q)

-- the whole table
pub table-reaches : (g : Environment) (size : ℕ) (lengths content : List ℕ) → Decoding g size lengths content → (cells : ℕ) (s : State) → cells ≡ 65536 → s ≡ begun_at (pos 0) (pos 0) (pos 0)
    → Reaches (statement_means g 24 table) (Shorter lengths (room_for size content) 16) s (map pos (replicate cells 0) ++ replicate (room_for size content) (pos 0))
table-reaches g size lengths content d cells s many s_is =
    let room = room_for size content in
    let m = map pos (replicate cells 0) ++ replicate room (pos 0) in
    let begun : Shorter lengths room 1 s m = record { code = replicate cells 0; word = pos 0; bits = pos 0; turn = pos 0; word_is = refl; s_is = s_is; m_is = refl; fills = fills-none lengths cells many } in
    reaches-for g 24 1 (number 1) (number 16) length_block (Shorter lengths room (1 + 15)) s m 1 15 (gives-number g 24 (pos 1) s m) (gives-number g 24 (pos 16) s m)
    (for-reaches 1 (block_means g length_block) (Shorter lengths room) 1 15 (λ n a x low high q. length_turn g size lengths content d n a x low (omega (arith, high)) q) s m begun)

pub has_table : (lengths : List ℕ) (room : ℕ) (s : State) (m : List ℤ) → AreCodeLengths lengths → (h : Shorter lengths room 16 s m) → IsTable lengths h.code
has_table lengths room s m a h = fills-table lengths h.code a h.fills

pub table_long : (lengths : List ℕ) (room n : ℕ) (s : State) (m : List ℤ) → (h : Shorter lengths room n s m) → length h.code ≡ 65536
table_long lengths room n s m h = h.fills.long
