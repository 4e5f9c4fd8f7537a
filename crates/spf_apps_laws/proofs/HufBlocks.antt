-- The bytes and the blocks of the program that decodes HUF1.
use Rattle.std.proofs.Common.{◌≡◌, ℕ, suc, ◌+◌, ◌-◌, ◌*◌, ◌/◌, ◌%◌, ◌^◌, ◌<◌, ◌≤◌, Bool, true, false, List, ◌++◌, length, replicate, ℤ, pos, refl, ap, sym, ◌∙◌, subst, arith}
use Rattle.std.specs.Prelude.{◌==◌, slice_index, slice_index_or, int_lt}
use Rattle.std.proofs.lemmas.Int.{ints}
use Rattle.std.proofs.Math.Nat.{mul-suc, mul_assoc}
use Rattle.spf_ast_lemmas.proofs.Members.{cases}
use Rattle.spf_ast.specs.declared.syntax.Op.TheVariants.{Add, Sub, Mul}
use Rattle.spf_ast.specs.declared.syntax.Test.TheVariants.{Lt}
use Rattle.spf_ast.specs.Interaction.{Onward, State, Value, ◌>>◌}
use Rattle.spf_ast.specs.Syntax.{argument, no_more, Condition, Local, Len, Input, Compare, Let, Fill, If, For, end, on_line}
use Rattle.spf_ast.specs.Meaning.{arguments_mean, Environment, block_means, statement_means, condition_means, extent_in}
use Rattle.spf_ast_laws.proofs.Plainly.{Comes, comes-then}
use Rattle.spf_apps_formats.specs.Huffman.{bits_of}
use Rattle.spf_apps_programs.specs.Writing.{number, plus, only}
use Rattle.spf_apps_programs.specs.Huffman.{block_begin, bits_begin, bits_end, code_bytes, one_bit, byte_bits, one_byte, body}
use Rattle.spf_apps_laws.proofs.HufWords.{next_number, entry_at}
use Rattle.spf_apps_laws.proofs.HufIndices.{number_at, cells_before, cells_at, number_inside, number_small, cell_inside, cells_zero, table_word, bit_there, bits_long, stays_outside}
use Rattle.spf_apps_laws.proofs.HufTable.{room_for, Decoding}
use Rattle.spf_apps_laws.proofs.HufBits.{at, bit_index, less_ok, stored, stored-next, bit-comes}
use Rattle.spf_apps_laws.proofs.LexBody.{sum_ok, product_ok}
use Rattle.spf_apps_laws.proofs.Blocks.{in_or_out}
use Rattle.spf_apps_laws.proofs.Steps.{gives-row, Gives, gives-number, gives-local, gives-len, gives-input, gives-binary, tells, comes-let, comes-fill, comes-only, comes-end, comes-else_branch, zeros-stay, with_slot, Reaches, Yields, reached, reaches-on, reaches-end, reaches-for, reaches-then_branch, for-reaches}

-- the first index of a byte
abbrev byte_index : (size k i : ℕ) → ℕ
byte_index size k i = (8 * size) * k + 8 * i

eightfold : (size k : ℕ) → (8 * size) * k ≡ 8 * (size * k)
eightfold size k = mul_assoc 8 size k

index_is : (size k i j : ℕ) → bit_index size k i j ≡ 8 * (size * k + i) + j
index_is size k i j = let e = eightfold size k in omega (arith, e)

-- ---- the bits of a byte

record BitAt (size : ℕ) (code content : List ℕ) (k i j : ℕ) (s : State) (m : List ℤ) : Type 0 where
  v : ℤ
  t : ℤ
  y : ℤ
  carried : ℤ
  turn : ℤ
  s_is : s ≡ at v t y carried (pos k) (pos (number_at code (bits_of content) (bit_index size k i j))) (pos i) (pos (slice_index content (size * k + i))) turn
  m_is : m ≡ cells_at code (bits_of content) (room_for size content) (bit_index size k i j)

bit-turn : (g : Environment) (size : ℕ) (lengths content : List ℕ) → Decoding g size lengths content → (code : List ℕ) → length code ≡ 65536 → (k i j : ℕ) (s : State) (m : List ℤ) → j < 8 → size * k + i < length content → BitAt size code content k i j s m
    → Reaches (block_means g (one_bit size)) (BitAt size code content k i (suc j)) (with_slot 8 (pos j) s) m
bit-turn g size lengths content d code long k i j s m few there h =
    let all = bits_of content in
    let room = room_for size content in
    let q = size * k + i in
    let p = bit_index size k i j in
    let n = number_at code all p in
    let b = slice_index content q in
    let x = slice_index_or all p false in
    let p_is = index_is size k i j in
    let x_is : x ≡ (b / 2 ^ (7 - j) % 2 == 1) = ap (λ r. slice_index_or all r false) p_is ∙ bit_there content q j there few in
    let inside : p < length all = omega (arith, p_is, bits_long content, there, few) in
    let in_room : p < room = omega (arith, p_is, there, few) in
    let cells = cells_at code all room p in
    let next : suc p ≡ bit_index size k i (suc j) = omega arith in
    let begun = at h.v h.t h.y h.carried (pos k) (pos n) (pos i) (pos b) (pos j) in
    let after = at h.v h.t h.y h.carried (pos k) (pos (next_number code n x)) (pos i) (pos b) (pos j) in
    let bound = d.few in
    subst (λ (z : State × List ℤ). Reaches (block_means g (one_bit size)) (BitAt size code content k i (suc j)) (with_slot 8 (pos j) z.0) z.1) (λ r. (sym h.s_is r, sym h.m_is r))
    (reached (block_means g (one_bit size)) (BitAt size code content k i (suc j)) begun after cells (stored (entry_at code n x) p cells)
    (bit-comes g size room d.arrays h.v h.t h.y h.carried k i j n b x cells code (record { there = in_room; few = omega (arith, bound) })
    (λ r small. table_word code (cells_before code all p ++ replicate (room - p) (pos 0)) r (omega (arith, small, long)))
    (number_small code all p) few x_is)
    (record {
      v = h.v;
      t = h.t;
      y = h.y;
      carried = h.carried;
      turn = pos j;
      s_is = ap (λ r. at h.v h.t h.y h.carried (pos k) (pos r) (pos i) (pos b) (pos j)) (sym (number_inside code all p inside) ∙ ap (number_at code all) next);
      m_is = stored-next code all room p (entry_at code n x) long in_room (cell_inside code all p inside) ∙ ap (cells_at code all room) next;
    }))

-- ---- the bytes of a block

record ByteAt (size : ℕ) (code content : List ℕ) (k i : ℕ) (s : State) (m : List ℤ) : Type 0 where
  v : ℤ
  t : ℤ
  y : ℤ
  carried : ℤ
  index : ℤ
  byte : ℤ
  turn : ℤ
  s_is : s ≡ at v t y carried (pos k) (pos (number_at code (bits_of content) (byte_index size k i))) index byte turn
  m_is : m ≡ cells_at code (bits_of content) (room_for size content) (byte_index size k i)

abbrev is_inside : ℕ → Condition
is_inside size = Compare Lt (plus (block_begin size) (Local 6)) code_bytes

gives-begin : (g : Environment) (line size k : ℕ) (s : State) (m : List ℤ) → slice_index_or s.slots 4 (pos 0) ≡ pos k → size * k ≤ 4194304 → Gives g line (block_begin size) s m (pos (size * k))
gives-begin g line size k s m e h =
    gives-binary g line Mul (number size) (Local 4) s m (pos size) (pos k) (pos (size * k)) (gives-number g line (pos size) s m) (gives-local g line 4 s m (pos k) e) (product_ok size k (omega (arith, h)))

pub gives-content : (g : Environment) (line : ℕ) (s : State) (m : List ℤ) (n : ℕ) → length g.input ≡ 264 + n → n ≤ 4194304 → Gives g line code_bytes s m (pos n)
gives-content g line s m n long h =
    gives-binary g line Sub Len (number 264) s m (pos (length g.input)) (pos 264) (pos n) (gives-len g line s m) (gives-number g line (pos 264) s m) (less_ok (length g.input) 264 n long (omega (arith, h)))

inside_tells : (g : Environment) (size : ℕ) (lengths content : List ℕ) → Decoding g size lengths content → (k i : ℕ) (s : State) (m : List ℤ) (holds : Bool) → slice_index_or s.slots 4 (pos 0) ≡ pos k → slice_index_or s.slots 6 (pos 0) ≡ pos i → size * k + i ≤ 4194304 → int_lt (pos (size * k + i)) (pos (length content)) ≡ holds
    → Comes (condition_means g 34 (is_inside size)) s m (Value holds s) m
inside_tells g size lengths content d k i s m holds k_is i_is small e =
    let few = d.few in
    tells g 34 Lt (plus (block_begin size) (Local 6)) code_bytes s m (pos (size * k + i)) (pos (length content)) holds
    (gives-binary g 34 Add (block_begin size) (Local 6) s m (pos (size * k)) (pos i) (pos (size * k + i)) (gives-begin g 34 size k s m k_is (omega (arith, small))) (gives-local g 34 6 s m (pos i) i_is) (sum_ok (size * k) i (omega (arith, small))))
    (gives-content g 34 s m (length content) d.long (omega (arith, few))) e

-- a byte of the content
byte-inside : (g : Environment) (size : ℕ) (lengths content : List ℕ) → Decoding g size lengths content → (code : List ℕ) → length code ≡ 65536 → (k i : ℕ) (v t y c b z : ℤ) → size * k + i < length content
    → Reaches (block_means g (one_byte size)) (ByteAt size code content k (suc i)) (at v t y c (pos k) (pos (number_at code (bits_of content) (byte_index size k i))) (pos i) b z) (cells_at code (bits_of content) (room_for size content) (byte_index size k i))
byte-inside g size lengths content d code long k i v t y c b z there =
    let all = bits_of content in
    let room = room_for size content in
    let q = size * k + i in
    let low = byte_index size k i in
    let m = cells_at code all room low in
    let n = pos (number_at code all low) in
    let s = at v t y c (pos k) n (pos i) b z in
    let byte = slice_index content q in
    let u = at v t y c (pos k) n (pos i) (pos byte) z in
    let few = d.few in
    let length_is = d.long in
    let inside : int_lt (pos q) (pos (length content)) ≡ true = grind (arith, ints, there) in
    let index = plus (plus (number 264) (block_begin size)) (Local 6) in
    let far : (264 + size * k) + i ≡ 264 + q = omega arith in
    let read : Gives g 35 (Input index) s m (pos byte) =
    subst (λ w. Gives g 35 (Input index) s m (pos w)) (ap (slice_index g.input) far ∙ d.byte_at q)
    (gives-input g 35 index s m ((264 + size * k) + i)
    (gives-binary g 35 Add (plus (number 264) (block_begin size)) (Local 6) s m (pos (264 + size * k)) (pos i) (pos ((264 + size * k) + i))
    (gives-binary g 35 Add (number 264) (block_begin size) s m (pos 264) (pos (size * k)) (pos (264 + size * k)) (gives-number g 35 (pos 264) s m) (gives-begin g 35 size k s m refl (omega (arith, there, few))) (sum_ok 264 (size * k) (omega (arith, there, few))))
    (gives-local g 35 6 s m (pos i) refl) (sum_ok (264 + size * k) i (omega (arith, there, few))))
    (omega (arith, there, length_is))) in
    let first : low ≡ bit_index size k i 0 = omega arith in
    let last : bit_index size k i (0 + 8) ≡ byte_index size k (suc i) = omega arith in
    let begun : BitAt size code content k i 0 u m = record {
      v = v;
      t = t;
      y = y;
      carried = c;
      turn = z;
      s_is = ap (λ r. at v t y c (pos k) (pos (number_at code all r)) (pos i) (pos byte) z) first;
      m_is = ap (cells_at code all room) first;
    } in
    let bits = For 8 (number 0) (number 8) (one_bit size) in
    reaches-on g 34 (If (is_inside size) (byte_bits size) end) end (ByteAt size code content k (suc i)) (ByteAt size code content k (suc i)) s m
    (reaches-then_branch g 34 (is_inside size) (byte_bits size) end (ByteAt size code content k (suc i)) s m
    (inside_tells g size lengths content d k i s m true refl refl (omega (arith, there, few)) inside)
    (reaches-on g 35 (Let 7 (Input index)) (only 36 bits) (λ a x. (a ≡ u) × (x ≡ m)) (ByteAt size code content k (suc i)) s m
    (reached (statement_means g 35 (Let 7 (Input index))) (λ a x. (a ≡ u) × (x ≡ m)) s u m m (comes-let g 35 7 (Input index) s m (pos byte) read) (refl, refl))
    (λ a x e. subst (λ (w : State × List ℤ). Reaches (block_means g (only 36 bits)) (ByteAt size code content k (suc i)) w.0 w.1) (λ r. (sym e.0 r, sym e.1 r))
    (reaches-on g 36 bits end (BitAt size code content k i (0 + 8)) (ByteAt size code content k (suc i)) u m
    (reaches-for g 36 8 (number 0) (number 8) (one_bit size) (BitAt size code content k i (0 + 8)) u m 0 8 (gives-number g 36 (pos 0) u m) (gives-number g 36 (pos 8) u m)
    (for-reaches 8 (block_means g (one_bit size)) (BitAt size code content k i) 0 8 (λ j a2 x2 low2 high2 h. bit-turn g size lengths content d code long k i j a2 x2 (omega (arith, high2)) there h) u m begun))
    (λ a2 x2 h. reaches-end g (ByteAt size code content k (suc i)) a2 x2 (record {
      v = h.v;
      t = h.t;
      y = h.y;
      carried = h.carried;
      index = pos i;
      byte = pos byte;
      turn = h.turn;
      s_is = h.s_is ∙ ap (λ r. at h.v h.t h.y h.carried (pos k) (pos (number_at code all r)) (pos i) (pos byte) h.turn) last;
      m_is = h.m_is ∙ ap (cells_at code all room) last;
    }))))))
    (λ a x h. reaches-end g (ByteAt size code content k (suc i)) a x h)

-- an index after the content
byte-outside : (g : Environment) (size : ℕ) (lengths content : List ℕ) → Decoding g size lengths content → (code : List ℕ) (k i : ℕ) (v t y c b z : ℤ) → i < size → size * k < length content → length content ≤ size * k + i
    → Reaches (block_means g (one_byte size)) (ByteAt size code content k (suc i)) (at v t y c (pos k) (pos (number_at code (bits_of content) (byte_index size k i))) (pos i) b z) (cells_at code (bits_of content) (room_for size content) (byte_index size k i))
byte-outside g size lengths content d code k i v t y c b z within there out =
    let all = bits_of content in
    let room = room_for size content in
    let q = size * k + i in
    let low = byte_index size k i in
    let m = cells_at code all room low in
    let n = pos (number_at code all low) in
    let s = at v t y c (pos k) n (pos i) b z in
    let few = d.few in
    let eight = eightfold size k in
    let inside : int_lt (pos q) (pos (length content)) ≡ false = grind (arith, ints, out) in
    let next : low + 8 ≡ byte_index size k (suc i) = omega arith in
    let stays = stays_outside code all room low 8 (omega (arith, out, bits_long content, eight)) (omega (arith, there, within, eight)) in
    reached (block_means g (one_byte size)) (ByteAt size code content k (suc i)) s s m m
    (comes-only g 34 (If (is_inside size) (byte_bits size) end) s s m m
    (comes-else_branch g 34 (is_inside size) (byte_bits size) end s m m (Value Onward s)
    (inside_tells g size lengths content d k i s m false refl refl (omega (arith, there, within, few)) inside)
    (comes-end g s m)))
    (record {
      v = v;
      t = t;
      y = y;
      carried = c;
      index = pos i;
      byte = b;
      turn = z;
      s_is = ap (λ r. at v t y c (pos k) (pos r) (pos i) b z) (sym stays.0 ∙ ap (number_at code all) next);
      m_is = stays.1 ∙ ap (cells_at code all room) next;
    })

byte-turn : (g : Environment) (size : ℕ) (lengths content : List ℕ) → Decoding g size lengths content → (code : List ℕ) → length code ≡ 65536 → (k i : ℕ) (s : State) (m : List ℤ) → i < size → size * k < length content → ByteAt size code content k i s m
    → Reaches (block_means g (one_byte size)) (ByteAt size code content k (suc i)) (with_slot 6 (pos i) s) m
byte-turn g size lengths content d code long k i s m within there h =
    subst (λ (z : State × List ℤ). Reaches (block_means g (one_byte size)) (ByteAt size code content k (suc i)) (with_slot 6 (pos i) z.0) z.1) (λ r. (sym h.s_is r, sym h.m_is r))
    (cases (in_or_out (size * k + i) (length content))
    (λ inside. byte-inside g size lengths content d code long k i h.v h.t h.y h.carried h.byte h.turn inside)
    (λ outside. byte-outside g size lengths content d code k i h.v h.t h.y h.carried h.byte h.turn within there outside))

-- ---- a block

-- the blocks before this one were run
pub record BlockAt (size : ℕ) (code content : List ℕ) (k : ℕ) (s : State) (m : List ℤ) : Type 0 where
  pub v : ℤ
  pub t : ℤ
  pub y : ℤ
  pub carried : ℤ
  pub block : ℤ
  pub h : ℤ
  pub index : ℤ
  pub byte : ℤ
  pub turn : ℤ
  pub s_is : s ≡ at v t y carried block h index byte turn
  pub m_is : m ≡ cells_at code (bits_of content) (room_for size content) ((8 * size) * k)

-- the carried word at a block
abbrev pub carried_at : (size : ℕ) (code content : List ℕ) (k : ℕ) → ℤ
carried_at size code content k = pos (number_at code (bits_of content) ((8 * size) * k))

gives-bits : (g : Environment) (line size k : ℕ) (s : State) (m : List ℤ) → slice_index_or s.slots 4 (pos 0) ≡ pos k → (8 * size) * k ≤ 4194304 → Gives g line (bits_begin size) s m (pos ((8 * size) * k))
gives-bits g line size k s m e h =
    gives-binary g line Mul (number (8 * size)) (Local 4) s m (pos (8 * size)) (pos k) (pos ((8 * size) * k)) (gives-number g line (pos (8 * size)) s m) (gives-local g line 4 s m (pos k) e) (product_ok (8 * size) k (omega (arith, h)))

gives-end : (g : Environment) (line size k : ℕ) (s : State) (m : List ℤ) → slice_index_or s.slots 4 (pos 0) ≡ pos k → (8 * size) * k + 8 * size ≤ 4194304 → Gives g line (bits_end size) s m (pos ((8 * size) * k + 8 * size))
gives-end g line size k s m e h =
    gives-binary g line Add (bits_begin size) (number (8 * size)) s m (pos ((8 * size) * k)) (pos (8 * size)) (pos ((8 * size) * k + 8 * size)) (gives-bits g line size k s m e (omega (arith, h))) (gives-number g line (pos (8 * size)) s m) (sum_ok ((8 * size) * k) (8 * size) (omega (arith, h)))

-- the cells of a block are 0 before it
block-filled : (g : Environment) (size : ℕ) (lengths content : List ℕ) → Decoding g size lengths content → (code : List ℕ) → length code ≡ 65536 → (k : ℕ) (s : State) (m : List ℤ) → size * k < length content → slice_index_or s.slots 4 (pos 0) ≡ pos k → m ≡ cells_at code (bits_of content) (room_for size content) ((8 * size) * k)
    → Comes (statement_means g 31 (Fill 1 (bits_begin size) (bits_end size) (number 0))) s m (Value Onward s) m
block-filled g size lengths content d code long k s m there k_is m_is =
    let all = bits_of content in
    let room = room_for size content in
    let low = (8 * size) * k in
    let eight = eightfold size k in
    let few = d.few in
    let base = d.arrays.sym_first in
    let has = d.arrays.sym_room in
    comes-fill g 31 1 (bits_begin size) (bits_end size) (number 0) s m m low (low + 8 * size) (pos 0)
    (gives-bits g 31 size k s m k_is (omega (arith, there, eight, few))) (gives-end g 31 size k s m k_is (omega (arith, there, eight, few))) (gives-number g 31 (pos 0) s m) (omega arith) (omega (arith, there, eight, has))
    (zeros-stay ((extent_in g.extents 1).0 + low) ((low + 8 * size) - low) s m
    (λ c n. ap (λ (l : List ℤ). slice_index_or l c (pos 0)) m_is ∙ cells_zero code all 65536 room low c long (omega (arith, n, base))))

-- a block of the content
pub block-yields : (g : Environment) (size : ℕ) (lengths content : List ℕ) → Decoding g size lengths content → (code : List ℕ) → length code ≡ 65536 → (k : ℕ) → size * k < length content → (s : State) (m : List ℤ) → BlockAt size code content k s m
    → Yields (block_means g (body size) >> arguments_mean g 45 (argument (Local 5) no_more)) (carried_at size code content (suc k)) (BlockAt size code content (suc k)) (with_slot 3 (carried_at size code content k) (with_slot 4 (pos k) s)) m
block-yields g size lengths content d code long k there s m h =
    let all = bits_of content in
    let room = room_for size content in
    let low = (8 * size) * k in
    let c = carried_at size code content k in
    let t = with_slot 3 c (with_slot 4 (pos k) s) in
    let t_is = ap (λ (z : State). with_slot 3 c (with_slot 4 (pos k) z)) h.s_is in
    let block_is : slice_index_or t.slots 4 (pos 0) ≡ pos k = ap (λ (z : State). slice_index_or z.slots 4 (pos 0)) t_is in
    let u = with_slot 5 c t in
    let u_is = ap (λ (z : State). with_slot 5 c z) t_is in
    let first : low ≡ byte_index size k 0 = omega arith in
    let begun : ByteAt size code content k 0 u m = record {
      v = h.v;
      t = h.t;
      y = h.y;
      carried = c;
      index = h.index;
      byte = h.byte;
      turn = h.turn;
      s_is = u_is ∙ ap (λ r. at h.v h.t h.y c (pos k) (pos (number_at code all r)) h.index h.byte h.turn) first;
      m_is = h.m_is ∙ ap (cells_at code all room) first;
    } in
    let next : byte_index size k (0 + size) ≡ (8 * size) * suc k = omega (arith, mul-suc (8 * size) k) in
    let whole : size ≡ 0 + size = omega arith in
    let filled = Fill 1 (bits_begin size) (bits_end size) (number 0) in
    let bytes = For 6 (number 0) (number size) (one_byte size) in
    let far = ByteAt size code content k (0 + size) in
    let r : Reaches (block_means g (body size)) far t m =
    reaches-on g 31 filled (on_line 32 (Let 5 (Local 3)) (only 33 bytes)) (λ a b. (a ≡ t) × (b ≡ m)) far t m
    (reached (statement_means g 31 filled) (λ a b. (a ≡ t) × (b ≡ m)) t t m m (block-filled g size lengths content d code long k t m there block_is h.m_is) (refl, refl))
    (λ a b e. subst (λ (z : State × List ℤ). Reaches (block_means g (on_line 32 (Let 5 (Local 3)) (only 33 bytes))) far z.0 z.1) (λ i. (sym e.0 i, sym e.1 i))
    (reaches-on g 32 (Let 5 (Local 3)) (only 33 bytes) (λ a2 b2. (a2 ≡ u) × (b2 ≡ m)) far t m
    (reached (statement_means g 32 (Let 5 (Local 3))) (λ a2 b2. (a2 ≡ u) × (b2 ≡ m)) t u m m (comes-let g 32 5 (Local 3) t m c (gives-local g 32 3 t m c (ap (λ (z : State). slice_index_or z.slots 3 (pos 0)) t_is))) (refl, refl))
    (λ a2 b2 e2. subst (λ (z : State × List ℤ). Reaches (block_means g (only 33 bytes)) far z.0 z.1) (λ i. (sym e2.0 i, sym e2.1 i))
    (reaches-on g 33 bytes end far far u m
    (reaches-for g 33 6 (number 0) (number size) (one_byte size) far u m 0 size (gives-number g 33 (pos 0) u m) (subst (λ n. Gives g 33 (number size) u m (pos n)) whole (gives-number g 33 (pos size) u m))
    (for-reaches 6 (block_means g (one_byte size)) (ByteAt size code content k) 0 size (λ i a3 b3 from to q. byte-turn g size lengths content d code long k i a3 b3 (omega (arith, to)) there q) u m begun))
    (λ a3 b3 q. reaches-end g far a3 b3 q))))) in
    let at_end = r.holds in
    record {
      state = r.state;
      memory = r.memory;
      comes = comes-then (λ _. arguments_mean g 45 (argument (Local 5) no_more)) r.comes (gives-row g 45 (Local 5) r.state r.memory (carried_at size code content (suc k)) (gives-local g 45 5 r.state r.memory (carried_at size code content (suc k)) (ap (λ (z : State). slice_index_or z.slots 5 (pos 0)) at_end.s_is ∙ ap (λ n. pos (number_at code all n)) next)));
      holds = record {
        v = at_end.v;
        t = at_end.t;
        y = at_end.y;
        carried = at_end.carried;
        block = pos k;
        h = pos (number_at code all (byte_index size k (0 + size)));
        index = at_end.index;
        byte = at_end.byte;
        turn = at_end.turn;
        s_is = at_end.s_is;
        m_is = at_end.m_is ∙ ap (cells_at code all room) next;
      };
    }
