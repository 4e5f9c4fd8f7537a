-- The program that decodes HUF1, from its start to its end.
use Rattle.std.proofs.Common.{◌≡◌, ℕ, zero, suc, ◌+◌, ◌-◌, ◌*◌, ◌<◌, ◌≤◌, false, List, [], ◌∷◌, ◌++◌, length, take, drop, map, replicate, Err, ℤ, pos, refl, ap, sym, ◌∙◌, subst, arith, get_or-set_same, get_or-set_other, get_or-drop, length-drop}
use Rattle.std.specs.Prelude.{nat_lt, if◌then◌else◌, slice_index, ◌+ℤ◌, ◌*ℤ◌, int_div}
use Rattle.std.specs.Int.{int_gap, from_be_bytes, w32}
use Rattle.std.specs.Ordering.{int_eq}
use Rattle.std.proofs.lemmas.Int.{ints}
use Rattle.std.proofs.lemmas.List.{length-set, length-take-le, get_or-take, take_all}
use Rattle.std.proofs.lemmas.Bool.Decides.{nat_tests}
use Rattle.std.proofs.Math.Nat.{div-le_self, mul_assoc}
use Rattle.spf_ast.specs.declared.outcome.TrapKind.TheVariants as trap
use Rattle.spf_ast.specs.declared.syntax.Op.TheVariants.{Add, Div}
use Rattle.spf_ast.specs.Word.{exact}
use Rattle.spf_ast.specs.Interaction.{State, Value, ◌>>=◌, ◌>>◌}
use Rattle.spf_ast.specs.Syntax.{argument, no_more, Local, Let, Fold, on_line}
use Rattle.spf_ast.specs.Meaning.{arguments_mean, sets_row, Environment, block_means, statement_means, expression_means, fold_range, fold_blocks, max_blocks, traps}
use Rattle.spf_ast.specs.Program.{environment_of, start_of, zeros_of, cell_count_of, size_or_none, outcome, outcome_from}
use Rattle.spf_ast_laws.proofs.Plainly.{Comes, comes-then}
use Rattle.spf_apps_formats.specs.Huffman.{bits_of}
use Rattle.spf_apps_formats.specs.Huf1.{IsHuf1, lengths_of}
use Rattle.spf_apps_formats.specs.Decoded.{count_of, IsDecoded}
use Rattle.spf_apps_programs.specs.Writing.{number, plus, only, blocks_for}
use Rattle.spf_apps_programs.specs.Huffman.{code_bytes, table, head, body, output, wanted, symbols_out, too_few, main, huffman_program}
use Rattle.spf_apps_laws.specs.Fitting.{FitsHuffman}
use Rattle.spf_apps_laws.specs.Laws.{HuffmanDecodes}
use Rattle.spf_apps_laws.proofs.Indices.{bytes_small}
use Rattle.spf_apps_laws.proofs.Whole.{blocks_of, blocks_few, block_inside, blocks_enough}
use Rattle.spf_apps_laws.proofs.HufWords.{IsTable, found_decoded}
use Rattle.spf_apps_laws.proofs.HufIndices.{number_at, found_before, found_all, cells_at, bits_long}
use Rattle.spf_apps_laws.proofs.HufTable.{room_for, Arrays, Decoding, begun_at, Shorter, table-reaches, has_table, table_long}
use Rattle.spf_apps_laws.proofs.HufBlocks.{BlockAt, carried_at, gives-content, block-yields}
use Rattle.spf_apps_laws.proofs.HufOutput.{four_bytes, gives-wanted, Written, symbols-written, Ended, few-ends}
use Rattle.spf_apps_laws.proofs.LexBody.{sum_ok}
use Rattle.spf_apps_laws.proofs.Steps.{gives-row, comes-sets_row, main_ending, main-comes, below_differs, Gives, gives-number, gives-binary, comes-let, with_slot, Reaches, reached, fold-yields, gap-is, word-ok, Ends, ends-on}

-- ---- the fold

gives-blocks : (g : Environment) (size : ℕ) (lengths content : List ℕ) → Decoding g size lengths content → (s : State) (m : List ℤ) → Gives g 30 (blocks_for code_bytes size) s m (pos (blocks_of (length content) size))
gives-blocks g size lengths content d s m =
    let n = length content in
    let some = d.some in
    let few = d.few in
    let other : int_eq (pos size) (pos 0) ≡ false = grind (arith, ints, some) in
    let small = div-le_self (n + (size - 1)) size in
    gives-binary g 30 Div (plus code_bytes (number (size - 1))) (number size) s m (pos (n + (size - 1))) (pos size) (pos (blocks_of n size))
    (gives-binary g 30 Add code_bytes (number (size - 1)) s m (pos n) (pos (size - 1)) (pos (n + (size - 1))) (gives-content g 30 s m n d.long (omega (arith, few))) (gives-number g 30 (pos (size - 1)) s m) (sum_ok n (size - 1) (omega (arith, few))))
    (gives-number g 30 (pos size) s m)
    (ap (λ t. if t then Err trap.DivZero else exact (int_div (pos (n + (size - 1))) (pos size))) other ∙ word-ok (blocks_of n size) (omega (arith, small, few)))

fold-comes : (g : Environment) (size : ℕ) (lengths content : List ℕ) → Decoding g size lengths content → (code : List ℕ) → length code ≡ 65536 → length content ≤ 4096 * size → (s : State) (m : List ℤ) → BlockAt size code content 0 s m
    → Reaches (statement_means g 30 (Fold (head size) (body size))) (BlockAt size code content (blocks_of (length content) size)) s m
fold-comes g size lengths content d code long limit s m h =
    let n = length content in
    let count = blocks_of n size in
    let values : ℕ → ℤ = carried_at size code content in
    let form = block_means g (body size) >> arguments_mean g 45 (argument (Local 5) no_more) in
    let none : (8 * size) * 0 ≡ 0 = omega arith in
    let first : values 0 ≡ pos 1 = ap (λ k. pos (number_at code (bits_of content) k)) none in
    let all : 0 + count ≡ count = omega arith in
    let gap : int_gap (pos 0) (pos count) ≡ count = subst (λ c. int_gap (pos 0) (pos c) ≡ count) all (gap-is 0 count) in
    let some = d.some in
    let enough : nat_lt max_blocks count ≡ false = let few = blocks_few n size some limit in grind (arith, nat_tests, few) in
    let y = fold-yields 4 3 form values (BlockAt size code content) 0 count (λ k t x low high q. block-yields g size lengths content d code long k (block_inside n size k some (omega (arith, high))) t x q) s m h in
    let last = values (0 + count) in
    let blocks : Comes (fold_blocks count (pos 0) 4 (3 ∷ []) (pos 1 ∷ []) form) s m (Value (last ∷ []) y.state) y.memory =
    subst (λ v. Comes (fold_blocks count (pos 0) 4 (3 ∷ []) (v ∷ []) form) s m (Value (last ∷ []) y.state) y.memory) first y.comes in
    let top = head size in
    let range : Comes (fold_range 30 top (pos 1 ∷ []) (pos 0) (pos count) form) s m (Value (last ∷ []) y.state) y.memory =
    subst (λ c. Comes (if nat_lt max_blocks c then traps trap.Blocks 30 else fold_blocks c (pos 0) 4 (3 ∷ []) (pos 1 ∷ []) form) s m (Value (last ∷ []) y.state) y.memory) (sym gap)
    (subst (λ t. Comes (if t then traps trap.Blocks 30 else fold_blocks count (pos 0) 4 (3 ∷ []) (pos 1 ∷ []) form) s m (Value (last ∷ []) y.state) y.memory) (sym enough) blocks) in
    let counted = blocks_for code_bytes size in
    let at_end = y.holds in
    reached (statement_means g 30 (Fold top (body size))) (BlockAt size code content count) s (with_slot 3 last y.state) m y.memory
    (comes-then (λ start. expression_means g 30 (number 0) >>= λ low. expression_means g 30 counted >>= λ high. fold_range 30 top start low high form >>= sets_row (3 ∷ [])) (gives-row g 30 (number 1) s m (pos 1) (gives-number g 30 (pos 1) s m))
    (comes-then (λ low. expression_means g 30 counted >>= λ high. fold_range 30 top (pos 1 ∷ []) low high form >>= sets_row (3 ∷ [])) (gives-number g 30 (pos 0) s m)
    (comes-then (λ high. fold_range 30 top (pos 1 ∷ []) (pos 0) high form >>= sets_row (3 ∷ [])) (gives-blocks g size lengths content d s m)
    (comes-then (sets_row (3 ∷ [])) range (comes-sets_row 3 last y.state y.memory)))))
    (record {
      v = at_end.v;
      t = at_end.t;
      y = at_end.y;
      carried = last;
      block = at_end.block;
      h = at_end.h;
      index = at_end.index;
      byte = at_end.byte;
      turn = at_end.turn;
      s_is = ap (λ (z : State). with_slot 3 last z) at_end.s_is;
      m_is = at_end.m_is ∙ ap (λ k. cells_at code (bits_of content) (room_for size content) ((8 * size) * k)) all;
    })

-- ---- the output

output-ends : (g : Environment) (size : ℕ) (lengths content : List ℕ) → Decoding g size lengths content → ((i : ℕ) → slice_index g.input i < 256) → (code : List ℕ) → length code ≡ 65536 → IsTable lengths code → (want : ℕ)
    → want ≡ four_bytes (slice_index g.input 260) (slice_index g.input 261) (slice_index g.input 262) (slice_index g.input 263)
    → (s : State) (m : List ℤ) → BlockAt size code content (blocks_of (length content) size) s m
    → Ends (block_means g output) (Ended (take want (found_before code (bits_of content) (8 * length content))) want) s m
output-ends g size lengths content d bytes code long holds want want_is s m h =
    let n = length content in
    let far = (8 * size) * blocks_of n size in
    let all = bits_of content in
    let cells = cells_at code all (room_for size content) far in
    let ended = Ended (take want (found_before code all (8 * n))) want in
    let rest48 = on_line 48 (Let 10 (number 0)) (on_line 49 symbols_out (only 52 too_few)) in
    let rest49 = on_line 49 symbols_out (only 52 too_few) in
    let t = with_slot 9 (pos want) s in
    let u = with_slot 10 (pos 0) t in
    let length_is = d.long in
    let enough : 8 * n ≤ far = omega (arith, blocks_enough n size d.some, mul_assoc 8 size (blocks_of n size)) in
    let slots = ap (λ (z : State). length z.slots) h.s_is in
    let t_long = length-set s.slots 9 (pos want) ∙ slots in
    let none = ap (λ (z : State). z.output) h.s_is in
    let begun : Written code all cells want 0 u m = record {
      output_is = none ∙ sym (take_all want (found_before code all 0) (omega arith));
      got_is = get_or-set_same t.slots 10 (pos 0) (pos 0) (omega (arith, t_long)) ∙ ap (λ (l : List ℕ). pos (length l)) (sym none);
      want_is = get_or-set_other t.slots 10 9 (pos 0) (pos 0) (below_differs 9 10 (omega arith)) ∙ get_or-set_same s.slots 9 (pos want) (pos 0) (omega (arith, slots));
      slots_are = length-set t.slots 10 (pos 0) ∙ t_long;
      memory_is = h.m_is;
    } in
    ends-on g 47 (Let 9 wanted) rest48 (λ a x. (a ≡ t) × (x ≡ m)) ended s m
    (reached (statement_means g 47 (Let 9 wanted)) (λ a x. (a ≡ t) × (x ≡ m)) s t m m
    (comes-let g 47 9 wanted s m (pos want) (subst (λ k. Gives g 47 wanted s m (pos k)) (sym want_is) (gives-wanted g s m (omega (arith, length_is)) bytes))) (refl, refl))
    (λ a x e. subst (λ (z : State × List ℤ). Ends (block_means g rest48) ended z.0 z.1) (λ i. (sym e.0 i, sym e.1 i))
    (ends-on g 48 (Let 10 (number 0)) rest49 (λ a2 x2. (a2 ≡ u) × (x2 ≡ m)) ended t m
    (reached (statement_means g 48 (Let 10 (number 0))) (λ a2 x2. (a2 ≡ u) × (x2 ≡ m)) t u m m (comes-let g 48 10 (number 0) t m (pos 0) (gives-number g 48 (pos 0) t m)) (refl, refl))
    (λ a2 x2 e2. subst (λ (z : State × List ℤ). Ends (block_means g rest49) ended z.0 z.1) (λ i. (sym e2.0 i, sym e2.1 i))
    (ends-on g 49 symbols_out (only 52 too_few) (Written code all cells want (8 * n)) ended u m
    (symbols-written g size lengths content code d long holds far want u m enough begun)
    (λ a3 x3 w. few-ends g code all cells want (8 * n) a3 x3 w)))))

-- ---- the program

-- zeros in two parts
zeros_split : (n r : ℕ) → replicate (n + r) (pos 0) ≡ map pos (replicate n 0) ++ replicate r (pos 0)
zeros_split zero r = ap (λ k. replicate k (pos 0)) (let e : 0 + r ≡ r = omega arith in e)
zeros_split (suc n) r = ap (λ k. replicate k (pos 0)) (let e : suc n + r ≡ suc (n + r) = omega arith in e) ∙ ap (λ l. pos 0 ∷ l) (zeros_split n r)

main-ends : (g : Environment) (size : ℕ) (lengths content symbols : List ℕ) → Decoding g size lengths content → ((i : ℕ) → slice_index g.input i < 256) → length content ≤ 4096 * size
    → ((code : List ℕ) → IsTable lengths code → found_before code (bits_of content) (8 * length content) ≡ symbols) → (want : ℕ)
    → want ≡ four_bytes (slice_index g.input 260) (slice_index g.input 261) (slice_index g.input 262) (slice_index g.input 263)
    → (cells : ℕ) → cells ≡ 65536
    → Ends (block_means g (main size)) (Ended (take want symbols) want) (begun_at (pos 0) (pos 0) (pos 0)) (map pos (replicate cells 0) ++ replicate (room_for size content) (pos 0))
main-ends g size lengths content symbols d bytes limit found want want_is cells many =
    let room = room_for size content in
    let n = length content in
    let s = begun_at (pos 0) (pos 0) (pos 0) in
    let m = map pos (replicate cells 0) ++ replicate room (pos 0) in
    let ended = Ended (take want symbols) want in
    let rest30 = on_line 30 (Fold (head size) (body size)) output in
    let rest24 = on_line 24 table rest30 in
    ends-on g 23 (Let 0 (number 0)) rest24 (λ a x. (a ≡ s) × (x ≡ m)) ended s m
    (reached (statement_means g 23 (Let 0 (number 0))) (λ a x. (a ≡ s) × (x ≡ m)) s s m m (comes-let g 23 0 (number 0) s m (pos 0) (gives-number g 23 (pos 0) s m)) (refl, refl))
    (λ a x e. subst (λ (z : State × List ℤ). Ends (block_means g rest24) ended z.0 z.1) (λ i. (sym e.0 i, sym e.1 i))
    (ends-on g 24 table rest30 (Shorter lengths room 16) ended s m
    (table-reaches g size lengths content d cells s many refl)
    (λ t y h. after_table t y h)))
  where
    after_table : (t : State) (y : List ℤ) → Shorter lengths (room_for size content) 16 t y → Ends (block_means g (on_line 30 (Fold (head size) (body size)) output)) (Ended (take want symbols) want) t y
    after_table t y h =
        let code = h.code in
        let room = room_for size content in
        let long = table_long lengths room 16 t y h in
        let table_is = has_table lengths room t y d.code h in
        let none : room ≡ room - 0 = omega arith in
        let first : 0 ≡ (8 * size) * 0 = omega arith in
        let begun : BlockAt size code content 0 t y = record {
          v = h.word;
          t = h.bits;
          y = h.turn;
          carried = pos 0;
          block = pos 0;
          h = pos 0;
          index = pos 0;
          byte = pos 0;
          turn = pos 0;
          s_is = h.s_is;
          m_is = h.m_is ∙ ap (λ n. map pos code ++ replicate n (pos 0)) none ∙ ap (cells_at code (bits_of content) room) first;
        } in
        ends-on g 30 (Fold (head size) (body size)) output (BlockAt size code content (blocks_of (length content) size)) (Ended (take want symbols) want) t y
        (fold-comes g size lengths content d code long limit t y begun)
        (λ u z q. subst (λ l. Ends (block_means g output) (Ended (take want l) want) u z) (found code table_is)
        (output-ends g size lengths content d bytes code long table_is want want_is u z q))

-- ---- the header

four : (xs : List ℕ) → 4 ≤ length xs → from_be_bytes w32 (take 4 xs) ≡ four_bytes (slice_index xs 0) (slice_index xs 1) (slice_index xs 2) (slice_index xs 3)
four [] h = absurd (omega (arith, h))
four (a ∷ []) h = absurd (omega (arith, h))
four (a ∷ b ∷ []) h = absurd (omega (arith, h))
four (a ∷ b ∷ c ∷ []) h = absurd (omega (arith, h))
four (a ∷ b ∷ c ∷ d ∷ xs) h = omega arith

count_is : (file : List ℕ) → 264 ≤ length file → count_of file ≡ four_bytes (slice_index file 260) (slice_index file 261) (slice_index file 262) (slice_index file 263)
count_is file long =
    four (drop 260 file) (omega (arith, long, length-drop 260 file))
    ∙ (λ i. four_bytes (get_or-drop 260 file 0 0 i) (get_or-drop 260 file 1 0 i) (get_or-drop 260 file 2 0 i) (get_or-drop 260 file 3 0 i))

code_cells : (len : ℕ) → size_or_none (pos 0 *ℤ pos len +ℤ pos 65536) ≡ 65536
code_cells len = ap size_or_none (let sum : pos 0 *ℤ pos len +ℤ pos 65536 ≡ pos 65536 = omega (arith, ints) in sum)

sym_cells : (len n : ℕ) → size_or_none (pos 8 *ℤ pos len +ℤ pos n) ≡ 8 * len + n
sym_cells len n = ap size_or_none (let sum : pos 8 *ℤ pos len +ℤ pos n ≡ pos (8 * len + n) = omega (arith, ints) in sum)

decodes : (size : ℕ) (file written : List ℕ) → FitsHuffman size file → IsHuf1 file → IsDecoded file written → (cells : ℕ) → cells ≡ 65536
    → Ends (block_means (environment_of (huffman_program size) file) (main size)) (Ended written (count_of file)) (start_of (huffman_program size)) (zeros_of (huffman_program size) (length file))
decodes size file written h huf1 is cells many =
    let p = huffman_program size in
    let g = environment_of p file in
    let lengths = lengths_of file in
    let content = drop 264 file in
    let want = count_of file in
    let header = huf1.header in
    let dropped = length-drop 264 file in
    let long : length file ≡ 264 + length content = omega (arith, header, dropped) in
    let fits = h.cells in
    let few_blocks = h.blocks in
    let codes = code_cells (length file) in
    let syms = sym_cells (length file) (8 * size) in
    let bytes = bytes_small file h.bytes in
    let arrays : Arrays g (room_for size content) = record {
      code_first = refl;
      code_room = codes;
      sym_first = omega (arith, codes);
      sym_room = omega (arith, syms, long);
    } in
    let d : Decoding g size lengths content = record {
      arrays = arrays;
      long = long;
      length_at = λ y small. sym (get_or-take 256 (drop 4 file) y 0 small ∙ get_or-drop 4 file y 0);
      byte_at = λ i. sym (get_or-drop 264 file i 0);
      many = length-take-le 256 (drop 4 file) (omega (arith, header, length-drop 4 file));
      code = huf1.lengths;
      bytes = λ i. subst (λ b. b < 256) (sym (get_or-drop 264 file i 0)) (bytes (264 + i));
      some = h.block.0;
      few = omega (arith, fits, long);
    } in
    let zeros : zeros_of p (length file) ≡ map pos (replicate cells 0) ++ replicate (room_for size content) (pos 0) =
    ap (λ n. replicate n (pos 0)) (let e : cell_count_of p (length file) ≡ cells + room_for size content = omega (arith, codes, syms, many, long) in e)
    ∙ zeros_split cells (room_for size content) in
    let found : (code : List ℕ) → IsTable lengths code → found_before code (bits_of content) (8 * length content) ≡ is.symbols =
    λ code holds. ap (found_before code (bits_of content)) (sym (bits_long content)) ∙ found_all code (bits_of content) ∙ found_decoded lengths code is.symbols (bits_of content) huf1.lengths holds is.decodes in
    subst (λ (z : List ℤ × List ℕ). Ends (block_means g (main size)) (Ended z.1 want) (start_of p) z.0) (λ i. (sym zeros i, sym is.output_is i))
    (main-ends g size lengths content is.symbols d bytes (omega (arith, long, few_blocks)) found want (count_is file header) cells many)

outcome_is : (size : ℕ) (file written : List ℕ) (want : ℕ) → (e : Ends (block_means (environment_of (huffman_program size) file) (main size)) (Ended written want) (start_of (huffman_program size)) (zeros_of (huffman_program size) (length file)))
    → outcome (huffman_program size) file ≡ outcome_from (main_ending e.ending) e.memory
outcome_is size file written want e =
    let p = huffman_program size in
    let c = main-comes (environment_of p file) (main size) (start_of p) (zeros_of p (length file)) e.memory e.ending e.comes e.holds.onward in
    λ i. outcome_from (c.answer i) (c.memory i)

pub huffman : HuffmanDecodes
huffman = record {
  whole = λ size file written h huf1 is.
      let e = decodes size file written h huf1 is.0 65536 refl in
      (e.memory, outcome_is size file written (count_of file) e ∙ e.holds.whole is.1);
  short = λ size file written h huf1 is short.
      let e = decodes size file written h huf1 is 65536 refl in
      outcome_is size file written (count_of file) e ∙ e.holds.short short;
}
