-- The program that unpacks PackBits, from its start to its end.
use Rattle.std.proofs.Common.{◌≡◌, ℕ, suc, ◌+◌, ◌-◌, ◌*◌, ◌/◌, ◌<◌, ◌≤◌, false, List, [], ◌∷◌, length, replicate, Err, ℤ, pos, refl, ap, sym, ◌∙◌, subst, arith}
use Rattle.std.specs.Prelude.{nat_lt, if◌then◌else◌, ◌+ℤ◌, ◌*ℤ◌, int_div}
use Rattle.std.specs.List.{AllByRecursion}
use Rattle.std.specs.Int.{int_gap}
use Rattle.std.specs.Ordering.{int_eq}
use Rattle.std.proofs.lemmas.Int.{ints}
use Rattle.std.proofs.lemmas.Bool.Decides.{nat_tests}
use Rattle.std.proofs.lemmas.Nat.{div_below, mul-le}
use Rattle.std.proofs.Math.Nat.{lt-div-mul-add, div-mul-le_self, div-le_self, mul_comm, mul-suc}
use Rattle.spf_ast.specs.declared.outcome.TrapKind.TheVariants as trap
use Rattle.spf_ast.specs.declared.syntax.Op.TheVariants.{Add, Div}
use Rattle.spf_ast.specs.Word.{exact}
use Rattle.spf_ast.specs.Interaction.{Onward, State, Value, ◌>>=◌, ◌>>◌}
use Rattle.spf_ast.specs.Syntax.{argument, no_more, Local, Len, Fold, end}
use Rattle.spf_ast.specs.Meaning.{arguments_mean, sets_row, Environment, block_means, statement_means, expression_means, fold_range, fold_blocks, max_blocks, max_output, traps}
use Rattle.spf_ast.specs.Program.{environment_of, start_of, zeros_of, cell_count_of, size_or_none, outcome, outcome_from, Done, max_cells_in}
use Rattle.spf_ast_laws.proofs.Plainly.{Comes, comes-then}
use Rattle.spf_apps_formats.specs.PackBits.{Unpacks}
use Rattle.spf_apps_programs.specs.Laws.{IsBlockSize}
use Rattle.spf_apps_programs.specs.Writing.{number, plus, only, blocks_for}
use Rattle.spf_apps_programs.specs.PackBits.{packbits_program, head, body, output}
use Rattle.spf_apps_laws.proofs.Bytes.{read_on, file_read}
use Rattle.spf_apps_laws.proofs.Indices.{left_at, memory_at, written_all, bytes_small}
use Rattle.spf_apps_laws.proofs.Blocks.{Runs, BlockAt, block-yields}
use Rattle.spf_apps_laws.proofs.Output.{Written, output-written}
use Rattle.spf_apps_laws.proofs.Steps.{gives-row, comes-sets_row, main-comes, Gives, gives-number, gives-len, gives-binary, with_slot, Reaches, reached, reaches-on, reaches-end, fold-yields, gap-is, word-ok}

-- ---- how many blocks there are

abbrev pub blocks_of : ℕ → ℕ → ℕ
blocks_of n size = (n + (size - 1)) / size

pub blocks_few : (n size : ℕ) → 1 ≤ size → n ≤ 4096 * size → blocks_of n size ≤ 4096
blocks_few n size some h = let below = div_below (n + (size - 1)) size 4097 some (omega (arith, some, h)) in omega (arith, below)

-- each block begins in the file
pub block_inside : (n size k : ℕ) → 1 ≤ size → k < blocks_of n size → size * k < n
block_inside n size k some h =
    let whole = div-mul-le_self (n + (size - 1)) size in
    let part = mul-le (suc k) size (blocks_of n size) size h (let e : size ≤ size = omega arith in e) in
    omega (arith, whole, part, mul_comm (suc k) size, mul-suc size k, some)

-- and the last one ends after it
pub blocks_enough : (n size : ℕ) → 1 ≤ size → n ≤ size * blocks_of n size
blocks_enough n size some =
    let above = lt-div-mul-add {a = n + (size - 1)} {b = size} some in
    omega (arith, above, mul_comm (blocks_of n size) size, some)

gives-blocks : (g : Environment) (size : ℕ) (s : State) (m : List ℤ) → 1 ≤ size → length g.input + size ≤ 4194304 → Gives g 3 (blocks_for Len size) s m (pos (blocks_of (length g.input) size))
gives-blocks g size s m some few =
    let n = length g.input in
    let sum : pos n +ℤ pos (size - 1) ≡ pos (n + (size - 1)) = omega (arith, ints) in
    let other : int_eq (pos size) (pos 0) ≡ false = grind (arith, ints, some) in
    let small = div_small (n + (size - 1)) size in
    gives-binary g 3 Div (plus Len (number (size - 1))) (number size) s m (pos (n + (size - 1))) (pos size) (pos (blocks_of n size))
    (gives-binary g 3 Add Len (number (size - 1)) s m (pos n) (pos (size - 1)) (pos (n + (size - 1))) (gives-len g 3 s m) (gives-number g 3 (pos (size - 1)) s m) (ap exact sum ∙ word-ok (n + (size - 1)) (omega (arith, few))))
    (gives-number g 3 (pos size) s m)
    (ap (λ t. if t then Err trap.DivZero else exact (int_div (pos (n + (size - 1))) (pos size))) other ∙ word-ok (blocks_of n size) (omega (arith, small, few)))
  where
    div_small : (a b : ℕ) → a / b ≤ a
    div_small a b = div-le_self a b

-- ---- the fold

pub fold-comes : (g : Environment) (size : ℕ) (s : State) (m : List ℤ) → Runs g size → length g.input ≤ 4096 * size → BlockAt g size 0 s m → Reaches (statement_means g 3 (Fold (head size) (body size))) (BlockAt g size (blocks_of (length g.input) size)) s m
fold-comes g size s m d limit h =
    let n = length g.input in
    let count = blocks_of n size in
    let values : ℕ → ℤ = λ k. left_at g.input (size * k) in
    let form = block_means g (body size) >> arguments_mean g 27 (argument (Local 2) no_more) in
    let none : size * 0 ≡ 0 = omega arith in
    let first : values 0 ≡ pos 0 = ap (left_at g.input) none in
    let all : 0 + count ≡ count = omega arith in
    let gap : int_gap (pos 0) (pos count) ≡ count = subst (λ c. int_gap (pos 0) (pos c) ≡ count) all (gap-is 0 count) in
    let enough : nat_lt max_blocks count ≡ false = let few = blocks_few n size d.some limit in grind (arith, nat_tests, few) in
    let y = fold-yields 1 0 form values (BlockAt g size) 0 count (λ k t x low high q. block-yields g size k d (block_inside n size k d.some (omega (arith, high))) t x q) s m h in
    let last = values (0 + count) in
    let blocks : Comes (fold_blocks count (pos 0) 1 (0 ∷ []) (pos 0 ∷ []) form) s m (Value (last ∷ []) y.state) y.memory =
    subst (λ v. Comes (fold_blocks count (pos 0) 1 (0 ∷ []) (v ∷ []) form) s m (Value (last ∷ []) y.state) y.memory) first y.comes in
    let range : Comes (fold_range 3 (head size) (pos 0 ∷ []) (pos 0) (pos count) form) s m (Value (last ∷ []) y.state) y.memory =
    subst (λ c. Comes (if nat_lt max_blocks c then traps trap.Blocks 3 else fold_blocks c (pos 0) 1 (0 ∷ []) (pos 0 ∷ []) form) s m (Value (last ∷ []) y.state) y.memory) (sym gap)
    (subst (λ t. Comes (if t then traps trap.Blocks 3 else fold_blocks count (pos 0) 1 (0 ∷ []) (pos 0 ∷ []) form) s m (Value (last ∷ []) y.state) y.memory) (sym enough) blocks) in
    let at_end = y.holds in
    reached (statement_means g 3 (Fold (head size) (body size))) (BlockAt g size count) s (with_slot 0 last y.state) m y.memory
    (comes-then (λ start. expression_means g 3 (number 0) >>= λ low. expression_means g 3 (blocks_for Len size) >>= λ high. fold_range 3 (head size) start low high form >>= sets_row (0 ∷ [])) (gives-row g 3 (number 0) s m (pos 0) (gives-number g 3 (pos 0) s m))
    (comes-then (λ low. expression_means g 3 (blocks_for Len size) >>= λ high. fold_range 3 (head size) (pos 0 ∷ []) low high form >>= sets_row (0 ∷ [])) (gives-number g 3 (pos 0) s m)
    (comes-then (λ high. fold_range 3 (head size) (pos 0 ∷ []) (pos 0) high form >>= sets_row (0 ∷ [])) (gives-blocks g size s m d.some d.few)
    (comes-then (sets_row (0 ∷ [])) range (comes-sets_row 0 last y.state y.memory)))))
    (record {
      carried = last;
      number = at_end.number;
      left = at_end.left;
      index = at_end.index;
      byte = at_end.byte;
      out = at_end.out;
      turn = at_end.turn;
      s_is = ap (λ (z : State). with_slot 0 last z) at_end.s_is;
      m_is = at_end.m_is ∙ ap (λ k. memory_at g.input (n + size) (size * k)) all;
    })

-- ---- the program

main-reaches : (g : Environment) (size : ℕ) (s : State) (m : List ℤ) → Runs g size → length g.input ≤ 4096 * size → length (read_on (pos 0) g.input) ≤ max_output → BlockAt g size 0 s m
    → Reaches (block_means g (packbits_program size).main) (Written g (memory_at g.input (length g.input + size) (size * blocks_of (length g.input) size)) (length g.input)) s m
main-reaches g size s m d limit room h =
    let far = size * blocks_of (length g.input) size in
    let behind = replicate ((length g.input + size) - far) (pos 0) in
    let cells = memory_at g.input (length g.input + size) far in
    reaches-on g 3 (Fold (head size) (body size)) (only 29 output) (BlockAt g size (blocks_of (length g.input) size)) (Written g cells (length g.input)) s m
    (fold-comes g size s m d limit h)
    (λ t x q. reaches-on g 29 output end (Written g cells (length g.input)) (Written g cells (length g.input)) t x
    (output-written g size far behind t x d (blocks_enough (length g.input) size d.some) room
    (record { output_is = ap (λ (z : State). z.output) q.s_is; memory_is = q.m_is; slots_are = ap (λ (z : State). length z.slots) q.s_is }))
    (λ a b r. reaches-end g (Written g cells (length g.input)) a b r))

-- how many cells the array has
pub cells_are : (n size : ℕ) → size_or_none (pos 1 *ℤ pos n +ℤ pos size) ≡ n + size
cells_are n size = ap size_or_none (let sum : pos 1 *ℤ pos n +ℤ pos size ≡ pos (n + size) = omega (arith, ints) in sum)

pub unpacks : (size : ℕ) (file output : List ℕ) → IsBlockSize size → AllByRecursion (λ b. b < 256) file → length file + size ≤ max_cells_in 1 → length file ≤ max_blocks * size → Unpacks file output → length output ≤ max_output
    → (cells : List ℤ) × (outcome (packbits_program size) file ≡ Done cells output)
unpacks size file written h small cells blocks u room =
    let p = packbits_program size in
    let g = environment_of p file in
    let is = file_read file written small u in
    let d : Runs g size = record { first = refl; room = cells_are (length file) size; bytes = bytes_small file small; some = h.0; few = cells } in
    let zeros : zeros_of p (length file) ≡ memory_at file (length file + size) (size * 0) =
    ap (λ n. replicate n (pos 0)) (let e : cell_count_of p (length file) ≡ (length file + size) - 0 = omega (arith, cell_count) in e)
    ∙ ap (λ k. memory_at file (length file + size) k) (let e : 0 ≡ size * 0 = omega arith in e) in
    let begun : BlockAt g size 0 (start_of p) (zeros_of p (length file)) = record { carried = pos 0; number = pos 0; left = pos 0; index = pos 0; byte = pos 0; out = pos 0; turn = pos 0; s_is = refl; m_is = zeros } in
    let r = main-reaches g size (start_of p) (zeros_of p (length file)) d blocks (subst (λ (l : List ℕ). length l ≤ max_output) (sym is) room) begun in
    let c = main-comes g p.main (start_of p) (zeros_of p (length file)) r.memory (Value Onward r.state) r.comes tt in
    (r.memory, (λ i. outcome_from (c.answer i) (c.memory i)) ∙ ap (Done r.memory) (r.holds.output_is ∙ written_all file ∙ is))
  where
    cell_count : cell_count_of (packbits_program size) (length file) ≡ length file + size
    cell_count = let e = cells_are (length file) size in omega (arith, e)
