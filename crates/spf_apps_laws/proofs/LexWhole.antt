-- The program that runs a machine, from its start to its end.
use Rattle.std.proofs.Common.{◌≡◌, ℕ, ◌+◌, ◌-◌, ◌*◌, ◌<◌, ◌≤◌, false, List, [], ◌∷◌, ◌++◌, length, replicate, Err, ℤ, pos, refl, ap, sym, ◌∙◌, subst, arith, length-append}
use Rattle.std.specs.Prelude.{nat_lt, if◌then◌else◌, ◌+ℤ◌, ◌-ℤ◌, ◌*ℤ◌, int_div}
use Rattle.std.specs.List.{AllByRecursion}
use Rattle.std.specs.Int.{int_gap}
use Rattle.std.specs.Ordering.{int_eq}
use Rattle.std.proofs.lemmas.Int.{ints}
use Rattle.std.proofs.lemmas.Bool.Decides.{nat_tests}
use Rattle.std.proofs.Math.Nat.{div-le_self}
use Rattle.spf_ast.specs.declared.outcome.TrapKind.TheVariants as trap
use Rattle.spf_ast.specs.declared.syntax.Op.TheVariants.{Add, Sub, Div}
use Rattle.spf_ast.specs.Word.{exact}
use Rattle.spf_ast.specs.Interaction.{Onward, State, Value, ◌>>=◌, ◌>>◌}
use Rattle.spf_ast.specs.Syntax.{argument, no_more, Local, Len, Fold, end}
use Rattle.spf_ast.specs.Meaning.{arguments_mean, sets_row, Environment, block_means, statement_means, expression_means, fold_range, fold_blocks, max_blocks, traps}
use Rattle.spf_ast.specs.Program.{environment_of, start_of, zeros_of, cell_count_of, size_or_none, outcome, outcome_from, Done, max_cells_in}
use Rattle.spf_ast_laws.proofs.Plainly.{Comes, comes-then}
use Rattle.spf_apps_formats.specs.Lex1.{IsLex1}
use Rattle.spf_apps_formats.specs.Tokens.{tokens}
use Rattle.spf_apps_programs.specs.Laws.{IsBlockSize}
use Rattle.spf_apps_programs.specs.Writing.{number, plus, only, blocks_for}
use Rattle.spf_apps_programs.specs.Lexer.{program_for, lexer_program, head, body}
use Rattle.spf_apps_programs.specs.Lexer as lexer
use Rattle.spf_apps_laws.proofs.LexIndices.{state_at, marks_at, tokens_all}
use Rattle.spf_apps_laws.proofs.LexBody.{Lexes}
use Rattle.spf_apps_laws.proofs.LexBlocks.{cells_for, BlockAt, block-yields}
use Rattle.spf_apps_laws.proofs.LexOutput.{Written, output-written}
use Rattle.spf_apps_laws.proofs.Indices.{bytes_small}
use Rattle.spf_apps_laws.proofs.Whole.{blocks_of, blocks_few, block_inside, blocks_enough}
use Rattle.spf_apps_laws.proofs.Steps.{gives-row, comes-sets_row, main-comes, Gives, gives-number, gives-len, gives-binary, with_slot, Reaches, reached, reaches-on, reaches-end, fold-yields, gap-is, word-ok}

gives-blocks : (g : Environment) (size states classes : ℕ) (machine content : List ℕ) → Lexes g size states classes machine content → length g.input ≡ length machine + length content → (s : State) (m : List ℤ) → Gives g 10 (blocks_for (lexer.content (length machine)) size) s m (pos (blocks_of (length content) size))
gives-blocks g size states classes machine content d long s m =
    let n = length content in
    let rest : pos (length g.input) -ℤ pos (length machine) ≡ pos n = omega (arith, ints, long) in
    let sum : pos n +ℤ pos (size - 1) ≡ pos (n + (size - 1)) = omega (arith, ints) in
    let some = d.some in
    let other : int_eq (pos size) (pos 0) ≡ false = grind (arith, ints, some) in
    let small = div-le_self (n + (size - 1)) size in
    gives-binary g 10 Div (plus (lexer.content (length machine)) (number (size - 1))) (number size) s m (pos (n + (size - 1))) (pos size) (pos (blocks_of n size))
    (gives-binary g 10 Add (lexer.content (length machine)) (number (size - 1)) s m (pos n) (pos (size - 1)) (pos (n + (size - 1)))
    (gives-binary g 10 Sub Len (number (length machine)) s m (pos (length g.input)) (pos (length machine)) (pos n) (gives-len g 10 s m) (gives-number g 10 (pos (length machine)) s m) (ap exact rest ∙ word-ok n (omega (arith, d.few))))
    (gives-number g 10 (pos (size - 1)) s m) (ap exact sum ∙ word-ok (n + (size - 1)) (omega (arith, d.few))))
    (gives-number g 10 (pos size) s m)
    (ap (λ t. if t then Err trap.DivZero else exact (int_div (pos (n + (size - 1))) (pos size))) other ∙ word-ok (blocks_of n size) (omega (arith, small, d.few)))

-- ---- the fold

fold-comes : (g : Environment) (size states classes : ℕ) (machine content : List ℕ) → Lexes g size states classes machine content → length g.input ≡ length machine + length content → length content ≤ 4096 * size → (s : State) (m : List ℤ) → BlockAt size machine content 0 s m
    → Reaches (statement_means g 10 (Fold (head size (length machine)) (body size classes (length machine)))) (BlockAt size machine content (blocks_of (length content) size)) s m
fold-comes g size states classes machine content d long limit s m h =
    let n = length content in
    let count = blocks_of n size in
    let values : ℕ → ℤ = λ k. pos (state_at machine content (size * k)) in
    let form = block_means g (body size classes (length machine)) >> arguments_mean g 20 (argument (Local 2) no_more) in
    let none : size * 0 ≡ 0 = omega arith in
    let first : values 0 ≡ pos 0 = ap (λ k. pos (state_at machine content k)) none in
    let all : 0 + count ≡ count = omega arith in
    let gap : int_gap (pos 0) (pos count) ≡ count = subst (λ c. int_gap (pos 0) (pos c) ≡ count) all (gap-is 0 count) in
    let enough : nat_lt max_blocks count ≡ false = let few = blocks_few n size d.some limit in grind (arith, nat_tests, few) in
    let y = fold-yields 1 0 form values (BlockAt size machine content) 0 count (λ k t x low high q. block-yields g size states classes machine content d k (block_inside n size k d.some (omega (arith, high))) t x q) s m h in
    let last = values (0 + count) in
    let blocks : Comes (fold_blocks count (pos 0) 1 (0 ∷ []) (pos 0 ∷ []) form) s m (Value (last ∷ []) y.state) y.memory =
    subst (λ v. Comes (fold_blocks count (pos 0) 1 (0 ∷ []) (v ∷ []) form) s m (Value (last ∷ []) y.state) y.memory) first y.comes in
    let top = head size (length machine) in
    let range : Comes (fold_range 10 top (pos 0 ∷ []) (pos 0) (pos count) form) s m (Value (last ∷ []) y.state) y.memory =
    subst (λ c. Comes (if nat_lt max_blocks c then traps trap.Blocks 10 else fold_blocks c (pos 0) 1 (0 ∷ []) (pos 0 ∷ []) form) s m (Value (last ∷ []) y.state) y.memory) (sym gap)
    (subst (λ t. Comes (if t then traps trap.Blocks 10 else fold_blocks count (pos 0) 1 (0 ∷ []) (pos 0 ∷ []) form) s m (Value (last ∷ []) y.state) y.memory) (sym enough) blocks) in
    let counted = blocks_for (lexer.content (length machine)) size in
    let at_end = y.holds in
    reached (statement_means g 10 (Fold top (body size classes (length machine)))) (BlockAt size machine content count) s (with_slot 0 last y.state) m y.memory
    (comes-then (λ start. expression_means g 10 (number 0) >>= λ low. expression_means g 10 counted >>= λ high. fold_range 10 top start low high form >>= sets_row (0 ∷ [])) (gives-row g 10 (number 0) s m (pos 0) (gives-number g 10 (pos 0) s m))
    (comes-then (λ low. expression_means g 10 counted >>= λ high. fold_range 10 top (pos 0 ∷ []) low high form >>= sets_row (0 ∷ [])) (gives-number g 10 (pos 0) s m)
    (comes-then (λ high. fold_range 10 top (pos 0 ∷ []) (pos 0) high form >>= sets_row (0 ∷ [])) (gives-blocks g size states classes machine content d long s m)
    (comes-then (sets_row (0 ∷ [])) range (comes-sets_row 0 last y.state y.memory)))))
    (record {
      carried = last;
      number = at_end.number;
      state = at_end.state;
      index = at_end.index;
      entry = at_end.entry;
      out = at_end.out;
      s_is = ap (λ (z : State). with_slot 0 last z) at_end.s_is;
      m_is = at_end.m_is ∙ ap (λ k. marks_at machine content (cells_for size machine content) (size * k)) all;
    })

-- ---- the program

main-reaches : (g : Environment) (size states classes : ℕ) (machine content : List ℕ) → Lexes g size states classes machine content → length g.input ≡ length machine + length content → length content ≤ 4096 * size → (s : State) (m : List ℤ) → BlockAt size machine content 0 s m
    → Reaches (block_means g (program_for size classes (length machine)).main) (Written machine content (marks_at machine content (cells_for size machine content) (size * blocks_of (length content) size)) (length content)) s m
main-reaches g size states classes machine content d long limit s m h =
    let far = size * blocks_of (length content) size in
    let behind = replicate (cells_for size machine content - far) (pos 0) in
    let cells = marks_at machine content (cells_for size machine content) far in
    let written = Written machine content cells (length content) in
    reaches-on g 10 (Fold (head size (length machine)) (body size classes (length machine))) (only 22 (lexer.output (length machine))) (BlockAt size machine content (blocks_of (length content) size)) written s m
    (fold-comes g size states classes machine content d long limit s m h)
    (λ t x q. reaches-on g 22 (lexer.output (length machine)) end written written t x
    (output-written g size states classes machine content d long far behind t x (blocks_enough (length content) size d.some)
    (record { output_is = ap (λ (z : State). z.output) q.s_is; memory_is = q.m_is; slots_are = ap (λ (z : State). length z.slots) q.s_is }))
    (λ a b r. reaches-end g written a b r))

-- how many cells the array has
cells_are : (n size : ℕ) → size_or_none (pos 1 *ℤ pos n +ℤ pos size) ≡ n + size
cells_are n size = ap size_or_none (let sum : pos 1 *ℤ pos n +ℤ pos size ≡ pos (n + size) = omega (arith, ints) in sum)

sized-finds : (size states classes : ℕ) (machine content : List ℕ) → IsBlockSize size → IsLex1 machine states classes → AllByRecursion (λ b. b < 256) machine → AllByRecursion (λ b. b < 256) content → (length machine + length content) + size ≤ max_cells_in 1 → length content ≤ max_blocks * size
    → (cells : List ℤ) × (outcome (program_for size classes (length machine)) (machine ++ content) ≡ Done cells (tokens machine content))
sized-finds size states classes machine content h lex1 machine_small content_small cells blocks =
    let p = program_for size classes (length machine) in
    let input = machine ++ content in
    let g = environment_of p input in
    let long = length-append machine content in
    let room = cells_are (length input) size in
    let d : Lexes g size states classes machine content = record {
      input_is = refl;
      first = refl;
      room = room ∙ ap (λ n. n + size) long;
      lex1 = lex1;
      machine_bytes = bytes_small machine machine_small;
      content_bytes = bytes_small content content_small;
      some = h.0;
      few = cells;
    } in
    let zeros : zeros_of p (length input) ≡ marks_at machine content (cells_for size machine content) (size * 0) =
    ap (λ n. replicate n (pos 0)) (let e : cell_count_of p (length input) ≡ cells_for size machine content - 0 = omega (arith, room, long) in e)
    ∙ ap (λ k. marks_at machine content (cells_for size machine content) k) (let e : 0 ≡ size * 0 = omega arith in e) in
    let begun : BlockAt size machine content 0 (start_of p) (zeros_of p (length input)) = record { carried = pos 0; number = pos 0; state = pos 0; index = pos 0; entry = pos 0; out = pos 0; s_is = refl; m_is = zeros } in
    let r = main-reaches g size states classes machine content d long blocks (start_of p) (zeros_of p (length input)) begun in
    let c = main-comes g p.main (start_of p) (zeros_of p (length input)) r.memory (Value Onward r.state) r.comes tt in
    (r.memory, (λ i. outcome_from (c.answer i) (c.memory i)) ∙ ap (Done r.memory) (r.holds.output_is ∙ tokens_all machine content))

pub finds_tokens : (size states classes : ℕ) (machine content : List ℕ) → IsBlockSize size → IsLex1 machine states classes → AllByRecursion (λ b. b < 256) machine → AllByRecursion (λ b. b < 256) content → (length machine + length content) + size ≤ max_cells_in 1 → length content ≤ max_blocks * size
    → (cells : List ℤ) × (outcome (lexer_program size states classes) (machine ++ content) ≡ Done cells (tokens machine content))
finds_tokens size states classes machine content h lex1 machine_small content_small cells blocks =
    subst (λ n. (l : List ℤ) × (outcome (program_for size classes n) (machine ++ content) ≡ Done l (tokens machine content))) lex1.classed.sized.size
    (sized-finds size states classes machine content h lex1 machine_small content_small cells blocks)
