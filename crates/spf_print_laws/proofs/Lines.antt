-- Raw programs that are the same but for their lines resolve to programs that are.
use Rattle.std.proofs.Common.{◌≡◌, ℕ, ◌+◌, Bool, true, false, List, [], ◌∷◌, ◌++◌, length, map, refl, sym, ap, ◌∙◌}
use Rattle.spf_ast.specs.Syntax as s
use Rattle.spf_ast.specs.Syntax.{Array, Function, Program}
use Rattle.spf_ast.specs.RawSyntax.{RawStatement, Let, Assign, Store, Fill, Emit, Fail, If, For, While, Do, Fold, Pair, Break, RawBlock, end, on_line, RawFunction, RawProgram}
use Rattle.spf_types_names.specs.Globals.{Globals, globals_of}
use Rattle.spf_types_names.specs.Locals.{Local}
use Rattle.spf_types_names.specs.Resolved.{fixed, names_of, names_in, slots_in, with_each, row_slots, block_slot, body_slot, locals_after, locals_at_end, body_locals, resolved_expression, resolved_arguments, resolved_condition, resolved_predictors, resolved_statement, resolved_block, resolved_function, resolved}
use Rattle.spf_types_names.proofs.Tables.{map_twice}
use Rattle.spf_print_laws.specs.Laws as raw
use Rattle.spf_print_laws.specs.Lines as lines

-- ---- names

mutual
  names_kept : (st : RawStatement) → names_of (raw.without_lines st) ≡ names_of st
  names_kept (Let x value) = refl
  names_kept (Assign x value) = refl
  names_kept (Store a i value) = refl
  names_kept (Fill a low high value) = refl
  names_kept (Emit value) = refl
  names_kept (Fail number) = refl
  names_kept (If test a b) = λ j. names_in_kept a j ++ names_in_kept b j
  names_kept (For x low high body) = λ j. x ∷ names_in_kept body j
  names_kept (While test most body) = names_in_kept body
  names_kept (Do f given) = refl
  names_kept (Fold head body) = λ j. head.carried ++ head.block ∷ names_in_kept body j
  names_kept (Pair head a b) = λ j. head.carried ++ (names_in_kept a j ++ names_in_kept b j)
  names_kept Break = refl

  names_in_kept : (b : RawBlock) → names_in (raw.block_without_lines b) ≡ names_in b
  names_in_kept end = refl
  names_in_kept (on_line line st rest) = λ j. names_kept st j ++ names_in_kept rest j

locals_kept : (ls : List Local) (n : ℕ) (st : RawStatement) → locals_after ls n (raw.without_lines st) ≡ locals_after ls n st
locals_kept ls n (Let x value) = refl
locals_kept ls n (Assign x value) = refl
locals_kept ls n (Store a i value) = refl
locals_kept ls n (Fill a low high value) = refl
locals_kept ls n (Emit value) = refl
locals_kept ls n (Fail number) = refl
locals_kept ls n (If test a b) = refl
locals_kept ls n (For x low high body) = refl
locals_kept ls n (While test most body) = refl
locals_kept ls n (Do f given) = refl
locals_kept ls n (Fold head body) = refl
locals_kept ls n (Pair head a b) = refl
locals_kept ls n Break = refl

end_kept : (ls : List Local) (n : ℕ) (b : RawBlock) → locals_at_end ls n (raw.block_without_lines b) ≡ locals_at_end ls n b
end_kept ls n end = refl
end_kept ls n (on_line line st rest) =
    (λ j. locals_at_end (locals_kept ls n st j) (n + length (names_kept st j)) (raw.block_without_lines rest))
    ∙ end_kept (locals_after ls n st) (n + length (names_of st)) rest

-- ---- statements

mutual
  statement_kept : (g : Globals) (ls : List Local) (n : ℕ) (st : RawStatement) → resolved_statement g ls n (raw.without_lines st) ≡ lines.without_lines (resolved_statement g ls n st)
  statement_kept g ls n (Let x value) = refl
  statement_kept g ls n (Assign x value) = refl
  statement_kept g ls n (Store a i value) = refl
  statement_kept g ls n (Fill a low high value) = refl
  statement_kept g ls n (Emit value) = refl
  statement_kept g ls n (Fail number) = refl
  statement_kept g ls n (If test a b) =
      let second = ap (λ ns. resolved_block g ls (n + length ns) (raw.block_without_lines b)) (names_in_kept a) ∙ block_kept g ls (n + slots_in a) b in
      λ j. s.If (resolved_condition g ls test) (block_kept g ls n a j) (second j)
  statement_kept g ls n (For x low high body) = λ j. s.For n (resolved_expression g ls low) (resolved_expression g ls high) (block_kept g (fixed x n ∷ ls) (n + 1) body j)
  statement_kept g ls n (While test most body) = λ j. s.While (resolved_condition g ls test) most (block_kept g ls n body j)
  statement_kept g ls n (Do f given) = refl
  statement_kept g ls n (Fold head body) =
      let at = end_kept (body_locals ls n head) (body_slot n head) body in
      λ j. s.Fold (record {
        carried = row_slots n head.carried;
        start = resolved_arguments g ls head.start;
        block = block_slot n head;
        low = resolved_expression g ls head.low;
        high = resolved_expression g ls head.high;
        predict = resolved_predictors g (fixed head.block (block_slot n head) ∷ ls) head.predict;
        next = resolved_arguments g (at j) head.next;
        next_line = 0;
      }) (block_kept g (body_locals ls n head) (body_slot n head) body j)
  statement_kept g ls n (Pair head a b) =
      let m = n + length head.carried in
      let consumer = with_each true ls n head.carried in
      let at = end_kept ls m a in
      let second = ap (λ ns. resolved_block g consumer (m + length ns) (raw.block_without_lines b)) (names_in_kept a) ∙ block_kept g consumer (m + slots_in a) b in
      λ j. s.Pair (record {
        carried = row_slots n head.carried;
        give = resolved_arguments g (at j) head.give;
        give_line = 0;
        predict = resolved_predictors g ls head.predict;
      }) (block_kept g ls m a j) (second j)
  statement_kept g ls n Break = refl

  block_kept : (g : Globals) (ls : List Local) (n : ℕ) (b : RawBlock) → resolved_block g ls n (raw.block_without_lines b) ≡ lines.block_without_lines (resolved_block g ls n b)
  block_kept g ls n end = refl
  block_kept g ls n (on_line line st rest) =
      let later = (λ j. resolved_block g (locals_kept ls n st j) (n + length (names_kept st j)) (raw.block_without_lines rest)) ∙ block_kept g (locals_after ls n st) (n + length (names_of st)) rest in
      λ j. s.on_line 0 (statement_kept g ls n st j) (later j)

-- ---- programs

function_kept : (g : Globals) (f : RawFunction) → resolved_function g (raw.function_without_lines f) ≡ lines.function_without_lines (resolved_function g f)
function_kept g f =
    let ls = with_each false [] 0 f.params in
    let n = length f.params in
    λ j. record {
      name = f.name;
      params = n;
      slots = f.params ++ names_in_kept f.body j;
      body = block_kept g ls n f.body j;
      answer = resolved_expression g (end_kept ls n f.body j) f.answer;
      answer_line = 0;
      line = 0;
    }

functions_kept : (g : Globals) (fs : List RawFunction) → map (resolved_function g) (map raw.function_without_lines fs) ≡ map lines.function_without_lines (map (resolved_function g) fs)
functions_kept g [] = refl
functions_kept g (f ∷ fs) = λ j. function_kept g f j ∷ functions_kept g fs j

globals_kept : (arrays : List Array) (functions : List RawFunction) → globals_of (map raw.array_without_lines arrays) (map raw.function_without_lines functions) ≡ globals_of arrays functions
globals_kept arrays functions = λ j. record {
  arrays = sym (map_twice raw.array_without_lines (λ (a : Array). a.name) arrays) j;
  functions = sym (map_twice raw.function_without_lines (λ (f : RawFunction). f.name) functions) j;
  params = sym (map_twice raw.function_without_lines (λ (f : RawFunction). length f.params) functions) j;
}

-- leaving the lines out and resolving give the same result in either order
pub program_kept : (p : RawProgram) → resolved (raw.program_without_lines p) ≡ lines.program_without_lines (resolved p)
program_kept p =
    let g = globals_of p.arrays p.functions in
    let e = globals_kept p.arrays p.functions in
    let functions = ap (λ h. map (resolved_function h) (map raw.function_without_lines p.functions)) e ∙ functions_kept g p.functions in
    let main = ap (λ h. resolved_block h [] 0 (raw.block_without_lines p.main)) e ∙ block_kept g [] 0 p.main in
    λ j. record {
      version = p.version;
      arrays = map raw.array_without_lines p.arrays;
      functions = functions j;
      slots = names_in_kept p.main j;
      main = main j;
    }
