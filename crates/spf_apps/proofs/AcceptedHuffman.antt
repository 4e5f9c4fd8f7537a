-- The program that decodes HUF1 is accepted.
use Rattle.std.proofs.Common.{ℕ, zero, suc, ◌+◌, ◌*◌, ◌-◌, ◌≤◌, ◌^◌, [], ◌∷◌, pos, refl, sym, subst, arith}
use Rattle.std.proofs.lemmas.Int.{ints}
use Rattle.spf_ast_lemmas.proofs.Members.{some_is}
use Rattle.spf_region.specs.declared.bound.Bound.TheVariants.{Known}
use Rattle.spf_region.specs.declared.range.Range.TheVariants.{Affine}
use Rattle.spf_region.specs.Bounds.{number, plus, times}
use Rattle.spf_ast.specs.Syntax.{Block, Call, argument, no_more, Let, For, on_line, Local}
use Rattle.spf_ast.specs.Construct.{fold}
use Rattle.spf_effects_findings.specs.Found.{turn_bound}
use Rattle.spf_effects_findings.specs.Parts.{main_setting, within_fold}
use Rattle.spf_check_rules.specs.Rules.{KeepsTheRules}
use Rattle.spf_check.specs.Accepting.{IsAccepted}
use Rattle.spf_apps_programs.specs.Laws.{IsBlockSize}
use Rattle.spf_apps_programs.specs.Huffman.{huffman_program, bite, look, head, body, block_begin, bits_begin, bits_end, one_byte}
use Rattle.spf_apps_programs.specs.Writing as writing
use Rattle.spf_apps.proofs.Tame.{range_of, guess-tame, calls-tame}
use Rattle.spf_apps.proofs.Rules.{IsInside, FillsItsBlocks, fold-keeps}
use Rattle.spf_apps.proofs.Ends.{begin-is, end-is, bit-is}
use Rattle.spf_apps.proofs.Filled.{BeginsWithFill, filled-tame, filled-fills}

-- what follows the fill
abbrev rest : ℕ → Block
rest size = on_line 32 (Let 5 (Local 3)) (writing.only 33 (For 6 (writing.number 0) (writing.number size) (one_byte size)))

few : (size : ℕ) → size ≤ 65536 → 8 * size ≤ 2 ^ 40
few size h = omega (arith, h)

-- the index of a bit is inside its block
bit_inside : (size : ℕ) → IsBlockSize size → IsInside 1 (pos (8 * size)) (range_of 1 (plus (plus (times (number (pos (8 * size))) (Known (pos 1) (pos 0) (pos 0))) (times (number (pos 8)) (turn_bound (number (pos 0)) (number (pos size))))) (turn_bound (number (pos 0)) (number (pos 8)))))
bit_inside size h =
    subst (λ b. IsInside 1 (pos (8 * size)) (range_of 1 b)) (sym (bit-is size h.0 (omega (arith, h.1)))) within
  where
    within : IsInside 1 (pos (8 * size)) (Affine 1 (pos (8 * size)) (pos 0) (pos (8 * (size - 1) + 7)))
    within = (refl, refl, omega (arith, ints), omega (arith, ints, h.0))

filled : (size : ℕ) → IsBlockSize size → BeginsWithFill (main_setting (huffman_program size)) (within_fold (huffman_program size) (head size)) 1 (8 * size) (bits_begin size) (bits_end size) (writing.number 0) (rest size) (argument (Local 5) no_more)
filled size h = record {
  calls = calls-tame 1 (bite ∷ look ∷ []) refl 2;
  some = omega (arith, h.0);
  low_is = begin-is (8 * size) (few size h.1);
  high_is = end-is (8 * size) (few size h.1);
  low_avoids = refl;
  high_avoids = refl;
  value_avoids = refl;
  stores = (refl, ((refl, ((refl, (refl, ((refl, ((refl, (refl, ((refl, (refl, tt), ((refl, ((refl, bit_inside size h), (refl, tt)), tt), tt)), tt)), tt), tt)), tt)), tt), tt)), tt));
  next_avoids = refl;
}

fold_filled : (size : ℕ) → IsBlockSize size → FillsItsBlocks (huffman_program size) (fold 30 (head size) (body size)) 1 (pos (8 * size))
fold_filled size h =
    let g = main_setting (huffman_program size) in
    let slots = within_fold (huffman_program size) (head size) in
    record {
      body = filled-tame g slots 1 (8 * size) 31 (bits_begin size) (bits_end size) (writing.number 0) (rest size) (argument (Local 5) no_more) (filled size h);
      fills = filled-fills g slots 1 (8 * size) 31 (bits_begin size) (bits_end size) (writing.number 0) (rest size) (argument (Local 5) no_more) (filled size h);
      guess = guess-tame 1 g slots (calls-tame 1 (bite ∷ look ∷ []) refl 2) (Call 1 (argument (block_begin size) no_more)) refl;
      assigns_no_outer = refl;
      emits_nothing = refl;
    }

pub huffman_accepted : (size : ℕ) → IsBlockSize size → IsAccepted (huffman_program size)
huffman_accepted size h zero construct e =
    subst (KeepsTheRules (huffman_program size)) (some_is (fold 30 (head size) (body size)) construct e)
    (fold-keeps (huffman_program size) 30 (head size) (body size) 1 (pos (8 * size)) (fold_filled size h))
huffman_accepted size h (suc number) construct e = absurd cc
