-- The program that unpacks PackBits is accepted.
use Rattle.std.proofs.Common.{ℕ, zero, suc, ◌≤◌, ◌^◌, [], pos, refl, sym, ◌∙◌, subst, arith}
use Rattle.spf_ast_lemmas.proofs.Members.{some_is}
use Rattle.spf_region.specs.declared.bound.Bound.TheVariants.{Known}
use Rattle.spf_region.specs.Bounds.{number, plus, times}
use Rattle.spf_ast.specs.Syntax.{Block, argument, no_more, Let, on_line, Local}
use Rattle.spf_ast.specs.Construct.{fold}
use Rattle.spf_effects_findings.specs.Found.{turn_bound}
use Rattle.spf_effects_findings.specs.Parts.{main_setting, within_fold}
use Rattle.spf_check_rules.specs.Rules.{KeepsTheRules}
use Rattle.spf_check.specs.Accepting.{IsAccepted}
use Rattle.spf_apps_programs.specs.Laws.{IsBlockSize}
use Rattle.spf_apps_programs.specs.PackBits.{packbits_program, head, body, block_begin, block_end, block_bytes}
use Rattle.spf_apps_programs.specs.Writing as writing
use Rattle.spf_apps.proofs.Tame.{range_of, guess-tame, calls-tame}
use Rattle.spf_apps.proofs.Filled.{BeginsWithFill, filled-tame, filled-fills}
use Rattle.spf_apps.proofs.Rules.{IsInside, FillsItsBlocks, fold-keeps}
use Rattle.spf_apps.proofs.Ends.{begin-is, end-is, turn-is, inside}

-- what follows the fill
abbrev rest : ℕ → Block
rest size = on_line 5 (Let 2 (Local 0)) (writing.only 6 (block_bytes size))

pub few : (size : ℕ) → size ≤ 65536 → size ≤ 2 ^ 40
few size h = omega (arith, h)

-- an index of the block is inside it
pub index_inside : (size : ℕ) → IsBlockSize size → IsInside 0 (pos size) (range_of 0 (turn_bound (times (number (pos size)) (Known (pos 1) (pos 0) (pos 0))) (plus (times (number (pos size)) (Known (pos 1) (pos 0) (pos 0))) (number (pos size)))))
index_inside size h =
    subst (λ b. IsInside 0 (pos size) (range_of 0 b)) (sym ((λ i. turn_bound (begin-is size (few size h.1) i) (end-is size (few size h.1) i)) ∙ turn-is size h.0 (few size h.1))) (inside 0 size h.0)

filled : (size : ℕ) → IsBlockSize size → BeginsWithFill (main_setting (packbits_program size)) (within_fold (packbits_program size) (head size)) 0 size (block_begin size) (block_end size) (writing.number 0) (rest size) (argument (Local 2) no_more)
filled size h = record {
  calls = calls-tame 0 [] refl 0;
  some = h.0;
  low_is = begin-is size (few size h.1);
  high_is = end-is size (few size h.1);
  low_avoids = refl;
  high_avoids = refl;
  value_avoids = refl;
  stores = (refl, ((refl, ((refl, (refl, ((refl, ((refl, (refl, tt), tt), ((refl, (refl, tt), tt), tt)), ((refl, ((refl, index_inside size h), (refl, tt)), ((refl, index_inside size h), (refl, tt))), tt)), tt)), tt), tt)), tt));
  next_avoids = refl;
}

fold_filled : (size : ℕ) → IsBlockSize size → FillsItsBlocks (packbits_program size) (fold 3 (head size) (body size)) 0 (pos size)
fold_filled size h =
    let g = main_setting (packbits_program size) in
    let slots = within_fold (packbits_program size) (head size) in
    record {
      body = filled-tame g slots 0 size 4 (block_begin size) (block_end size) (writing.number 0) (rest size) (argument (Local 2) no_more) (filled size h);
      fills = filled-fills g slots 0 size 4 (block_begin size) (block_end size) (writing.number 0) (rest size) (argument (Local 2) no_more) (filled size h);
      guess = guess-tame 0 g slots (calls-tame 0 [] refl 0) (writing.number 0) refl;
      assigns_no_outer = refl;
      emits_nothing = refl;
    }

pub packbits_accepted : (size : ℕ) → IsBlockSize size → IsAccepted (packbits_program size)
packbits_accepted size h zero construct e =
    subst (KeepsTheRules (packbits_program size)) (some_is (fold 3 (head size) (body size)) construct e)
    (fold-keeps (packbits_program size) 3 (head size) (body size) 0 (pos size) (fold_filled size h))
packbits_accepted size h (suc number) construct e = absurd cc
