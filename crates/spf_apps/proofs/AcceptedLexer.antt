-- The program that runs LEX1 machines is accepted.
use Rattle.std.proofs.Common.{ℕ, zero, suc, [], ◌∷◌, pos, refl, subst}
use Rattle.spf_ast_lemmas.proofs.Members.{some_is}
use Rattle.spf_region.specs.Bounds.{number}
use Rattle.spf_ast.specs.Syntax.{Block, Call, argument, no_more, Let, For, on_line, Local}
use Rattle.spf_ast.specs.Construct.{fold}
use Rattle.spf_effects_findings.specs.Parts.{main_setting, within_fold}
use Rattle.spf_check_rules.specs.Rules.{KeepsTheRules}
use Rattle.spf_check.specs.Accepting.{IsAccepted}
use Rattle.spf_apps_programs.specs.Laws.{IsBlockSize, IsMachineCount}
use Rattle.spf_apps_programs.specs.Lexer.{lexer_program, program_for, machine_length, look, head, body, block_begin, block_end, one_byte}
use Rattle.spf_apps_programs.specs.Writing as writing
use Rattle.spf_apps.proofs.Tame.{guess-tame, calls-tame}
use Rattle.spf_apps.proofs.Rules.{FillsItsBlocks, fold-keeps}
use Rattle.spf_apps.proofs.Ends.{begin-is, end-is}
use Rattle.spf_apps.proofs.Filled.{BeginsWithFill, filled-tame, filled-fills}
use Rattle.spf_apps.proofs.AcceptedPackBits.{few, index_inside}

-- what follows the fill
abbrev rest : (size classes machine : ℕ) → Block
rest size classes machine = on_line 12 (Let 2 (Local 0)) (writing.only 13 (For 3 (block_begin size) (block_end size) (one_byte classes machine)))

filled : (size classes machine : ℕ) → IsBlockSize size → BeginsWithFill (main_setting (program_for size classes machine)) (within_fold (program_for size classes machine) (head size machine)) 0 size (block_begin size) (block_end size) (writing.number 0) (rest size classes machine) (argument (Local 2) no_more)
filled size classes machine h = record {
  calls = calls-tame 0 (look classes machine ∷ []) refl 1;
  some = h.0;
  low_is = begin-is size (few size h.1);
  high_is = end-is size (few size h.1);
  low_avoids = refl;
  high_avoids = refl;
  value_avoids = refl;
  stores = (refl, ((refl, ((refl, (refl, ((refl, index_inside size h), (refl, tt))), tt), tt)), tt));
  next_avoids = refl;
}

fold_filled : (size classes machine : ℕ) → IsBlockSize size → FillsItsBlocks (program_for size classes machine) (fold 10 (head size machine) (body size classes machine)) 0 (pos size)
fold_filled size classes machine h =
    let g = main_setting (program_for size classes machine) in
    let slots = within_fold (program_for size classes machine) (head size machine) in
    record {
      body = filled-tame g slots 0 size 11 (block_begin size) (block_end size) (writing.number 0) (rest size classes machine) (argument (Local 2) no_more) (filled size classes machine h);
      fills = filled-fills g slots 0 size 11 (block_begin size) (block_end size) (writing.number 0) (rest size classes machine) (argument (Local 2) no_more) (filled size classes machine h);
      guess = guess-tame 0 g slots (calls-tame 0 (look classes machine ∷ []) refl 1) (Call 0 (argument (block_begin size) no_more)) refl;
      assigns_no_outer = refl;
      emits_nothing = refl;
    }

sized_accepted : (size classes machine : ℕ) → IsBlockSize size → IsAccepted (program_for size classes machine)
sized_accepted size classes machine h zero construct e =
    subst (KeepsTheRules (program_for size classes machine)) (some_is (fold 10 (head size machine) (body size classes machine)) construct e)
    (fold-keeps (program_for size classes machine) 10 (head size machine) (body size classes machine) 0 (pos size) (fold_filled size classes machine h))
sized_accepted size classes machine h (suc number) construct e = absurd cc

pub lexer_accepted : (size states classes : ℕ) → IsBlockSize size → IsMachineCount states → IsMachineCount classes → IsAccepted (lexer_program size states classes)
lexer_accepted size states classes h s c = sized_accepted size classes (machine_length states classes) h
