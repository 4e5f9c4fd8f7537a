-- The answers of the decoders' runs are what their formats say.
use Rattle.std.proofs.Common.{◌≡◌, ◌⊎◌, ◌≤◌, ◌<◌, ℕ, Bool, true, false, List, [], ◌++◌, length, take, drop, refl, ap, ◌∙◌, subst, inl, inr, arith, nat_le}
use Rattle.std.specs.Prelude.{None}
use Rattle.std.specs.List.{flat_map}
use Rattle.spf_ast.specs.declared.outcome.Trap.{Trap}
use Rattle.spf_ast.specs.Syntax.{Program}
use Rattle.spf_ast.specs.Construct.{constructs_in}
use Rattle.spf_ast.specs.Program.{Stopped, outcome, cell_count_of, max_cells}
use Rattle.spf_ast.specs.Meaning.{max_output}
use Rattle.spf_guess_statistics.specs.declared.stats.Stats.{Stats}
use Rattle.spf_guess.specs.Missing.{missing_host}
use Rattle.spf_apps_formats.specs.PackBits.{Unpacks, unpacked}
use Rattle.spf_apps_formats.specs.Huf1.{IsHuf1}
use Rattle.spf_apps_formats.specs.Decoded.{count_of}
use Rattle.spf_apps_formats.specs.Lex1.{IsLex1}
use Rattle.spf_apps_formats.specs.Tokens.{tokens}
use Rattle.spf_apps_formats.specs.Laws.{PackBitsIsCutOnce, Huf1IsDecodedOnce}
use Rattle.spf_apps_programs.specs.PackBits.{packbits_program}
use Rattle.spf_apps_programs.specs.Huffman.{huffman_program}
use Rattle.spf_apps_programs.specs.Lexer.{lexer_program}
use Rattle.spf_apps_laws.specs.Laws.{EndsWith, full_trap, short_trap, PackBitsUnpacks, PackBitsStops, LexerFindsTokens, HuffmanDecodes}
use Rattle.spf_apps_laws.proofs.Cells.{packbits_cells, huffman_cells, lexer_cells}
use Rattle.spf_cli_words.specs.Command.{DecodeOptions}
use Rattle.spf_cli_words.specs.Only.{IsOnly}
use Rattle.spf_cli_answers.specs.Answer.{Answer, ran, stats_lines}
use Rattle.spf_cli_answers.specs.Decoded.{IsDoneWith, IsTrappedAfter, Unpacked, Unhuffed, Tokenized}
use Rattle.spf_cli_answers.specs.Course.{Wanted, Is, Either, Both}
use Rattle.spf_cli_answers.specs.Whole.{handed, WithHosts, stats_of, Decodes, run_options, block_of}

-- ---- a run

passed : (A B : Wanted) (b : Bool) (a : Answer) → b ≡ true → Either b A B a → A a
passed A B true a e h = h
passed A B false a e h = cc

within : (a b : ℕ) → a ≤ b → nat_le a b ≡ true
within a b l = grind arith

-- what a decoder is answered, whose cells are within their limit and which names no host
run_so : (options : DecodeOptions) (p : Program) (input : List ℕ) (a : Answer) → cell_count_of p (length input) ≤ max_cells p → missing_host 0 (constructs_in p.main) ≡ None → Decodes options p input a
    → a ≡ ran (run_options options) p (length input) (outcome p input) (stats_of (run_options options) (handed []) p input)
run_so options p input a few none h =
    subst (λ w. WithHosts w (Is (ran (run_options options) p (length input) (outcome p input) (stats_of (run_options options) (handed []) p input))) a) none
    (passed _ _ (nat_le (cell_count_of p (length input)) (max_cells p)) a (within (cell_count_of p (length input)) (max_cells p) few) h)

-- the statistics of a decoder's run
abbrev stats_for : DecodeOptions → Program → List ℕ → Stats
stats_for options p input = stats_of (run_options options) (handed []) p input

-- a run to its end, and one to a trap
done_with : (options : DecodeOptions) (p : Program) (input output : List ℕ) (a : Answer) → a ≡ ran (run_options options) p (length input) (outcome p input) (stats_for options p input) → EndsWith output (outcome p input) → IsDoneWith output a
done_with options p input output a e (cells, is) =
    let same = e ∙ ap (λ o. ran (run_options options) p (length input) o (stats_for options p input)) is in
    record { done = ap (λ (b : Answer). b.status) same; written = ap (λ (b : Answer). b.out) same }

trapped_after : (options : DecodeOptions) (p : Program) (input : List ℕ) (trap : Trap) (output : List ℕ) (a : Answer) → a ≡ ran (run_options options) p (length input) (outcome p input) (stats_for options p input) → outcome p input ≡ Stopped trap output → IsTrappedAfter output trap a
trapped_after options p input trap output a e is =
    let same = e ∙ ap (λ o. ran (run_options options) p (length input) o (stats_for options p input)) is in
    record { trapped = ap (λ (b : Answer). b.status) same; written = ap (λ (b : Answer). b.out) same; later = stats_lines (run_options options) (stats_for options p input); said = ap (λ (b : Answer). b.err) same }

compare : (a b : ℕ) → (a ≤ b) ⊎ (b < a)
compare a b = grind arith

below_or_not : (a b : ℕ) → (a < b) ⊎ (a < b → ⊥)
below_or_not a b = grind arith

-- ---- PackBits

pub packbits_means : PackBitsIsCutOnce → PackBitsUnpacks → PackBitsStops → (options : DecodeOptions) (file : List ℕ) (a : Answer)
    → Decodes options (packbits_program (block_of options)) file a → Unpacked (block_of options) file a
packbits_means cut ends stops options file a h f =
    let size = block_of options in
    let c = cut.some file in
    let output = flat_map unpacked c.0 ++ drop 1 c.1 in
    let u : Unpacks file output = record { packets = c.0; rest = c.1; cut = c.2; output_is = refl } in
    let is = run_so options (packbits_program size) file a (omega (arith, packbits_cells size (length file), f.cells)) refl h in (
      output,
      u,
      elim (compare (length output) max_output) [
        | inl within ↦ inl (within, done_with options (packbits_program size) file output a is (ends size file output f u within))
        | inr beyond ↦ inr (beyond, trapped_after options (packbits_program size) file full_trap (take max_output output) a is (stops size file output f u beyond))
      ],
    )

-- ---- HUF1

pub huffman_means : Huf1IsDecodedOnce → HuffmanDecodes → (options : DecodeOptions) (file : List ℕ) (a : Answer) → IsHuf1 file
    → Decodes options (huffman_program (block_of options)) file a → Unhuffed (block_of options) file a
huffman_means decoded laws options file a huf1 h f =
    let size = block_of options in
    let d = decoded.some file huf1 in
    let is = run_so options (huffman_program size) file a (omega (arith, huffman_cells size (length file), f.cells)) refl h in (
      d.0,
      elim (below_or_not (length d.0) (count_of file)) [
        | inl short ↦ inr (d.1, short, trapped_after options (huffman_program size) file short_trap d.0 a is (laws.short size file d.0 f huf1 d.1 short))
        | inr whole ↦ inl ((d.1, whole), done_with options (huffman_program size) file d.0 a is (laws.whole size file d.0 f huf1 (d.1, whole)))
      ],
    )

-- ---- tokens

pub lexer_means : LexerFindsTokens → (options : DecodeOptions) (states classes : ℕ) (machine content : List ℕ) (a : Answer) → IsLex1 machine states classes
    → Decodes options (lexer_program (block_of options) states classes) (machine ++ content) a → Tokenized (block_of options) machine content a
lexer_means finds options states classes machine content a lex1 h f =
    let size = block_of options in
    let is = run_so options (lexer_program size states classes) (machine ++ content) a (omega (arith, lexer_cells size states classes machine content, f.cells)) refl h in
    done_with options (lexer_program size states classes) (machine ++ content) (tokens machine content) a is (finds size states classes machine content lex1 f)

-- ---- both

-- what follows from the one answer may be asked beside it
pub both : (A B : Wanted) (a : Answer) → ((b : Answer) → A b → B b) → IsOnly A a → IsOnly (Both A B) a
both A B a means h = record { is = (h.is, means a h.is); only = λ b x. h.only b x.0 }
