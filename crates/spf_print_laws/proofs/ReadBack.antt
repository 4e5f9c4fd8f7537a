-- Canonical texts are read back.
use Rattle.std.proofs.Common.{◌≡◌, ◌≤◌, [], ◌++◌, length, refl, ◌∙◌, subst, arith, append-nil}
use Rattle.std.proofs.lemmas.List.{length-map}
use Rattle.spf_text.specs.Tokens.{IsCut, tokens_at}
use Rattle.spf_ast.specs.RawSyntax.{RawProgram}
use Rattle.spf_ast.specs.Spelling.{IsWritable}
use Rattle.spf_print_forms.specs.Canonical.{canonical_text}
use Rattle.spf_parse_grammar.specs.Lexemes.{lexeme_of, lexemes_of}
use Rattle.spf_print_laws.specs.Laws.{SaysButForLines}
use Rattle.spf_print_laws.proofs.Pieces.{bytes, of_program}
use Rattle.spf_print_laws.proofs.Bytes.{program-bytes}
use Rattle.spf_print_laws.proofs.Cuts.{cut_of}
use Rattle.spf_print_laws.proofs.Wholes.{program-ended}
use Rattle.spf_print_laws.proofs.Lexing.{lexed}
use Rattle.spf_print_laws.proofs.Programs.{program_put}

pub read_back : (p : RawProgram) → IsWritable p → SaysButForLines (canonical_text p) p
read_back p h =
    let text = canonical_text p in
    let ps = of_program p in
    let same : bytes ps ++ [] ≡ text = append-nil (bytes ps) ∙ program-bytes p in
    let cut : IsCut text ps [] = subst (λ x. IsCut x ps []) same (cut_of ps [] ((program-ended p h).whole [])) in
    let tokens = tokens_at 0 ps in
    let room : length (lexemes_of text tokens) ≤ length tokens = omega (arith, length-map tokens (lexeme_of text)) in
    let v = program_put (length tokens) p h (lexemes_of text tokens) [] room (lexed text [] text ps refl cut) in
    record { tokens = tokens; are = record { pieces = ps; cut = cut; are = refl }; said = v.found; reads = v.said.says; same = v.same }
