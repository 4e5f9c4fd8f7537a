-- A text determines the program that it says.
use Rattle.std.proofs.Common.{◌≡◌, ℕ, List, [], length, refl, sym, ap, ◌∙◌, subst, arith}
use Rattle.spf_ast.specs.Syntax.{Program}
use Rattle.spf_ast.specs.RawSyntax.{RawProgram}
use Rattle.spf_ast.specs.Lawful.{IsScoped}
use Rattle.spf_ast.specs.Spelling.{spelled}
use Rattle.spf_text.specs.Laws.{TextsDetermineTheirTokens}
use Rattle.spf_parse_grammar.specs.Lexemes.{lexemes_of}
use Rattle.spf_parse_grammar.specs.Reading.{Reads}
use Rattle.spf_parse_grammar.specs.Parts.{program}
use Rattle.spf_parse_grammar.specs.Texts.{IsProgramOf}
use Rattle.spf_parse_grammar.proofs.Derivations.{loosened}
use Rattle.spf_types.specs.Contract.{IsResolved}
use Rattle.spf_types_names.specs.Resolved.{resolved}
use Rattle.spf_types.specs.Laws.{SpellingsResolveToTheirPrograms}
use Rattle.spf_print_laws.specs.Laws.{program_without_lines, SaysButForLines, text_of}
use Rattle.spf_print_laws.specs.Lines as lines
use Rattle.spf_print_laws.specs.Lines.{AreSameButForLines}
use Rattle.spf_print_laws.proofs.Once.{reads_once}
use Rattle.spf_print_laws.proofs.Lines.{program_kept}
use Rattle.spf_print_laws.proofs.ReadBack.{read_back}
use Rattle.spf_print_laws.proofs.Writable.{writable}

-- the laws on tokens and on spellings that are used
pub record Laws : Type 0 where
  pub tokens : TextsDetermineTheirTokens
  pub spellings : SpellingsResolveToTheirPrograms

-- a text says one raw program at most, apart from line numbers
says_once : Laws → (text : List ℕ) (p q : RawProgram) → SaysButForLines text p → SaysButForLines text q → program_without_lines p ≡ program_without_lines q
says_once laws text p q a b =
    let same = laws.tokens text b.tokens a.tokens b.are a.are in
    let reads = subst (λ ts. Reads (length ts) (lexemes_of text ts) b.said) same b.reads in
    sym a.same ∙ ap program_without_lines (reads_once (length a.tokens) (lexemes_of text a.tokens) a.said b.said a.reads reads) ∙ b.same

-- a program without its lines is what its spelling without them resolves to
without_lines_is : Laws → (p : Program) → IsScoped p → lines.program_without_lines p ≡ resolved (program_without_lines (spelled 0 p))
without_lines_is laws p w = ap lines.program_without_lines (sym (laws.spellings 0 p w)) ∙ sym (program_kept (spelled 0 p))

pub by_reading : Laws → (text : List ℕ) (p q : Program) → IsScoped p → IsScoped q → SaysButForLines text (spelled 0 p) → SaysButForLines text (spelled 0 q) → AreSameButForLines p q
by_reading laws text p q v w a b =
    without_lines_is laws p v ∙ ap resolved (says_once laws text (spelled 0 p) (spelled 0 q) a b) ∙ sym (without_lines_is laws q w)

pub by_text : Laws → (p q : Program) → IsScoped p → IsScoped q → text_of p ≡ text_of q → AreSameButForLines p q
by_text laws p q v w same =
    by_reading laws (text_of p) p q v w (read_back (spelled 0 p) (writable 0 p v)) (subst (λ text. SaysButForLines text (spelled 0 q)) (sym same) (read_back (spelled 0 q) (writable 0 q w)))

-- a text of a raw program says that program
said_is : (text : List ℕ) (raw : RawProgram) → IsProgramOf text raw → SaysButForLines text raw
said_is text raw h = record {
  tokens = h.tokens;
  are = h.are;
  said = raw;
  reads = loosened 0 (length h.tokens) (omega arith) program (lexemes_of text h.tokens) raw [] h.reads;
  same = refl;
}

pub by_reader : Laws → (p q : Program) (raw : RawProgram) → IsScoped p → IsProgramOf (text_of p) raw → IsResolved raw q → AreSameButForLines p q
by_reader laws p q raw w h r =
    let same = says_once laws (text_of p) (spelled 0 p) raw (read_back (spelled 0 p) (writable 0 p w)) (said_is (text_of p) raw h) in
    let other : resolved raw ≡ q = ap resolved (sym r.spelling) ∙ laws.spellings raw.main_line q r.lawful.scoped in
    without_lines_is laws p w ∙ ap resolved same ∙ program_kept raw ∙ ap lines.program_without_lines other
