use Rattle.spf_parse_grammar.specs.Lexemes.{lexemes_of}
use Rattle.spf_parse.proofs.Writables.{writable, tokens_writable}
use Rattle.spf_parse.proofs.laws.texts_say_writable_programs.Goals as goal

pub returns : goal.returns
returns c text p h =
    writable 0 (lexemes_of text h.tokens) p (tokens_writable text h.tokens (c.tokens_are_spelled_by_their_slices.ensures text h.tokens h.are)) h.reads
