-- What a text says that is a program's canonical one.
use Rattle.std.proofs.Common.{◌≡◌, List, ℕ, sym, subst}
use Rattle.spf_ast.specs.Syntax.{Program}
use Rattle.spf_ast.specs.Lawful.{IsScoped}
use Rattle.spf_ast.specs.Spelling.{spelled}
use Rattle.spf_parse_grammar.specs.Texts.{IsProgramOf}
use Rattle.spf_print_laws.specs.Laws.{text_of, SaysButForLines, TextsSayTheirPrograms, TextsAreReadAsTheirPrograms}
use Rattle.spf_apps_texts.specs.Laws.{IsTextOf}

pub is_text : (p : Program) (text : List ℕ) → text_of p ≡ text → IsScoped p → TextsSayTheirPrograms → TextsAreReadAsTheirPrograms → IsTextOf text p
is_text p text e scoped say read =
    record {
      says = subst (λ t. SaysButForLines t (spelled 0 p)) e (say p scoped);
      alone = λ raw q of resolved. read p q raw scoped (subst (λ t. IsProgramOf t raw) (sym e) of) resolved;
    }
