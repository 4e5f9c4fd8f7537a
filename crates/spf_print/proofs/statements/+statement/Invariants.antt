use Rattle.std.proofs.Common.{◌≡◌, ◌++◌, drop}
use Rattle.spf_ast.specs.View.{block}
use Rattle.spf_ast.specs.Spelling.{spelled_block}
use Rattle.spf_print_forms.specs.Canonical.{deeper, block_text}
use Rattle.spf_print_forms.specs.Printing.{vocabulary_of}
use Rattle.spf_print.proofs.statements.+statement.Given as goal

-- the text with what is left to add
abbrev pub invariant-push_nested-loop-statement : goal.invariant-push_nested-loop-statement
invariant-push_nested-loop-statement l =
    l.text.items ++ block_text (deeper l.indent) (spelled_block (vocabulary_of l.names) (block (drop l.statement-index l.statements)))
    ≡ l.initial.text.items ++ block_text (deeper l.indent) (spelled_block (vocabulary_of l.names) (block l.statements))
