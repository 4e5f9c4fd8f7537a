use Rattle.std.proofs.Common.{◌≡◌, ◌++◌, ◌∷◌, [], codes, ℕ, List, append_assoc, append-nil}
use Rattle.std.proofs.lemmas.Result.{IfOk-equal}
use Rattle.spf_ast.specs.Spelling.{spelled_fold}
use Rattle.spf_ast.specs.View.{fold_head}
use Rattle.spf_print_forms.specs.Canonical.{joined, carried_text, row_text}
use Rattle.spf_print_forms.specs.Printing.{vocabulary_of}
use Rattle.spf_print.proofs.lines.push_fold_start.Goals as goal

-- five pieces that were added one by one
five : (old indent word carried sign start : List ℕ) → ((((old ++ indent) ++ word) ++ carried) ++ sign) ++ start ≡ old ++ indent ++ joined (word ∷ carried ∷ sign ∷ start ∷ [])
five old indent word carried sign start = simp (append_assoc, append-nil)

pub returns : goal.returns
returns c =
    IfOk-equal c.push_row.result _ _ _ c.push_row.ensures (rw (c.deref-2.ensures.value, c.in_ok-push-3.ensures {u = tt}, c.in_ok-push_carried.ensures {u = tt}, c.deref.ensures.value, c.in_ok-push-2.ensures {u = tt}, c.in_ok-push.ensures {u = tt}) (five c.args.text.now.items c.args.indent.now (codes "specfold ") (carried_text (spelled_fold (vocabulary_of c.args.names.now) (fold_head c.args.fold.now)).carried) (codes " = ") (row_text (spelled_fold (vocabulary_of c.args.names.now) (fold_head c.args.fold.now)).start)))
