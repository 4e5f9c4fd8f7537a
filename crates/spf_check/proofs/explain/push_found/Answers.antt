use Rattle.std.proofs.Common.{sym, ◌∙◌, ap, ◌++◌}
use Rattle.spf_ast.specs.ConstructView.{construct}
use Rattle.spf_check.specs.Explained.{parts_lines}
use Rattle.spf_check.proofs.Explained.{construct-added}
use Rattle.spf_check.proofs.explain.push_found.Goals as goal

pub returns : goal.returns
returns c = λ p arrays found.
    construct-added _ p (construct c.args.construct.now) c.args.found.now _ _ _ _ c.are_normal.ensures found
    (c.in_ok-extend_from_slice.ensures.items ∙ ap (λ l. c.args.text.now.items ++ l) (c.as_bytes.ensures.value ∙ c.in_ok-line.ensures))
    (c.in_ok-push_parts.ensures ∙ ap (λ a. c.extend_from_slice.new.self.items ++ parts_lines a c.args.found.now) (sym arrays))
    (c.push_verdict.ensures p (construct c.args.construct.now) arrays found)
