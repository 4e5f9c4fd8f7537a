use Rattle.std.proofs.Common.{sym, ◌∙◌}
use Rattle.spf_types_names.specs.declared.globals.Outer.{Outer}
use Rattle.spf_types_names.proofs.Tables.{entered, changed, found_along, same_bytes, none_there}
use Rattle.spf_types_names.proofs.globals.enter.Goals as goal

pub returns-in_ok-insert-clause-first : goal.returns-in_ok-insert-clause-first
returns-in_ok-insert-clause-first c q =
    entered {X = Outer} _ _ c.args.outer _ (changed {X = Outer} c.args.table.now c.insert.new.self c.args.name _ c.in_ok-insert.ensures.updates q)
    (λ e. found_along {X = Outer} c.args.table.now q c.args.name (sym (same_bytes _ _ e)) ∙ sym c.get.ensures.value ∙ none_there _ _ _ c.is_none.ensures c.if-is_none.true)
