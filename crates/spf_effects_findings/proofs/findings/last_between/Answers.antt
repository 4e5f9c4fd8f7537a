use Rattle.std.proofs.Common.{◌≡◌, Bool, true, false, pos, sym, ap, ◌∙◌, rules, w64, to_z, of_z, FitsSigned}
use Rattle.std.specs.Prelude.{◌-ℤ◌, Some, None, int_lt, if◌then◌else◌}
use Rattle.std.proofs.lemmas.Int.{to_z-of_z}
use Rattle.spf_effects_findings.proofs.findings.last_between.Goals as goal

pub returns-then-first-end : goal.returns-then-first-end
returns-then-first-end c =
    let end = c.args.end in
    let test : int_lt c.args.first end ≡ true = rw (to_z-of_z w64 c.args.first c.ranges.first, to_z-of_z w64 end c.ranges.end) at c.if-first-end.true in
    let fits : FitsSigned w64 (end -ℤ pos 1) = search rules in
    ap (λ z. Some (to_z w64 (of_z w64 (z -ℤ pos 1)))) (to_z-of_z w64 end c.ranges.end)
    ∙ ap (λ z. Some z) (to_z-of_z w64 (end -ℤ pos 1) fits)
    ∙ ap (λ (b : Bool). if b then Some (end -ℤ pos 1) else None) (sym test)

pub returns-else-first-end : goal.returns-else-first-end
returns-else-first-end c =
    let test : int_lt c.args.first c.args.end ≡ false = rw (to_z-of_z w64 c.args.first c.ranges.first, to_z-of_z w64 c.args.end c.ranges.end) at c.if-first-end.false in
    ap (λ (b : Bool). if b then Some (c.args.end -ℤ pos 1) else None) (sym test)
