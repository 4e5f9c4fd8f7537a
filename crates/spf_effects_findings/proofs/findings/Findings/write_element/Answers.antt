use Rattle.std.proofs.Common.{rules, sym, ◌∙◌, w64, to_z, of_z, FitsSigned}
use Rattle.std.proofs.lemmas.Int.{to_z-of_z}
use Rattle.spf_effects_findings.proofs.Grown.{write_some, write_one}
use Rattle.spf_effects_findings.proofs.findings.Findings.write_element.Goals as goal

pub returns-then-is_same : goal.returns-then-is_same
returns-then-is_same c =
    let old = c.self.inside in
    let f : FitsSigned w64 c.in-Known.factor = search rules in
    let l : FitsSigned w64 c.in-Known.low = search rules in
    let h : FitsSigned w64 c.in-Known.high = search rules in
    let write = write_one c.add-then-is_same.result c.args.array (to_z w64 (of_z w64 c.in-Known.factor)) (to_z w64 (of_z w64 c.in-Known.low)) (to_z w64 (of_z w64 c.in-Known.high)) old.uncovered old.may old.written c.add.new.self c.add-then-is_same.new.self (sym c.is_same.ensures ∙ c.if-is_same.true) c.in_ok-add-in-Known.ensures.offsets c.in_ok-add-in-Known.ensures.wholes c.add-then-is_same.ensures.offsets c.add-then-is_same.ensures.wholes in
    rw (c.in-Known.is, ← c.self.view_is) (rw (to_z-of_z w64 c.in-Known.factor f, to_z-of_z w64 c.in-Known.low l, to_z-of_z w64 c.in-Known.high h) at write)

pub returns-else-is_same : goal.returns-else-is_same
returns-else-is_same c =
    let old = c.self.inside in
    let f : FitsSigned w64 c.in-Known.factor = search rules in
    let l : FitsSigned w64 c.in-Known.low = search rules in
    let h : FitsSigned w64 c.in-Known.high = search rules in
    let write = write_some c.args.array (to_z w64 (of_z w64 c.in-Known.factor)) (to_z w64 (of_z w64 c.in-Known.low)) (to_z w64 (of_z w64 c.in-Known.high)) old.uncovered old.may old.written c.add.new.self (sym c.is_same.ensures ∙ c.if-is_same.false) c.in_ok-add-in-Known.ensures.offsets c.in_ok-add-in-Known.ensures.wholes in
    rw (c.in-Known.is, ← c.self.view_is) (rw (to_z-of_z w64 c.in-Known.factor f, to_z-of_z w64 c.in-Known.low l, to_z-of_z w64 c.in-Known.high h) at write)
