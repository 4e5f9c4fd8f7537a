use Rattle.std.proofs.Common.{rules, sym, ◌∙◌, w64, to_z, of_z, FitsSigned}
use Rattle.std.proofs.lemmas.Int.{to_z-of_z}
use Rattle.spf_effects_findings.proofs.Grown.{read_whole, read_range}
use Rattle.spf_effects_findings.proofs.findings.Findings.read_element.Goals as goal

pub returns-in-Unknown : goal.returns-in-Unknown
returns-in-Unknown c =
    let old = c.self.inside in
    rw (c.in-Unknown.is, ← c.self.view_is) (read_whole c.add.result c.args.array old.uncovered old.may old.written c.add.new.self c.add.ensures.offsets c.add.ensures.wholes)

pub returns-else-covers : goal.returns-else-covers
returns-else-covers c =
    let old = c.self.inside in
    let f : FitsSigned w64 c.in-Known.factor = search rules in
    let l : FitsSigned w64 c.in-Known.low = search rules in
    let h : FitsSigned w64 c.in-Known.high = search rules in
    let read = read_range c.add-in-Known.result c.args.array (to_z w64 (of_z w64 c.in-Known.factor)) (to_z w64 (of_z w64 c.in-Known.low)) (to_z w64 (of_z w64 c.in-Known.high)) old.uncovered old.may old.written c.add-in-Known.new.self (sym c.covers.ensures.covers ∙ c.if-covers.false) c.add-in-Known.ensures.offsets c.add-in-Known.ensures.wholes in
    rw (c.in-Known.is, ← c.self.view_is) (rw (to_z-of_z w64 c.in-Known.factor f, to_z-of_z w64 c.in-Known.low l, to_z-of_z w64 c.in-Known.high h) at read)
