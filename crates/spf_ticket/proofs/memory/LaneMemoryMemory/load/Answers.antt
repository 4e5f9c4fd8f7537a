use Rattle.std.proofs.Common.{◌≡◌, arith, sym, ◌∙◌, w64, to_z, of_z, slice_index_or, pos, ℤ, ap}
use Rattle.std.proofs.lemmas.Int.{to_z-of_z}
use Rattle.spf_cells.specs.declared.view.LogEntry.TheVariants as entry
use Rattle.spf_cells.specs.Values.{logged}
use Rattle.spf_ticket.proofs.Leading.{load-own, load-other}
use Rattle.spf_ticket.proofs.memory.LaneMemoryMemory.load.Goals as goal

pub returns-in-Some-clause-leads : goal.returns-in-Some-clause-leads
returns-in-Some-clause-leads c =
    let m = c.args.self.now in
    let word : to_z w64 (of_z w64 c.in-Some.word) ≡ c.in-Some.word = grind (arith, to_z-of_z) in
    load-own m.lane c.try_load.new.self m.entry.now m.attempt c.args.cell (to_z w64 (of_z w64 c.in-Some.word)) c.in-Some.ensures.inside
    (c.in-Some.ensures.log ∙ ap (λ w. logged m.lane (entry.Load c.args.cell w)) (sym word))

pub returns-in-None-clause-leads : goal.returns-in-None-clause-leads
returns-in-None-clause-leads c =
    let m = c.args.self.now in
    let v : ℤ = slice_index_or m.entry.now c.args.cell (pos 0) in
    let word : to_z w64 (of_z w64 v) ≡ v = grind (arith, to_z-of_z) in
    load-other m.lane c.try_load.new.self m.entry.now m.attempt c.args.cell (to_z w64 (of_z w64 v)) c.in-None.ensures.outside.0 c.in-None.ensures.outside.1 word
