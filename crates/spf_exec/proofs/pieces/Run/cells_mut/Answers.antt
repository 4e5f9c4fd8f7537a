use Rattle.std.proofs.Common.{refl, ap, ◌∙◌, ◌++◌, length, take, drop}
use Rattle.spf_exec.specs.Pieces.{RunState, refilled}
use Rattle.spf_exec.proofs.pieces.Run.cells_mut.Goals as goal

pub returns : goal.returns
returns c =
    let inside = c.self.inside in (
      (
        refl,
        λ w.
            ap (λ k. record { frame = inside.frame; cells = take k (w ++ drop (length w) inside.memory.cells.items); output = inside.memory.output.items; place = inside.place; passed = inside.passed }) inside.memory.cells.ok.0
            ∙ ap (λ (s : RunState). record s { cells = refilled s.cells w }) c.self.view_is,
      ),
      record { writes_back = tt; value = c.as_mut_slice.ensures.value ∙ ap (λ (s : RunState). s.cells) c.self.view_is },
    )
