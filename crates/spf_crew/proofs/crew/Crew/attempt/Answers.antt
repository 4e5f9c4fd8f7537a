use Rattle.std.proofs.Common.{◌≡◌, ◌∙◌, sym, ap, subst}
use Rattle.spf_cells.specs.Values.{CellsValue}
use Rattle.spf_speculation_entry.specs.Sites.{entry_at, guess_at, AreMadeFor}
use Rattle.spf_exec_instance.specs.Frame.{frame_size}
use Rattle.spf_ticket.specs.declared.ticket.Ticket.{Ticket}
use Rattle.spf_ticket.specs.declared.ticket.Report.{Report}
use Rattle.spf_ticket.specs.declared.run.Job.{Job}
use Rattle.spf_ticket.specs.Tickets.{IsFresh, IsJobOf, IsLawfulReport, Ran}
use Rattle.spf_crew.specs.declared.view.CrewSetting.{CrewSetting}
use Rattle.spf_crew.specs.Crew.{HasItsCells}
use Rattle.spf_crew.specs.Tickets.{IsFreshOf, IsLawfulOf, ServesCrew}
use Rattle.spf_crew.specs.Values.{CrewValue}
use Rattle.spf_crew.proofs.crew.Crew.attempt.Goals as goal

-- a fresh ticket of the crew, over the crew's own cells
fresh-here : (k now : CrewSetting) (cells : CellsValue) (t : Ticket) → HasItsCells k cells → k ≡ now → IsFreshOf now t → IsFresh (entry_at k.site) (guess_at k.site) cells t
fresh-here k now cells t serves same fresh = subst (λ x. IsFresh (entry_at k.site) (guess_at k.site) x t) (sym serves.same) (subst (λ x. IsFreshOf x t) (sym same) fresh)

made-here : (k : CrewSetting) (cells : CellsValue) → HasItsCells k cells → AreMadeFor (entry_at k.site) cells.setting
made-here k cells serves = subst (λ (x : CellsValue). AreMadeFor (entry_at k.site) x.setting) (sym serves.same) serves.ground.made

lawful-there : (k now : CrewSetting) (cells : CellsValue) (r : Report) → HasItsCells k cells → k ≡ now → IsLawfulReport (entry_at k.site) (guess_at k.site) cells r → IsLawfulOf now r
lawful-there k now cells r serves same l = subst (λ x. IsLawfulOf x r) same (subst (λ x. IsLawfulReport (entry_at k.site) (guess_at k.site) x r) serves.same l)

-- the crew's job is that of its site
job-here : (k now : CrewSetting) (job : Job) → k ≡ now → ServesCrew now job → IsJobOf (entry_at k.site) job
job-here k now job same serves = subst (λ x. IsJobOf (entry_at x.site) job) (sym same) serves.entry

pub run-requires : goal.run-requires
run-requires g c =
    let k = c.self.inside.table.shared.key.value in
    let i = c.self.invariant in
    let mine = ap (λ (v : CrewValue). v.setting) c.self.view_is in
    let f = fresh-here k c.args.self.now.setting c.self.inside.cells c.args.ticket i mine c.requires.fresh in
    let runs = c.requires.job.runs in
    record {
      own = f.at.lane.0;
      lawful = runs.lawful;
      construct = runs.top;
      entry = runs.cells;
      frame = f.at.frame ∙ ap frame_size (sym (job-here k c.args.self.now.setting c.args.job.now mine c.requires.job).program);
      silent = runs.silent c.args.ticket.block;
      outer = runs.outer c.args.ticket.block;
    }

pub returns : goal.returns
returns g c =
    let k = c.self.inside.table.shared.key.value in
    let i = c.self.invariant in
    let mine = ap (λ (v : CrewValue). v.setting) c.self.view_is in
    let f = fresh-here k c.args.self.now.setting c.self.inside.cells c.args.ticket i mine c.requires.fresh in
    let m = made-here k c.self.inside.cells i in
    let j = job-here k c.args.self.now.setting c.args.job.now mine c.requires.job in
    let ran = c.run.ensures.ran (entry_at k.site) i.ground.entry m j f.at in
    let same = c.run.ensures.same in
    record {
      lawful = lawful-there k c.args.self.now.setting c.self.inside.cells c.run.result i mine (c.run.ensures.lawful (entry_at k.site) (guess_at k.site) i.ground.entry m j f);
      attempt = record {
        fresh = c.requires.fresh;
        ran = subst (λ (x : CrewSetting). Ran (entry_at x.site) c.args.ticket c.run.result) mine ran;
        block = same.block;
        attempt = same.attempt;
        carried = same.carried;
      };
    }
