use Rattle.std.proofs.Common.{◌≡◌, ◌∙◌, ◌++◌, ℕ, List, length, take, drop, sym, ap, subst}
use Rattle.std.specs.List.{All}
use Rattle.std.proofs.Math.Seq.{take-append_seam}
use Rattle.spf_speculation_entry.specs.Sites.{entry_at}
use Rattle.spf_ticket.specs.Tickets.{IsJobOf}
use Rattle.spf_crew.specs.declared.view.CrewSetting.{CrewSetting}
use Rattle.spf_crew.specs.Mates.{IsMateOf}
use Rattle.spf_crew.specs.Crews.{AreAllMates, HaveRead}
use Rattle.spf_crew_threads.specs.Driving.{MakesAttempts}
use Rattle.spf_crew_threads.proofs.Endings.{all-of, still-all, have-read}
use Rattle.spf_crew_threads.proofs.workers.Workers.run_crew.Goals as goal

-- the mates after all turns
full : {A : Type 0} (n : ℕ) (old new : List A) → n ≡ length old → length new ≡ length old → take n (new ++ drop (length new) old) ≡ new
full n old new count size = ap (λ k. take k (new ++ drop (length new) old)) (count ∙ sym size) ∙ take-append_seam new (drop (length new) old)

pub drive_all-requires-clause-own : goal.drive_all-requires-clause-own
drive_all-requires-clause-own g c κs within = subst (All (IsMateOf c.in_ok-crew.crew)) (sym c.as_mut_slice.ensures.value) (all-of c.in_ok-crew.crew c.in_ok-crew.mates.items c.in_ok-crew.ensures.all)

pub drive_all-requires-clause-serves : goal.drive_all-requires-clause-serves
unfolding MakesAttempts
drive_all-requires-clause-serves g c κs within = record {
  runs = c.requires.job;
  entry = subst (λ (k : CrewSetting). IsJobOf (entry_at k.site) c.args.job) (sym c.in_ok-crew.ensures.setting) c.requires.entry;
}

pub close-requires-clause-all : goal.close-requires-clause-all
close-requires-clause-all g c =
    let m = c.in_ok-crew.mates in
    let new = c.drive_all.new.mates in
    let old = c.as_mut_slice.result.now in
    let value = c.as_mut_slice.ensures.value in
    let size = c.drive_all.ensures.count ∙ ap length value in
    subst (AreAllMates c.in_ok-crew.crew) (sym (full m.len m.items new m.ok.0 size))
    (still-all c.in_ok-crew.crew old new (subst (AreAllMates c.in_ok-crew.crew) (sym value) c.in_ok-crew.ensures.all) c.drive_all.ensures.count c.drive_all.ensures.each)

pub close-requires-clause-ended : goal.close-requires-clause-ended
close-requires-clause-ended g c =
    let m = c.in_ok-crew.mates in
    let new = c.drive_all.new.mates in
    let old = c.as_mut_slice.result.now in
    let value = c.as_mut_slice.ensures.value in
    let size = c.drive_all.ensures.count ∙ ap length value in
    subst HaveRead (sym (full m.len m.items new m.ok.0 size))
    (have-read c.in_ok-crew.crew old new (subst (AreAllMates c.in_ok-crew.crew) (sym value) c.in_ok-crew.ensures.all) c.drive_all.ensures.count c.drive_all.ensures.each)
