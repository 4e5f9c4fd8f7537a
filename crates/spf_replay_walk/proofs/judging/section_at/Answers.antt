use Rattle.std.proofs.Common.{◌≡◌, ℕ, zero, suc, ◌<◌, List, [], ◌∷◌, length, Some, sym, ap, ◌∙◌, arith}
use Rattle.std.specs.Prelude.{slice_get, slice_index_or}
use Rattle.std.specs.Global.{Vec}
use Rattle.spf_replay_log.specs.declared.log.Step as logged
use Rattle.spf_replay.specs.SeenSteps.{seen_steps}
use Rattle.spf_replay_walk.specs.Judging.{seen_log}
use Rattle.spf_replay_walk.proofs.judging.section_at.Goals as goal

seen-at : (log : List (Vec logged.Step)) (n : ℕ) (section : Vec logged.Step) → n < length log → section ≡ slice_index_or log n section → slice_get (seen_log log) n ≡ Some (seen_steps section.items)
seen-at [] n section h is = absurd (omega (arith, h))
seen-at (x ∷ log) zero section h is = ap (λ (s : Vec logged.Step). Some (seen_steps s.items)) (sym is)
seen-at (x ∷ log) (suc n) section h is = seen-at log n section (omega (arith, h)) is

pub returns : goal.returns
returns c = seen-at c.args.log.now c.args.n c.index-log-n.result c.requires c.index-log-n.is ∙ ap (λ l. Some (seen_steps l)) (sym c.deref.ensures.value)
