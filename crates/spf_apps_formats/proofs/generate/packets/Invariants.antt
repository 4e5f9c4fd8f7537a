use Rattle.std.proofs.Common.{◌≡◌, ◌<◌, ℕ, ◌-◌, length}
use Rattle.spf_apps_formats.specs.Draws.{packets}
use Rattle.spf_apps_formats.proofs.generate.packets.Given as goal

abbrev pub invariant-loop-draws : goal.invariant-loop-draws
invariant-loop-draws l = (count : ℕ) × ((l.file.items, l.draws.state) ≡ packets count l.seed) × ((fewer : ℕ) → fewer < count → length (packets fewer l.seed).0 < l.size)

abbrev pub decreases-loop-draws : goal.decreases-loop-draws
decreases-loop-draws l = l.size - length l.file.items
