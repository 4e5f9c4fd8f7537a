use Rattle.spf_check.proofs.Examining.{refused-not-accepted}
use Rattle.spf_check.proofs.Judging.{accepted-or-refused}
use Rattle.spf_check.proofs.Unique.{one-first-refusal}
use Rattle.spf_check.proofs.laws.one_first_refusal.Goals as goal

pub returns : goal.returns
returns c = record { some = accepted-or-refused c.each_part_has_effects_in_lists.ensures; one = one-first-refusal; refused = refused-not-accepted }
