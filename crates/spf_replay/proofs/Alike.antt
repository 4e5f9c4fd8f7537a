-- Runs from slots that look alike.
use Rattle.std.proofs.Common.{◌↔◌, ℕ, List, ℤ, sym}
use Rattle.spf_ast.specs.Carried.{Carried}
use Rattle.spf_speculation_entry.specs.Entry.{Entry}
use Rattle.spf_ast_laws.specs.Keeping.{StandsInMain}
use Rattle.spf_speculation.specs.Alike.{RunsSeeVisibleSlots, SlotsLookAlike, with_slots}
use Rattle.spf_speculation.specs.Steps.{Step}
use Rattle.spf_replay.specs.Deciding.{IsRun}

other-way : (visible : List ℕ) (one other : List ℤ) → SlotsLookAlike visible one other → SlotsLookAlike visible other one
other-way visible one other h = record {
  agree = record { slots = λ slot c. sym (h.agree.slots slot c); output = sym h.agree.output };
  slot_count = sym h.slot_count;
}

pub look-alike : RunsSeeVisibleSlots → (e : Entry) (slots : List ℤ) (stands : StandsInMain e.program e.construct) (guess : ℕ → Carried) (steps : List Step)
    → SlotsLookAlike stands.scope.visible e.slots slots → IsRun e guess steps ↔ IsRun (with_slots e slots) guess steps
look-alike law e slots stands guess steps h = (
  λ r. record { values = r.values; result = r.result; run = law e slots stands guess steps r.values r.result h r.run },
  λ r. record { values = r.values; result = r.result; run = law (with_slots e slots) e.slots stands guess steps r.values r.result (other-way stands.scope.visible e.slots slots h) r.run },
)
