-- A speculative run of `array a[3]; main { specfold s = 1 for k in 0..3 predict .. { a[k] = s * 2; next a[k]; } }`, whose guesses are 2 for block 1 and 7 for block 2.
use Rattle.std.proofs.Common.{◌≡◌, ℕ, zero, suc, List, [], ◌∷◌, pos, refl, arith}
use Rattle.std.specs.Prelude.{Ok}
use Rattle.spf_ast.specs.declared.syntax.Op.TheVariants.{Mul}
use Rattle.spf_ast.specs.Carried.{Carried}
use Rattle.spf_ast.specs.Event as event
use Rattle.spf_ast.specs.Event.{Event, after}
use Rattle.spf_ast.specs.Syntax.{Number, Local, Load, Binary, no_more, argument, Store, Host, end, on_line}
use Rattle.spf_ast.specs.Construct.{Construct, fold}
use Rattle.spf_speculation_entry.specs.Entry.{Entry, plain_blocks}
use Rattle.spf_speculation.specs.Steps.{Step, events_of}
use Rattle.spf_speculation.specs.Runs.{at_once, again, no_more_blocks, gave_value, IsSpeculativeRun}

abbrev doubling : Construct
doubling = fold 1 (record { carried = 0 ∷ []; start = argument (Number (pos 1)) no_more; block = 1; low = Number (pos 0); high = Number (pos 3); predict = Host 0 ∷ []; next = argument (Load 0 (Local 1)) no_more; next_line = 1 }) (on_line 1 (Store 0 (Local 1) (Binary Mul (Local 0) (Number (pos 2)))) end)

abbrev entry : Entry
entry = record {
  program = record { arrays = record { name = []; factor = pos 0; offset = pos 3; line = 1 } ∷ []; functions = []; slots = [] ∷ [] ∷ []; main = end; version = 1 };
  construct = doubling;
  input = [];
  slots = pos 0 ∷ pos 0 ∷ [];
  memory = pos 0 ∷ pos 0 ∷ pos 0 ∷ [];
  header = record { low = pos 0; blocks = 3; start = pos 1 ∷ [] };
}

abbrev guess : ℕ → Carried
guess zero = pos 0 ∷ []
guess (suc zero) = pos 2 ∷ []
guess (suc (suc n)) = pos 7 ∷ []

abbrev step : ℕ → Event → Step
step n e = record { block = n; event = e }

abbrev steps : List Step
steps =
    step 2 (event.Store 2 (pos 14)) ∷ step 0 (event.Store 0 (pos 2)) ∷ step 1 (event.Store 1 (pos 4)) ∷ step 2 (event.Load 2 (pos 14)) ∷ step 1 (event.Load 1 (pos 4))
    ∷ step 0 (event.Load 0 (pos 2)) ∷ step 2 (event.Store 2 (pos 8)) ∷ step 2 (event.Load 2 (pos 8)) ∷ []

plain : (plain_blocks entry) ≡ record { values = (pos 1 ∷ []) ∷ (pos 2 ∷ []) ∷ (pos 4 ∷ []) ∷ []; result = Ok (pos 8 ∷ []); memory = pos 2 ∷ pos 4 ∷ pos 8 ∷ [] }
plain = refl

leaves : after (events_of steps) entry.memory ≡ pos 2 ∷ pos 4 ∷ pos 8 ∷ []
leaves = refl

is-run : IsSpeculativeRun entry guess steps ((pos 1 ∷ []) ∷ (pos 2 ∷ []) ∷ (pos 4 ∷ []) ∷ []) (Ok (pos 8 ∷ []))
is-run = record {
  below = (omega arith, (omega arith, (omega arith, (omega arith, (omega arith, (omega arith, (omega arith, (omega arith, tt))))))));
  consistent = (refl, (refl, (refl, (refl, tt))));
  logs =
      gave_value (pos 2 ∷ []) (record { slots = pos 1 ∷ pos 0 ∷ []; output = [] }) (omega arith) (at_once refl refl)
      (gave_value (pos 4 ∷ []) (record { slots = pos 2 ∷ pos 1 ∷ []; output = [] }) (omega arith) (at_once refl refl)
      (gave_value (pos 8 ∷ []) (record { slots = pos 4 ∷ pos 2 ∷ []; output = [] }) (omega arith)
      (again (event.Store 2 (pos 14) ∷ event.Load 2 (pos 14) ∷ []) (event.Store 2 (pos 8) ∷ event.Load 2 (pos 8) ∷ []) refl (λ e. differ e) refl refl)
      (no_more_blocks refl)));
}
  where
    differ : (pos 7 ∷ []) ≡ (pos 4 ∷ []) → ⊥
    differ e = cc
