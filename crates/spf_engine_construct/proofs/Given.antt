-- What calls gave that were made in several threads, and what may cross threads.
use denote.Hole.{as_row}
use denote.Param.Send.{IsSync, sendable, view_sync}
use denote.Param.SendFields.{declared_sync}
use denote.Ref.{NamedLft}
use Rattle.std.proofs.Common.{◌<◌, ℕ, zero, suc, List, [], ◌∷◌, length, Result, Ok, Err, arith}
use Rattle.std.proofs.Crossing.{crosses}
use Rattle.std.specs.Prelude.{IfOk, IfSome, slice_get, slice_index_or}
use Rattle.spf_exec.specs.contracts.frame.Frame
use Rattle.spf_exec.specs.contracts.pieces.Header
use Rattle.spf_engine_construct.specs.contracts.guesses.ReachedConstruct
use Rattle.spf_exec_instance.proofs.Crossing.{instance_sync, top_construct_field_sync}

pub frame_sync : IsSync Frame.the_row
frame_sync = search (crosses, view_sync, declared_sync, sendable) depth 20

pub header_sync : IsSync Header.the_row
header_sync = search (crosses, declared_sync, sendable) depth 20

pub stand_sync : (κ : NamedLft) → IsSync (as_row (ReachedConstruct.the_field κ))
stand_sync κ = declared_sync (ReachedConstruct.the_type κ) (search (instance_sync, top_construct_field_sync, frame_sync, sendable))

-- what holds for each element below the length holds for each element that is there
pub each_given : {A : Type 0} (P : ℕ → A → Type 0) (xs : List A) → ((i : ℕ) (d : A) → i < length xs → P i (slice_index_or xs i d)) → (i : ℕ) → IfSome (slice_get xs i) (P i)
each_given P [] f zero = tt
each_given P [] f (suc i) = tt
each_given P (x ∷ xs) f zero = f zero x (omega arith)
each_given P (x ∷ xs) f (suc i) = each_given (λ k. P (suc k)) xs (λ k d l. f (suc k) d (omega (arith, l))) i

-- two facts on what is Ok
pub both_ok : {A E : Type 0} {P Q R : A → Type 0} (r : Result A E) → IfOk r P → IfOk r Q → ((x : A) → P x → Q x → R x) → IfOk r R
both_ok (Ok x) p q f = f x p q
both_ok (Err e) p q f = tt
