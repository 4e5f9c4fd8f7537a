use Rattle.std.proofs.Common.{◌≡◌, ◌≢◌, Bool, true, false, Some, None, map, drop, sym, ◌∙◌, refl, arith}
use Rattle.std.proofs.lemmas.Int.{to_z-of_z}
use mir.Syntax.{w64}
use mir.Val.{to_z, of_z}
use Rattle.spf_ast.specs.Carried.{same_carried}
use Rattle.spf_exec.specs.declared.block_run.BlockRun.{BlockRun}
use Rattle.spf_speculation_entry.specs.Entry.{begins_at}
use Rattle.spf_speculation_entry.specs.Attempts.{attempted}
use Rattle.spf_speculation_entry.proofs.Rows.{Decides-same_carried}
use Rattle.spf_replay.specs.Reading.{event_of}
use Rattle.spf_replay.specs.Attempts.{ComesTo}
use Rattle.spf_replay.proofs.Ends.{comes-at, moved, still-runs, whole-end, both-ways, back, real-at-once, real-again, real-misfit, left-at}
use Rattle.spf_replay.proofs.block.is_real_log.Goals as goal

not-both : (b : Bool) → b ≡ true → b ≡ false → ⊥
not-both b h k = cc

pub returns-then-is_same-clause-real : goal.returns-then-is_same-clause-real
returns-then-is_same-clause-real c e guess n context same =
    let b = c.args.block.now in
    let log = c.args.log.now in
    let at : begins_at e guess n ≡ c.args.real.now = sym same ∙ (Decides-same_carried b.value c.args.real.now).0 (sym c.is_same.ensures ∙ c.if-is_same.true) in
    both-ways c.is_whole.ensures (both-ways (whole-end (attempted e n (begins_at e guess n) 1 (map event_of log)) log c.read_attempt-end.result
    (comes-at e n c.args.context b (begins_at e guess n) 1 log 0 c.read_attempt-end.result context same c.read_attempt-end.ensures.came))
    (back (real-at-once e guess n c.args.real.now (map event_of log) at)))

pub read_attempt-end-requires-in-Some-clause-can : goal.read_attempt-end-requires-in-Some-clause-can
read_attempt-end-requires-in-Some-clause-can c = still-runs c.args.context c.args.block.now _ refl refl refl c.requires.can

pub returns-in-Some-clause-real : goal.returns-in-Some-clause-real
returns-in-Some-clause-real c e guess n context same =
    let b = c.args.block.now in
    let log = c.args.log.now in
    let at = c.in-Some.at in
    let number : to_z w64 (of_z w64 b.number) ≡ b.number = grind (arith, to_z-of_z) in
    let again : BlockRun = record { construct = b.construct; index = b.index; part = b.part; number = to_z w64 (of_z w64 b.number); value = c.args.real.now } in
    let other : begins_at e guess n ≢ c.args.real.now = λ eq. not-both (same_carried b.value c.args.real.now)
    ((Decides-same_carried b.value c.args.real.now).1 (same ∙ eq)) (sym c.is_same.ensures ∙ c.if-is_same.false) in
    let first : ComesTo (attempted e n (begins_at e guess n) 1 (map event_of log)) log (Some (c.in-Some.field-0-0, at)) =
    comes-at e n c.args.context b (begins_at e guess n) 1 log 0 (Some (c.in-Some.field-0-0, at)) context same c.in-Some.ensures.came in
    let second : ComesTo (attempted e n c.args.real.now 2 (map event_of (drop at log))) log c.read_attempt-end-in-Some.result =
    comes-at e n c.args.context again c.args.real.now 2 log at c.read_attempt-end-in-Some.result
    (moved e n c.args.context b again refl refl number context) refl c.read_attempt-end-in-Some.ensures.came in
    both-ways c.is_whole-in-Some.ensures (both-ways (whole-end (attempted e n c.args.real.now 2 (map event_of (drop at log))) log c.read_attempt-end-in-Some.result second)
    (back (real-again e guess n c.args.real.now (map event_of log) (map event_of (drop at log)) other
    (left-at (attempted e n (begins_at e guess n) 1 (map event_of log)) log c.in-Some.field-0-0 at first))))

pub returns-in-None-clause-real : goal.returns-in-None-clause-real
returns-in-None-clause-real c e guess n context same =
    let b = c.args.block.now in
    let log = c.args.log.now in
    let none : ComesTo (attempted e n (begins_at e guess n) 1 (map event_of log)) log None =
    comes-at e n c.args.context b (begins_at e guess n) 1 log 0 None context same c.in-None.ensures.came in
    ((λ f. absurd cc), (λ r. absurd (real-misfit e guess n c.args.real.now (map event_of log) r.0 none r.1)))
