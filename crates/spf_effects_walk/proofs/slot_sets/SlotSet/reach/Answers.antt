use Rattle.std.proofs.Common.{◌≡◌, ℕ, ◌+◌, ◌<◌, length, refl, sym, subst, ◌∙◌, arith, rules}
use Rattle.std.specs.Prelude.{Result, Ok, Err, OnOk, is_ok, if◌then◌else◌}
use Rattle.std.specs.Vec.{vec_len}
use Rattle.spf_effects_walk.proofs.SlotSets.{padded}
use Rattle.spf_effects_walk.proofs.slot_sets.SlotSet.reach.Goals as goal

pub returns-then-index-len : goal.returns-then-index-len
returns-then-index-len c = record {
  same = refl;
  reached = subst (λ l. c.args.index < length l) c.self.view_is (omega (arith, c.if-index-len.true, c.len.ensures));
}

pub returns-clause-same : goal.returns-clause-same
returns-clause-same c =
    let flags = c.self.inside.flags.items in
    rw (← c.self.view_is) (padded c.resize.result flags c.resize.new.self.items _ _ (omega (arith, c.if-index-len.false, c.len.ensures)) c.resize.ensures.items)

-- a slot is in reach of a table that was made this long
in_reach : {E : Type 0} (result : Result (Unit {0}) E) (index long before : ℕ) → long ≡ (if is_ok result then index + 1 else before) → OnOk result (index < long)
in_reach (Ok u) index long before e = omega arith
in_reach (Err x) index long before e = tt

pub returns-clause-reached : goal.returns-clause-reached
returns-clause-reached c =
    let long : vec_len c.resize.new.self ≡ length c.resize.new.self.items = search rules in
    in_reach c.resize.result c.args.index (length c.resize.new.self.items) _ (sym long ∙ c.resize.ensures.len)
