use Rattle.std.proofs.Common.{◌≡◌, ◌<◌, ◌≤◌, ℕ, Some, None, slice_get, arith, sym, ap, subst, length, ◌+◌, refl}
use Rattle.std.specs.List.{Contains}
use Rattle.spf_cells.specs.declared.view.Setting.{Setting}
use Rattle.spf_cells.specs.Values.{WardenValue}
use Rattle.spf_chain.proofs.Raising.{none-raised, raised-more, warden-of}
use Rattle.spf_chain.proofs.file.raise_out.Goals as goal

pub loop-block-init : goal.loop-block-init
loop-block-init c = none-raised _ _ (λ n p. let a = p.0 in let b = p.1 in omega (arith, a, b))

pub raise-requires : goal.raise-requires
raise-requires c =
    let g = c.loop-block.invariant in
    let w = c.args.warden.now in
    let plan : length c.loop-block.warden.setting.plan ≡ length w.setting.plan = ap (λ (z : WardenValue). length z.setting.plan) g.same in
    record {
      own = warden-of _ c.args.cells.now w c.loop-block.warden c.requires.own g;
      inside = omega (arith, plan, c.requires.inside, c.loop-block-test.true);
      raisable = subst (λ (k : Setting). Contains k.raisable c.loop-block.block) (sym (ap (λ (z : WardenValue). z.setting) g.same)) (c.requires.raisable c.loop-block.block c.loop-block.auto.block c.loop-block-test.true);
      attempt = refl;
    }

pub loop-block-preserved : goal.loop-block-preserved
loop-block-preserved c =
    let i = c.loop-block.block in
    let homes = c.args.homes.now in
    let from = c.args.from in
    let P : ℕ → Type 0 = λ n. (from ≤ n) × (n < i) × (slice_get homes n ≡ Some None) in
    let Q : ℕ → Type 0 = λ n. (from ≤ n) × (n < i + 1) × (slice_get homes n ≡ Some None) in
    raised-more P Q c.args.warden.now c.loop-block.warden c.raise.new.self i c.loop-block.invariant c.raise.ensures.flag
    (omega (arith, c.requires.flags, c.loop-block-test.true))
    (λ n q ne. (q.0, (let b = q.1 in omega (arith, b, ne)), q.2))
    (λ n p. (p.0, (let b = p.1 in omega (arith, b)), p.2))
    (c.loop-block.auto.block, omega arith, c.is_out.ensures.0 c.if-not-is_out.false)
    (λ p. let b = p.1 in omega (arith, b))
