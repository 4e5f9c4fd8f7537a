use Rattle.std.proofs.Common.{◌≡◌, suc, ◌-◌, ◌∙◌, refl, arith}
use Rattle.spf_apps_formats.specs.Written.{written}
use Rattle.spf_apps_formats.proofs.BitStrings.{bits_next}
use Rattle.spf_apps_formats.proofs.bits.BitWriter.push_bits.Goals as goal

pub loop-left-preserved : goal.loop-left-preserved
loop-left-preserved c =
    let many : c.loop-left.left ≡ suc (c.loop-left.left - 1) = omega arith in (
      bits_next (written c.loop-left.self) (written c.push_bit.new.self) c.loop-left.left (c.loop-left.left - 1) c.args.number _ many refl c.in_ok-push_bit.ensures ∙ c.loop-left.invariant.0,
      omega (arith, c.loop-left.invariant.1),
    )
