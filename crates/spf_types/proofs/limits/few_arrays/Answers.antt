use Rattle.std.proofs.Common.{refl}
use Rattle.spf_types.proofs.Kept.{refused_array, few_arrays}
use Rattle.spf_types.proofs.limits.few_arrays.Goals as goal

pub returns-in-Some : goal.returns-in-Some
returns-in-Some c =
    let k = (c.in-Some.ensures {u = tt}).lookup in
    rw c.too_large.ensures (refused_array c.args.arrays.now c.in-Some.array.now k.3.0 k.1)

pub returns-in-None : goal.returns-in-None
returns-in-None c = let k = (c.in-None.ensures {u = tt}).lookup in (few_arrays c.args.arrays.now k.3, refl)
