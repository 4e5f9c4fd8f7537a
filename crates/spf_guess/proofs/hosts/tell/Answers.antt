use Rattle.std.proofs.Common.{w64}
use Rattle.std.proofs.lemmas.Int.{to_z-of_z}
use Rattle.spf_guess.proofs.Handed.{one-told, told-as}
use Rattle.spf_guess.proofs.hosts.tell.Goals as goal

pub returns-clause-told : goal.returns-clause-told
returns-clause-told g c =
    let block = to_z-of_z w64 c.args.block c.ranges.block in
    let real = to_z-of_z w64 c.args.real c.ranges.real in
    λ before telling were.
    told-as before telling c.args.host _ (record { block = c.args.block; real = c.args.real }) _ (λ i. record { block = block i; real = real i })
    (one-told _ c.args.hosts.now.items c.args.host c.index_mut.result.now _ _ c.requires c.index_mut.ensures.value c.tell_one.ensures.told before telling were)
