use Rattle.std.proofs.Common.{◌≡◌, map, subst}
use Rattle.spf_speculation_entry.specs.Entry.{plain_blocks}
use Rattle.spf_speculation_entry.specs.Sites.{entry_at}
use Rattle.spf_chain.specs.Chains.{ChainValue}
use Rattle.spf_chain.proofs.Finishing.{merged, came-out}
use Rattle.spf_chain.proofs.chain.Chain.merged_logs_are_speculative_runs.Goals as goal

pub returns : goal.returns
returns c = record {
  merging = merged c.prefixes_grow.ensures.complete c.lanes_make_speculative_runs.ensures.merging c.self.inside c.args.self.now c.self.invariant c.self.view_is c.requires.ended;
  values = subst (λ (w : ChainValue). map (λ b. b.row) w.history ≡ (plain_blocks (entry_at w.site)).values) c.self.view_is
      (came-out c.prefixes_grow.ensures.complete c.self.inside c.args.self.now c.self.invariant c.self.view_is c.requires.ended).values;
}
