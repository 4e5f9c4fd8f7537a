use Rattle.std.proofs.Common.{◌≡◌, [], ◌∷◌, ◌++◌, sym, ap, ◌∙◌, option_to_list}
use Rattle.spf_crew.specs.Values.{ChainSeatValue}
use Rattle.spf_crew.specs.Mates.{MateValue}
use Rattle.spf_crew.proofs.Crews.{fewer, fewer_read, last_one}
use Rattle.spf_crew.proofs.Endings.{ended-of}
use Rattle.spf_crew.proofs.crew.Crew.close.Goals as goal

pub dismiss_all-all-requires-clause-last : goal.dismiss_all-all-requires-clause-last
dismiss_all-all-requires-clause-last c =
    let m : MateValue = c.unwrap.result in
    let is : c.args.mates.items ≡ c.pop.new.self.items ++ m ∷ [] = c.pop.ensures.items ∙ ap (λ o. c.pop.new.self.items ++ option_to_list o) c.unwrap.ensures in
    let l = last_one c.args.self c.args.mates.items c.pop.new.self.items m is c.requires.all.each c.requires.ended in
    let p = c.into_seat-last.ensures in
    let count = c.requires.all.count in (
      (ap (λ (x : ChainSeatValue). x.table) p ∙ l.0.of.0, ap (λ (x : ChainSeatValue). x.setting) p ∙ l.0.of.1),
      ap (λ (x : ChainSeatValue). x.read) p ∙ l.1,
      ap (λ (x : ChainSeatValue). x.from) p ∙ l.0.from,
      ap (λ (x : ChainSeatValue). x.to) p ∙ (l.0.to ∙ (sym l.2 ∙ count)),
    )

pub dismiss_all-all-requires-clause-mates : goal.dismiss_all-all-requires-clause-mates
dismiss_all-all-requires-clause-mates c =
    let m : MateValue = c.unwrap.result in
    let is : c.args.mates.items ≡ c.pop.new.self.items ++ m ∷ [] = c.pop.ensures.items ∙ ap (λ o. c.pop.new.self.items ++ option_to_list o) c.unwrap.ensures in
    (fewer c.args.self c.args.mates.items c.pop.new.self.items m is c.requires.all.each, fewer_read c.args.mates.items c.pop.new.self.items m is c.requires.ended)

pub merged_logs_are_speculative_runs-requires : goal.merged_logs_are_speculative_runs-requires
merged_logs_are_speculative_runs-requires c = record { ended = ended-of c.end-chain.result.0 c.end-chain.ensures.ended }

pub returns-clause-ended : goal.returns-clause-ended
returns-clause-ended c = ended-of c.end-chain.result.0 c.end-chain.ensures.ended
