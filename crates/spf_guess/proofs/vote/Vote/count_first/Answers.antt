use Rattle.std.proofs.Common.{◌≡◌, ◌<◌, length, get_or, ap, sym, ◌∙◌, subst, w64, arith}
use Rattle.std.specs.Prelude.{All, Some, if◌then◌else◌}
use Rattle.std.specs.Ordering.{int_eq}
use Rattle.std.specs.HashMap.{get, hash_map_len}
use Rattle.std.proofs.lemmas.Int.{to_z-of_z}
use Rattle.std.proofs.lemmas.List.Elements.{All-take}
use Rattle.spf_guess.specs.Answers.{AnswersAlike}
use Rattle.spf_guess.specs.Counting.{answer_of}
use Rattle.spf_guess.specs.Stores.{untold, once_told}
use Rattle.spf_guess.proofs.Votes.{first-vote, last-of-all}
use Rattle.spf_guess.proofs.vote.Vote.count_first.Goals as goal

pub invariant_of-self-clause-are_fresh : goal.invariant_of-self-clause-are_fresh
invariant_of-self-clause-are_fresh c =
    subst (λ list. All (λ most. AnswersAlike (untold c.args.self.now.each) (answer_of most)) list) (sym c.in-Some.ensures.rest)
    (All-take (λ most. AnswersAlike (untold c.args.self.now.each) (answer_of most)) _ c.args.self.now.fresh.items c.args.self.now.are_fresh)

pub returns-in-Some-clause-votes : goal.returns-in-Some-clause-votes
returns-in-Some-clause-votes c =
    first-vote answer_of c.args.self.now.each c.args.self.now.room (hash_map_len c.args.self.now.votes) (hash_map_len c.insert.new.votes) (get int_eq c.args.self.now.votes) (get int_eq c.insert.new.votes)
    (record { block = c.args.block; real = c.args.real }) c.in-Some.most c.count_for.new.most
    c.requires.new c.requires.room c.insert.ensures.count
    (λ other. c.insert.ensures.values other ∙ ap (λ block. if int_eq block other then Some c.count_for.new.most else get int_eq c.args.self.now.votes other) (to_z-of_z w64 c.args.block c.ranges.block))
    (c.count_for.ensures ∙ ap (once_told (answer_of c.in-Some.most)) (λ i. record { block = to_z-of_z w64 c.args.block c.ranges.block i; real = to_z-of_z w64 c.args.real c.ranges.real i }))
    (last-of-all (λ most. AnswersAlike (untold c.args.self.now.each) (answer_of most)) c.pop.new.self.items c.args.self.now.fresh.items c.in-Some.most c.in-Some.ensures.items c.args.self.now.are_fresh)
