use Rattle.std.proofs.Common.{◌≡◌, ◌++◌, ◌∷◌, [], refl, ap, sym, subst, arith}
use Rattle.std.specs.Prelude.{All, option_map}
use Rattle.std.specs.Ordering.{int_eq}
use Rattle.std.specs.HashMap.{get, hash_map_len}
use Rattle.std.specs.Map.{lookup}
use Rattle.std.proofs.lemmas.Grind.{common_steps}
use Rattle.std.proofs.lemmas.List.Elements.{All-push}
use Rattle.spf_guess.specs.Answers.{AnswersAlike}
use Rattle.spf_guess.specs.Counting.{answer_of}
use Rattle.spf_guess.specs.Stores.{untold}
use Rattle.spf_guess.proofs.Votes.{seen, vote-answers}
use Rattle.spf_guess.proofs.vote.Vote.make.Goals as goal

pub loop-preserved : goal.loop-preserved
loop-preserved c = record {
  count = grind (arith, common_steps, c.in_ok-push.ensures.items, c.loop.invariant.count);
  fresh = subst (λ list. All (λ most. AnswersAlike (untold c.args.each) (answer_of most)) list) (sym c.in_ok-push.ensures.items)
      (All-push (λ most. AnswersAlike (untold c.args.each) (answer_of most)) c.loop.fresh.items _ c.loop.invariant.fresh c.in_ok-make.ensures);
}

pub returns : goal.returns
returns c =
    vote-answers c.args.room c.args.each (seen answer_of c.args.room (hash_map_len c.in_ok-votes.votes) (get int_eq c.in_ok-votes.votes))
    (refl, c.in_ok-votes.ensures.len, λ key. ap (λ entries. option_map answer_of (lookup (int_eq key) entries)) c.in_ok-votes.ensures.empty)
