use Rattle.std.proofs.Common.{rules, ◌∙◌, ap, w64, to_z, of_z}
use Rattle.std.proofs.lemmas.Int.{to_z-of_z}
use Rattle.spf_guess_statistics.specs.Guess.{told_to}
use Rattle.spf_guess.proofs.Handed.{guess-is, all-alike}
use Rattle.spf_guess.proofs.hosts.ask.Goals as goal

pub returns-clause-guess : goal.returns-clause-guess
returns-clause-guess g c = λ before telling were.
    to_z-of_z w64 c.ask_one.result (search rules)
    ∙ c.ask_one.ensures.answer
    ∙ guess-is _ c.args.hosts.now.items c.args.host c.index_mut.result.now (to_z w64 (of_z w64 c.args.block)) c.requires c.index_mut.ensures.value before telling were
    ∙ ap (before c.args.host (told_to c.args.host telling)) (to_z-of_z w64 c.args.block c.ranges.block)

pub returns-clause-told : goal.returns-clause-told
returns-clause-told g c = all-alike _ c.args.hosts.now.items c.args.host c.index_mut.result.now _ c.requires c.index_mut.ensures.value c.ask_one.ensures.same
