use Rattle.std.proofs.Common.{◌≡◌, ◌<◌, ◌∙◌, sym, length, set, subst, Some, None, slice_get}
use Rattle.std.proofs.lemmas.Option.{slice_get_within}
use Rattle.spf_ticket.specs.declared.ticket.Report.{Report}
use Rattle.spf_chain.specs.Chains.{ChainValue, Validates, HasTrapped, came_home, next_block}
use Rattle.spf_chain.proofs.Lists.{set_here}
use Rattle.spf_chain.proofs.Filed.{same-after, one-filed}
use Rattle.spf_chain.proofs.chain.Chain.file.Goals as goal

trapped-home : (before after : ChainValue) (r : Report) → after ≡ came_home before r → HasTrapped before → HasTrapped after
trapped-home before after r is h = subst HasTrapped (sym is) (record { trap = h.trap; trapped = h.trapped })

pub returns-clause-filed : goal.returns-clause-filed
returns-clause-filed c = record {
  validated = c.validate.new.self;
  validates = subst (λ (x : ChainValue). Validates x c.validate.new.self) c.come_home.ensures.state c.validate.ensures.validates;
  after_trap = λ trapped. c.validate.ensures.trapped (trapped-home c.args.self.now c.come_home.new.self c.args.report c.come_home.ensures.state trapped) ∙ c.come_home.ensures.state;
  second = λ two here.
      let home : slice_get (came_home c.args.self.now c.args.report).homes (next_block c.args.self.now) ≡ Some (Some c.args.report)
      = subst (λ n. slice_get (set c.args.self.now.homes n (Some c.args.report)) (next_block c.args.self.now) ≡ Some (Some c.args.report)) (sym here)
      (set_here c.args.self.now.homes (next_block c.args.self.now) (Some c.args.report)
      (subst (λ n. n < length c.args.self.now.homes) here (slice_get_within c.args.self.now.homes c.args.report.ticket.block None c.come_home.ensures.free))) in
      subst (λ (x : ChainValue). slice_get x.homes (next_block x) ≡ Some (Some c.args.report) → next_block x < next_block c.validate.new.self) c.come_home.ensures.state
      (λ at. c.validate.ensures.second c.args.report at two) home;
  raised = c.raise.new.self;
  raises = c.raise.ensures;
  answers = c.answer.ensures.answer;
  exact = c.answer.ensures.exact;
}

pub returns-clause-same : goal.returns-clause-same
returns-clause-same c = same-after c.args.self.now c.come_home.new.self c.validate.new.self c.raise.new.self c.answer.new.self c.args.report c.answer.result
    (record { came = c.come_home.ensures.state; validates = c.validate.ensures.validates; raises = c.raise.ensures; answers = c.answer.ensures.answer })

pub returns-clause-reports : goal.returns-clause-reports
returns-clause-reports c = one-filed c.args.self.now c.come_home.new.self c.validate.new.self c.raise.new.self c.answer.new.self c.args.report c.answer.result
    (record { came = c.come_home.ensures.state; validates = c.validate.ensures.validates; raises = c.raise.ensures; answers = c.answer.ensures.answer })
