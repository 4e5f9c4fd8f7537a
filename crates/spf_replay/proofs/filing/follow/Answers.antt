use Rattle.std.proofs.Common.{get_or, refl, sym, ap, ◌∙◌, subst}
use Rattle.spf_replay.specs.Entered.{entry_of}
use Rattle.spf_replay.specs.Runners.{AreBlocksOf}
use Rattle.spf_replay.specs.Schedule.{Situation, is_running, after_filing, running_blocks}
use Rattle.spf_replay.proofs.Settled.{at-index, running-is, follows-nothing, follows-filing}
use Rattle.spf_replay.proofs.filing.follow.Goals as goal

pub returns-then-runners-n-clause-runners : goal.returns-then-runners-n-clause-runners
returns-then-runners-n-clause-runners c s are again =
    let e = entry_of c.args.entered.now in
    let r = get_or c.args.runners.now c.args.n c.index-runners-n.result in
    let at = at-index c.args.runners.now c.args.n c.index-runners-n.result r c.requires.block refl in
    subst (λ t. AreBlocksOf e t c.args.runners.now) (sym (follows-nothing e s c.args.runners.now c.args.n r are at c.if-runners-n.true)) are

pub returns-then-runners-n-clause-running : goal.returns-then-runners-n-clause-running
returns-then-runners-n-clause-running c s are again same =
    let e = entry_of c.args.entered.now in
    let r = get_or c.args.runners.now c.args.n c.index-runners-n.result in
    let at = at-index c.args.runners.now c.args.n c.index-runners-n.result r c.requires.block refl in
    same (sym (ap is_running (are.each c.args.n r at).status) ∙ running-is e c.args.n r ∙ c.if-runners-n.true)
    ∙ ap (λ (t : Situation). running_blocks t.status e.header.blocks) (sym (follows-nothing e s c.args.runners.now c.args.n r are at c.if-runners-n.true))

pub returns-clause-runners : goal.returns-clause-runners
returns-clause-runners c s are again =
    let e = entry_of c.args.entered.now in
    let r = get_or c.args.runners.now c.args.n c.index-runners-n.result in
    let at = at-index c.args.runners.now c.args.n c.index-runners-n.result r c.requires.block refl in
    subst (λ t. AreBlocksOf e t c.file.new.runners) (sym (follows-filing e s c.args.runners.now c.args.n r are at c.if-runners-n.false)) (c.file.ensures s are again)

pub returns-clause-running : goal.returns-clause-running
returns-clause-running c s are again same =
    let e = entry_of c.args.entered.now in
    let r = get_or c.args.runners.now c.args.n c.index-runners-n.result in
    let at = at-index c.args.runners.now c.args.n c.index-runners-n.result r c.requires.block refl in
    c.in_ok-running.ensures e (after_filing e s) (c.file.ensures s are again)
    ∙ ap (λ (t : Situation). running_blocks t.status e.header.blocks) (sym (follows-filing e s c.args.runners.now c.args.n r are at c.if-runners-n.false))
