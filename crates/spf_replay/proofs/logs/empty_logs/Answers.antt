use Rattle.std.proofs.Common.{rules, ◌≡◌, [], ◌∷◌, ◌++◌, sym, subst}
use Rattle.spf_replay.specs.SeenSteps.{log_at}
use Rattle.spf_replay.proofs.Grouped.{empty-more, count-more}
use Rattle.spf_replay.proofs.logs.empty_logs.Goals as goal

pub loop-i-preserved : goal.loop-i-preserved
loop-i-preserved c =
    let all : c.push_log.new.logs.items ≡ c.loop-i.logs.items ++ c.new.result ∷ [] = search rules in
    (count-more c.loop-i.logs.items c.push_log.new.logs.items c.new.result c.loop-i.i all c.loop-i.invariant.0, λ n. subst (λ l. log_at l n ≡ []) (sym all) (empty-more c.loop-i.logs.items c.new.result c.new.ensures.items c.loop-i.invariant.1 n))
