use Rattle.std.proofs.Common.{rules}
use Rattle.spf_tests_runtime.proofs.CountingFold.{looped}
use Rattle.spf_tests_runtime.proofs.counting.loop_to_carried.Goals as goal

pub returns : goal.returns
returns c = looped c.push.new.self.items c.new.result (search rules) (search rules)
