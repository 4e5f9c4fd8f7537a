use Rattle.spf_text.proofs.Verdicts.{only_from, in_order_from, slices_from, given_from, bad_from, large_from}
use Rattle.spf_text.proofs.scanner.scan.Goals as goal

pub returns-clause-only : goal.returns-clause-only
returns-clause-only c = only_from (λ v. v.items) c.args.text.now c.tokens_of.result c.tokens_of.ensures

pub returns-clause-in_order : goal.returns-clause-in_order
returns-clause-in_order c = in_order_from (λ v. v.items) c.args.text.now c.tokens_of.result c.tokens_of.ensures

pub returns-clause-accepted : goal.returns-clause-accepted
returns-clause-accepted c = λ ts short tokens. given_from (λ v. v.items) c.args.text.now c.tokens_of.result c.tokens_of.ensures ts tokens

pub returns-clause-bad_byte_refused : goal.returns-clause-bad_byte_refused
returns-clause-bad_byte_refused c = λ at short fault. bad_from (λ v. v.items) c.args.text.now c.tokens_of.result c.tokens_of.ensures at fault

pub returns-clause-too_large_refused : goal.returns-clause-too_large_refused
returns-clause-too_large_refused c = λ at short fault. large_from (λ v. v.items) c.args.text.now c.tokens_of.result c.tokens_of.ensures at fault

pub returns-clause-slices : goal.returns-clause-slices
returns-clause-slices c = slices_from (λ v. v.items) c.args.text.now c.tokens_of.result c.tokens_of.ensures
