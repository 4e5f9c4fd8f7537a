use Rattle.spf_apps_formats.proofs.Judging.{huf1_judged, lex1_judged}
use Rattle.spf_apps_formats.proofs.Verdicts.{huf1_apart, huf1_once, lex1_apart, lex1_once, lex1_counts}
use Rattle.spf_apps_formats.proofs.laws.files_have_one_verdict.Goals as goal

pub returns-clause-huf1 : goal.returns-clause-huf1
returns-clause-huf1 c = record { some = huf1_judged; apart = huf1_apart; one = huf1_once }

pub returns-clause-lex1 : goal.returns-clause-lex1
returns-clause-lex1 c = record { some = lex1_judged; apart = lex1_apart; one = lex1_once; counts = lex1_counts }
