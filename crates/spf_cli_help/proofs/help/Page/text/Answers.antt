use Rattle.std.proofs.Common.{sym, ap}
use Rattle.spf_cli_help.specs.Pages.{text_of}
use Rattle.spf_cli_help.specs.Texts.{help_text, version_text, run_text, check_text, explain_text, print_text, unpack_text, unhuff_text, lex_text, show_text, build_text, batch_text, sim_text, replay_text, demo_text}
use Rattle.spf_cli_help.proofs.help.Page.text.Goals as goal

pub returns-in-Help : goal.returns-in-Help
unfolding help_text
returns-in-Help c = sym (ap text_of c.in-Help.is)

pub returns-in-Version : goal.returns-in-Version
unfolding version_text
returns-in-Version c = sym (ap text_of c.in-Version.is)

pub returns-in-Run : goal.returns-in-Run
unfolding run_text
returns-in-Run c = sym (ap text_of c.in-Run.is)

pub returns-in-Check : goal.returns-in-Check
unfolding check_text
returns-in-Check c = sym (ap text_of c.in-Check.is)

pub returns-in-Explain : goal.returns-in-Explain
unfolding explain_text
returns-in-Explain c = sym (ap text_of c.in-Explain.is)

pub returns-in-Print : goal.returns-in-Print
unfolding print_text
returns-in-Print c = sym (ap text_of c.in-Print.is)

pub returns-in-Unpack : goal.returns-in-Unpack
unfolding unpack_text
returns-in-Unpack c = sym (ap text_of c.in-Unpack.is)

pub returns-in-Unhuff : goal.returns-in-Unhuff
unfolding unhuff_text
returns-in-Unhuff c = sym (ap text_of c.in-Unhuff.is)

pub returns-in-Lex : goal.returns-in-Lex
unfolding lex_text
returns-in-Lex c = sym (ap text_of c.in-Lex.is)

pub returns-in-Show : goal.returns-in-Show
unfolding show_text
returns-in-Show c = sym (ap text_of c.in-Show.is)

pub returns-in-Build : goal.returns-in-Build
unfolding build_text
returns-in-Build c = sym (ap text_of c.in-Build.is)

pub returns-in-Batch : goal.returns-in-Batch
unfolding batch_text
returns-in-Batch c = sym (ap text_of c.in-Batch.is)

pub returns-in-Sim : goal.returns-in-Sim
unfolding sim_text
returns-in-Sim c = sym (ap text_of c.in-Sim.is)

pub returns-in-Replay : goal.returns-in-Replay
unfolding replay_text
returns-in-Replay c = sym (ap text_of c.in-Replay.is)

pub returns-in-Demo : goal.returns-in-Demo
unfolding demo_text
returns-in-Demo c = sym (ap text_of c.in-Demo.is)
