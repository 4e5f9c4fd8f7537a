-- Commands of `clap`, and the arguments and subcommands that they get.
use Rattle.std.proofs.Common.{ap, ap₂, ◌∙◌, refl}
use Rattle.std.proofs.lemmas.Result.{IfOk-weaker}
use Rattle.std.specs.Prelude.{Result, IfOk}
use Rattle.clap.specs.Words.{AddsArg, AddsSubcommand, App, Rule, with_rule, with_subcommand}
use Rattle.clap.specs.declared.builder.arg.Arg.{Arg}
use Rattle.clap.specs.declared.builder.command.Command.{Command}
use Rattle.spf_cli_words.specs.Line.{IsRule, IsLine}

-- a command with one more argument
pub with-arg : (old : Command) (arg : Arg) (new : Command) (app : App) (rule : Rule) → AddsArg old arg new → IsLine app old → IsRule rule arg
    → IsLine (with_rule app rule) new
with-arg old arg new app rule adds o r = (adds.shape r.1 ∙ ap₂ with_rule o.0 r.0, adds.globals ∙ rw (o.1, r.1) refl)

-- a command with one more subcommand
pub with-sub : (old sub new : Command) (app part : App) → AddsSubcommand old sub new → IsLine app old → IsLine part sub
    → IsLine (with_subcommand app part.top) new
with-sub old sub new app part adds o s = (adds.shape s.1 ∙ ap₂ with_subcommand o.0 (ap (λ (a : App). a.top) s.0), adds.globals ∙ rw (o.1, s.1) refl)

-- the same where there may be no memory
pub with-arg-if : {E : Type 0} (r : Result Command E) (old : Command) (arg : Arg) (app : App) (rule : Rule) → IfOk r (AddsArg old arg) → IsLine app old
    → IsRule rule arg → IfOk r (IsLine (with_rule app rule))
with-arg-if r old arg app rule adds o is = IfOk-weaker r _ _ (λ new h. with-arg old arg new app rule h o is) adds

pub with-sub-if : {E : Type 0} (r : Result Command E) (old sub : Command) (app part : App) → IfOk r (AddsSubcommand old sub) → IsLine app old
    → IsLine part sub → IfOk r (IsLine (with_subcommand app part.top))
with-sub-if r old sub app part adds o is = IfOk-weaker r _ _ (λ new h. with-sub old sub new app part h o is) adds
