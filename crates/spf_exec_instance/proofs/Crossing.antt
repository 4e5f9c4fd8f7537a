-- What may cross threads: a program, its code, and an instance of it.
use denote.Hole.{as_row}
use denote.Param.Send.{IsSync, sendable, view_sync}
use denote.Param.SendFields.{declared_sync}
use denote.Ref.{NamedLft}
use Rattle.std.proofs.Crossing.{crosses}
use Rattle.spf_ast.proofs.syntax.Cond.TheLaws.TheKnot as condition
use Rattle.spf_ast.proofs.syntax.Expr.TheLaws.TheKnot as expression
use Rattle.spf_ast.proofs.syntax.StmtKind.TheLaws.TheKnot as statement
use Rattle.spf_ast.specs.contracts.construct.TopConstruct
use Rattle.spf_ast.specs.contracts.syntax.Program
use Rattle.spf_code.proofs.node.Node.TheLaws.TheKnot as node
use Rattle.spf_code.specs.contracts.node.Node
use Rattle.spf_code.specs.contracts.program.ProgramCode
use Rattle.spf_exec_instance.specs.contracts.instance.Instance

ruleset syntax = (crosses, condition.crosses, expression.crosses, statement.crosses, sendable)

pub program_sync : IsSync Program.the_row
program_sync = search syntax depth 60 fits 20000

pub top_construct_field_sync : (κ : NamedLft) → IsSync (as_row (TopConstruct.the_field κ))
top_construct_field_sync κ = search syntax depth 60 fits 20000

pub node_sync : IsSync Node.the_row
node_sync = search (crosses, node.crosses, sendable) depth 60

pub code_sync : IsSync ProgramCode.the_row
code_sync = search (node_sync, crosses, declared_sync, sendable) depth 20

pub instance_sync : (κ : NamedLft) → IsSync (as_row (Instance.the_field κ))
instance_sync κ = search (program_sync, code_sync, crosses, view_sync, declared_sync, sendable) depth 20
