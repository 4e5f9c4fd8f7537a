-- A program with an input that it runs on.
use Rattle.std.specs.Prelude.{◌≡◌, ◌<◌, ◌^◌, ℕ, List, length}
use Rattle.spf_ast.specs.declared.syntax.Program as code
use Rattle.spf_ast.specs.Syntax.{Program}
use Rattle.spf_ast.specs.View.{program}
use Rattle.spf_ast.specs.GoingOn.{IsOrderly}
use Rattle.spf_code.specs.declared.program.ProgramCode.{ProgramCode}
use Rattle.spf_ast.specs.Program.{extents_of}
use Rattle.spf_code_lowering.specs.Lowering.{IsCodeOfProgram}
use Rattle.spf_code_lowering.specs.Tables.{HaveAnswers}
use Rattle.spf_exec_instance.specs.Layout.{LayoutValue, IsLayoutOf}
use Rattle.spf_exec_instance.specs.Frame.{frame_size}

-- the program and the input
pub record InstanceValue : Type 0 where
  pub source : code.Program
  pub input : List ℕ

-- the program as plain data
abbrev pub program_of : InstanceValue → Program
program_of i = program i.source

-- the program is orderly, the layout is that of the program for the input's length, the lowered code and the frame's size are the program's, the tables have the functions' answers, and the input's length is a word
pub record IsInstance (p : Program) (input : List ℕ) (l : LayoutValue) (lowered : ProgramCode) (registers : ℕ) : Type 0 where
  pub orderly : IsOrderly p
  pub layout : IsLayoutOf p (length input) l
  pub code : IsCodeOfProgram p lowered
  pub tables : HaveAnswers input (extents_of p (length input)) p.functions lowered.functions.items
  pub size : registers ≡ frame_size p
  pub short : length input < 2 ^ 63
