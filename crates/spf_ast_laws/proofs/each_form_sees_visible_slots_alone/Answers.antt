use Rattle.spf_ast.specs.Meaning.{environment_before}
use Rattle.spf_ast.specs.Lawful.{Agree}
use Rattle.spf_ast_laws.proofs.Primitives.{performed, performed-left, agreeing}
use Rattle.spf_ast_laws.proofs.Forms.{calls-see, expression-sees, condition-sees, statement-sees, block-sees, main-sees}
use Rattle.spf_ast_laws.proofs.Parts.{part-sees, header-sees}
use Rattle.spf_ast_laws.proofs.each_form_sees_visible_slots_alone.Goals as goal

pub returns-clause-expressions : goal.returns-clause-expressions
returns-clause-expressions c names scope e l input extents functions index line =
    performed (expression-sees (environment_before input extents functions index) (calls-see input extents functions index) names scope (Agree scope.visible) (agreeing scope.visible) line e l)

pub returns-clause-conditions : goal.returns-clause-conditions
returns-clause-conditions c names scope condition l input extents functions index line =
    performed (condition-sees (environment_before input extents functions index) (calls-see input extents functions index) names scope (Agree scope.visible) (agreeing scope.visible) line condition l)

pub returns-clause-statements : goal.returns-clause-statements
returns-clause-statements c names in_main scope s l input extents functions index line =
    performed-left (statement-sees (environment_before input extents functions index) (calls-see input extents functions index) names in_main scope line s l)

pub returns-clause-blocks : goal.returns-clause-blocks
returns-clause-blocks c names in_main scope block l input extents functions index =
    performed-left (block-sees (environment_before input extents functions index) (calls-see input extents functions index) names in_main scope block l)

pub returns-clause-parts : goal.returns-clause-parts
returns-clause-parts c names scope line s construct is l input extents functions index part number carried =
    performed (part-sees (environment_before input extents functions index) (calls-see input extents functions index) names scope line s construct is l part number carried)

pub returns-clause-headers : goal.returns-clause-headers
returns-clause-headers c names scope line s construct is l input extents functions index =
    performed (header-sees (environment_before input extents functions index) (calls-see input extents functions index) names scope line s construct is l)

pub returns-clause-main : goal.returns-clause-main
returns-clause-main c names scope block l out input extents functions index =
    performed (main-sees (environment_before input extents functions index) (calls-see input extents functions index) names scope block l out)
