use Rattle.spf_ast.specs.Meaning.{environment_before}
use Rattle.spf_ast.proofs.Leaving.{calls-leave, part-leaves, header-leaves}
use Rattle.spf_ast.proofs.laws.silent_forms_leave_the_output.Goals as goal

pub returns-clause-parts : goal.returns-clause-parts
returns-clause-parts c input extents functions index silent construct part own number carried =
    part-leaves (environment_before input extents functions index) (calls-leave input extents functions silent index) construct part own number carried

pub returns-clause-headers : goal.returns-clause-headers
returns-clause-headers c input extents functions index silent construct =
    header-leaves (environment_before input extents functions index) (calls-leave input extents functions silent index) construct
