use Rattle.spf_ast.specs.Meaning.{environment_before}
use Rattle.spf_ast_laws.proofs.Forms.{calls-see}
use Rattle.spf_ast_laws.proofs.Keeping.{calls-keep}
use Rattle.spf_ast_laws.proofs.Chains.{construct-is-blocks, header-traps}
use Rattle.spf_ast_laws.proofs.each_construct_is_its_block_runs.Goals as goal

pub returns-clause-constructs : goal.returns-clause-constructs
returns-clause-constructs c names scope line s construct is l declared own input extents functions silent index m header after entry e alike =
    construct-is-blocks (environment_before input extents functions index) (calls-see input extents functions index) (calls-keep input extents functions index) (c.silent_forms_leave_the_output.ensures.parts input extents functions index silent)
    names scope declared line s construct is l own m header after entry e alike

pub returns-clause-headers : goal.returns-clause-headers
returns-clause-headers c g line s construct is m trap output e =
    let h = header-traps g line s construct is m trap output e in (h.answer, h.memory)
