use Rattle.spf_exec.specs.declared.pieces.Pause.TheVariants as pause
use Rattle.spf_engine_laws.specs.Laws.{RunsAdvance}
use Rattle.spf_engine_laws.proofs.Standing.{Laws, begins, advances, advances-to-trap, finishes}
use Rattle.spf_engine_laws.proofs.Passed.{passed-have-the-traces}
use Rattle.spf_engine_laws.proofs.Constructs.{header-traps-run, construct-settles, construct-ends-run}
use Rattle.spf_engine_laws.proofs.runs_in_pieces_go_on.Goals as goal

advance : Laws → RunsAdvance
advance laws hosts p input before after progress (pause.AtConstruct number construct) goes a = advances laws hosts p input before after progress goes a.went a.at
advance laws hosts p input before after progress pause.Finished goes a = finishes hosts p input after progress (advances laws hosts p input before after progress goes a.went a.at) a.none
advance laws hosts p input before after progress (pause.Trapped trap) goes a = advances-to-trap laws hosts p input before after progress trap goes a

pub returns : goal.returns
returns c =
    let see = c.each_form_sees_visible_slots_alone.ensures in
    let own = c.each_construct_is_its_block_runs.ensures in
    let laws : Laws = record {
      main_sees = see.main;
      headers_see = see.headers;
      blocks = own.constructs;
      headers = own.headers;
      contained = c.each_construct_is_self_contained.ensures;
      slots = c.speculative_runs_see_visible_slots_alone.ensures.slots;
    } in
    record {
      begin = begins;
      advance = advance laws;
      headers = header-traps-run laws;
      settle = construct-settles laws;
      blocks = construct-ends-run laws;
      traces = passed-have-the-traces laws.slots;
    }
