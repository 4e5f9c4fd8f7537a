use Rattle.spf_speculation.proofs.Prefixes.{prefix-begins, prefix-grows, prefix-ends, prefix-complete, prefix-real, prefix-earlier}
use Rattle.spf_speculation.proofs.laws.prefixes_grow.Goals as goal

pub returns-clause-begin : goal.returns-clause-begin
returns-clause-begin c e guess logs = prefix-begins e guess logs

pub returns-clause-grow : goal.returns-clause-grow
returns-clause-grow c e guess logs n values v memory next state h prefix low real is =
    prefix-grows (record { runs = c.each_form_has_one_plain_run.ensures.parts; overwrite = c.blocks_overwrite.ensures }) e guess logs n values v memory next state h prefix low real is

pub returns-clause-end : goal.returns-clause-end
returns-clause-end c e guess logs n values v memory trap output h prefix low real is =
    prefix-ends (record { runs = c.each_form_has_one_plain_run.ensures.parts; overwrite = c.blocks_overwrite.ensures }) e guess logs n values v memory trap output h prefix low real is

pub returns-clause-complete : goal.returns-clause-complete
returns-clause-complete c e guess logs n values v memory prefix last = prefix-complete e guess logs n values v memory prefix last

pub returns-clause-real : goal.returns-clause-real
returns-clause-real c e guess logs n values v memory prefix low = prefix-real e guess logs n values v memory prefix low

pub returns-clause-earlier : goal.returns-clause-earlier
returns-clause-earlier c e guess logs others n values v memory prefix same = prefix-earlier e guess logs others n values v memory prefix same
