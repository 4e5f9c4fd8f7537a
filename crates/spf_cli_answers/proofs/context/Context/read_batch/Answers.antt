use Rattle.std.specs.Prelude.{Err}
use Rattle.std.proofs.Common.{◌≡◌, ◌∙◌, List, ℕ, map, string_bytes, subst, sym}
use Rattle.std.proofs.lemmas.Result.{err_from_is_err_and}
use Rattle.spf_ast.specs.Syntax.{Program}
use Rattle.spf_ast.specs.Construct.{constructs_in}
use Rattle.spf_ast.specs.View.{program}
use Rattle.spf_guess.specs.Missing.{missing_host}
use Rattle.spf_cli_answers.specs.Replying.{IsHostExit}
use Rattle.spf_cli_answers.specs.Whole.{AcceptedIn, WithNames, Batches, BatchesOn, max_list}
use Rattle.spf_cli_answers.proofs.Logs.{answers_on, accepted_leads, accepted_left}
use Rattle.spf_cli_answers.proofs.Steps.{answers_fetch}
use Rattle.spf_cli_answers.proofs.Batches.{ready, ready_on, ready_fetch, ready_names, list_left, hosts_left, answers_names}
use Rattle.spf_cli_answers.proofs.context.Context.read_batch.Goals as goal

-- the first host that is missing, by the names of the code
named : (count hosts : ℕ) (q p : Program) → count ≡ hosts → q ≡ p → missing_host count (constructs_in p.main) ≡ missing_host hosts (constructs_in q.main)
named count hosts q p same e i = missing_host (same i) (constructs_in (sym e i).main)

pub returns-in_err-checked-clause-left : goal.returns-in_err-checked-clause-left
returns-in_err-checked-clause-left g c given count =
    let q = err_from_is_err_and c.from_residual.result c.from_residual.ensures.1 in
    rw (q.1, q.2) (accepted_left c.rules_say_one_thing.ensures c.args.program.now (λ (p : Program). BatchesOn given c.args.list.now p) _ _ c.in_err-checked.field-0.0 c.in_err-checked.ensures.left)

pub returns-in_err-names-clause-left : goal.returns-in_err-names-clause-left
returns-in_err-names-clause-left g c given count =
    let q = err_from_is_err_and c.from_residual-in_err-names.result c.from_residual-in_err-names.ensures.1 in
    let old = g.F.Files.state c.args.files.now in
    let mid = g.F.Files.state c.fetch_accepted.new.files in
    let new = g.F.Files.state c.fetch_names.new.files in
    let next = λ (p : Program). BatchesOn given c.args.list.now p in
    let p = program c.in_ok-checked.checked in
    let left = c.in_err-names.field-0.0 in
    rw (q.1, q.2)
    (answers_on (AcceptedIn c.args.program.now next) (next p) old mid new (Err left) (accepted_leads c.rules_say_one_thing.ensures c.args.program.now next p old mid c.in_ok-checked.ensures.program)
    (list_left c.lists_have_one_verdict.ensures c.args.list.now (λ names. Batches given p names (missing_host given.count (constructs_in p.main))) mid new left c.in_err-names.ensures.left))

pub returns-in_err-all_supplied-clause-left : goal.returns-in_err-all_supplied-clause-left
returns-in_err-all_supplied-clause-left g c given count =
    let q = err_from_is_err_and c.from_residual-in_err-all_supplied.result c.from_residual-in_err-all_supplied.ensures.1 in
    let old = g.F.Files.state c.args.files.now in
    let mid = g.F.Files.state c.fetch_accepted.new.files in
    let new = g.F.Files.state c.fetch_names.new.files in
    let next = λ (p : Program). BatchesOn given c.args.list.now p in
    let p = program c.in_ok-checked.checked in
    let names = map string_bytes c.in_ok-names.names.items in
    let rest = λ (found : List (List ℕ)). Batches given p found (missing_host given.count (constructs_in p.main)) in
    let list = c.in_ok-names.ensures.names in
    let left = c.in_err-all_supplied.field-0.0 in
    let same = named given.count c.args.hosts (program c.program.result.now) p count (λ i. program (c.program.ensures.program i)) in
    rw (q.1, q.2)
    (answers_on (AcceptedIn c.args.program.now next) (next p) old mid new (Err left) (accepted_leads c.rules_say_one_thing.ensures c.args.program.now next p old mid c.in_ok-checked.ensures.program)
    (answers_fetch c.args.list.now max_list (λ bytes. WithNames bytes rest) list.0 mid new new (Err left) list.1
    (answers_names c.lists_have_one_verdict.ensures list.0 names rest new new (Err left) list.2
    (hosts_left given p names new left (subst (λ m. IsHostExit m left) (sym same) c.in_err-all_supplied.ensures.left)))))

pub returns-clause-ready : goal.returns-clause-ready
returns-clause-ready g c given count =
    let old = g.F.Files.state c.args.files.now in
    let mid = g.F.Files.state c.fetch_accepted.new.files in
    let new = g.F.Files.state c.fetch_names.new.files in
    let next = λ (p : Program). BatchesOn given c.args.list.now p in
    let p = program c.in_ok-checked.checked in
    let names = map string_bytes c.in_ok-names.names.items in
    let rest = λ (found : List (List ℕ)). Batches given p found (missing_host given.count (constructs_in p.main)) in
    let list = c.in_ok-names.ensures.names in
    let same = named given.count c.args.hosts (program c.program.result.now) p count (λ i. program (c.program.ensures.program i)) in
    ready_on given (AcceptedIn c.args.program.now next) (next p) p names old mid new (accepted_leads c.rules_say_one_thing.ensures c.args.program.now next p old mid c.in_ok-checked.ensures.program)
    (ready_fetch given _ c.args.list.now max_list (λ bytes. WithNames bytes rest) list.0 p names mid new new list.1
    (ready_names c.lists_have_one_verdict.ensures given list.0 names rest p names new new list.2
    (ready given p names new (same ∙ c.in_ok-all_supplied.ensures.all))))
