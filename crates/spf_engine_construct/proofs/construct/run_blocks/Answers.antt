use Rattle.std.proofs.Common.{◌≡◌, ◌∙◌, sym, ap, subst, arith, ◌+◌, length, map, drop, List, ◌++◌}
use Rattle.std.proofs.lemmas.List.{length-map}
use Rattle.spf_ast.specs.ConstructView.{construct as seen_construct}
use Rattle.spf_ast.specs.Lawful.{IsLawful}
use Rattle.spf_ast.specs.View.{program as seen_program}
use Rattle.spf_exec_instance.specs.Instance.{program_of}
use Rattle.spf_exec.specs.Pieces.{seen_header}
use Rattle.spf_speculation_entry.specs.declared.site.Site.{Site}
use Rattle.spf_speculation_entry.specs.Entry.{plain_blocks}
use Rattle.spf_speculation_entry.specs.Sites.{entry_at}
use Rattle.spf_chain.specs.declared.block.ChainBlock.{ChainBlock}
use Rattle.spf_guess_statistics.specs.declared.guess.Guess as code_guess
use Rattle.spf_chain.specs.Beginning.{site_of}
use Rattle.spf_guess_statistics.specs.Guess.{tells}
use Rattle.spf_engine_construct.specs.Guesses.{seen_guess, block_guess, paired, counts_of, real_values}
use Rattle.spf_engine_construct.specs.Coming.{entry_of}
use Rattle.spf_engine_construct.proofs.Coming.{entry-is, row-count, comes}
use Rattle.spf_engine_construct.proofs.Hosts.{retold}
use Rattle.spf_engine_construct.proofs.Widths.{guess-width}
use Rattle.spf_engine_construct.proofs.construct.run_blocks.Goals as goal

pub take_guesses-requires-clause-functions : goal.take_guesses-requires-clause-functions
take_guesses-requires-clause-functions g c κs within =
    c.lawful_programs_are_quiet_and_small.ensures.functions (program_of c.args.at.instance.now) (subst IsLawful (sym c.requires.there.program) c.program-program.ensures.lawful)

pub take_guesses-requires-clause-width : goal.take_guesses-requires-clause-width
take_guesses-requires-clause-width g c κs within =
    guess-width (program_of c.args.at.instance.now) c.args.at.index (seen_construct c.args.at.construct)
    (c.breaks_stay_in_their_loops.ensures.programs (program_of c.args.at.instance.now) (subst IsLawful (sym c.requires.there.program) c.program-program.ensures.lawful))
    c.requires.there.construct

pub run_from-requires-clause-guesses : goal.run_from-requires-clause-guesses
run_from-requires-clause-guesses g c κs within = ap (λ (l : List code_guess.Guess). length l + 1) c.deref.ensures.value ∙ c.in_ok-guesses.ensures.size

pub count_blocks-stats-requires-clause-few : goal.count_blocks-stats-requires-clause-few
count_blocks-stats-requires-clause-few g c =
    let within = c.history-history.ensures.homes.within in
    let blocks = ap (λ (s : Site). s.blocks) c.in_ok-chain.ensures.site in
    let few = c.requires.there.few in
    let history = ap (λ (l : List ChainBlock). length l) c.history-history.ensures.history in
    let size = row-count c.deref-2.result.now _ (c.deref-2.ensures.value ∙ c.in_ok-reals.ensures.rows) in
    omega (arith, within, blocks, few, history, size)

pub count_blocks-stats-requires-clause-enough : goal.count_blocks-stats-requires-clause-enough
count_blocks-stats-requires-clause-enough g c =
    let within = c.history-history.ensures.homes.within in
    let blocks = ap (λ (s : Site). s.blocks) c.in_ok-chain.ensures.site in
    let size = c.in_ok-guesses.ensures.size in
    let history = ap (λ (l : List ChainBlock). length l) c.history-history.ensures.history in
    let rows = row-count c.deref-2.result.now _ (c.deref-2.ensures.value ∙ c.in_ok-reals.ensures.rows) in
    let guesses = ap (λ (l : List code_guess.Guess). length l) c.deref-3.ensures.value in
    omega (arith, within, blocks, size, history, rows, guesses)

pub tell_history-requires-clause-few : goal.tell_history-requires-clause-few
tell_history-requires-clause-few g c =
    let within = c.history-history.ensures.homes.within in
    let blocks = ap (λ (s : Site). s.blocks) c.in_ok-chain.ensures.site in
    let history = ap (λ (l : List ChainBlock). length l) c.history-history.ensures.history in
    let rows = row-count c.deref-4.result.now _ (c.deref-4.ensures.value ∙ c.in_ok-reals.ensures.rows) in
    omega (arith, within, blocks, history, rows)

pub returns-clause-came : goal.returns-clause-came
returns-clause-came g c = λ before telling were settled trace memory after finished entry.
    let items = c.in_ok-guesses.guesses.items in
    let rows = c.deref-2.ensures.value ∙ c.in_ok-reals.ensures.rows ∙ ap real_values c.history-history.ensures.history in
    let site : c.in_ok-chain.chain.site ≡ site_of c.args.at.instance.now c.args.at.index c.args.header.now c.args.at.frame.now c.args.at.cells.now items
    = c.in_ok-chain.ensures.site ∙ ap (site_of c.args.at.instance.now c.args.at.index c.args.header.now c.args.at.frame.now c.args.at.cells.now) c.deref.ensures.value in
    let counted : c.count_blocks-stats.result ≡ counts_of (length c.in_ok-chain.chain.history) (paired (map seen_guess items) (drop 1 (real_values c.in_ok-chain.chain.history)))
    = c.count_blocks-stats.ensures.counts ∙ (λ i. counts_of (length (rows i)) (paired (map seen_guess (c.deref-3.ensures.value i)) (drop 1 (rows i))))
    ∙ ap (λ n. counts_of n (paired (map seen_guess items) (drop 1 (real_values c.in_ok-chain.chain.history)))) (length-map c.in_ok-chain.chain.history (λ (b : ChainBlock). b.row)) in
    let within = c.history-history.ensures.homes.within in
    let blocks = ap (λ (s : Site). s.blocks) c.in_ok-chain.ensures.site in
    comes (block_guess before telling c.args.at c.args.header.now) (seen_program c.args.checked.now) c.args.at c.args.header.now items c.requires.there
    c.in_ok-chain.chain site (c.in_ok-guesses.ensures.guesses before telling were) c.speculative_runs_see_visible_slots_alone.ensures.guesses settled trace memory after finished entry
    c.count_blocks-stats.result counted (omega (arith, within, blocks))

pub returns-clause-told : goal.returns-clause-told
returns-clause-told g c = λ before telling were.
    let items = c.in_ok-guesses.guesses.items in
    let site : c.in_ok-chain.chain.site ≡ site_of c.args.at.instance.now c.args.at.index c.args.header.now c.args.at.frame.now c.args.at.cells.now items
    = c.in_ok-chain.ensures.site ∙ ap (site_of c.args.at.instance.now c.args.at.index c.args.header.now c.args.at.frame.now c.args.at.cells.now) c.deref.ensures.value in
    let values : c.deref-4.result.now ≡ (plain_blocks (entry_of c.args.at c.args.header.now)).values
    = c.deref-4.ensures.value ∙ c.in_ok-reals.ensures.rows ∙ ap real_values c.history-history.ensures.history ∙ c.merged_logs_are_speculative_runs.ensures.values
    ∙ ap (λ x. (plain_blocks (entry_at x)).values) site ∙ ap (λ x. (plain_blocks x).values) (entry-is c.args.at c.args.header.now items c.requires.there.construct) in
    retold before _ _ _ (ap (λ vs. telling ++ tells (seen_construct c.args.at.construct) (seen_header c.args.header.now) vs) values) (c.tell_history.ensures.told before telling (c.in_ok-guesses.ensures.told before telling were))
