-- What a finished chain says of the construct that it was started for.
use Rattle.std.proofs.Common.{◌≡◌, ℕ, zero, suc, ◌+◌, ◌-◌, ◌<◌, ◌≤◌, List, length, map, drop, ℤ, sym, ap, ◌∙◌, subst, arith}
use Rattle.std.specs.Prelude.{Some, slice_get}
use Rattle.std.proofs.lemmas.List.{length-map}
use Rattle.spf_ast.specs.Carried.{Carried}
use Rattle.spf_ast.specs.Construct.{constructs_in}
use Rattle.spf_ast.specs.ConstructView.{construct as seen_construct}
use Rattle.spf_ast.specs.Syntax.{Program}
use Rattle.spf_exec_instance.specs.Frame.{main_slots}
use Rattle.spf_exec_instance.specs.Instance.{program_of}
use Rattle.spf_exec.specs.declared.pieces.Header.{Header}
use Rattle.spf_exec.specs.Pieces.{seen_header}
use Rattle.spf_cells.specs.declared.view.LogEntry.{LogEntry}
use Rattle.spf_speculation_entry.specs.declared.site.Site.{Site}
use Rattle.spf_speculation_entry.specs.Entry.{plain_blocks}
use Rattle.spf_speculation_entry.specs.Sites.{construct_or_none, entry_at, guess_at}
use Rattle.spf_speculation.specs.Steps.{Merges}
use Rattle.spf_speculation.specs.Runs.{IsSpeculativeRun}
use Rattle.spf_speculation_lanes.specs.Lanes.{logs_in}
use Rattle.spf_speculation.specs.Alike.{RunsSeeTheGuessesOfTheirBlocks}
use Rattle.spf_guess_statistics.specs.declared.guess.Guess as code_guess
use Rattle.spf_chain.specs.declared.block.Settled.{Settled}
use Rattle.spf_chain.specs.declared.block.ChainBlock.{ChainBlock}
use Rattle.spf_chain.specs.Beginning.{site_of}
use Rattle.spf_chain.specs.Chains.{ChainValue}
use Rattle.spf_chain.specs.Finishing.{result_as, IsFinished}
use Rattle.spf_guess_statistics.specs.declared.stats.Stats.{Stats}
use Rattle.spf_guess_statistics.specs.Guess.{Guess}
use Rattle.spf_guess_statistics.specs.Statistics.{statistics_with}
use Rattle.spf_engine_construct.specs.declared.guesses.ReachedConstruct.{ReachedConstruct}
use Rattle.spf_engine_construct.specs.Guesses.{seen_guess, guesses_from, paired, counts_of, real_values}
use Rattle.spf_engine_construct.specs.Coming.{IsAtConstruct, entry_of, ComesTo}
use Rattle.spf_engine_construct.proofs.Counting.{counts-are, row-at}

-- the entry of the chain's site is the construct's
pub entry-is : (at : ReachedConstruct) (h : Header) (guesses : List code_guess.Guess) → slice_get (constructs_in (program_of at.instance.now).main) at.index ≡ Some (seen_construct at.construct)
    → entry_at (site_of at.instance.now at.index h at.frame.now at.cells.now guesses) ≡ entry_of at h
entry-is at h guesses is = λ i. record {
  program = program_of at.instance.now;
  construct = construct_or_none (is i);
  input = at.instance.now.input;
  slots = main_slots (program_of at.instance.now) at.frame.now;
  memory = at.cells.now;
  header = seen_header h;
}

-- validated blocks have as many real rows
pub row-count : (rows : List Carried) (history : List ChainBlock) → rows ≡ real_values history → length rows ≡ length history
row-count rows history is = ap length is ∙ length-map history (λ (b : ChainBlock). b.row)

-- the guesses of the site are those that were taken
same-guesses : (guess : ℕ → Guess) (at : ReachedConstruct) (h : Header) (guesses : List code_guess.Guess) → map seen_guess guesses ≡ guesses_from guess 1 (h.blocks - 1)
    → (n : ℕ) → 0 < n → n < h.blocks → guess_at (site_of at.instance.now at.index h at.frame.now at.cells.now guesses) n ≡ (guess n).value
same-guesses guess at h guesses taken zero above below = absurd (omega (arith, above))
same-guesses guess at h guesses taken (suc n) above below =
    let one_more : 1 + n ≡ suc n = omega arith in
    row-at guesses guess 1 (h.blocks - 1) n taken (omega (arith, below)) ∙ ap (λ k. (guess k).value) one_more

pub comes : (guess : ℕ → Guess) (p : Program) (at : ReachedConstruct) (h : Header) (guesses : List code_guess.Guess) → IsAtConstruct p at h
    → (c : ChainValue) → c.site ≡ site_of at.instance.now at.index h at.frame.now at.cells.now guesses
    → map seen_guess guesses ≡ guesses_from guess 1 (h.blocks - 1) → RunsSeeTheGuessesOfTheirBlocks
    → (settled : Settled) (trace : List (List LogEntry)) (before after : List ℤ) → IsFinished c settled trace before after → before ≡ at.cells.now
    → (stats : Stats) → stats ≡ counts_of (length c.history) (paired (map seen_guess guesses) (drop 1 (real_values c.history))) → length c.history ≤ h.blocks
    → ComesTo (entry_of at h) guess (record { settled = settled; stats = stats; trace = trace }) after
comes guess p at h guesses there c same taken law settled trace before after f entry stats counted few =
    let s = site_of at.instance.now at.index h at.frame.now at.cells.now guesses in
    let site : entry_at c.site ≡ entry_of at h = ap entry_at same ∙ entry-is at h guesses there.construct in
    let size = length-map c.history (λ (b : ChainBlock). b.row) in
    let some = there.some in
    let values : real_values c.history ≡ (plain_blocks (entry_of at h)).values = f.values ∙ ap (λ x. (plain_blocks x).values) site in
    record {
      result = ap (λ x. (plain_blocks x).result) (sym site) ∙ f.result;
      plain_memory = λ v is. f.memory v is (entry ∙ sym (ap (λ (x : Site). x.memory) same)) ∙ ap (λ x. (plain_blocks x).memory) site;
      statistics = counted ∙ ap (λ n. counts_of n (paired (map seen_guess guesses) (drop 1 (real_values c.history)))) (sym size)
          ∙ ap (λ l. counts_of (length (real_values c.history)) (paired l (drop 1 (real_values c.history)))) taken
          ∙ counts-are guess (h.blocks - 1) (real_values c.history) (omega (arith, few, size, some))
          ∙ ap (statistics_with guess) values;
      logs = f.logs ∙ ap (λ (x : Site). x.blocks) same;
      merging = λ steps merges.
          law (entry_of at h) (guess_at s) (λ n. (guess n).value) steps (plain_blocks (entry_of at h)).values (result_as settled)
          (same-guesses guess at h guesses taken)
          (subst (λ vs. IsSpeculativeRun (entry_of at h) (guess_at s) steps vs (result_as settled)) values
          (subst (λ x. IsSpeculativeRun x (guess_at s) steps (real_values c.history) (result_as settled)) site
          (subst (λ (x : Site). IsSpeculativeRun (entry_at c.site) (guess_at x) steps (real_values c.history) (result_as settled)) same
          (f.merging steps (subst (λ (x : Site). Merges x.blocks (logs_in trace) steps) (sym same) merges)))));
    }
