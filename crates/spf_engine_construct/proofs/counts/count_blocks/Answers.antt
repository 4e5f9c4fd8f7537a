use Rattle.std.proofs.Common.{◌≡◌, add-one, List, [], ◌∷◌, not, map, length, drop, sym, refl, ap, ◌∙◌, arith}
use Rattle.spf_guess_statistics.specs.Statistics.{is_hit, how_many}
use Rattle.spf_ast.specs.Carried.{Carried}
use Rattle.spf_engine_construct.specs.Guesses.{seen_guess, paired, counts_of}
use Rattle.spf_engine_construct.proofs.Counting.{pair-step, paired-none, paired-nothing, add-step, add-none, at-most-more}
use Rattle.spf_engine_construct.proofs.counts.count_blocks.Goals as goal

pub returns-in_default-clause-counts : goal.returns-in_default-clause-counts
returns-in_default-clause-counts c =
    let cases = c.in_default.ensures.cases in
    let e = c.none-stats.ensures in
    let nothing : paired (map seen_guess c.args.guesses.now) (drop 1 c.args.reals.now) ≡ []
    = ap (λ l. paired (map seen_guess c.args.guesses.now) (drop 1 l)) (no-blocks c.args.reals.now cases) ∙ paired-nothing (map seen_guess c.args.guesses.now) in
    (λ i. record { blocks = length c.args.reals.now; hits = (e i).hits; misses = (e i).misses; blind = (e i).blind })
    ∙ ap (counts_of (length c.args.reals.now)) (sym nothing)
  where
    no-blocks : (l : List Carried) → length l ≡ 0 → l ≡ []
    no-blocks [] e = refl
    no-blocks (x ∷ xs) e = absurd (omega (arith, e))

pub loop-index-preserved : goal.loop-index-preserved
loop-index-preserved c =
    let cases = c.in-Some.ensures.cases in
    let inv = c.loop-index.invariant in
    let w = c.with_guess-stats.ensures in
    let test = c.loop-index-test.true in
    let enough = c.requires.enough in
    let size = cases.1 in
    let p = pair-step c.args.guesses.now c.in-Some.others.now c.loop-index.index c.index-guesses-index.result c.index-others-index.result (omega (arith, test, enough, size)) (omega (arith, test)) c.index-guesses-index.is c.index-others-index.is in
    rw (add-one c.loop-index.index) (record {
      blocks = w.blocks ∙ inv.blocks;
      hits = add-step _ _ _ _ _ _ w.hits (ap (how_many is_hit) p) inv.hits;
      misses = add-step _ _ _ _ _ _ w.misses (ap (how_many (λ block. not (is_hit block))) p) inv.misses;
      blind = add-step _ _ _ _ _ _ w.blind (ap (how_many (λ block. block.guess.blind)) p) inv.blind;
      few_hits = at-most-more _ _ _ _ w.hits inv.few_hits;
      few_misses = at-most-more _ _ _ _ w.misses inv.few_misses;
      few_blind = at-most-more _ _ _ _ w.blind inv.few_blind;
    })

pub returns-clause-counts : goal.returns-clause-counts
returns-clause-counts c =
    let cases = c.in-Some.ensures.cases in
    let inv = c.loop-index.invariant in
    let test = c.loop-index-test.false in
    let none = paired-none (map seen_guess c.args.guesses.now) c.in-Some.others.now c.loop-index.index (omega (arith, test)) in
    let hits = add-none _ _ _ (ap (how_many is_hit) none) inv.hits in
    let misses = add-none _ _ _ (ap (how_many (λ block. not (is_hit block))) none) inv.misses in
    let blind = add-none _ _ _ (ap (how_many (λ block. block.guess.blind)) none) inv.blind in
    let counted : c.loop-index.stats ≡ counts_of (length c.args.reals.now) (paired (map seen_guess c.args.guesses.now) c.in-Some.others.now)
    = λ i. record { blocks = inv.blocks i; hits = hits i; misses = misses i; blind = blind i } in
    counted ∙ ap (λ (l : List Carried). counts_of (length c.args.reals.now) (paired (map seen_guess c.args.guesses.now) (drop 1 l))) (sym cases.0)
