use Rattle.std.proofs.Common.{◌≡◌, ◌≤◌, ◌+◌, not, map, length, drop}
use Rattle.spf_guess_statistics.specs.Statistics.{is_hit, how_many}
use Rattle.spf_engine_construct.specs.Guesses.{seen_guess, paired}
use Rattle.spf_engine_construct.proofs.counts.count_blocks.Given as goal

abbrev pub invariant-loop-index : goal.invariant-loop-index
invariant-loop-index l = record {
  blocks : l.stats.blocks ≡ length l.reals;
  hits : l.stats.hits + how_many is_hit (paired (drop l.index (map seen_guess l.guesses)) (drop l.index l.others))
      ≡ how_many is_hit (paired (map seen_guess l.guesses) l.others);
  misses : l.stats.misses + how_many (λ block. not (is_hit block)) (paired (drop l.index (map seen_guess l.guesses)) (drop l.index l.others))
      ≡ how_many (λ block. not (is_hit block)) (paired (map seen_guess l.guesses) l.others);
  blind : l.stats.blind + how_many (λ block. block.guess.blind) (paired (drop l.index (map seen_guess l.guesses)) (drop l.index l.others))
      ≡ how_many (λ block. block.guess.blind) (paired (map seen_guess l.guesses) l.others);
  few_hits : l.stats.hits ≤ l.index;
  few_misses : l.stats.misses ≤ l.index;
  few_blind : l.stats.blind ≤ l.index;
}
